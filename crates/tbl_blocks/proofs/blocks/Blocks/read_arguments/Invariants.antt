use Rattle.std.proofs.Common.{◌≡◌, ◌+◌, ◌-◌, ◌≤◌, drop, length}
use Rattle.tbl_blocks.specs.Words.{arguments_from, arguments_read}
use Rattle.tbl_blocks.proofs.blocks.Blocks.read_arguments.Given as goal

abbrev pub invariant-loop-count : goal.invariant-loop-count
invariant-loop-count l = record {
  value : arguments_from (length l.text - l.count) l.count (drop l.at l.text) (l.place + l.at) l.manner l.self
      ≡ arguments_read l.text l.place l.manner l.fn.self;
  within : l.at ≤ length l.text;
}

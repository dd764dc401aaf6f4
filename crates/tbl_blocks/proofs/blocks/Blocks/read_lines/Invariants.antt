use Rattle.std.proofs.Common.{◌≡◌, ◌+◌, ◌≤◌, drop, slice_range}
use Rattle.tbl_blocks.specs.Words.{lines_from, lines_read}
use Rattle.tbl_blocks.proofs.blocks.Blocks.read_lines.Given as goal

abbrev pub invariant-loop-at : goal.invariant-loop-at
invariant-loop-at l = record {
  value : lines_from (slice_range l.text l.from l.at) (l.place + l.from) (drop l.at l.text) l.self
      ≡ lines_read l.text l.place l.fn.self;
  order : l.from ≤ l.at;
}

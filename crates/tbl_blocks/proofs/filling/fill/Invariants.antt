use Rattle.std.proofs.Common.{◌≡◌, ◌+◌, drop}
use Rattle.tbl_blocks.specs.Filling.{lines_from, lines_of}
use Rattle.tbl_blocks.specs.Lists.{added_all}
use Rattle.tbl_blocks.proofs.filling.fill.Given as goal

abbrev pub invariant-loop-number : goal.invariant-loop-number
invariant-loop-number l = record {
  value : added_all (lines_from l.measure (l.first + l.number) l.line (drop l.number l.parts)) l.lines
      ≡ added_all (lines_of l.first l.measure l.parts) l.fn.lines;
  ends : l.line.«end» ≡ l.first + l.number;
}

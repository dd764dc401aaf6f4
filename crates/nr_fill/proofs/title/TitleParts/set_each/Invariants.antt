use Rattle.std.proofs.Common.{map}
use Rattle.std.specs.List.{range_with_len}
use Rattle.nr_fill.specs.Title.{cell_of}
use Rattle.nr_fill.proofs.title.TitleParts.set_each.Given as goal

abbrev pub invariant-loop-column : goal.invariant-loop-column
invariant-loop-column g l =
    g.S.CellSink.Adds l.fn.out (map (cell_of l.centre l.right l.fn.self.left.now l.fn.self.centre.now l.fn.self.right.now) (range_with_len 0 l.column)) l.out

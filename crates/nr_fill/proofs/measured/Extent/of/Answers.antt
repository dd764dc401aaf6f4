use Rattle.std.proofs.Common.{[]}
use Rattle.nr_fill.proofs.measured.Extent.of.Goals as goal

pub returns : goal.returns
returns c = c.with_cells.ensures [] (c.none.ensures.none, c.none.ensures.blank)

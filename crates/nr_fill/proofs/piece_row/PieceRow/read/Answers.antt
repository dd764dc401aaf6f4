use Rattle.std.proofs.Common.{min, ap, sym, ◌∙◌}
use Rattle.nr_fill.specs.Laid.{read_cells}
use Rattle.nr_fill.proofs.Laying.{read_cells-laid_of}
use Rattle.nr_fill.proofs.piece_row.PieceRow.read.Goals as goal

pub returns : goal.returns
returns c = sym (read_cells-laid_of (min c.self.inside.slots.capacity c.self.inside.cells.capacity) c.self.invariant) ∙ ap read_cells c.self.view_is

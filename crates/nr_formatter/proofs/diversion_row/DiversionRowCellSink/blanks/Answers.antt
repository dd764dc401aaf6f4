use Rattle.std.proofs.Common.{refl}
use Rattle.nr_formatter.proofs.HeldRows.{holds_blanks}
use Rattle.nr_formatter.proofs.diversion_row.DiversionRowCellSink.blanks.Goals as goal

pub returns : goal.returns
returns c = (refl, refl, λ before row h. holds_blanks c.args.n c.saturating_add-self.result h c.saturating_add-self.ensures)

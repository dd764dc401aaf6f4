use Prim.Native.Char.{code}
use Rattle.std.proofs.Common.{refl}
use Rattle.std.proofs.lemmas.Bool.{eq-eqb, ne_eqb}
use Rattle.nr_formatter.proofs.HeldRows.{ends_one, holds_blank}
use Rattle.nr_formatter.proofs.diversion_row.DiversionRowCellSink.push.Goals as goal

pub returns-then-cell-eq32 : goal.returns-then-cell-eq32
returns-then-cell-eq32 c = (refl, refl, λ before row h. holds_blank c.args.cell c.saturating_add-self.result (eq-eqb _ _ c.if-cell-eq32.true) h c.saturating_add-self.ensures)

pub add_written-requires : goal.add_written-requires
add_written-requires c = ends_one c.args.cell (ne_eqb c.args.cell.byte (code " ") c.if-cell-eq32.false)

use Rattle.std.proofs.Common.{◌≡◌, ◌<◌, Bool, true, false, length, refl, sym, ◌∙◌, arith}
use Rattle.std.specs.Prelude.{not}
use Rattle.std.proofs.lemmas.Bool.{eqb-false}
use Rattle.nr_formatter.proofs.HeldRows.{ends_row}
use Rattle.nr_formatter.proofs.diversion_row.ends_row.Goals as goal

not_of : (b : Bool) → not b ≡ true → b ≡ false
not_of true is = absurd (let wrong : false ≡ true = is in cc)
not_of false is = refl

pub returns : goal.returns
returns c =
    λ is.
    let cells = c.args.cells.now in
    let some : 0 < length cells = omega (arith, eqb-false (length cells) 0 (sym c.if-is_empty.ensures)) in
    ends_row cells _ some (sym c.has_faced_blank.ensures ∙ not_of c.has_faced_blank.result is) c.if-cells-eq32.false

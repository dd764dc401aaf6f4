use Rattle.std.proofs.Common.{rules, refl, sym, ◌∙◌}
use Rattle.std.specs.Prelude.{FitsSigned}
use Rattle.std.specs.Int.{w64}
use Rattle.std.proofs.lemmas.Int.{to_z-of_z}
use Rattle.nr_units.specs.Units.{scaled}
use Rattle.nr_units.proofs.Rounding.{denominator-low, denominator-high, scaled-far, scaled-too_large}
use Rattle.nr_units.proofs.units.Scale.scaled.Goals as goal

pub returns-in_err-product : goal.returns-in_err-product
returns-in_err-product c =
    let fits : FitsSigned w64 c.numerator-factor.result = search rules in
    c.from_residual.ensures
    ∙ sym (scaled-too_large c.args.v c.args.self c.args.number _ _ _ (rw (to_z-of_z w64 c.args.v c.ranges.v) at c.numerator-factor.ensures) (rw (to_z-of_z w64 c.numerator-factor.result fits) at c.unsigned_abs.ensures.value) refl (denominator-low c.args.self) (denominator-high c.args.self) c.in_err-product.ensures)

pub returns-then-magnitude-gt-MAX_VALUE : goal.returns-then-magnitude-gt-MAX_VALUE
returns-then-magnitude-gt-MAX_VALUE c =
    let fits : FitsSigned w64 c.numerator-factor.result = search rules in
    sym (scaled-far c.args.v c.args.self c.args.number _ _ _ _ _ (rw (to_z-of_z w64 c.args.v c.ranges.v) at c.numerator-factor.ensures) (rw (to_z-of_z w64 c.numerator-factor.result fits) at c.unsigned_abs.ensures.value) c.denominator.ensures.value c.in_ok-product.ensures.1 c.nearest-magnitude.ensures.value c.if-magnitude-gt-MAX_VALUE.true)

pub returns : goal.returns
unfolding scaled
returns c = search rules

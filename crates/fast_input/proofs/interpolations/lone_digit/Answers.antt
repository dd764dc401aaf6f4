use Prim.Native.Char.{code}
use Rattle.std.proofs.Common.{◌≡◌, ℕ, ◌+◌, ◌∷◌, [], ◌≤◌, ℤ, pos, false, nat_abs, w32, to_z, of_z, sym, ap, ◌∙◌, subst}
use Rattle.std.proofs.lemmas.Int.{to_z-of_z}
use Rattle.std.specs.Int.Signed.{lt_z}
use Rattle.nr_units.specs.declared.number_text.Format.{Format}
use Rattle.nr_units.specs.NumberText.{number_text}
use Rattle.fast_input.proofs.Digits.{text-digit}
use Rattle.fast_input.proofs.interpolations.lone_digit.Goals as goal

pub returns-in-Arabic : goal.returns-in-Arabic
returns-in-Arabic c =
    let v = c.args.number in
    let places = c.in-Arabic.places in
    let same : to_z w32 (of_z w32 v) ≡ v = to_z-of_z w32 v c.ranges.number in
    let value : c.unsigned_abs-value.result ≡ nat_abs v = c.unsigned_abs-value.ensures.value ∙ ap nat_abs same in
    let sign : lt_z v (pos 0) ≡ false = subst (λ (z : ℤ). lt_z z (pos 0) ≡ false) same c.if-number-lt0.false in
    let few : nat_abs v ≤ 9 = subst (λ (n : ℕ). n ≤ 9) value c.if-value-gt9.false in
    ap (λ (f : Format). number_text f v) c.in-Arabic.is ∙ text-digit v places sign few c.if-places-le1.true ∙ ap (λ (n : ℕ). (code "0" + n) ∷ []) (sym value)

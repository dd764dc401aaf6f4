-- The text of a number of one digit.
use Prim.Native.Char.{code}
use Rattle.std.proofs.Common.{◌≡◌, ℕ, ◌+◌, ◌-◌, ◌≤◌, min, true, false, ℤ, pos, negsuc, nat_abs, [], ◌∷◌, decimal, refl, arith}
use Rattle.std.proofs.lemmas.Fmt.{decimal_digit}
use Rattle.std.specs.Int.Signed.{lt_z}
use Rattle.nr_units.specs.declared.number_text.Format.TheVariants.{Arabic}
use Rattle.nr_units.specs.NumberText.{number_text}

pub text-digit : (v : ℤ) (places : ℕ) → lt_z v (pos 0) ≡ false → nat_abs v ≤ 9 → places ≤ 1 → number_text (Arabic places) v ≡ (code "0" + nat_abs v) ∷ []
text-digit (pos n) places sign few short =
    let digit : decimal n ≡ (code "0" + n) ∷ [] = decimal_digit n (omega (arith, few)) in
    let none : min 9 places - 1 ≡ 0 = omega (arith, short) in
    rw (digit, none) refl
text-digit (negsuc n) places sign few short = absurd (let wrong : true ≡ false = sign in cc)

-- A character of a number, or a question mark.
use Prim.Native.Char.{code}
use Rattle.std.proofs.Common.{◌≡◌, ℕ, Bool, true, false, if◌then◌else◌, refl}
use Rattle.std.proofs.Math.Utf8.{scalar}
use Rattle.preconv_characters.specs.Targets.{shown}

is_by : (x : Bool) (c d : ℕ) → x ≡ true → d ≡ c → d ≡ (if x then c else code "?")
is_by true c d p e = e
is_by false c d p e = absurd (let no : false ≡ true = p in cc)

none_by : (x : Bool) (c : ℕ) → (x ≡ true → ⊥) → code "?" ≡ (if x then c else code "?")
none_by true c p = absurd (p refl)
none_by false c p = refl

pub shown_is : (c d : ℕ) → scalar c ≡ true → d ≡ c → d ≡ shown c
shown_is c d p e = is_by (scalar c) c d p e

pub shown_none : (c : ℕ) → (scalar c ≡ true → ⊥) → code "?" ≡ shown c
shown_none c p = none_by (scalar c) c p

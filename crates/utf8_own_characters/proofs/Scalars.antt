-- The character of a number, if it is one.
use Rattle.std.proofs.Common.{◌≡◌, ℕ, Bool, true, false, if◌then◌else◌, Option, None, Some, refl, sym, ap, subst}
use Rattle.std.specs.Option.{SomeIff}
use Rattle.std.specs.Char.{IsScalar}
use Rattle.std.proofs.Math.Utf8.{scalar}
use Rattle.utf8_own_characters.specs.Decoding.{character_of}

some_by : (x : Bool) (c d : ℕ) → x ≡ true → d ≡ c → Some d ≡ (if x then Some c else None)
some_by true c d p e = ap Some e
some_by false c d p e = absurd (let no : false ≡ true = p in cc)

none_by : (x : Bool) (c : ℕ) → (x ≡ true → ⊥) → None ≡ (if x then Some c else None)
none_by true c p = absurd (p refl)
none_by false c p = refl

pub character_is : (o : Option ℕ) (c : ℕ) → SomeIff o (IsScalar c) c → o ≡ character_of c
character_is None c h = none_by (scalar c) c h
character_is (Some d) c h = some_by (scalar c) c d h.0 h.1

-- A text parted at its first `=`, its first byte, and a name in it.
use Rattle.std.proofs.Common.{◌≡◌, ℕ, ◌+◌, ◌<◌, Bool, false, ◌||◌, List, [], ◌∷◌, length, drop, get_or, slice_get, Option, None, Some, MatchOption, sym, ap, subst, ◌∙◌, add-one, arith}
use Rattle.std.proofs.Math.Seq.{drop-cons}
use Rattle.std.proofs.lemmas.Bool.Decides.{nat_tests}
use Rattle.std.specs.Borrow.{Bor}
use Rattle.std.specs.Option.{option_map}
use Rattle.std.specs.List.{before_first, after_first, position_or_len}
use Rattle.program_options.specs.Values.{is_equals, at_equals, parts_now}
use Rattle.program_options.specs.Locale.{begins_utf8, has_utf8}

pub at_equals_is : (text : List ℕ) (r : Option (Bor (List ℕ) × Bor (List ℕ)))
    → MatchOption r (position_or_len is_equals text ≡ length text)
    (λ x. (position_or_len is_equals text < length text) × (x.0.now ≡ before_first is_equals text) × (x.1.now ≡ after_first is_equals text))
    → option_map parts_now r ≡ at_equals text
at_equals_is text None none = grind (arith, nat_tests)
at_equals_is text (Some parts) found = grind (arith, nat_tests, found.0, found.1, found.2)

-- a text begins with its first byte
pub begins_with : (byte : ℕ) (text : List ℕ) → Some byte ≡ slice_get text 0 → text ≡ byte ∷ drop 1 text
begins_with byte [] is = cc
begins_with byte (first ∷ rest) is =
    let same : byte ≡ first = cc in
    ap (λ (b : ℕ). b ∷ rest) (sym same)

-- what does not begin with the name may hold it further on
pub has_utf8_next : (text : List ℕ) (i : ℕ) → i < length text → begins_utf8 (drop i text) ≡ false → has_utf8 (drop i text) ≡ has_utf8 (drop (i + 1) text)
has_utf8_next text i within none =
    let cut : drop i text ≡ get_or text i 0 ∷ drop (i + 1) text = rw add-one (drop-cons text i 0 within) in
    let begins : begins_utf8 (get_or text i 0 ∷ drop (i + 1) text) ≡ false = subst (λ (t : List ℕ). begins_utf8 t ≡ false) cut none in
    ap has_utf8 cut ∙ ap (λ (b : Bool). b || has_utf8 (drop (i + 1) text)) begins

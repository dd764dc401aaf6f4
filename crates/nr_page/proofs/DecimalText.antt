-- Where the digits at the beginning of a text end, and how their value grows.
use Rattle.std.proofs.Common.{◌≡◌, ℕ, zero, suc, ◌+◌, ◌*◌, ◌<◌, ◌≤◌, List, [], ◌∷◌, ◌++◌, length, get_or, drop, refl, ap, subst, arith}
use Rattle.std.specs.Char.{digit_value}
use Rattle.std.specs.Int.{IsOutOfRange}
use Rattle.std.specs.Str.Parse.{AllDigits, digits_value_after}
use Rattle.std.proofs.lemmas.Bool.Decides.{nat_tests}
use Rattle.nr_page.specs.SelectionReading.{BeginsNoDigit}

-- a byte outside `0` to `9` is no decimal digit
pub digit_value_outside : (byte : ℕ) → IsOutOfRange 48 57 byte → 10 ≤ digit_value byte
digit_value_outside byte outside = grind (arith, nat_tests)

-- what stands from i on begins with no digit, if the byte at i is none
pub BeginsNoDigit-drop : (text : List ℕ) (i : ℕ) → (i < length text → 10 ≤ digit_value (get_or text i 0)) → BeginsNoDigit (drop i text)
BeginsNoDigit-drop [] zero h = tt
BeginsNoDigit-drop [] (suc i) h = tt
BeginsNoDigit-drop (byte ∷ bytes) zero h = h (omega arith)
BeginsNoDigit-drop (byte ∷ bytes) (suc i) h = BeginsNoDigit-drop bytes i (λ within. h (omega arith))

-- digits and then no digit: there is one such cut of a text
pub one_cut : (a b c d : List ℕ) → AllDigits 10 a → AllDigits 10 b → BeginsNoDigit c → BeginsNoDigit d → a ++ c ≡ b ++ d
    → (a ≡ b) × (c ≡ d)
one_cut [] [] c d p q h k e = (refl, e)
one_cut [] (y ∷ b) [] d p q h k e = cc
one_cut [] (y ∷ b) (z ∷ c) d p q h k e = let same : z ≡ y = cc in absurd (omega (arith, ap digit_value same, h, q.0))
one_cut (x ∷ a) [] c [] p q h k e = cc
one_cut (x ∷ a) [] c (z ∷ d) p q h k e = let same : x ≡ z = cc in absurd (omega (arith, ap digit_value same, k, p.0))
one_cut (x ∷ a) (y ∷ b) c d p q h k e =
    let rest : (a ≡ b) × (c ≡ d) = one_cut a b c d p.1 q.1 h k cc in
    let same : x ≡ y = cc in
    (cc, rest.1)

-- more digits write no smaller number
pub digits_value_after-ge : (n : ℕ) (digits : List ℕ) → n ≤ digits_value_after 10 n digits
digits_value_after-ge n [] = omega arith
digits_value_after-ge n (digit ∷ digits) = omega (arith, digits_value_after-ge (n * 10 + digit_value digit) digits)

-- digits at the beginning of a text are the first of all those that it begins with
pub digits_value_after-prefix : (n : ℕ) (a b c d : List ℕ) → AllDigits 10 a → AllDigits 10 b → BeginsNoDigit d → a ++ c ≡ b ++ d
    → digits_value_after 10 n a ≤ digits_value_after 10 n b
digits_value_after-prefix n [] b c d p q k e = digits_value_after-ge n b
digits_value_after-prefix n (x ∷ a) [] c [] p q k e = cc
digits_value_after-prefix n (x ∷ a) [] c (z ∷ d) p q k e = let same : x ≡ z = cc in absurd (omega (arith, ap digit_value same, k, p.0))
digits_value_after-prefix n (x ∷ a) (y ∷ b) c d p q k e =
    let same : x ≡ y = cc in
    let rest : a ++ c ≡ b ++ d = cc in
    subst (λ (v : ℕ). digits_value_after 10 (n * 10 + digit_value x) a ≤ digits_value_after 10 (n * 10 + digit_value v) b) same
    (digits_value_after-prefix (n * 10 + digit_value x) a b c d p.1 q.1 k rest)

-- How the text of an item falls apart: its first number, and what stands after it.
use Rattle.std.proofs.Common.{◌≡◌, ◌⊎◌, ℕ, ◌≤◌, List, [], ◌∷◌, ◌++◌, refl, sym, ap, subst, ◌∙◌, inl, inr, append_assoc, append-nil, arith}
use Rattle.std.specs.Char.{digit_value}
use Rattle.nr_page.specs.declared.selection.PageRange.{PageRange}
use Rattle.nr_page.specs.declared.selection.PageRange.TheVariants.{One, Between, UpTo, From}
use Rattle.nr_page.specs.Selection.{WritesNumber, SpellsItem, hyphen}
use Rattle.nr_page.specs.SelectionReading.{BeginsNoDigit, BeginsAfterItem}

-- no number begins with a byte that is no digit
pub number_at_prefix : (n : ℕ) (prefix after text : List ℕ) → WritesNumber n prefix → BeginsNoDigit text → text ≡ prefix ++ after → ⊥
number_at_prefix n [] after text writes other is = absurd (omega (arith, writes.digits.0))
number_at_prefix n (x ∷ prefix) after [] writes other is = cc
number_at_prefix n (x ∷ prefix) after (y ∷ text) writes other is =
    let same : y ≡ x = cc in
    absurd (omega (arith, ap digit_value same, other, writes.digits.1.0))

-- what may stand after an item begins with no digit
pub after_item_no_digit : (after : List ℕ) → BeginsAfterItem after → BeginsNoDigit after
after_item_no_digit [] ends = tt
after_item_no_digit (byte ∷ after) ends = omega (arith, ap digit_value ends)

-- an item that begins with a hyphen is `-N`
pub up_to_item : (item : PageRange) (prefix after rest : List ℕ) → SpellsItem item prefix → hyphen ∷ rest ≡ prefix ++ after
    → (n : ℕ) × (last : List ℕ) × (UpTo n ≡ item) × WritesNumber n last × (rest ≡ last ++ after)
up_to_item (One n) prefix after rest spelled is =
    absurd (number_at_prefix n prefix after (hyphen ∷ rest) spelled (omega arith) is)
up_to_item (Between n m) prefix after rest (first, last, prefix_is, writes, _, _) is =
    absurd (number_at_prefix n first (hyphen ∷ last ++ after) (hyphen ∷ rest) writes (omega arith)
    (is ∙ (ap (λ (xs : List ℕ). xs ++ after) prefix_is ∙ append_assoc first (hyphen ∷ last) after)))
up_to_item (UpTo n) prefix after rest (last, prefix_is, writes) is =
    let whole : hyphen ∷ rest ≡ hyphen ∷ (last ++ after) = is ∙ ap (λ (xs : List ℕ). xs ++ after) prefix_is in
    (n, last, refl, writes, cc)
up_to_item (From n) prefix after rest (first, prefix_is, writes) is =
    absurd (number_at_prefix n first (hyphen ∷ after) (hyphen ∷ rest) writes (omega arith)
    (is ∙ (ap (λ (xs : List ℕ). xs ++ after) prefix_is ∙ append_assoc first (hyphen ∷ []) after)))

-- how an item goes on after its first number, n
abbrev pub GoesOn : ℕ → PageRange → List ℕ → Type 0
GoesOn n (One first) tail = (n ≡ first) × (tail ≡ [])
GoesOn n (Between first m) tail = (last : List ℕ) × (n ≡ first) × (tail ≡ hyphen ∷ last) × WritesNumber m last × (n ≤ m)
GoesOn n (UpTo last) tail = ⊥
GoesOn n (From first) tail = (n ≡ first) × (tail ≡ hyphen ∷ [])

-- the text of an item: its first number, and the rest
pub record FirstNumber (item : PageRange) (prefix : List ℕ) : Type 0 where
  pub number : ℕ
  pub digits : List ℕ
  pub tail : List ℕ
  pub writes : WritesNumber number digits
  pub prefix_is : prefix ≡ digits ++ tail
  pub goes_on : GoesOn number item tail

-- an item that doesn't begin with a hyphen begins with a number
pub first_number : (item : PageRange) (prefix after : List ℕ) → SpellsItem item prefix
    → ((rest : List ℕ) → prefix ++ after ≡ hyphen ∷ rest → ⊥) → FirstNumber item prefix
first_number (One n) prefix after spelled other =
    record { number = n; digits = prefix; tail = []; writes = spelled; prefix_is = sym (append-nil prefix); goes_on = (refl, refl) }
first_number (Between n m) prefix after (first, last, prefix_is, writes, ends, order) other =
    record { number = n; digits = first; tail = hyphen ∷ last; writes = writes; prefix_is = prefix_is; goes_on = (last, refl, refl, ends, order) }
first_number (UpTo n) prefix after (last, prefix_is, writes) other = absurd (other (last ++ after) (ap (λ (xs : List ℕ). xs ++ after) prefix_is))
first_number (From n) prefix after (first, prefix_is, writes) other =
    record { number = n; digits = first; tail = hyphen ∷ []; writes = writes; prefix_is = prefix_is; goes_on = (refl, refl) }

-- what stands after an item's first number begins with no digit
pub GoesOn-no_digit : (n : ℕ) (item : PageRange) (tail after : List ℕ) → GoesOn n item tail → BeginsAfterItem after → BeginsNoDigit (tail ++ after)
GoesOn-no_digit n (One first) [] after goes_on ends = after_item_no_digit after ends
GoesOn-no_digit n (One first) (x ∷ tail) after (_, tail_is) ends = cc
GoesOn-no_digit n (Between first m) [] after (last, _, tail_is, _, _) ends = cc
GoesOn-no_digit n (Between first m) (x ∷ tail) after (last, _, tail_is, _, _) ends = let same : x ≡ hyphen = cc in omega (arith, ap digit_value same)
GoesOn-no_digit n (UpTo last) tail after goes_on ends = absurd goes_on
GoesOn-no_digit n (From first) [] after (_, tail_is) ends = cc
GoesOn-no_digit n (From first) (x ∷ tail) after (_, tail_is) ends = let same : x ≡ hyphen = cc in omega (arith, ap digit_value same)

-- the cut of a text at the first number of its item
pub first_number_cut : (item : PageRange) (prefix after text : List ℕ) (first : FirstNumber item prefix) → text ≡ prefix ++ after
    → text ≡ first.digits ++ (first.tail ++ after)
first_number_cut item prefix after text first is =
    is ∙ (ap (λ (xs : List ℕ). xs ++ after) first.prefix_is ∙ append_assoc first.digits first.tail after)

-- an item goes on after the number that a reader of numbers finds at its beginning
pub goes_on_after : (item : PageRange) (prefix after text : List ℕ) (found : ℕ) (afterwards : List ℕ)
    → ((n : ℕ) (digits rest : List ℕ) → WritesNumber n digits → BeginsNoDigit rest → text ≡ digits ++ rest → (found ≡ n) × (afterwards ≡ rest))
    → ((rest : List ℕ) → text ≡ hyphen ∷ rest → ⊥)
    → SpellsItem item prefix → BeginsAfterItem after → text ≡ prefix ++ after
    → (tail : List ℕ) × GoesOn found item tail × (afterwards ≡ tail ++ after)
goes_on_after item prefix after text found afterwards read other spelled ends is =
    let first : FirstNumber item prefix = first_number item prefix after spelled (λ rest begins. other rest (is ∙ begins)) in
    let cut = first_number_cut item prefix after text first is in
    let ends_digits = GoesOn-no_digit first.number item first.tail after first.goes_on ends in
    let same = read first.number first.digits (first.tail ++ after) first.writes ends_digits cut in
    (first.tail, subst (λ (n : ℕ). GoesOn n item first.tail) (sym same.0) first.goes_on, same.1)

-- with no hyphen after its first number an item is `N`
pub one_item : (n : ℕ) (item : PageRange) (tail after afterwards : List ℕ) → GoesOn n item tail → afterwards ≡ tail ++ after
    → ((rest : List ℕ) → afterwards ≡ hyphen ∷ rest → ⊥) → (One n ≡ item) × (afterwards ≡ after)
one_item n (One first) tail after afterwards (same, tail_is) is other = (ap One same, is ∙ ap (λ (xs : List ℕ). xs ++ after) tail_is)
one_item n (Between first m) tail after afterwards (last, _, tail_is, _, _) is other = absurd (other (last ++ after) (is ∙ ap (λ (xs : List ℕ). xs ++ after) tail_is))
one_item n (UpTo last) tail after afterwards goes_on is other = absurd goes_on
one_item n (From first) tail after afterwards (_, tail_is) is other = absurd (other after (is ∙ ap (λ (xs : List ℕ). xs ++ after) tail_is))

-- with a hyphen there it is `N-` or `N-M`
abbrev pub IsFrom : ℕ → PageRange → List ℕ → List ℕ → Type 0
IsFrom n item rest after = (From n ≡ item) × (rest ≡ after)

abbrev pub IsBetween : ℕ → PageRange → List ℕ → List ℕ → Type 0
IsBetween n item rest after = (m : ℕ) × (last : List ℕ) × (Between n m ≡ item) × (n ≤ m) × WritesNumber m last × (rest ≡ last ++ after)

pub from_or_between : (n : ℕ) (item : PageRange) (tail after rest : List ℕ) → GoesOn n item tail → BeginsAfterItem after
    → hyphen ∷ rest ≡ tail ++ after → IsFrom n item rest after ⊎ IsBetween n item rest after
from_or_between n (One first) tail [] rest (_, tail_is) ends is = let none : hyphen ∷ rest ≡ [] = is ∙ ap (λ (xs : List ℕ). xs ++ []) tail_is in cc
from_or_between n (One first) tail (x ∷ after) rest (_, tail_is) ends is =
    let begins : hyphen ∷ rest ≡ x ∷ after = is ∙ ap (λ (xs : List ℕ). xs ++ x ∷ after) tail_is in
    let same : hyphen ≡ x = cc in
    absurd (omega (arith, same, ends))
from_or_between n (Between first m) tail after rest (last, same, tail_is, writes, order) ends is =
    let whole : hyphen ∷ rest ≡ hyphen ∷ (last ++ after) = is ∙ ap (λ (xs : List ℕ). xs ++ after) tail_is in
    inr (m, last, ap (λ (k : ℕ). Between k m) same, order, writes, cc)
from_or_between n (UpTo last) tail after rest goes_on ends is = absurd goes_on
from_or_between n (From first) tail after rest (same, tail_is) ends is =
    let whole : hyphen ∷ rest ≡ hyphen ∷ after = is ∙ ap (λ (xs : List ℕ). xs ++ after) tail_is in
    inl (ap From same, cc)

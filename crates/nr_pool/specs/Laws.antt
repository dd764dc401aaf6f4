-- What a change of one number's text does to each.
use Rattle.std.specs.Prelude.{◌≡◌, ◌≢◌, ℕ, ◌+◌, ◌-◌, ◌<◌, ◌≤◌, List, ◌++◌, length, slice_get, Some}
use Rattle.std.proofs.Common.{ap, ◌∙◌, inl, inr, arith, sym, leb}
use Rattle.std.proofs.lemmas.List.{get_or-set_same, get_or-set_other, get_or_past, set-set, set-get_or, set_past}
use Rattle.std.proofs.lemmas.List.Sums.{sum_by-set}
use Rattle.std.proofs.lemmas.Option.{get_or_from_slice_get}
use Rattle.std.proofs.lemmas.Bool.{cases_lt, cases_eq, cond-true, cond-false, le-leb, lt-leb}
use Rattle.nr_pool.specs.Texts.{Held, Texts, no_text, entry, text, holders, used, IsOpen, with_entry, opened, with_text, with_holders, without_text, released}

-- a number with a text is one of the pool's numbers
pub within_of_open : {T : Type 0} (p : Texts T) (id : ℕ) → IsOpen p id → id < length p.texts
within_of_open p id is_open = elim (cases_lt id (length p.texts)) [
  | inl below ↦ below
  | inr past ↦ let none : holders p id ≡ 0 = ap (λ (t : Held _). t.holders)
      (get_or_past p.texts id no_text past) in absurd (omega arith)
]

-- what was written is there
pub entry-with_entry_same : {T : Type 0} (p : Texts T) (id : ℕ) (t : Held T) → id < length p.texts
    → entry (with_entry p id t) id ≡ t
entry-with_entry_same p id t within = get_or-set_same p.texts id t no_text within

-- each other number keeps what it has
pub entry-with_entry_other : {T : Type 0} (p : Texts T) (id other : ℕ) (t : Held T) → other ≢ id
    → entry (with_entry p id t) other ≡ entry p other
entry-with_entry_other p id other t apart = get_or-set_other p.texts id other t no_text apart

-- a written text is there
pub text-with_text_same : {T : Type 0} (p : Texts T) (id : ℕ) (xs : List T) → id < length p.texts
    → text (with_text p id xs) id ≡ xs
text-with_text_same p id xs within = ap (λ (t : Held _). t.elements) (entry-with_entry_same p id _ within)

-- each other text stays
pub text-with_text_other : {T : Type 0} (p : Texts T) (id other : ℕ) (xs : List T) → other ≢ id
    → text (with_text p id xs) other ≡ text p other
text-with_text_other p id other xs apart =
    ap (λ (t : Held _). t.elements) (entry-with_entry_other p id other _ apart)

-- each number has as many holders, whichever text is written
pub holders-with_text : {T : Type 0} (p : Texts T) (id other : ℕ) (xs : List T)
    → holders (with_text p id xs) other ≡ holders p other
holders-with_text p id other xs = elim (cases_eq other id) [
  | inl same ↦ elim (cases_lt id (length p.texts)) [
    | inl below ↦ ap (holders (with_text p id xs)) same ∙ ap (λ (t : Held _). t.holders)
        (entry-with_entry_same p id _ below) ∙ ap (holders p) (sym same)
    | inr past ↦ ap (λ (ts : List (Held _)). holders (record p { texts = ts }) other)
        (set_past p.texts id _ past)
  ]
  | inr apart ↦ ap (λ (t : Held _). t.holders) (entry-with_entry_other p id other _ apart)
]

-- a number with a text keeps one, whichever text is written
pub open-with_text : {T : Type 0} (p : Texts T) (id other : ℕ) (xs : List T) → IsOpen p other
    → IsOpen (with_text p id xs) other
open-with_text p id other xs is_open = let same = holders-with_text p id other xs in omega arith

-- each text stays, whatever the number of holders of one
pub text-with_holders : {T : Type 0} (p : Texts T) (id other n : ℕ)
    → text (with_holders p id n) other ≡ text p other
text-with_holders p id other n = elim (cases_eq other id) [
  | inl same ↦ elim (cases_lt id (length p.texts)) [
    | inl below ↦ ap (text (with_holders p id n)) same ∙ ap (λ (t : Held _). t.elements)
        (entry-with_entry_same p id _ below) ∙ ap (text p) (sym same)
    | inr past ↦ ap (λ (ts : List (Held _)). text (record p { texts = ts }) other)
        (set_past p.texts id _ past)
  ]
  | inr apart ↦ ap (λ (t : Held _). t.elements) (entry-with_entry_other p id other _ apart)
]

-- a written number of holders is there
pub holders-with_holders_same : {T : Type 0} (p : Texts T) (id n : ℕ) → id < length p.texts
    → holders (with_holders p id n) id ≡ n
holders-with_holders_same p id n within = ap (λ (t : Held _). t.holders) (entry-with_entry_same p id _ within)

-- each other text keeps its number of holders
pub holders-with_holders_other : {T : Type 0} (p : Texts T) (id other n : ℕ) → other ≢ id
    → holders (with_holders p id n) other ≡ holders p other
holders-with_holders_other p id other n apart =
    ap (λ (t : Held _). t.holders) (entry-with_entry_other p id other _ apart)

-- each other number stays open where a text is removed
pub open-without_text : {T : Type 0} (p : Texts T) (id other : ℕ) → other ≢ id → IsOpen p other
    → IsOpen (without_text p id) other
open-without_text p id other apart is_open =
    let same : holders (without_text p id) other ≡ holders p other =
    ap (λ (t : Held _). t.holders) (entry-with_entry_other p id other no_text apart) in omega arith

-- a text with more than one holder stays where one lets it go
pub released-held : {T : Type 0} (p : Texts T) (id : ℕ) → 1 < holders p id
    → released p id ≡ with_holders p id (holders p id - 1)
released-held p id more = cond-false (leb (holders p id) 1) _ _ (lt-leb (holders p id) 1 more)

-- a text with one holder is removed where that lets it go
pub released-last : {T : Type 0} (p : Texts T) (id : ℕ) → holders p id ≤ 1 → released p id ≡ without_text p id
released-last p id last = cond-true (leb (holders p id) 1) _ _ (le-leb (holders p id) 1 last)

-- each text but a removed one stays where one lets a text go
pub entry-released_other : {T : Type 0} (p : Texts T) (id other : ℕ) → other ≢ id
    → entry (released p id) other ≡ entry p other
entry-released_other p id other apart = elim (cases_lt 1 (holders p id)) [
  | inl more ↦ ap (λ (q : Texts _). entry q other) (released-held p id more)
      ∙ entry-with_entry_other p id other _ apart
  | inr last ↦ ap (λ (q : Texts _). entry q other) (released-last p id last)
      ∙ entry-with_entry_other p id other _ apart
]

-- a number that has no text is none of those that have one
pub apart_of_unused : {T : Type 0} (p : Texts T) (id other : ℕ) → slice_get p.texts id ≡ Some no_text
    → IsOpen p other → other ≢ id
apart_of_unused p id other free is_open same =
    let none : holders p other ≡ 0 =
    ap (holders p) same ∙ ap (λ (t : Held _). t.holders)
    (get_or_from_slice_get p.texts id no_text no_text free) in
    absurd (omega arith)

-- ---- how many elements all texts have

-- a number is given another text
pub used-with_entry : {T : Type 0} (p : Texts T) (id : ℕ) (t : Held T) → id < length p.texts
    → used (with_entry p id t) + length (text p id) ≡ used p + length t.elements
used-with_entry p id t within = sum_by-set (λ (u : Held _). length u.elements) p.texts id t no_text within

-- where a text is written
pub used-with_text : {T : Type 0} (p : Texts T) (id : ℕ) (xs : List T) → id < length p.texts
    → used (with_text p id xs) + length (text p id) ≡ used p + length xs
used-with_text p id xs within = used-with_entry p id (record { elements = xs; holders = holders p id }) within

-- the later of two writes stays
pub with_text-with_text : {T : Type 0} (p : Texts T) (id : ℕ) (xs ys : List T)
    → with_text (with_text p id xs) id ys ≡ with_text p id ys
with_text-with_text p id xs ys =
    ap (λ n. with_entry (with_text p id xs) id (record { elements = ys; holders = n }))
    (holders-with_text p id id xs)
    ∙ ap (λ ts. record p { texts = ts }) (set-set p.texts id _ _)

-- writing back what was there changes nothing
pub with_text-text : {T : Type 0} (p : Texts T) (id : ℕ) → with_text p id (text p id) ≡ p
with_text-text p id = ap (λ ts. record p { texts = ts }) (set-get_or p.texts id no_text)

-- more elements at the end of a text that was written
pub append_more : {T : Type 0} (p q r : Texts T) (id : ℕ) (xs ys : List T) → id < length p.texts
    → q ≡ with_text p id xs → r ≡ with_text q id (text q id ++ ys) → r ≡ with_text p id (xs ++ ys)
append_more p q r id xs ys within wrote more =
    let now : text q id ≡ xs = ap (λ (s : Texts _). text s id) wrote ∙ text-with_text_same p id xs within in
    more ∙ ap (λ zs. with_text q id (zs ++ ys)) now ∙ ap (λ (s : Texts _). with_text s id (xs ++ ys)) wrote
    ∙ with_text-with_text p id xs (xs ++ ys)

-- a write of one text leaves each number open that was
pub open_after_text : {T : Type 0} (p q : Texts T) (id : ℕ) (xs : List T) → q ≡ with_text p id xs
    → (other : ℕ) → IsOpen p other → IsOpen q other
open_after_text p q id xs wrote other is_open =
    let same : holders q other ≡ holders p other =
    ap (λ (s : Texts _). holders s other) wrote ∙ holders-with_text p id other xs in omega arith

-- a write of what has a holder leaves each number open that was
pub open_after_entry : {T : Type 0} (p q : Texts T) (id : ℕ) (t : Held T) → 0 < t.holders
    → id < length p.texts → q ≡ with_entry p id t → (other : ℕ) → IsOpen p other → IsOpen q other
open_after_entry p q id t held within wrote other is_open = elim (cases_eq other id) [
  | inl same ↦
      let now : holders q other ≡ t.holders =
      ap (λ (s : Texts _). holders s other) wrote ∙ ap (λ n. holders (with_entry p id t) n) same
      ∙ ap (λ (h : Held _). h.holders) (entry-with_entry_same p id t within) in omega arith
  | inr apart ↦ let now : holders q other ≡ holders p other = ap (λ (s : Texts _). holders s other) wrote
      ∙ ap (λ (h : Held _). h.holders) (entry-with_entry_other p id other t apart) in omega arith
]

-- where a text is removed, each other number is open that was
pub open_after_removal : {T : Type 0} (p q : Texts T) (id other : ℕ) → q ≡ without_text p id → other ≢ id
    → IsOpen p other → IsOpen q other
open_after_removal p q id other wrote apart is_open =
    let there = open-without_text p id other apart is_open in
    let same : holders q other ≡ holders (without_text p id) other =
    ap (λ (s : Texts _). holders s other) wrote in omega arith

-- a number is open where a text was opened
pub open_after_opened : {T : Type 0} (p q : Texts T) (id : ℕ) → id < length p.texts
    → q ≡ opened p id → IsOpen q id
open_after_opened p q id within wrote =
    let one : holders q id ≡ 1 =
    ap (λ (s : Texts _). holders s id) wrote ∙ ap (λ (t : Held _). t.holders)
    (entry-with_entry_same p id _ within) in omega arith

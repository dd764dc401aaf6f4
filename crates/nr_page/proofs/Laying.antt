-- Cells laid over a text, one after another.
use Prim.Native.Char.{code}
use Rattle.std.specs.Prelude.{Result, Ok, Err, IsOk, IsErr}
use Rattle.std.proofs.Common.{◌≡◌, ◌≢◌, eq-eqb, ne_eqb, ℕ, zero, suc, ◌+◌, ◌≤◌, ◌<◌, max, min, List, [], ◌∷◌, ◌++◌, length, take, drop, set, true, false, inl, inr, refl, sym, ap, ◌∙◌, arith, append-nil}
use Rattle.std.proofs.lemmas.Bool.{cases_lt}
use Rattle.std.proofs.lemmas.List.{take_all, drop_all, length-take, set-get_or}
use Rattle.nr_vectors.specs.declared.cell.Cell.{Cell}
use Rattle.nr_pool.specs.Texts.{Texts, IsOpen, text, used, with_text}
use Rattle.nr_pool.specs.Laws.{within_of_open, used-with_text, text-with_text_same, with_text-with_text}
use Rattle.nr_page.specs.Grid.{blank, is_blank}
use Rattle.nr_page.specs.Overlay.{covered, overlaid, cell_or_blank}
use Rattle.nr_page.proofs.Showing.{covered_by_blank, covered_by_other}

pub overlaid-nil : (cells : List Cell) → overlaid cells [] ≡ cells
overlaid-nil [] = refl
overlaid-nil (cell ∷ cells) = refl

pub length-overlaid : (below above : List Cell) → length (overlaid below above) ≡ max (length below) (length above)
length-overlaid [] above = omega arith
length-overlaid (cell ∷ below) [] = omega arith
length-overlaid (cell ∷ below) (over ∷ above) = omega (arith, length-overlaid below above)

-- after the cells that were laid, what was there before
overlaid-afterwards : (below above : List Cell) (i : ℕ) → i < length below → i < length above → cell_or_blank (overlaid below (take i above)) i ≡ cell_or_blank below i
overlaid-afterwards [] above i low within = absurd (omega arith)
overlaid-afterwards (cell ∷ below) [] i low within = absurd (omega arith)
overlaid-afterwards (cell ∷ below) (over ∷ above) zero low within = refl
overlaid-afterwards (cell ∷ below) (over ∷ above) (suc i) low within = overlaid-afterwards below above i (omega arith) (omega arith)

-- one cell more
overlaid-take_suc : (below above : List Cell) (i : ℕ) → i < length below → i < length above
    → overlaid below (take (suc i) above) ≡ set (overlaid below (take i above)) i (covered (cell_or_blank below i) (cell_or_blank above i))
overlaid-take_suc [] above i low within = absurd (omega arith)
overlaid-take_suc (cell ∷ below) [] i low within = absurd (omega arith)
overlaid-take_suc (cell ∷ below) (over ∷ above) zero low within = ap (λ cells. covered cell over ∷ cells) (overlaid-nil below)
overlaid-take_suc (cell ∷ below) (over ∷ above) (suc i) low within = ap (λ cells. covered cell over ∷ cells) (overlaid-take_suc below above i (omega arith) (omega arith))

pub overlaid-take_other : (below above : List Cell) (i : ℕ) → i < length below → i < length above → is_blank (cell_or_blank above i) ≡ false
    → overlaid below (take (i + 1) above) ≡ set (overlaid below (take i above)) i (cell_or_blank above i)
overlaid-take_other below above i low within other =
    let next : i + 1 ≡ suc i = omega arith in
    ap (λ n. overlaid below (take n above)) next ∙ overlaid-take_suc below above i low within
    ∙ ap (set (overlaid below (take i above)) i) (covered_by_other (cell_or_blank below i) (cell_or_blank above i) other)

pub overlaid-take_blank : (below above : List Cell) (i : ℕ) → i < length below → i < length above → is_blank (cell_or_blank above i) ≡ true
    → overlaid below (take (i + 1) above) ≡ overlaid below (take i above)
overlaid-take_blank below above i low within nothing =
    let next : i + 1 ≡ suc i = omega arith in
    ap (λ n. overlaid below (take n above)) next ∙ overlaid-take_suc below above i low within
    ∙ ap (set (overlaid below (take i above)) i) (covered_by_blank (cell_or_blank below i) (cell_or_blank above i) nothing ∙ sym (overlaid-afterwards below above i low within))
    ∙ set-get_or (overlaid below (take i above)) i blank

overlaid-longer : (below above : List Cell) → length below ≤ length above → overlaid below (take (length below) above) ++ drop (length below) above ≡ overlaid below above
overlaid-longer [] above long = refl
overlaid-longer (cell ∷ below) [] long = absurd (omega arith)
overlaid-longer (cell ∷ below) (over ∷ above) long = ap (λ cells. covered cell over ∷ cells) (overlaid-longer below above (omega arith))

-- the cells after those of the text
pub overlaid-rest : (below above : List Cell) (n : ℕ) → n ≡ min (length below) (length above) → overlaid below (take n above) ++ drop n above ≡ overlaid below above
overlaid-rest below above n is = elim (cases_lt (length above) (length below)) [
  | inl short ↦
      let whole : length above ≤ n = omega arith in
      rw (take_all n above whole, drop_all n above whole) (append-nil (overlaid below above))
  | inr long ↦
      let n_is : n ≡ length below = omega arith in
      rw n_is (overlaid-longer below above long)
]

-- ---- in a pool

-- the later of two texts that were written stays
pub with_text-again : (p q r : Texts Cell) (id : ℕ) (xs ys : List Cell) → id < length p.texts → q ≡ with_text p id xs → r ≡ with_text q id ys → r ≡ with_text p id ys
with_text-again p q r id xs ys within first second = second ∙ ap (λ (s : Texts Cell). with_text s id ys) first ∙ with_text-with_text p id xs ys

pub text_of_written : (p q : Texts Cell) (id : ℕ) (xs : List Cell) → IsOpen p id → q ≡ with_text p id xs → text q id ≡ xs
text_of_written p q id xs is_open wrote = ap (λ (s : Texts Cell). text s id) wrote ∙ text-with_text_same p id xs (within_of_open p id is_open)

pub ok_unless : {A E : Type 0} (r : Result A E) → (IsErr r → ⊥) → IsOk r
ok_unless (Ok x) h = refl
ok_unless (Err e) h = absurd (h refl)

-- a cell that is not blank was written over one of the text
pub laid-other : (p q r : Texts Cell) (id i : ℕ) (cells : List Cell) (cell : Cell) → IsOpen p id → q ≡ with_text p id (overlaid (text p id) (take i cells))
    → r ≡ with_text q id (set (text q id) i cell) → i < length (text p id) → i < length cells → cell ≡ cell_or_blank cells i → cell.byte ≢ code " "
    → r ≡ with_text p id (overlaid (text p id) (take (i + 1) cells))
laid-other p q r id i cells cell is_open first second low within cell_is other =
    let written = text_of_written p q id (overlaid (text p id) (take i cells)) is_open first in
    let shows : is_blank (cell_or_blank cells i) ≡ false = rw (← cell_is) (ne_eqb cell.byte (code " ") other) in
    with_text-again p q r id (overlaid (text p id) (take i cells)) (set (text q id) i cell) (within_of_open p id is_open) first second
    ∙ ap (with_text p id) (ap (λ xs. set xs i cell) written ∙ ap (set (overlaid (text p id) (take i cells)) i) cell_is ∙ sym (overlaid-take_other (text p id) cells i low within shows))

-- a blank was left out
pub laid-blank : (p q : Texts Cell) (id i : ℕ) (cells : List Cell) (cell : Cell) → q ≡ with_text p id (overlaid (text p id) (take i cells))
    → i < length (text p id) → i < length cells → cell ≡ cell_or_blank cells i → cell.byte ≡ code " "
    → q ≡ with_text p id (overlaid (text p id) (take (i + 1) cells))
laid-blank p q id i cells cell first low within cell_is nothing =
    let hides : is_blank (cell_or_blank cells i) ≡ true = rw (← cell_is) (eq-eqb cell.byte (code " ") nothing) in
    first ∙ ap (with_text p id) (sym (overlaid-take_blank (text p id) cells i low within hides))

-- the cells after those of the text were added
pub laid-all : (p q r : Texts Cell) (id n : ℕ) (cells rest : List Cell) → IsOpen p id → q ≡ with_text p id (overlaid (text p id) (take n cells))
    → r ≡ with_text q id (text q id ++ rest) → n ≡ min (length (text p id)) (length cells) → rest ≡ drop n cells
    → r ≡ with_text p id (overlaid (text p id) cells)
laid-all p q r id n cells rest is_open first second n_is rest_is =
    let written = text_of_written p q id (overlaid (text p id) (take n cells)) is_open first in
    with_text-again p q r id (overlaid (text p id) (take n cells)) (text q id ++ rest) (within_of_open p id is_open) first second
    ∙ ap (with_text p id) (ap (λ xs. xs ++ rest) written ∙ ap (λ ys. overlaid (text p id) (take n cells) ++ ys) rest_is ∙ overlaid-rest (text p id) cells n n_is)

-- a text of the same length was written
pub used-laid : (p q : Texts Cell) (id n : ℕ) (cells : List Cell) → IsOpen p id → q ≡ with_text p id (overlaid (text p id) (take n cells)) → n ≤ length (text p id)
    → (used q ≡ used p) × (q.capacity ≡ p.capacity)
used-laid p q id n cells is_open first short =
    let laid = overlaid (text p id) (take n cells) in
    let same : length laid ≡ length (text p id) = omega (arith, length-overlaid (text p id) (take n cells), length-take n cells) in
    let sums = used-with_text p id laid (within_of_open p id is_open) in
    let now : used q ≡ used (with_text p id laid) = ap used first in
    (omega arith, ap (λ (s : Texts Cell). s.capacity) first)

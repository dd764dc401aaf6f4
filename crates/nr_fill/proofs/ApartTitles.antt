-- The parts of a title that stand apart, with blanks between them.
use Rattle.std.proofs.Common.{◌≡◌, ℕ, ◌+◌, ◌-◌, ◌≤◌, ◌<◌, max, List, ◌++◌, length, map, replicate, get_or, nat_le, nat_lt, true, false, refl, ap, sym, ◌∙◌, arith, length-append, inl, inr}
use Rattle.std.specs.List.{range_with_len}
use Rattle.std.proofs.lemmas.Bool.{cases_lt, le-leb, lt-leb, lt-ltb, le-ltb}
use Rattle.std.proofs.lemmas.List.{get_or_append_left, get_or-append_right, get_or-replicate, get_or_past, length-replicate}
use Rattle.std.proofs.lemmas.List.FromFn.{fill_by_all}
use Rattle.nr_vectors.specs.Cell.{blank}
use Rattle.nr_vectors.specs.declared.cell.Cell.{Cell}
use Rattle.nr_fill.specs.Title.{cell_of}

-- the parts one after the other
abbrev pub apart_row : ℕ → ℕ → List Cell → List Cell → List Cell → List Cell
apart_row c r ls cs rs = (((ls ++ replicate (c - length ls) blank) ++ cs) ++ replicate (r - c - length cs) blank) ++ rs

get-blanks : (n i : ℕ) → get_or (replicate n blank) i blank ≡ blank
get-blanks n i = elim (cases_lt i n) [
  | inl within ↦ get_or-replicate n i blank blank within
  | inr afterwards ↦ get_or_past (replicate n blank) i blank (omega (arith, length-replicate n blank))
]

-- blanks after a row are read there in any case
get-padded : (xs : List Cell) (n i : ℕ) → get_or (xs ++ replicate n blank) i blank ≡ get_or xs i blank
get-padded xs n i = elim (cases_lt i (length xs)) [
  | inl within ↦ get_or_append_left xs (replicate n blank) blank i within
  | inr afterwards ↦ get_or-append_right xs (replicate n blank) (length xs) i blank refl afterwards ∙ get-blanks n (i - length xs) ∙ sym (get_or_past xs i blank afterwards)
]

length-padded : (xs : List Cell) (n k : ℕ) → length xs + n ≡ k → length (xs ++ replicate n blank) ≡ k
length-padded xs n k h = omega (arith, length-append xs (replicate n blank), length-replicate n blank)

module _ (c r : ℕ) (ls cs rs : List Cell) where
  -- what stands before the centre and before the right part
  abbrev to_centre : List Cell
  to_centre = ls ++ replicate (c - length ls) blank

  abbrev to_right : List Cell
  to_right = (to_centre ++ cs) ++ replicate (r - c - length cs) blank

  cell_of-left : (i : ℕ) → i < c → i < r → cell_of c r ls cs rs i ≡ get_or ls i blank
  cell_of-left i before_centre before_right =
      let a : nat_le r i ≡ false = lt-leb r i before_right in
      let b : nat_le c i ≡ false = lt-leb c i before_centre in
      rw (a, b) refl

  cell_of-centre : (i : ℕ) → c ≤ i → i < c + length cs → i < r → cell_of c r ls cs rs i ≡ get_or cs (i - c) blank
  cell_of-centre i from below before_right =
      let a : nat_le r i ≡ false = lt-leb r i before_right in
      let b : nat_le c i ≡ true = le-leb c i from in
      let d : nat_lt i (c + length cs) ≡ true = lt-ltb i (c + length cs) below in
      rw (a, b, d) refl

  cell_of-between : (i : ℕ) → length ls ≤ i → c ≤ i → c + length cs ≤ i → i < r → cell_of c r ls cs rs i ≡ blank
  cell_of-between i past from afterwards before_right =
      let a : nat_le r i ≡ false = lt-leb r i before_right in
      let b : nat_le c i ≡ true = le-leb c i from in
      let d : nat_lt i (c + length cs) ≡ false = le-ltb i (c + length cs) afterwards in
      rw (a, b, d) (get_or_past ls i blank past)

  cell_of-right : (i : ℕ) → r ≤ i → i < r + length rs → cell_of c r ls cs rs i ≡ get_or rs (i - r) blank
  cell_of-right i from below =
      let a : nat_le r i ≡ true = le-leb r i from in
      let b : nat_lt i (r + length rs) ≡ true = lt-ltb i (r + length rs) below in
      rw (a, b) refl

  module _ (left : length ls ≤ c) (centre : c + length cs ≤ r) where
    length-to_centre : length to_centre ≡ c
    length-to_centre = length-padded ls (c - length ls) c (omega arith)

    length-to_right : length to_right ≡ r
    length-to_right = length-padded (to_centre ++ cs) (r - c - length cs) r (omega (arith, length-append to_centre cs, length-to_centre))

    get-to_centre : (i : ℕ) → i < r → get_or (to_centre ++ cs) i blank ≡ cell_of c r ls cs rs i
    get-to_centre i before_right = elim (cases_lt i c) [
      | inl before ↦
          get_or_append_left to_centre cs blank i (omega (arith, length-to_centre)) ∙ get-padded ls (c - length ls) i ∙ sym (cell_of-left i before before_right)
      | inr from ↦
          get_or-append_right to_centre cs c i blank length-to_centre from ∙ elim (cases_lt i (c + length cs)) [
            | inl below ↦ sym (cell_of-centre i from below before_right)
            | inr afterwards ↦ get_or_past cs (i - c) blank (omega arith) ∙ sym (cell_of-between i (omega arith) from afterwards before_right)
          ]
    ]

    get-apart : (i : ℕ) → i < r + length rs → get_or (apart_row c r ls cs rs) i blank ≡ cell_of c r ls cs rs i
    get-apart i below = elim (cases_lt i r) [
      | inl before ↦
          get_or_append_left to_right rs blank i (omega (arith, length-to_right)) ∙ get-padded (to_centre ++ cs) (r - c - length cs) i ∙ get-to_centre i before
      | inr from ↦ get_or-append_right to_right rs r i blank length-to_right from ∙ sym (cell_of-right i from below)
    ]

    -- they are the cells column by column
    pub apart_row_is : apart_row c r ls cs rs ≡ map (cell_of c r ls cs rs) (range_with_len 0 (max (length ls) (max (c + length cs) (r + length rs))))
    apart_row_is =
        let reach : r + length rs ≡ max (length ls) (max (c + length cs) (r + length rs)) = omega arith in
        fill_by_all (cell_of c r ls cs rs) (apart_row c r ls cs rs) (r + length rs) blank (omega (arith, length-append to_right rs, length-to_right)) get-apart
        ∙ ap (λ n. map (cell_of c r ls cs rs) (range_with_len 0 n)) reach

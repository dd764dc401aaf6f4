-- Rows of cells, and the blanks at their ends.
use Rattle.std.proofs.Common.{◌≡◌, ℕ, ◌+◌, ◌-◌, ◌^◌, ◌<◌, ◌≤◌, min, List, ◌++◌, length, take, replicate, reverse, refl, ap, ap₂, sym, ◌∙◌, arith, length-take, length-append, true, false, cond, eqb, inl, inr}
use Rattle.std.specs.List.{suffix_len, prefix_len}
use Rattle.std.proofs.Math.Seq.{take-append-add}
use Rattle.std.proofs.lemmas.Bool.{cases_lt, eq-eqb, ne_eqb}
use Rattle.std.proofs.lemmas.List.{append-nil, reverse-append, length-reverse, length-replicate, take_all, take_min, take-append-le, take-replicate, length-take-le, get_or-replicate}
use Rattle.std.proofs.lemmas.List.Folds.{prefix_len-append}
use Rattle.std.proofs.lemmas.List.Sums.{suffix_len-le-length, suffix_len_is}
use Rattle.nr_vectors.specs.Cell.{blank, is_blank, trimmed}
use Rattle.nr_vectors.specs.declared.cell.Cell.{Cell}
use Rattle.nr_fill.specs.CellRow.{Row, row_of}
use Rattle.nr_fill.specs.Extents.{counted, written_after}

-- how many cells there are up to the last that is no blank
abbrev pub written : List Cell → ℕ
written xs = length xs - suffix_len is_blank xs

pub length-trimmed : (xs : List Cell) → length (trimmed xs) ≡ written xs
length-trimmed xs = length-take-le (written xs) xs (omega arith)

-- the blanks at the end of two rows
suffix_len-append : (xs ys : List Cell) → suffix_len is_blank (xs ++ ys) ≡ cond (eqb (suffix_len is_blank ys) (length ys)) (length ys + suffix_len is_blank xs) (suffix_len is_blank ys)
suffix_len-append xs ys =
    ap (prefix_len is_blank) (reverse-append xs ys) ∙ prefix_len-append is_blank (reverse ys) (reverse xs)
    ∙ ap (λ n. cond (eqb (suffix_len is_blank ys) n) (n + suffix_len is_blank xs) (suffix_len is_blank ys)) (length-reverse ys)

-- after something written all before it is
pub written-append_some : (xs ys : List Cell) → 0 < written ys → written (xs ++ ys) ≡ length xs + written ys
written-append_some xs ys some =
    let fewer = suffix_len-le-length is_blank ys in
    let differ : eqb (suffix_len is_blank ys) (length ys) ≡ false = ne_eqb _ _ (omega arith) in
    let is : suffix_len is_blank (xs ++ ys) ≡ suffix_len is_blank ys = suffix_len-append xs ys ∙ rw differ refl in
    omega (arith, length-append xs ys)

-- blanks are dropped
pub written-append_none : (xs ys : List Cell) → written ys ≡ 0 → written (xs ++ ys) ≡ written xs
written-append_none xs ys none =
    let fewer = suffix_len-le-length is_blank ys in
    let same : eqb (suffix_len is_blank ys) (length ys) ≡ true = eq-eqb _ _ (omega arith) in
    let is : suffix_len is_blank (xs ++ ys) ≡ length ys + suffix_len is_blank xs = suffix_len-append xs ys ∙ rw same refl in
    omega (arith, length-append xs ys)

pub written-replicate : (n : ℕ) → written (replicate n blank) ≡ 0
written-replicate n =
    let all = suffix_len_is is_blank (replicate n blank) 0 blank (omega arith)
    (λ k low high. ap is_blank (get_or-replicate n k blank blank (omega (arith, length-replicate n blank)))) (λ some. absurd (omega arith)) in
    omega arith

-- what there is room for of two rows
pub take_append : (room : ℕ) (xs ys : List Cell) → take room (xs ++ ys) ≡ take room xs ++ take (min (length ys) (room - length (take room xs))) ys
take_append room xs ys =
    elim (cases_lt (length xs) room) [
      | inl more ↦
          let all : take room xs ≡ xs = take_all room xs (omega arith) in
          let left = room - length xs in
          let whole : room ≡ length xs + left = omega arith in
          let part : min (length ys) (room - length (take room xs)) ≡ min left (length ys) = omega (arith, length-take room xs) in
          ap (λ n. take n (xs ++ ys)) whole ∙ take-append-add xs ys left ∙ ap₂ (λ a b. a ++ b) (sym all) (sym (take_min left ys) ∙ ap (λ n. take n ys) (sym part))
      | inr full ↦
          let none : min (length ys) (room - length (take room xs)) ≡ 0 = omega (arith, length-take room xs) in
          take-append-le room xs ys full ∙ sym (append-nil (take room xs)) ∙ ap (λ n. take room xs ++ take n ys) (sym none)
    ]

-- the parts of a row
pub same_row : {k k' : List Cell} {c c' w w' r r' : ℕ} → k ≡ k' → c ≡ c' → w ≡ w' → r ≡ r'
    → ◌≡◌ {A = Row} (record { kept = k; count = c; written = w; capacity = r }) (record { kept = k'; count = c'; written = w'; capacity = r' })
same_row k_is c_is w_is r_is = rw (k_is, c_is, w_is, r_is) refl

-- how many are written once more cells are added
written_more : (xs ys : List Cell) → written_after (counted (length (trimmed xs))) (counted (length xs)) (written ys) ≡ counted (length (trimmed (xs ++ ys)))
written_more xs ys =
    let before = length-trimmed xs in
    let after = length-trimmed (xs ++ ys) in
    elim (cases_lt 0 (written ys)) [
      | inl some ↦
          let differ : eqb (written ys) 0 ≡ false = ne_eqb _ _ (omega arith) in
          let is = written-append_some xs ys some in
          rw differ (omega arith)
      | inr none ↦
          let same : eqb (written ys) 0 ≡ true = eq-eqb _ _ (omega arith) in
          let is = written-append_none xs ys (omega arith) in
          rw same (omega arith)
    ]

-- a row with more cells
pub row_extended : (room : ℕ) (xs ys : List Cell) (m : ℕ) → m ≡ min (length ys) (room - length (take room xs))
    → ◌≡◌ {A = Row} (record {
      kept = take room xs ++ take m ys;
      count = min (counted (length xs) + length ys) (2 ^ 64 - 1);
      written = written_after (counted (length (trimmed xs))) (counted (length xs)) (written ys);
      capacity = room;
    }) (row_of room (xs ++ ys))
row_extended room xs ys m m_is =
    same_row (ap (λ n. take room xs ++ take n ys) m_is ∙ sym (take_append room xs ys)) (omega (arith, length-append xs ys)) (written_more xs ys) refl

-- a row with more blanks
pub row_blanked : (room : ℕ) (xs : List Cell) (n m : ℕ) → m ≡ min n (room - length (take room xs))
    → ◌≡◌ {A = Row} (record {
      kept = take room xs ++ replicate m blank;
      count = min (counted (length xs) + n) (2 ^ 64 - 1);
      written = counted (length (trimmed xs));
      capacity = room;
    }) (row_of room (xs ++ replicate n blank))
row_blanked room xs n m m_is =
    let many = length-replicate n blank in
    let part : m ≡ min (length (replicate n blank)) (room - length (take room xs)) = omega arith in
    let before = length-trimmed xs in
    let after = length-trimmed (xs ++ replicate n blank) in
    let same = written-append_none xs (replicate n blank) (written-replicate n) in
    same_row (ap (λ zs. take room xs ++ zs) (sym (take-replicate m n blank (omega arith))) ∙ ap (λ k. take room xs ++ take k (replicate n blank)) part ∙ sym (take_append room xs (replicate n blank)))
    (omega (arith, length-append xs (replicate n blank))) (omega arith) refl

-- so many cells more, and so many up to the last that is no blank
pub extent_extended : {count reached : ℕ} (xs ys : List Cell) → count ≡ counted (length xs) → reached ≡ counted (length (trimmed xs))
    → (min (count + length ys) (2 ^ 64 - 1) ≡ counted (length (xs ++ ys))) × (written_after reached count (written ys) ≡ counted (length (trimmed (xs ++ ys))))
extent_extended xs ys count_is reached_is =
    (omega (arith, length-append xs ys), ap₂ (λ a b. written_after a b (written ys)) reached_is count_is ∙ written_more xs ys)

-- so many blanks more
pub extent_blanked : {count reached : ℕ} (xs : List Cell) (n : ℕ) → count ≡ counted (length xs) → reached ≡ counted (length (trimmed xs))
    → (min (count + n) (2 ^ 64 - 1) ≡ counted (length (xs ++ replicate n blank))) × (reached ≡ counted (length (trimmed (xs ++ replicate n blank))))
extent_blanked xs n count_is reached_is =
    let before = length-trimmed xs in
    let after = length-trimmed (xs ++ replicate n blank) in
    let same = written-append_none xs (replicate n blank) (written-replicate n) in
    (omega (arith, length-append xs (replicate n blank), length-replicate n blank), omega arith)

-- a row none of whose cells are gone
pub row_whole : {items : List Cell} {count room : ℕ} (xs : List Cell) → items ≡ take room xs → count ≡ counted (length xs) → room < 2 ^ 32 → count ≡ length items
    → length items ≡ length xs
row_whole {room = room} xs items_is count_is small none_gone = let long = ap length items_is in omega (arith, length-take room xs)

-- a row with more cells for which there is room, and none of whose own are gone
pub row_laid : {items : List Cell} {count reached room : ℕ} (xs ys : List Cell) (n w : ℕ) → items ≡ take room xs → count ≡ counted (length xs) → reached ≡ counted (length (trimmed xs))
    → room < 2 ^ 32 → count ≡ length items → length items + length ys ≤ room → n ≡ counted (length ys) → w ≡ counted (length (trimmed ys))
    → ◌≡◌ {A = Row} (record { kept = items ++ ys; count = length items + n; written = written_after reached (length items) w; capacity = room }) (row_of room (xs ++ ys))
row_laid {items} {count} {reached} {room} xs ys n w items_is count_is reached_is small none_gone fits n_is w_is =
    let long = ap length items_is in
    let part = length-take room xs in
    let both = length-append xs ys in
    let within : length xs ≤ room = omega arith in
    let whole : items ≡ xs = items_is ∙ take_all room xs within in
    let all : take room (xs ++ ys) ≡ xs ++ ys = take_all room (xs ++ ys) (omega arith) in
    let count_of : length items ≡ counted (length xs) = omega arith in
    let written_of : w ≡ written ys = let reach = length-trimmed ys in omega arith in
    same_row
    (ap (λ zs. zs ++ ys) whole ∙ sym all)
    (omega arith)
    (ap₂ (λ a b. written_after a b w) reached_is count_of ∙ ap (written_after (counted (length (trimmed xs))) (counted (length xs))) written_of ∙ written_more xs ys)
    refl

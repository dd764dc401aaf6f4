-- The lines of a block: how many rows they take, and which stands in a row.
use Rattle.std.proofs.Common.{◌≡◌, ℕ, zero, suc, ◌+◌, ◌-◌, ◌<◌, ◌≤◌, Bool, nat_le, List, [], ◌∷◌, length, get_or, drop, Option, None, Some, true, false, sym, refl, ap, arith, ◌∙◌, if◌then◌else◌}
use Rattle.std.specs.Prelude.{slice_get}
use Rattle.std.proofs.lemmas.Bool.Decides.{nat_tests}
use Rattle.tbl_blocks.specs.declared.parts.Line.{Line}
use Rattle.tbl_columns.specs.Texts.{if_in_row, line_up_to, no_line, rows_of}
use Rattle.tbl_table.specs.Sums.{sum}
use Rattle.tbl_columns.proofs.Choices.{left, taken}
use Rattle.tbl_columns.proofs.Known.{get_is}

-- all of them take as many as the last has above it, and one more
rows_whole : (l : Line) (ls : List Line) → rows_of (l ∷ ls) ≡ sum (get_or (l ∷ ls) (length (l ∷ ls) - 1) no_line).row 1
rows_whole l [] = refl
rows_whole l (k ∷ ls) =
    let next : suc (suc (length ls)) - 1 ≡ suc (suc (length ls) - 1) = omega arith in
    rows_whole k ls ∙ ap (λ (n : ℕ). sum (get_or (l ∷ k ∷ ls) n no_line).row 1) (next_is next)
  where
    next_is : suc (suc (length ls)) - 1 ≡ suc (suc (length ls) - 1) → suc (suc (length ls) - 1) ≡ suc (suc (length ls)) - 1
    next_is e = omega (arith, e)

pub rows_last : (first : ℕ) (ls : List Line) → first < length ls
    → rows_of (drop first ls) ≡ sum (get_or ls (length ls - 1) no_line).row 1
rows_last zero [] h = absurd (omega (arith, h))
rows_last zero (l ∷ ls) h = rows_whole l ls
rows_last (suc first) [] h = absurd (omega (arith, h))
rows_last (suc first) (l ∷ ls) h =
    let inside : first < length ls = omega (arith, h) in
    let next : suc (length ls - 1) ≡ suc (length ls) - 1 = omega (arith, h) in
    rows_last first ls inside ∙ ap (λ (n : ℕ). sum (get_or (l ∷ ls) n no_line).row 1) next

-- the one before those that were passed
pub one_back : (most back first row : ℕ) (ls : List Line) → back < most
    → line_up_to (most - back) first row ls
    ≡ (if nat_le (length ls) (sum first (most - 1 - back)) then None else
    if nat_le (get_or ls (sum first (most - 1 - back)) no_line).row row then if_in_row row (get_or ls (sum first (most - 1 - back)) no_line)
    else line_up_to (most - (back + 1)) first row ls)
one_back most back first row ls h =
    let more : most - back ≡ suc (most - (back + 1)) = omega (arith, h) in
    let same : most - (back + 1) ≡ most - 1 - back = omega (arith, h) in
    ap (λ (n : ℕ). line_up_to n first row ls) more
    ∙ ap (λ (n : ℕ). if nat_le (length ls) (sum first n) then None else
    if nat_le (get_or ls (sum first n) no_line).row row then if_in_row row (get_or ls (sum first n) no_line)
    else line_up_to (most - (back + 1)) first row ls) same

-- a line that is there
line_back : (most back first row number : ℕ) (ls : List Line) (l : Line) → back < most → number ≡ sum first (most - 1 - back) → number < length ls
    → slice_get ls number ≡ Some l
    → line_up_to (most - back) first row ls
    ≡ (if nat_le l.row row then if_in_row row l else line_up_to (most - (back + 1)) first row ls)
line_back most back first row number ls l h at inside got =
    let rest : Option Line = line_up_to (most - (back + 1)) first row ls in
    let is : get_or ls number no_line ≡ l = get_is ls number l no_line inside got in
    let there : nat_le (length ls) number ≡ false = grind (arith, nat_tests, inside) in
    one_back most back first row ls h
    ∙ ap (λ (n : ℕ). if nat_le (length ls) n then None else
    if nat_le (get_or ls n no_line).row row then if_in_row row (get_or ls n no_line) else rest) (sym at)
    ∙ ap (λ (x : Line). if nat_le (length ls) number then None else if nat_le x.row row then if_in_row row x else rest) is
    ∙ left (nat_le (length ls) number) None (if nat_le l.row row then if_in_row row l else rest) there

pub back_here : (most back first row number : ℕ) (ls : List Line) (l : Line) → back < most → number ≡ sum first (most - 1 - back) → number < length ls
    → slice_get ls number ≡ Some l → l.row ≤ row → line_up_to (most - back) first row ls ≡ if_in_row row l
back_here most back first row number ls l h at inside got low =
    let is : nat_le l.row row ≡ true = grind (arith, nat_tests, low) in
    line_back most back first row number ls l h at inside got
    ∙ taken (nat_le l.row row) (if_in_row row l) (line_up_to (most - (back + 1)) first row ls) is

pub back_later : (most back first row number : ℕ) (ls : List Line) (l : Line) → back < most → number ≡ sum first (most - 1 - back) → number < length ls
    → slice_get ls number ≡ Some l → row < l.row → line_up_to (most - back) first row ls ≡ line_up_to (most - (back + 1)) first row ls
back_later most back first row number ls l h at inside got high =
    let is : nat_le l.row row ≡ false = grind (arith, nat_tests, high) in
    line_back most back first row number ls l h at inside got
    ∙ left (nat_le l.row row) (if_in_row row l) (line_up_to (most - (back + 1)) first row ls) is

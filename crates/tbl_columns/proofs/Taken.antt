-- Cells that are taken from columns.
use Rattle.std.proofs.Common.{◌≡◌, ℕ, zero, suc, ◌+◌, ◌-◌, ◌<◌, ◌≤◌, min, Bool, nat_lt, Option, None, Some, refl, sym, ap, arith, ◌∙◌, if◌then◌else◌}
use Rattle.tbl_columns.specs.declared.grid.Grid.{Grid}
use Rattle.tbl_columns.specs.Held.{column, columns}
use Rattle.tbl_columns.specs.Narrow.{Widest, cells_taken, found_at, is_widest, nothing_found, taken_from, widest}
use Rattle.tbl_table.specs.Lists.{in_turn}

-- the least widths of the first columns alone are asked
found_same : (n : ℕ) (g : Grid) (a b : ℕ → ℕ) → n ≤ 64 → ((c : ℕ) → c < 64 → a c ≡ b c)
    → in_turn n (found_at g a) nothing_found ≡ in_turn n (found_at g b) nothing_found
found_same zero g a b h same = refl
found_same (suc n) g a b h same =
    let w : Widest = in_turn n (found_at g a) nothing_found in
    ap (λ (l : ℕ). if is_widest (column g n).width l w.most then record { found = Some n; most = (column g n).width } else w) (same n (omega (arith, h)))
    ∙ ap (found_at g b n) (found_same n g a b (omega (arith, h)) same)

pub widest_same : (g : Grid) (a b : ℕ → ℕ) → ((c : ℕ) → c < 64 → a c ≡ b c) → widest g a ≡ widest g b
widest_same g a b same = ap (λ (w : Widest). w.found) (found_same (min (columns g) 64) g a b (omega arith) same)

-- where no column may be narrower nothing is taken
pub none_taken : (n : ℕ) (leasts : ℕ → ℕ) (g : Grid) → widest g leasts ≡ None → cells_taken n leasts g ≡ g
none_taken zero leasts g none = refl
none_taken (suc n) leasts g none = ap (λ (o : Option ℕ). cells_taken n leasts (taken_from o g)) none ∙ none_taken n leasts g none

-- one more is taken
pub one_taken : (count n c : ℕ) (leasts : ℕ → ℕ) (g : Grid) → n < count → widest g leasts ≡ Some c
    → cells_taken (count - n) leasts g ≡ cells_taken (count - (n + 1)) leasts (taken_from (Some c) g)
one_taken count n c leasts g h found =
    let more : count - n ≡ suc (count - (n + 1)) = omega (arith, h) in
    ap (λ (k : ℕ). cells_taken k leasts g) more
    ∙ ap (λ (o : Option ℕ). cells_taken (count - (n + 1)) leasts (taken_from o g)) found

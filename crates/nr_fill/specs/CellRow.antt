-- A row of cells in a slice that may be too short for it.
use Rattle.std.specs.Prelude.{◌≡◌, ℕ, List, [], ◌++◌, length, take, refl}
use Rattle.std.proofs.Common.{sym, ◌∙◌, append_assoc, subst}
use Rattle.std.proofs.lemmas.List.{append-nil}
use Rattle.nr_vectors.specs.Cell.{trimmed}
use Rattle.nr_vectors.specs.declared.cell.Cell.{Cell}
use Rattle.nr_fill.specs.Extents.{counted}

-- what is kept of a row
pub record Row : Type 0 where
  -- its first cells, as many as there is room for
  pub kept : List Cell
  -- how many cells it has
  pub count : ℕ
  -- how many there are up to the last that is no blank
  pub written : ℕ
  pub capacity : ℕ

-- what is kept of these cells
abbrev pub row_of : ℕ → List Cell → Row
row_of capacity cells =
    record {
      kept = take capacity cells;
      count = counted (length cells);
      written = counted (length (trimmed cells));
      capacity = capacity;
    }

-- the row holds these cells
abbrev pub IsRow : List Cell → Row → Type 0
IsRow cells r = r ≡ row_of r.capacity cells

-- these cells were added to a row
abbrev pub AddsToRow : Row → List Cell → Row → Type 0
AddsToRow old more new =
    (new.capacity ≡ old.capacity) × ((cells : List Cell) → IsRow cells old → IsRow (cells ++ more) new)

-- nothing was added
pub AddsToRow-nothing : (row : Row) → AddsToRow row [] row
AddsToRow-nothing row =
    (refl, λ cells is. subst (λ (zs : List Cell). IsRow zs row) (sym (append-nil cells)) is)

-- one after the other
pub AddsToRow-both : (a b c : Row) (xs ys : List Cell) → AddsToRow a xs b → AddsToRow b ys c
    → AddsToRow a (xs ++ ys) c
AddsToRow-both a b c xs ys first second = (
  second.0 ∙ first.0,
  λ cells is. subst (λ (zs : List Cell). IsRow zs c) (append_assoc cells xs ys)
      (second.1 (cells ++ xs) (first.1 cells is)),
)

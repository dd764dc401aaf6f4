-- What may be expected of the lines of any table.
use Rattle.std.specs.Prelude.{◌≡◌, ℕ, ◌+◌, ◌*◌, ◌<◌, ◌≤◌, Bool, true, List, [], ◌∷◌, ◌++◌, length, Option, Some, if◌then◌else◌}
use Rattle.tbl_columns.specs.Frames.{bars_seen, table_end}
use Rattle.tbl_columns.specs.Held.{cell_number, cell_of, columns, height_of, placed}
use Rattle.tbl_drawing.specs.declared.layout.Layout.{Layout}
use Rattle.tbl_drawing.specs.declared.layout.Step.{Step}
use Rattle.tbl_drawing.specs.declared.layout.StepKind.{StepKind}
use Rattle.tbl_drawing.specs.declared.layout.StepKind.TheVariants as steps
use Rattle.tbl_drawing.specs.Drawing.{edge_strokes, row_cells, row_strokes, rule_cells, rule_strokes}
use Rattle.tbl_drawing.specs.Heights.{all_lines}
use Rattle.tbl_drawing.specs.Held.{begin_line, lines_of, step, tall}
use Rattle.tbl_drawing.specs.Pens.{Stroke, Start, after_all, first}
use Rattle.tbl_drawing.specs.Steps.{goes_over_rule, steps_taken}
use Rattle.tbl_drawing.specs.Tables.{columns_opened, laid, ready}
use Rattle.tbl_table.specs.declared.table.Item.{Item}
use Rattle.tbl_table.specs.declared.table.Item.TheVariants as items
use Rattle.tbl_table.specs.declared.table.Table.{Table}
use Rattle.tbl_table.specs.Held.{item}
use Rattle.tbl_table.specs.Sums.{sum}

-- ---- rules end at one place, a cell after the table's end, with a bar or without one, and so do rows where one is seen there and the outer
-- rules of a double box, where what stands in their columns stands within the table; rows where no bar is seen there end within it

abbrev pub end_of : List Stroke → Option ℕ
end_of strokes = (after_all (Start ∷ strokes) first).at

pub record StandsWithin (l : Layout) (strokes : List Stroke) : Type 0 where
  pub place : ℕ
  pub ends : end_of strokes ≡ Some place
  pub within : place ≤ table_end l.grid

abbrev pub RowsEndTogether : Type 0
RowsEndTogether =
    (l : Layout) (r line : ℕ) → bars_seen l.grid r (columns l.grid) ≡ 1 → StandsWithin l (row_cells (columns l.grid) l r line)
    → end_of (row_strokes l r line) ≡ Some (sum (table_end l.grid) 1)

abbrev pub RowsEndWithin : Type 0
RowsEndWithin =
    (l : Layout) (r line : ℕ) → bars_seen l.grid r (columns l.grid) ≡ 0 → StandsWithin l (row_cells (columns l.grid) l r line)
    → StandsWithin l (row_strokes l r line)

abbrev pub RulesEndTogether : Type 0
RulesEndTogether =
    (l : Layout) (above below : Option ℕ) (line : ℕ) → StandsWithin l (rule_cells (columns l.grid) l above below line)
    → end_of (rule_strokes l above below line) ≡ Some (sum (table_end l.grid) 1)

abbrev pub EdgesEndTogether : Type 0
EdgesEndTogether =
    (l : Layout) (above : Bool) → 1 ≤ table_end l.grid → end_of (edge_strokes l above) ≡ Some (sum (table_end l.grid) 1)

-- ---- rows go out once, and in order

abbrev pub row_of : StepKind → List ℕ
row_of (steps.Row r) = r ∷ []
row_of kind = []

abbrev pub rows_of : List Step → List ℕ
rows_of [] = []
rows_of (s ∷ ss) = row_of s.kind ++ rows_of ss

abbrev pub own_row : Layout → Item → List ℕ
own_row l (items.Row r) = if (placed l.grid r).own then r ∷ [] else []
own_row l i = []

abbrev pub own_rows : Layout → List Item → List ℕ
own_rows l [] = []
own_rows l (i ∷ is) = own_row l i ++ own_rows l is

abbrev pub RowsGoOut : Type 0
RowsGoOut =
    (l : Layout) (ends : Bool) → 4 * length l.grid.table.items.items + 4 ≤ l.steps.capacity
    → rows_of (steps_taken ends l).steps.items ≡ own_rows l l.grid.table.items.items

-- ---- each line of a field stands on one line of the table, and on no other: a text in one line, a block as many as it has

-- a field, by its number, has its line of a number on a line of the table, in a step that begins on another
abbrev pub lines_after : StepKind → Layout → ℕ
lines_after (steps.Row r) l = lines_of (tall l r)
lines_after (steps.Bars r lines) l = lines
lines_after kind l = 1

abbrev pub StandsBeside : Layout → StepKind → ℕ → Type 0
StandsBeside l (steps.Row r) n = cell_number l.grid r (cell_of l.grid n).first ≡ n
StandsBeside l (steps.Bars r lines) n = cell_number l.grid r (cell_of l.grid n).first ≡ n
StandsBeside l (steps.Rule above below) n = goes_over_rule l above below n (cell_of l.grid n).first ≡ true
StandsBeside l kind n = ⊥

pub record StandsOn (l : Layout) (s on n k : ℕ) : Type 0 where
  pub there : s < length l.steps.items
  pub after : (step l s).line ≤ on
  pub before : on < (step l s).line + lines_after (step l s).kind l
  pub beside : StandsBeside l (step l s).kind n
  pub line : on ≡ begin_line l n + k

pub record StandsOnce (l : Layout) (n k : ℕ) : Type 0 where
  pub which : ℕ
  pub on : ℕ
  pub there : StandsOn l which on n k
  pub only : (s o : ℕ) → StandsOn l s o n k → (s ≡ which) × (o ≡ on)

-- rows stand below one another in their order
pub record IsRead (t : Table) : Type 0 where
  pub among : (r : ℕ) → r < length t.rows.items → (i : ℕ) × (i < length t.items.items) × (item t i ≡ items.Row r)
  pub held : (i r : ℕ) → i < length t.items.items → item t i ≡ items.Row r → r < length t.rows.items
  pub order : (i j r s : ℕ) → i < j → j < length t.items.items → item t i ≡ items.Row r → item t j ≡ items.Row s → r < s

-- there is room: for a field in each column of each row, for each row and each field, and for four lines an item; and lines can be counted
pub record HasRoom (l : Layout) (ends : Bool) : Type 0 where
  pub numbers : length l.grid.table.rows.items * columns (columns_opened l).grid ≤ l.grid.numbers.capacity
  pub small : l.grid.numbers.capacity ≤ 18446744073709551615
  pub placed : length l.grid.table.rows.items ≤ l.grid.placed.capacity
  pub talls : length l.grid.table.rows.items ≤ l.talls.capacity
  pub begins : length (ready l).grid.cells.items ≤ l.begins.capacity
  pub steps : 4 * length l.grid.table.items.items + 4 ≤ l.steps.capacity
  pub lines : all_lines ends (ready l) < 18446744073709551615

abbrev pub FieldsStandOnce : Type 0
FieldsStandOnce =
    (l : Layout) (ends : Bool) (n k : ℕ) → IsRead l.grid.table → HasRoom l ends → n < length (ready l).grid.cells.items
    → k < height_of (ready l).grid (cell_of (ready l).grid n) → StandsOnce (laid ends (ready l)) n k

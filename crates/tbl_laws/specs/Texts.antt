-- Each field's text goes out once, and in the order of columns (Lesk, "Data"; tbl(1), "Table data"): among
-- the strokes of a line stand the texts of the fields that stand on it, of blocks the text of one of their
-- lines, and no others; and they stand in its bytes, one after the other.
use Rattle.std.specs.Prelude.{◌≡◌, ℕ, zero, suc, ◌-◌, Bool, ◌==◌, ◌&&◌, nat_le, List, [], ◌∷◌, ◌++◌, Option}
use Rattle.std.specs.Prelude.{None, Some, if◌then◌else◌}
use Rattle.tbl_blocks.specs.declared.parts.Line.{Line}
use Rattle.tbl_columns.specs.declared.grid.Block.{Block}
use Rattle.tbl_columns.specs.declared.grid.Cell.{Cell}
use Rattle.tbl_columns.specs.Frames.{is_covered}
use Rattle.tbl_columns.specs.Held.{block_of, cell_number, cell_of, columns}
use Rattle.tbl_columns.specs.Texts.{line_in_row}
use Rattle.tbl_drawing.specs.declared.layout.Layout.{Layout}
use Rattle.tbl_drawing.specs.declared.pen.Pen.{Pen}
use Rattle.tbl_drawing.specs.Drawing.{bars_strokes, edge_strokes, field_text, has_letters, line_text}
use Rattle.tbl_drawing.specs.Drawing.{row_strokes, rule_strokes, whole}
use Rattle.tbl_drawing.specs.Held.{begin_line}
use Rattle.tbl_drawing.specs.Pens.{Stroke, Text, bytes_of}
use Rattle.tbl_table.specs.Held.{has_text, is_rule}

-- ---- the texts of fields that strokes draw, in their order

abbrev pub text_in : Stroke → List (List ℕ)
text_in (Text text) = text ∷ []
text_in stroke = []

abbrev pub texts : List Stroke → List (List ℕ)
texts [] = []
texts (s ∷ ss) = text_in s ++ texts ss

-- texts stand in bytes, one after the other
abbrev pub StandIn : List (List ℕ) → List ℕ → Type 0
StandIn [] bytes = Unit {0}
StandIn (text ∷ more) bytes = (before : List ℕ) × (after : List ℕ) × (bytes ≡ before ++ text ++ after)
    × StandIn more after

-- ---- the texts of the fields of a line

-- of the first columns
abbrev pub each : ℕ → (ℕ → List (List ℕ)) → List (List ℕ)
each zero text = []
each (suc c) text = each c text ++ text c

abbrev pub text_if : Bool → List ℕ → List (List ℕ)
text_if stands text = if stands then text ∷ [] else []

-- of a block the line of that number, from where it begins
abbrev pub line_of : Option Line → Layout → List (List ℕ)
line_of None l = []
line_of (Some line) l = text_if (has_letters l line) (line_text l line)

abbrev pub block_text : Layout → Block → ℕ → ℕ → List (List ℕ)
block_text l b first line = if nat_le first line then line_of (line_in_row l.grid b (line - first)) l else []

-- a field in one line stands in its row; one that goes on over rows below, on one of their lines
abbrev pub stands : Layout → ℕ → ℕ → Cell → ℕ → Bool
stands l r n f line = if f.falls then begin_line l n == line else f.top == r

abbrev pub own_text : Option Block → Layout → ℕ → ℕ → Cell → ℕ → List (List ℕ)
own_text None l r n f line = text_if (stands l r n f line && has_text f.field) (field_text l f)
own_text (Some b) l r n f line = block_text l b (begin_line l n) line

-- in the column where it begins; a rule has no text
abbrev pub text_at : Layout → ℕ → ℕ → ℕ → List (List ℕ)
text_at l r line c =
    let n = cell_number l.grid r c in
    let f = cell_of l.grid n in
    if is_rule f.field.form && (f.top == r) then [] else
    if f.first == c then own_text (block_of l.grid f) l r n f line else []

abbrev pub row_texts : Layout → ℕ → ℕ → List (List ℕ)
row_texts l r line = each (columns l.grid) (text_at l r line)

-- beside the bars of a row alone, and over a rule, stand only fields that go on, and lines of blocks
abbrev pub other_text : Option Block → Layout → ℕ → Cell → ℕ → List (List ℕ)
other_text None l n f line = text_if ((f.falls && (begin_line l n == line)) && has_text f.field) (field_text l f)
other_text (Some b) l n f line = block_text l b (begin_line l n) line

abbrev pub falling_text : Layout → ℕ → ℕ → ℕ → List (List ℕ)
falling_text l r line c =
    let n = cell_number l.grid r c in
    let f = cell_of l.grid n in
    if f.first == c then other_text (block_of l.grid f) l n f line else []

abbrev pub bars_texts : Layout → ℕ → ℕ → List (List ℕ)
bars_texts l r line = each (columns l.grid) (falling_text l r line)

abbrev pub text_over : Layout → Option ℕ → Option ℕ → ℕ → ℕ → List (List ℕ)
text_over l above None line c = []
text_over l above (Some r) line c = if is_covered l.grid above (Some r) c then falling_text l r line c else []

abbrev pub rule_texts : Layout → Option ℕ → Option ℕ → ℕ → List (List ℕ)
rule_texts l above below line = each (columns l.grid) (text_over l above below line)

-- ---- the law

abbrev pub RowsHaveTheirTexts : Type 0
RowsHaveTheirTexts = (l : Layout) (r line : ℕ) → texts (whole (row_strokes l r line)) ≡ row_texts l r line

abbrev pub BarsHaveTheirTexts : Type 0
BarsHaveTheirTexts = (l : Layout) (r line : ℕ) → texts (whole (bars_strokes l r line)) ≡ bars_texts l r line

abbrev pub RulesHaveTheirTexts : Type 0
RulesHaveTheirTexts =
    (l : Layout) (above below : Option ℕ) (line : ℕ)
    → texts (whole (rule_strokes l above below line)) ≡ rule_texts l above below line

abbrev pub EdgesHaveNone : Type 0
EdgesHaveNone = (l : Layout) (above : Bool) → texts (whole (edge_strokes l above)) ≡ []

abbrev pub TextsGoOut : Type 0
TextsGoOut = (strokes : List Stroke) (pen : Pen) → StandIn (texts strokes) (bytes_of strokes pen)

-- The texts of fields among the strokes of a line.
use Rattle.std.proofs.Common.{◌≡◌, ℕ, zero, suc, ◌-◌, Bool, true, false, ◌==◌, ◌&&◌, ◌||◌, not, nat_le, nat_lt, List, [], ◌∷◌, ◌++◌, refl, sym, ap, ◌∙◌, append_assoc, append-nil, if◌then◌else◌}
use Rattle.std.specs.Prelude.{None, Option, Some}
use Rattle.tbl_blocks.specs.declared.parts.Line.{Line}
use Rattle.tbl_columns.specs.declared.grid.Block.{Block}
use Rattle.tbl_columns.specs.declared.grid.Cell.{Cell}
use Rattle.tbl_columns.specs.Columns.{is_given}
use Rattle.tbl_columns.specs.Frames.{bar_place, bars_of, bars_seen, is_covered, is_ruled, meeting, table_end, was_ruled}
use Rattle.tbl_columns.specs.Held.{block_in, block_of, cell_number, cell_of, column, columns, text}
use Rattle.tbl_columns.specs.Texts.{line_in_row}
use Rattle.tbl_drawing.specs.declared.layout.Layout.{Layout}
use Rattle.tbl_drawing.specs.declared.pen.Pen.{Pen}
use Rattle.tbl_drawing.specs.Drawing.{bar, bar_byte, bars_as, bars_cell, bars_cells, bars_strokes, block_strokes, column_rule, column_rule_end, content, crossing, crossing_begin, crossing_byte, dash, edge_strokes, ends_covered, falling, field_in, field_strokes, field_text, go, goes_on, going_on, has_letters, line_in, line_strokes, line_text, on_line, row_bar, row_cell, row_cells, row_strokes, rule_begin, rule_cell, rule_cells, rule_end, rule_stop, rule_strokes, some_crossing, text_in as field_or_other, text_strokes, turned, turning, was_covered, whole}
use Rattle.tbl_drawing.specs.Held.{begin_line}
use Rattle.tbl_drawing.specs.Pens as pens
use Rattle.tbl_drawing.specs.Pens.{Stroke, Text, To, after, bytes, bytes_of}
use Rattle.tbl_table.specs.declared.table.Form.{Form}
use Rattle.tbl_table.specs.declared.table.Form.TheVariants as forms
use Rattle.tbl_table.specs.Held.{has_text, is_rule, is_text}
use Rattle.tbl_table.specs.Signs.{joint}
use Rattle.tbl_table.specs.Sums.{sum}
use Rattle.tbl_laws.specs.Texts.{BarsHaveTheirTexts, EdgesHaveNone, RowsHaveTheirTexts, RulesHaveTheirTexts, StandIn, TextsGoOut, bars_texts, block_text, each, falling_text, line_of, other_text, own_text, row_texts, rule_texts, text_at, text_if, text_in, text_over, texts}

-- ---- strokes after others

texts-append : (ss ts : List Stroke) → texts (ss ++ ts) ≡ texts ss ++ texts ts
texts-append [] ts = refl
texts-append (s ∷ ss) ts = ap (λ l. text_in s ++ l) (texts-append ss ts) ∙ sym (append_assoc (text_in s) (texts ss) (texts ts))

after_none : (ss ts : List Stroke) → texts ss ≡ [] → texts (ss ++ ts) ≡ texts ts
after_none ss ts none = texts-append ss ts ∙ ap (λ l. l ++ texts ts) none

before_none : (ss ts : List Stroke) → texts ts ≡ [] → texts (ss ++ ts) ≡ texts ss
before_none ss ts none = texts-append ss ts ∙ ap (λ l. texts ss ++ l) none ∙ append-nil (texts ss)

either_none : (b : Bool) (ss ts : List Stroke) → texts ss ≡ [] → texts ts ≡ [] → texts (if b then ss else ts) ≡ []
either_none true ss ts p q = p
either_none false ss ts p q = q

whole-texts : (ss : List Stroke) → texts (whole ss) ≡ texts ss
whole-texts ss = before_none (pens.Start ∷ ss) pens.end refl

-- ---- frames have none

go-none : (l : Layout) (ruled : Bool) (place : ℕ) → texts (go l ruled place) ≡ []
go-none l true place = refl
go-none l false place = refl

bars_as-none : (l : Layout) (c byte : ℕ) (was : Bool) (n : ℕ) → texts (bars_as l c byte was n) ≡ []
bars_as-none l c byte was n = after_none (go l was (bar_place l.grid c)) (pens.bars byte n) (go-none l was (bar_place l.grid c))

bar-none : (l : Layout) (r c : ℕ) (was now : Bool) → texts (bar l r c was now) ≡ []
bar-none l r c was now =
    either_none (bars_of l.grid r c == 0) [] (bars_as l c (joint l.grid.table.signs true true was now) was (bars_of l.grid r c)) refl
    (bars_as-none l c (joint l.grid.table.signs true true was now) was (bars_of l.grid r c))

row_bar-none : (l : Layout) (r c : ℕ) (was now : Bool) → texts (row_bar l r c was now) ≡ []
row_bar-none l r c was now =
    either_none (bars_seen l.grid r c == 0) [] (bars_as l c (bar_byte l r was now) was (bars_seen l.grid r c)) refl
    (bars_as-none l c (bar_byte l r was now) was (bars_seen l.grid r c))

column_rule_end-none : (l : Layout) (r c : ℕ) → texts (column_rule_end l r c) ≡ []
column_rule_end-none l r c = either_none (goes_on l r c) [] (dash l (rule_stop l c)) refl refl

column_rule-none : (l : Layout) (r c : ℕ) → texts (column_rule l r c) ≡ []
column_rule-none l r c =
    before_none (rule_begin l r c ++ dash l (column l.grid c).right) (column_rule_end l r (sum c 1)) (column_rule_end-none l r (sum c 1))
    ∙ after_none (rule_begin l r c) (dash l (column l.grid c).right)
    (either_none (not (was_ruled l.grid r c) && (bars_seen l.grid r c == 0)) (To (bar_place l.grid c) ∷ []) [] refl refl)

crossing_begin-none : (l : Layout) (above below : Option ℕ) (c : ℕ) → texts (crossing_begin l above below c) ≡ []
crossing_begin-none l above below c =
    either_none (c == 0) [] (go l (not (was_covered l above below c)) (bar_place l.grid c)) refl (go-none l (not (was_covered l above below c)) (bar_place l.grid c))

some_crossing-none : (l : Layout) (above below : Option ℕ) (c n : ℕ) → texts (some_crossing l above below c n) ≡ []
some_crossing-none l above below c n =
    after_none (crossing_begin l above below c) (pens.bars (crossing_byte l above below c) n) (crossing_begin-none l above below c)

turned-none : (l : Layout) (c : ℕ) (was covered : Bool) → texts (turned l c was covered) ≡ []
turned-none l c false true = refl
turned-none l c true false = refl
turned-none l c true true = refl
turned-none l c false false = refl

crossing-none : (l : Layout) (above below : Option ℕ) (c : ℕ) → texts (crossing l above below c) ≡ []
crossing-none l above below c =
    either_none (meeting l.grid above below c == 0) (turning l above below c) (some_crossing l above below c (meeting l.grid above below c))
    (turned-none l c (was_covered l above below c) (is_covered l.grid above below c))
    (some_crossing-none l above below c (meeting l.grid above below c))

rule_end-none : (l : Layout) (above below : Option ℕ) → texts (rule_end l above below) ≡ []
rule_end-none l above below =
    either_none (meeting l.grid above below (columns l.grid) == 0) (go l (not (ends_covered l above below)) (sum (table_end l.grid) 1))
    (pens.bars (crossing_byte l above below (columns l.grid)) 1) (go-none l (not (ends_covered l above below)) (sum (table_end l.grid) 1)) refl

-- ---- a field has its own

-- strokes of this text alone, where it stands
some-text : (b : Bool) (ss : List Stroke) (ts : List (List ℕ)) → texts ss ≡ ts → texts (if b then ss else []) ≡ (if b then ts else [])
some-text true ss ts p = p
some-text false ss ts p = refl

no-text : (is more : Bool) (bs : List ℕ) → is ≡ false → [] ≡ text_if (is && more) bs
no-text true more bs h = cc
no-text false more bs h = refl

other-text : (form : Form) (l : Layout) (f : Cell) → form ≡ f.field.form → is_text form ≡ false → [] ≡ text_if (has_text f.field) (field_text l f)
other-text form l f e h = no-text (is_text f.field.form) (nat_lt f.field.span.start f.field.span.«end») (field_text l f) (ap is_text (sym e) ∙ h)

field_in-text : (form : Form) (l : Layout) (f : Cell) → form ≡ f.field.form → texts (field_in form l f) ≡ text_if (has_text f.field) (field_text l f)
field_in-text forms.Text l f e = some-text (has_text f.field) (text_strokes l f) (field_text l f ∷ []) refl
field_in-text forms.Rule l f e = other-text forms.Rule l f e refl
field_in-text forms.Inner l f e = other-text forms.Inner l f e refl
field_in-text (forms.Repeat b) l f e = other-text (forms.Repeat b) l f e refl
field_in-text forms.Above l f e = other-text forms.Above l f e refl
field_in-text forms.Block l f e = other-text forms.Block l f e refl

field-text : (l : Layout) (f : Cell) → texts (field_strokes l f) ≡ text_if (has_text f.field) (field_text l f)
field-text l f = field_in-text f.field.form l f refl

-- and where it goes on over rows below, on one line
if-both : (a b : Bool) (bs : List ℕ) → (if a then text_if b bs else []) ≡ text_if (a && b) bs
if-both true b bs = refl
if-both false b bs = refl

line_in-text : (o : Option Line) (l : Layout) (f : Cell) → texts (line_in o l f) ≡ line_of o l
line_in-text None l f = refl
line_in-text (Some line) l f = some-text (has_letters l line) (line_strokes l f line) (line_text l line ∷ []) refl

on_line-text : (o : Option Block) (l : Layout) (n : ℕ) (f : Cell) (line : ℕ) → texts (on_line o l n f line) ≡ other_text o l n f line
on_line-text None l n f line =
    some-text (f.falls && (begin_line l n == line)) (field_strokes l f) (text_if (has_text f.field) (field_text l f)) (field-text l f)
    ∙ if-both (f.falls && (begin_line l n == line)) (has_text f.field) (field_text l f)
on_line-text (Some b) l n f line =
    some-text (nat_le (begin_line l n) line) (block_strokes l f b (line - begin_line l n)) (line_of (line_in_row l.grid b (line - begin_line l n)) l)
    (line_in-text (line_in_row l.grid b (line - begin_line l n)) l f)

falling-text : (l : Layout) (r line c : ℕ) → texts (falling l r c line) ≡ falling_text l r line c
falling-text l r line c =
    let n = cell_number l.grid r c in
    let f = cell_of l.grid n in
    some-text (f.first == c) (on_line (block_of l.grid f) l n f line) (other_text (block_of l.grid f) l n f line) (on_line-text (block_of l.grid f) l n f line)

-- ---- a column of a row has that of the field that stands there

-- it begins in this row, and in this column; goes on over rows below, and stands on this line
in-line : (top here falls on has : Bool) (ss : List Stroke) (bs : List ℕ) → texts ss ≡ text_if has bs
    → texts (if top && here then (if falls then (if here then (if falls && on then ss else []) else []) else ss) else (if here then (if falls && on then ss else []) else []))
    ≡ (if here then text_if ((if falls then on else top) && has) bs else [])
in-line true true true true has ss bs s = s
in-line true true true false has ss bs s = refl
in-line true true false on has ss bs s = s
in-line true false falls on has ss bs s = refl
in-line false true true true has ss bs s = s
in-line false true true false has ss bs s = refl
in-line false true false on has ss bs s = refl
in-line false false falls on has ss bs s = refl

in-lines : (top here falls : Bool) (ss os : List Stroke) (ts : List (List ℕ)) → texts ss ≡ ts
    → texts (if top && here then (if falls || true then (if here then ss else []) else os) else (if here then ss else [])) ≡ (if here then ts else [])
in-lines true true true ss os ts s = s
in-lines true true false ss os ts s = s
in-lines true false falls ss os ts s = refl
in-lines false true falls ss os ts s = s
in-lines false false falls ss os ts s = refl

no_else : (falls : Bool) → (falls || false) ≡ falls
no_else true = refl
no_else false = refl

-- by what its block is
own-text : (o : Option ℕ) (l : Layout) (r line c n : ℕ) (f : Cell)
    → texts (if (f.top == r) && (f.first == c) then (if f.falls || is_given o then (if f.first == c then on_line (block_in l.grid o) l n f line else []) else field_strokes l f)
    else (if f.first == c then on_line (block_in l.grid o) l n f line else []))
    ≡ (if f.first == c then own_text (block_in l.grid o) l r n f line else [])
own-text None l r line c n f =
    ap (λ (b : Bool). texts (if (f.top == r) && (f.first == c) then (if b then (if f.first == c then on_line None l n f line else []) else field_strokes l f)
    else (if f.first == c then on_line None l n f line else []))) (no_else f.falls)
    ∙ in-line (f.top == r) (f.first == c) f.falls (begin_line l n == line) (has_text f.field) (field_strokes l f) (field_text l f) (field-text l f)
own-text (Some k) l r line c n f =
    in-lines (f.top == r) (f.first == c) f.falls (on_line (Some (text l.grid k)) l n f line) (field_strokes l f)
    (block_text l (text l.grid k) (begin_line l n) line) (on_line-text (Some (text l.grid k)) l n f line)

-- a rule has none
ruled-text : (b : Bool) (rs ss : List Stroke) (ts : List (List ℕ)) → texts rs ≡ [] → texts ss ≡ ts → texts (if b then rs else ss) ≡ (if b then [] else ts)
ruled-text true rs ss ts r s = r
ruled-text false rs ss ts r s = s

content-text : (l : Layout) (r line c : ℕ) → texts (content l r c line) ≡ text_at l r line c
content-text l r line c =
    let n = cell_number l.grid r c in
    let f = cell_of l.grid n in
    ruled-text (is_rule f.field.form && (f.top == r)) (column_rule l r c) (field_or_other l r c line f)
    (if f.first == c then own_text (block_of l.grid f) l r n f line else [])
    (column_rule-none l r c) (own-text f.block l r line c n f)

row_cell-text : (l : Layout) (r line c : ℕ) → texts (row_cell l r c line) ≡ text_at l r line c
row_cell-text l r line c =
    after_none (row_bar l r c (was_ruled l.grid r c) (is_ruled l.grid r c)) (content l r c line) (row_bar-none l r c (was_ruled l.grid r c) (is_ruled l.grid r c))
    ∙ content-text l r line c

-- ---- lines have those of their columns

both : (ss ts : List Stroke) (xs ys : List (List ℕ)) → texts ss ≡ xs → texts ts ≡ ys → texts (ss ++ ts) ≡ xs ++ ys
both ss ts xs ys p q = texts-append ss ts ∙ ap (λ l. l ++ texts ts) p ∙ ap (λ l. xs ++ l) q

row_cells-texts : (n : ℕ) (l : Layout) (r line : ℕ) → texts (row_cells n l r line) ≡ each n (text_at l r line)
row_cells-texts zero l r line = refl
row_cells-texts (suc c) l r line =
    both (row_cells c l r line) (row_cell l r c line) (each c (text_at l r line)) (text_at l r line c) (row_cells-texts c l r line) (row_cell-text l r line c)

row-texts : (l : Layout) (r line : ℕ) → texts (row_strokes l r line) ≡ row_texts l r line
row-texts l r line =
    let last = row_bar l r (columns l.grid) (was_ruled l.grid r (columns l.grid)) false in
    before_none (row_cells (columns l.grid) l r line) last (row_bar-none l r (columns l.grid) (was_ruled l.grid r (columns l.grid)) false)
    ∙ row_cells-texts (columns l.grid) l r line

bars_cell-text : (l : Layout) (r line c : ℕ) → texts (bars_cell l r c line) ≡ falling_text l r line c
bars_cell-text l r line c = after_none (bar l r c false false) (falling l r c line) (bar-none l r c false false) ∙ falling-text l r line c

bars_cells-texts : (n : ℕ) (l : Layout) (r line : ℕ) → texts (bars_cells n l r line) ≡ each n (falling_text l r line)
bars_cells-texts zero l r line = refl
bars_cells-texts (suc c) l r line =
    both (bars_cells c l r line) (bars_cell l r c line) (each c (falling_text l r line)) (falling_text l r line c) (bars_cells-texts c l r line) (bars_cell-text l r line c)

bars-texts : (l : Layout) (r line : ℕ) → texts (bars_strokes l r line) ≡ bars_texts l r line
bars-texts l r line =
    before_none (bars_cells (columns l.grid) l r line) (bar l r (columns l.grid) false false) (bar-none l r (columns l.grid) false false)
    ∙ bars_cells-texts (columns l.grid) l r line

over-text : (l : Layout) (above below : Option ℕ) (line c : ℕ) → texts (going_on l above below c line) ≡ text_over l above below line c
over-text l above None line c = refl
over-text l above (Some r) line c = some-text (is_covered l.grid above (Some r) c) (falling l r c line) (falling_text l r line c) (falling-text l r line c)

rule_cell-text : (l : Layout) (above below : Option ℕ) (line c : ℕ) → texts (rule_cell l above below c line) ≡ text_over l above below line c
rule_cell-text l above below line c =
    let last = go l (not (is_covered l.grid above below c)) (column l.grid c).right in
    before_none (crossing l above below c ++ going_on l above below c line) last (go-none l (not (is_covered l.grid above below c)) (column l.grid c).right)
    ∙ after_none (crossing l above below c) (going_on l above below c line) (crossing-none l above below c) ∙ over-text l above below line c

rule_cells-texts : (n : ℕ) (l : Layout) (above below : Option ℕ) (line : ℕ) → texts (rule_cells n l above below line) ≡ each n (text_over l above below line)
rule_cells-texts zero l above below line = refl
rule_cells-texts (suc c) l above below line =
    both (rule_cells c l above below line) (rule_cell l above below c line) (each c (text_over l above below line)) (text_over l above below line c)
    (rule_cells-texts c l above below line) (rule_cell-text l above below line c)

rule-texts : (l : Layout) (above below : Option ℕ) (line : ℕ) → texts (rule_strokes l above below line) ≡ rule_texts l above below line
rule-texts l above below line =
    let last : List Stroke = go l (not (ends_covered l above below)) (table_end l.grid) in
    before_none (rule_cells (columns l.grid) l above below line ++ last) (rule_end l above below) (rule_end-none l above below)
    ∙ before_none (rule_cells (columns l.grid) l above below line) last (go-none l (not (ends_covered l above below)) (table_end l.grid))
    ∙ rule_cells-texts (columns l.grid) l above below line

-- ---- texts in bytes

later : (ts : List (List ℕ)) (before after_it : List ℕ) → StandIn ts after_it → StandIn ts (before ++ after_it)
later [] before after_it h = tt
later (text ∷ more) before after_it h = (
  before ++ h.0,
  h.1,
  ap (λ l. before ++ l) h.2 ∙ sym (append_assoc before (h.0 ++ text) h.1) ∙ ap (λ l. l ++ h.1) (sym (append_assoc before h.0 text)),
  h.3,
)

stroke-stands : (s : Stroke) (p : Pen) (ts : List (List ℕ)) (after_it : List ℕ) → StandIn ts after_it → StandIn (text_in s ++ ts) (bytes s p ++ after_it)
stroke-stands (Text text) p ts after_it h = ([], after_it, refl, h)
stroke-stands s p ts after_it h = later ts (bytes s p) after_it h

texts-stand : (ss : List Stroke) (p : Pen) → StandIn (texts ss) (bytes_of ss p)
texts-stand [] p = tt
texts-stand (s ∷ ss) p = stroke-stands s p (texts ss) (bytes_of ss (after s p)) (texts-stand ss (after s p))

-- ---- the law

pub rows_have_their_texts : RowsHaveTheirTexts
rows_have_their_texts l r line = whole-texts (row_strokes l r line) ∙ row-texts l r line

pub bars_have_their_texts : BarsHaveTheirTexts
bars_have_their_texts l r line = whole-texts (bars_strokes l r line) ∙ bars-texts l r line

pub rules_have_their_texts : RulesHaveTheirTexts
rules_have_their_texts l above below line = whole-texts (rule_strokes l above below line) ∙ rule-texts l above below line

pub edges_have_none : EdgesHaveNone
edges_have_none l above = whole-texts (edge_strokes l above)

pub texts_go_out : TextsGoOut
texts_go_out = texts-stand

-- What goes out for a piece doesn't depend on where the pen stood before: each line begins anew.
use Rattle.std.proofs.Common.{◌≡◌, ℕ, zero, suc, ◌-◌, Bool, true, false, not, List, [], ◌∷◌, ◌++◌, length, codes, if◌then◌else◌, refl, ap, ◌∙◌}
use Rattle.tbl_columns.specs.Held.{placed}
use Rattle.tbl_drawing.specs.declared.layout.Layout.{Layout}
use Rattle.tbl_drawing.specs.declared.layout.StepKind.{StepKind}
use Rattle.tbl_drawing.specs.declared.layout.StepKind.TheVariants as steps
use Rattle.tbl_drawing.specs.declared.pen.Pen.{Pen}
use Rattle.tbl_drawing.specs.Drawing as drawing
use Rattle.tbl_drawing.specs.Heights.{all_lines}
use Rattle.tbl_drawing.specs.Held.{has_begun, step}
use Rattle.tbl_drawing.specs.Lines as lines
use Rattle.tbl_drawing.specs.Pens.{Stroke, Start, Bytes, Text, after_all, bytes_of, first}
use Rattle.tbl_drawing.specs.Sequences.{joined}
use Rattle.tbl_drawing.specs.Tables as tables
use Rattle.tbl_drawing.proofs.Tapes.{bytes_of-append}
use Rattle.tbl_reader.specs.declared.telling.Tell.{Tell}
use Rattle.tbl_reader.specs.declared.telling.Tell.TheVariants as tells
use Rattle.tbl_reader.specs.Telling.{Piece}
use Rattle.tbl_setting.specs.declared.setting.Setting.{Setting}
use Rattle.tbl_setting.specs.Held.{table, table_strokes}
use Rattle.tbl_setting.specs.Setting as setting
use Rattle.tbl_setting.specs.Stepping.{pieces_bytes}
use Rattle.tbl_setting.proofs.Pieces.{strokes-append}
use Rattle.tbl_table.specs.Held.{row}
use Rattle.tbl_table.specs.Rows.{is_full, is_tight}

-- up to the first line that begins only bytes go out
abbrev IsFree : List Stroke → Type 0
IsFree [] = Unit {0}
IsFree (Start ∷ ss) = Unit {0}
IsFree (Bytes bytes ∷ ss) = IsFree ss
IsFree (Text text ∷ ss) = IsFree ss
IsFree (s ∷ ss) = ⊥

-- wherever the pen stands, the same goes out
same_bytes : (ss : List Stroke) → IsFree ss → (p q : Pen) → bytes_of ss p ≡ bytes_of ss q
same_bytes [] f p q = refl
same_bytes (Start ∷ ss) f p q = refl
same_bytes (Bytes bytes ∷ ss) f p q = ap (λ (l : List ℕ). bytes ++ l) (same_bytes ss f p q)
same_bytes (Text text ∷ ss) f p q = ap (λ (l : List ℕ). text ++ l) (same_bytes ss f p q)
same_bytes (s ∷ ss) f p q = absurd f

both : (xs ys : List Stroke) → IsFree xs → IsFree ys → IsFree (xs ++ ys)
both [] ys f g = g
both (Start ∷ xs) ys f g = tt
both (Bytes bytes ∷ xs) ys f g = both xs ys f g
both (Text text ∷ xs) ys f g = both xs ys f g
both (s ∷ xs) ys f g = absurd f

either : (b : Bool) (xs ys : List Stroke) → IsFree xs → IsFree ys → IsFree (if b then xs else ys)
either true xs ys f g = f
either false xs ys f g = g

all_of : (n : ℕ) (given : ℕ → List Stroke) → ((k : ℕ) → IsFree (given k)) → IsFree (joined n given)
all_of zero given f = tt
all_of (suc n) given f = both (joined n given) (given n) (all_of n given f) (f n)

-- and then some bytes
ended : (xs : List Stroke) (bytes : List ℕ) → IsFree xs → IsFree (xs ++ Bytes bytes ∷ [])
ended xs bytes f = both xs (Bytes bytes ∷ []) f tt

-- ---- a table

beyond : (l : Layout) (r : ℕ) → IsFree (lines.beyond l r)
beyond l r =
    let from = (placed l.grid r).beyond in
    let count = (row l.grid.table r).«end» - from in
    ended (lines.all_outside l from count) (codes "\n") (all_of count (lines.next_outside l from) (λ k. tt))

bars_lines : (n : ℕ) (l : Layout) (r at : ℕ) → IsFree (drawing.bars_lines n l r at)
bars_lines zero l r at = tt
bars_lines (suc n) l r at = both (drawing.bars_lines n l r at) (drawing.bars_on l r at n) (bars_lines n l r at) tt

drawn_on : (l : Layout) (n : ℕ) (kind : StepKind) → IsFree (lines.drawn_on l n kind)
drawn_on l n (steps.Before r) = tt
drawn_on l n (steps.Beyond r) = beyond l r
drawn_on l n (steps.Request s) = tt
drawn_on l n (steps.Bars r count) = bars_lines count l r n
drawn_on l n (steps.Edge above) = tt
drawn_on l n (steps.Rule above below) = tt
drawn_on l n (steps.Row r) = tt

lines_free : (l : Layout) (opens : Bool) (n : ℕ) (ends : Bool) → IsFree (lines.lines_strokes l opens n ends)
lines_free l opens n ends =
    ended (lines.steps_strokes l) (lines.closing ends) (all_of (length l.steps.items) (lines.nth_strokes l) (λ k. drawn_on l (step l k).line (step l k).kind))

layout_free : (ends : Bool) (l : Layout) → IsFree (tables.table_strokes ends l)
layout_free ends l =
    let u = tables.ready l in
    let n = all_lines ends u in
    both (tables.columns_strokes l) (lines.lines_strokes (tables.laid ends u) (not u.measured) n ends)
    (either (tables.columns_stand l) [] (Bytes (lines.closing l.measured) ∷ []) tt tt)
    (lines_free (tables.laid ends u) (not u.measured) n ends)

table_free : (ends : Bool) (s : Setting) → IsFree (table_strokes ends s)
table_free ends s = layout_free ends s.layout

-- ---- by what is said

relief_free : (t : Setting) → IsFree (setting.relief t)
relief_free t = either (is_tight (table t)) (table_strokes false t) [] (table_free false t) tt

block_free : (text : List ℕ) (t : Setting) → IsFree (setting.block_strokes text t)
block_free [] t = tt
block_free (b ∷ bs) t =
    both (setting.room_strokes t) (setting.block_strokes bs (setting.block_byte b t))
    (either (is_full (table t)) (table_strokes false (setting.cut_off t)) [] (table_free false (setting.cut_off t)) tt)
    (block_free bs (setting.block_byte b t))

piece_free : (tell : Tell) (text : List ℕ) (t : Setting) → IsFree (setting.strokes_in tell text t)
piece_free (tells.Table line) text t = tt
piece_free (tells.Options options) text t = tt
piece_free tells.Formats text t = tt
piece_free (tells.Format called) text t = tt
piece_free tells.FormatsEnd text t = tt
piece_free (tells.Field prefix) text t = tt
piece_free (tells.Mark mark) text t = tt
piece_free tells.Block text t = tt
piece_free tells.BlockText text t = block_free text t
piece_free tells.BlockEnd text t = tt
piece_free tells.Row text t = relief_free (setting.line_set tells.Row text t)
piece_free tells.Rule text t = relief_free (setting.line_set tells.Rule text t)
piece_free tells.Request text t = relief_free (setting.line_set tells.Request text t)
piece_free tells.TableEnd text t = table_free true t
piece_free tells.Plain text t = ended (setting.begun_strokes t) setting.plain_begin (either (has_begun t.layout) (table_strokes true t) [] (table_free true t) tt)
piece_free tells.Pass text t = tt
piece_free tells.PlainEnd text t = tt
piece_free (tells.Wrong complaint) text t = tt

strokes_free : (ps : List Piece) (t : Setting) → IsFree (setting.strokes ps t)
strokes_free [] t = tt
strokes_free (p ∷ ps) t =
    both (setting.strokes_in p.tell p.text t) (setting.strokes ps (setting.set_in p.tell p.text t)) (piece_free p.tell p.text t)
    (strokes_free ps (setting.set_in p.tell p.text t))

-- pieces that are said after others
pub pieces_then : (ps qs : List Piece) (t : Setting) → pieces_bytes (ps ++ qs) t ≡ pieces_bytes ps t ++ pieces_bytes qs (setting.set ps t)
pieces_then ps qs t =
    let before = setting.strokes ps t in
    let after = setting.strokes qs (setting.set ps t) in
    ap (λ (l : List Stroke). bytes_of l first) (strokes-append ps qs t)
    ∙ bytes_of-append before after first
    ∙ ap (λ (l : List ℕ). bytes_of before first ++ l) (same_bytes after (strokes_free qs (setting.set ps t)) (after_all before first) first)

-- What is heard of a page stays in the room that was taken for it.
use Rattle.std.proofs.Common.{◌≡◌, ◌==◌, ◌||◌, ℕ, Bool, true, false, not, nat_lt, List, [], ◌∷◌, Option, None, Some, codes, refl, ap, ◌∙◌, if◌then◌else◌}
use Prim.Native.Char.{code}
use Rattle.nr_units.specs.declared.units.Scale.TheVariants.{Unit}
use Rattle.tbl_columns.specs.declared.grid.Grid.{Grid}
use Rattle.tbl_columns.specs.Held as grids
use Rattle.tbl_columns.specs.Registers.{list_eq}
use Rattle.tbl_drawing.specs.Held.{with_grid}
use Rattle.tbl_setting.proofs.Held.{grid_room, layout_room}
use Rattle.tbl_setting.specs.declared.requests.Macro.{Macro}
use Rattle.tbl_setting.specs.declared.requests.Macro.TheVariants as macros
use Rattle.tbl_setting.specs.declared.requests.Request.{Request}
use Rattle.tbl_setting.specs.declared.requests.Request.TheVariants as requests
use Rattle.tbl_setting.specs.declared.setting.Setting.{Setting}
use Rattle.tbl_setting.specs.declared.watching.Around.{Around}
use Rattle.tbl_setting.specs.declared.watching.Watch.{Watch}
use Rattle.tbl_setting.specs.Arguments.{accepted, argument, definition_at}
use Rattle.tbl_setting.specs.Conditions.{held_after, is_left_out}
use Rattle.tbl_blocks.specs.Words.{name_of, request_in}
use Rattle.tbl_setting.specs.Held.{emptied, page_heard, with_layout, with_watching}
use Rattle.tbl_setting.specs.Lengths.{length_in}
use Rattle.tbl_setting.specs.Margins.{or_number}
use Rattle.tbl_setting.specs.Papers.{column_said, count_said, gap_said, half, narrowed, paper_obeyed, part_of, whole, with_paper}
use Rattle.tbl_setting.specs.Requests.{request_of}
use Rattle.tbl_setting.specs.Watching.{Hearing, Watching, begins_control, begun, byte_heard, control_heard, definition_heard, done_heard, ends_copy, heard, hearing, is_text, line_ended, line_heard, nothing_known, obeyed_by, register_said, watching, with_held}
use Rattle.tbl_table.specs.Lists.{added}

-- whichever is chosen
either : {A B : Type 0} (f : A → B) (x : Bool) (s t : A) (v : B) → f s ≡ v → f t ≡ v → f (if x then s else t) ≡ v
either f true s t v first second = first
either f false s t v first second = second

-- what is left of it where a page begins
known : ℕ → Hearing → Around
known cells h = nothing_known cells h.around

left : ℕ → Watching → Watch
left cells s = begun cells s.watch

narrowed_same : (cells width : ℕ) (a : Around) → nothing_known cells (narrowed width a) ≡ nothing_known cells a
narrowed_same cells width a =
    either (nothing_known cells) (nat_lt width a.cells) (record a { cells = width; paper = record a.paper { whole = Some a.cells } }) a (nothing_known cells a) refl refl

paper_same : (cells : ℕ) (name : Macro) (text : List ℕ) (a : Around) → nothing_known cells (paper_obeyed name text a) ≡ nothing_known cells a
paper_same cells macros.Halves text a = narrowed_same cells (half (whole a).cells) (whole a)
paper_same cells macros.Columns text a = narrowed_same cells (column_said text (whole a).cells) (whole a)
paper_same cells macros.Parts text a =
    let p = record (whole a).paper { gap = gap_said text (whole a).paper } in
    narrowed_same cells (part_of (whole a).cells p.gap (count_said text)) (with_paper p (whole a))
paper_same cells macros.Whole text a = refl
paper_same cells macros.Quote text a = refl
paper_same cells macros.QuoteEnd text a = refl
paper_same cells macros.Cite text a = refl
paper_same cells macros.CiteEnd text a = refl

register_same : (cells : ℕ) (name : List ℕ) (said : Option ℕ) (a : Around) → nothing_known cells (register_said name said a) ≡ nothing_known cells a
register_same cells name said a =
    let line = record a { cells = or_number said a.cells } in
    let quote = with_paper (record a.paper { quote = said }) a in
    let part = with_paper (record a.paper { part = or_number said a.paper.part }) a in
    let none = nothing_known cells a in
    let parts : nothing_known cells (if list_eq name (codes "PI") then part else a) ≡ none = either (nothing_known cells) (list_eq name (codes "PI")) part a none refl refl in
    let quotes : nothing_known cells (if list_eq name (codes "QI") || list_eq name (codes "qi") then quote else if list_eq name (codes "PI") then part else a) ≡ none =
    either (nothing_known cells) (list_eq name (codes "QI") || list_eq name (codes "qi")) quote (if list_eq name (codes "PI") then part else a) none refl parts in
    either (nothing_known cells) (list_eq name (codes "LL")) line
    (if list_eq name (codes "QI") || list_eq name (codes "qi") then quote else if list_eq name (codes "PI") then part else a) none refl quotes

request_same : (cells : ℕ) (r : Request) (text : List ℕ) (h : Hearing) → known cells (obeyed_by r text h) ≡ known cells h
unfolding known
request_same cells requests.Title text h = refl
request_same cells requests.Section text h = refl
request_same cells requests.Paragraph text h = refl
request_same cells requests.Item text h = refl
request_same cells requests.Tagged text h = refl
request_same cells requests.Deeper text h = refl
request_same cells requests.Back text h = refl
request_same cells requests.Indent text h = refl
request_same cells requests.Ragged text h = refl
request_same cells requests.Adjust text h = refl
request_same cells requests.Length text h = refl
request_same cells requests.Copy text h = refl
request_same cells (requests.Paper name) text h =
    either (nothing_known cells) h.around.manual h.around (paper_obeyed name text h.around) (nothing_known cells h.around) refl (paper_same cells name text h.around)
request_same cells requests.Register text h = register_same cells (argument text 0) (length_in (argument text 1) Unit) h.around
request_same cells requests.Other text h = refl

done_same : (cells : ℕ) (line : List ℕ) (h : Hearing) → known cells (done_heard line h) ≡ known cells h
unfolding known
done_same cells line h = by_place (definition_at line)
  where
    by_place : (place : Option ℕ) → known cells (definition_heard place line h) ≡ known cells h
    by_place (Some place) = refl
    by_place None = request_same cells (request_of (name_of (accepted (request_in line)))) (accepted (request_in line)) h

control_same : (cells : ℕ) (line : List ℕ) (h : Hearing) → known cells (control_heard line h) ≡ known cells h
unfolding known
control_same cells line h =
    let next : Hearing = with_held (held_after (request_in line) h.around.held) h in
    either (known cells) (is_left_out (request_in line) h.around.held) next (done_heard line next) (known cells h) refl (done_same cells line next)

line_same : (cells : ℕ) (line : List ℕ) (h : Hearing) → known cells (line_heard line h) ≡ known cells h
unfolding known
line_same cells line h =
    either (known cells) h.around.copies (hearing (record h.around { copies = not (ends_copy line) }) h.grid) (if begins_control line then control_heard line h else h) (known cells h)
    refl
    (either (known cells) (begins_control line) (control_heard line h) h (known cells h) (control_same cells line h) refl)

ended_same : (cells : ℕ) (s : Watching) → left cells (line_ended s) ≡ left cells s
unfolding known left
ended_same cells s =
    ap (λ (a : Around). record (begun cells s.watch) { around = a }) (line_same cells s.watch.line.items (hearing s.watch.around s.grid))

byte_same : (cells b : ℕ) (s : Watching) → left cells (byte_heard b s) ≡ left cells s
unfolding left
byte_same cells b s =
    let more : Watching = watching (record s.watch { line = added b s.watch.line }) s.grid in
    either (left cells) (b == code "\n") (line_ended s) (if is_text s.watch.line.items then s else more) (left cells s)
    (ended_same cells s)
    (either (left cells) (is_text s.watch.line.items) s more (left cells s) refl refl)

text_same : (cells : ℕ) (text : List ℕ) (s : Watching) → left cells (heard text s) ≡ left cells s
text_same cells [] s = refl
text_same cells (b ∷ bs) s = text_same cells bs (byte_heard b s) ∙ byte_same cells b s

pub page_room : (s : Setting) (text : List ℕ) (w : Watch) (g : Grid) → watching w g ≡ heard text (watching s.watch s.layout.grid)
    → grids.emptied g ≡ grids.emptied s.layout.grid → emptied (with_watching (watching w g) s) ≡ emptied s
unfolding left
page_room s text w g is room =
    ap (λ (v : Watch). record (emptied (with_layout (with_grid g s.layout) s)) { watch = v })
    (ap (left s.cells) is ∙ text_same s.cells text (watching s.watch s.layout.grid))
    ∙ layout_room s (with_grid g s.layout) (grid_room s.layout g room)

pub page_value : (s : Setting) (text : List ℕ) (w : Watch) (g : Grid) → watching w g ≡ heard text (watching s.watch s.layout.grid)
    → with_watching (watching w g) s ≡ page_heard text s
page_value s text w g is = ap (λ (v : Watching). with_watching v s) is

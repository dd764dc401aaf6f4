-- Lines outside of tables change nothing of the table that is held, but for the strings, the registers and the line that are known of the page.
use Rattle.std.proofs.Common.{◌≡◌, ℕ, List, [], ◌∷◌, length, Bool, true, false, not, ◌==◌, ◌||◌, if◌then◌else◌, nat_lt, drop, refl, sym, ◌∙◌, ap, subst}
use Rattle.std.specs.Prelude.{None, Option, Some, ℤ}
use Prim.Native.Char.{code}
use Rattle.tbl_blocks.specs.Extents.{extent_of}
use Rattle.tbl_blocks.specs.declared.parts.Known.{Known}
use Rattle.tbl_columns.specs.declared.grid.Grid.{Grid}
use Rattle.tbl_columns.specs.Registers.{counted, number_in, register_set, set_in, set_to}
use Rattle.nr_units.specs.declared.units.Scale.TheVariants.{Unit as Units}
use Rattle.tbl_setting.specs.declared.requests.Request.{Request}
use Rattle.tbl_setting.specs.declared.requests.Request.TheVariants as requests
use Rattle.tbl_setting.specs.declared.setting.Setting.{Setting}
use Rattle.tbl_setting.specs.Arguments.{accepted, after_arguments, after_blanks, argument, argument_len, definition_at, first_argument}
use Rattle.tbl_setting.specs.Conditions.{held_after, is_left_out}
use Rattle.tbl_blocks.specs.Words.{name_of, request_in}
use Rattle.tbl_setting.specs.Requests.{request_of}
use Rattle.tbl_setting.specs.Watching.{Hearing, Watching, begins_control, byte_heard, control_heard, definition_heard, done_heard, ends_copy, heard, hearing, is_text, known_of, line_ended, line_heard, obeyed_by, register_heard, room_of, string_heard, string_number, string_of, string_set, watching, with_held}
use Rattle.tbl_setting.specs.Setting.{set}
use Rattle.tbl_setting.proofs.Pieces.{pass-set}
use Rattle.tbl_reader.specs.declared.telling.Tell.TheVariants as tells
use Rattle.tbl_reader.specs.Telling.{each}
use Rattle.tbl_table.specs.Lists.{added}

-- but for these all is as it was
pub record Knows (g h : Grid) : Type 0 where
  pub same : h ≡ record g { blocks = record g.blocks { strings = h.blocks.strings }; registers = h.registers; room = h.room }

knows_itself : (g : Grid) → Knows g g
knows_itself g = record { same = refl }

knows_then : (a b c : Grid) → Knows a b → Knows b c → Knows a c
knows_then a b c p q = record {
  same = q.same ∙ ap (λ (g : Grid). record g { blocks = record g.blocks { strings = c.blocks.strings }; registers = c.registers; room = c.room }) p.same;
}

knows_if : (b : Bool) (g x y : Grid) → Knows g x → Knows g y → Knows g (if b then x else y)
knows_if true g x y p q = p
knows_if false g x y p q = q

-- ---- strings and registers

string_known : (n : Option ℕ) (k : Known) (sure : Bool) (g : Grid) → Knows g (string_set n k sure g)
string_known (Some n) k sure g = record { same = refl }
string_known None k sure g = knows_if sure g (record g { blocks = record g.blocks { strings = added k g.blocks.strings } }) g (record { same = refl }) (knows_itself g)

strings_known : (text : List ℕ) (g : Grid) → Knows g (string_heard text g)
strings_known text g =
    let name = first_argument text in
    let said = string_of text (argument_len text) in
    let set = string_set (string_number name g.blocks.strings.items) (known_of name said g) (extent_of said g.blocks.strings.items).sure g in
    knows_if ((length name == 0) || nat_lt 32 (length name)) g g set (knows_itself g)
    (string_known (string_number name g.blocks.strings.items) (known_of name said g) (extent_of said g.blocks.strings.items).sure g)

counted_known : (name : List ℕ) (n : Option ℕ) (g : Grid) → Knows g (set_in name n g)
counted_known name None g = knows_itself g
counted_known name (Some n) g = record { same = refl }

value_known : (name : List ℕ) (value : Option ℤ) (g : Grid) → Knows g (set_to name value g)
value_known name None g = knows_itself g
value_known name (Some value) g = counted_known name (counted value) g

registers_known : (text : List ℕ) (h : Hearing) → Knows h.grid (register_heard text h).grid
registers_known text h =
    let name = argument text 0 in
    let said = after_arguments text 1 in
    let g = record h.grid { room = room_of false h.around } in
    knows_then h.grid g (register_set name said g) (record { same = refl })
    (knows_if ((length name == 0) || nat_lt 32 (length name)) g g (set_to name (number_in g said Units) g) (knows_itself g)
    (value_known name (number_in g said Units) g))

-- ---- lines

request_known : (request : Request) (text : List ℕ) (h : Hearing) → Knows h.grid (obeyed_by request text h).grid
request_known requests.Register text h = registers_known text h
request_known requests.Title text h = knows_itself h.grid
request_known requests.Section text h = knows_itself h.grid
request_known requests.Paragraph text h = knows_itself h.grid
request_known requests.Item text h = knows_itself h.grid
request_known requests.Tagged text h = knows_itself h.grid
request_known requests.Deeper text h = knows_itself h.grid
request_known requests.Back text h = knows_itself h.grid
request_known requests.Indent text h = knows_itself h.grid
request_known requests.Ragged text h = knows_itself h.grid
request_known requests.Adjust text h = knows_itself h.grid
request_known requests.Length text h = knows_itself h.grid
request_known requests.Copy text h = knows_itself h.grid
request_known (requests.Paper name) text h = knows_itself h.grid
request_known requests.Other text h = knows_itself h.grid

definition_known : (place : Option ℕ) (line : List ℕ) (h : Hearing) → Knows h.grid (definition_heard place line h).grid
definition_known (Some place) line h = strings_known (after_blanks (drop place line)) h.grid
definition_known None line h = request_known (request_of (name_of (accepted (request_in line)))) (accepted (request_in line)) h

control_known : (line : List ℕ) (h : Hearing) → Knows h.grid (control_heard line h).grid
control_known line h = by_test (is_left_out (request_in line) h.around.held)
  where
    next : Hearing
    next = with_held (held_after (request_in line) h.around.held) h

    by_test : (left : Bool) → Knows h.grid (if left then next else done_heard line next).grid
    by_test true = knows_itself h.grid
    by_test false = definition_known (definition_at line) line next

line_known : (line : List ℕ) (h : Hearing) → Knows h.grid (line_heard line h).grid
line_known line h = by_tests h.around.copies (begins_control line)
  where
    copied : Hearing
    copied = hearing (record h.around { copies = not (ends_copy line) }) h.grid

    by_tests : (a b : Bool)
        → Knows h.grid (if a then copied else if b then control_heard line h else h).grid
    by_tests true b = knows_itself h.grid
    by_tests false true = control_known line h
    by_tests false false = knows_itself h.grid

byte_known : (b : ℕ) (s : Watching) → Knows s.grid (byte_heard b s).grid
byte_known b s = by_tests (b == code "\n") (is_text s.watch.line.items)
  where
    by_tests : (x y : Bool)
        → Knows s.grid (if x then line_ended s else if y then s else watching (record s.watch { line = added b s.watch.line }) s.grid).grid
    by_tests true y = line_known s.watch.line.items (hearing s.watch.around s.grid)
    by_tests false true = knows_itself s.grid
    by_tests false false = knows_itself s.grid

text_known : (text : List ℕ) (s : Watching) → Knows s.grid (heard text s).grid
text_known [] s = knows_itself s.grid
text_known (b ∷ bs) s = knows_then s.grid (byte_heard b s).grid (heard bs (byte_heard b s)).grid (byte_known b s) (text_known bs (byte_heard b s))

-- ---- the page

-- only what is known of the page is other
pub record Passed (s u : Setting) : Type 0 where
  pub knows : Knows s.layout.grid u.layout.grid
  pub same : u ≡ record s { layout = record s.layout { grid = u.layout.grid }; watch = u.watch }

pub text_passed : (text : List ℕ) (s : Setting) → Passed s (set (each tells.Pass text) s)
text_passed text s =
    subst (Passed s) (sym (pass-set text s)) (record { knows = text_known text (watching s.watch s.layout.grid); same = refl })

pub passed_then : (a b c : Setting) → Passed a b → Passed b c → Passed a c
passed_then a b c p q = record {
  knows = knows_then a.layout.grid b.layout.grid c.layout.grid p.knows q.knows;
  same = q.same ∙ ap (λ (s : Setting). record s { layout = record s.layout { grid = c.layout.grid }; watch = c.watch }) p.same;
}

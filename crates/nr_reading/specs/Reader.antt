-- What the reader does with an item, by its mode.
use Prim.Native.Char.{code}
use Rattle.std.specs.Prelude.{ℕ, ◌==◌, Bool, true, false, if◌then◌else◌}
use Rattle.nr_reading.specs.declared.next_item.NextItem.{NextItem}
use Rattle.nr_reading.specs.declared.next_item.NextItem.TheVariants as next_items
use Rattle.nr_reading.specs.declared.mode.Escape.{Escape}
use Rattle.nr_reading.specs.declared.mode.Escape.TheVariants as escapes
use Rattle.nr_reading.specs.declared.mode.Mode.{Mode}
use Rattle.nr_reading.specs.declared.mode.Mode.TheVariants as modes
use Rattle.nr_reading.specs.declared.mode.Reading.{Reading}
use Rattle.nr_reading.specs.declared.mode.Signs.{Signs}
use Rattle.nr_reading.specs.declared.notes.Notes.{Notes}
use Rattle.nr_reading.specs.Step.{Step}
use Rattle.nr_reading.specs.Control.{read_control, read_name, read_drop, read_request_blanks, read_request_line, read_macro_blanks, read_macro_gap, read_word, read_quoted, read_quote}
use Rattle.nr_reading.specs.Conditions.{read_condition, read_number, read_first, read_second}
use Rattle.nr_reading.specs.Definitions.{read_body_start, read_body, read_body_end, over_body_start}
use Rattle.nr_reading.specs.Skipping.{accepted, accepted_escape, skip, skip_escape, diverted, diverting}
use Rattle.nr_reading.specs.Step.{go}
use Rattle.nr_reading.specs.Strings.{read_string_before, read_string_name, read_string_blanks, read_string_text, read_transparent}
use Rattle.nr_reading.specs.Text.{start, leading, continued, text}
use Rattle.nr_reading.specs.TextEscape.{escaped, plain}
use Rattle.nr_reading.specs.Titles.{before_title, title, read_title_rest}

-- ---- copied elements

abbrev pub read_by : Mode → ℕ → Signs → Notes → Reading → Step
read_by modes.Control b s n r = read_control b r
read_by modes.Name b s n r = read_name b s.long n.name r
read_by modes.Drop b s n r = read_drop b r
read_by modes.TitleRest b s n r = read_title_rest b r
read_by modes.RequestBlanks b s n r = read_request_blanks b r
read_by modes.RequestLine b s n r = read_request_line b r
read_by modes.MacroBlanks b s n r = read_macro_blanks b r
read_by modes.MacroGap b s n r = read_macro_gap b r
read_by modes.Word b s n r = read_word b r
read_by modes.Quoted b s n r = read_quoted b r
read_by modes.Quote b s n r = read_quote b r
read_by modes.StringBefore b s n r = read_string_before b r
read_by modes.StringName b s n r = read_string_name b s.long n.name r
read_by modes.StringBlanks b s n r = read_string_blanks b r
read_by modes.StringText b s n r = read_string_text b r
read_by (modes.BodyStart held) b s n r = read_body_start b n.defining held r
read_by modes.Body b s n r = read_body b n.defining r
read_by modes.BodyEnd b s n r = read_body_end b r
read_by modes.Condition b s n r = read_condition b n.condition.negated r
read_by (modes.Number depth) b s n r = read_number b depth r
read_by (modes.First d) b s n r = read_first b d n.condition r
read_by (modes.Second d) b s n r = read_second b d n.condition r
read_by modes.Transparent b s n r = read_transparent b r
read_by m b s n r = go r

-- a copied element comes
abbrev pub read : ℕ → Signs → Notes → Reading → Step
read b s n r = read_by r.mode b s n r

-- A resume mark or the empty list acts as a newline; at the beginning of a definition's line it ends the definition.
abbrev pub read_over_by : Mode → Signs → Notes → Reading → Step
read_over_by (modes.BodyStart held) s n r = over_body_start n.defining held r
read_over_by m s n r = read_by m (code "\n") s n r

abbrev pub read_over : Signs → Notes → Reading → Step
read_over s n r = read_over_by r.mode s n r

-- ---- items as they are

abbrev pub unescaped : Mode → NextItem → Signs → Reading → Step
unescaped modes.Diverting f s r = diverting f s r
unescaped (modes.Leading n) f s r = leading f n r
unescaped modes.Continued f s r = continued f r
unescaped modes.Text f s r = text f r
unescaped modes.Interrupted f s r = text f r
unescaped modes.TitleBefore f s r = before_title f r
unescaped (modes.Title d n) f s r = title f d n r
unescaped modes.Diverted f s r = diverted f r
unescaped modes.Accepted f s r = accepted f r
unescaped (modes.Skip n) f s r = skip f n r
unescaped m f s r = start f s r

-- after a `\`
abbrev pub after_backslash : Mode → NextItem → Signs → Reading → Step
after_backslash modes.Accepted f s r = accepted_escape f r
after_backslash (modes.Skip n) f s r = skip_escape f n r
after_backslash m f s r = escaped f s.long r

-- a comment vanishes up to the newline, or what acts as one
abbrev pub ends_comment : NextItem → Bool
ends_comment next_items.Mark = false
ends_comment (next_items.Byte b) = b == code "\n"
ends_comment (next_items.Cell c) = false
ends_comment f = true

abbrev pub direct_by : Escape → NextItem → Signs → Reading → Step
direct_by escapes.Plain f s r = unescaped r.mode f s r
direct_by escapes.Begun f s r = after_backslash r.mode f s r
direct_by escapes.Comment f s r = if ends_comment f then unescaped r.mode f s (plain r) else go r

abbrev pub direct : NextItem → Signs → Reading → Step
direct f s r = direct_by r.escape f s r

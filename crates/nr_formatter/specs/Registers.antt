-- Registers. (CSTR 54, section 8, and its index of registers.)
use Rattle.std.specs.Prelude.{ℕ, ◌+◌, nat_lt, min, Bool, true, false, if◌then◌else◌, List, [], length, Option, None, Some, is_some, is_none, Result, Ok, Err, ℤ, pos}
use Rattle.nr_units.specs.declared.number_text.Format.{Format}
use Rattle.nr_units.specs.declared.number_text.Format.TheVariants.{Arabic}
use Rattle.nr_units.specs.NumberText.{number_text}
use Rattle.nr_symbol_tables.specs.Table.{find}
use Rattle.nr_store.specs.declared.element.Diversion.{Diversion}
use Rattle.nr_store.specs.Store.{afforded, charge_of, greatest, is_held, reading_bytes, register_of, registered, formatted, unregistered}
use Rattle.nr_store.specs.declared.refusal.StoredBytes.{StoredBytes}
use Rattle.nr_settings.specs.Arguments.{name_in}
use Rattle.nr_settings.specs.Numbers.{applied}
use Rattle.nr_settings.specs.Registers as lines
use Rattle.nr_settings.specs.declared.registers.RegisterChange.{RegisterChange}
use Rattle.nr_settings.specs.declared.registers.FormatChange.{FormatChange}
use Rattle.nr_reading.specs.declared.event.Event.TheVariants as events
use Rattle.nr_input.specs.declared.reader.Reader.{Reader}
use Rattle.nr_input.specs.declared.refusal.Refusal.{Refusal}
use Rattle.nr_input.specs.declared.refusal.Refusal.TheVariants as refusals
use Rattle.nr_input.specs.Acting.{idle}
use Rattle.nr_formatter.specs.declared.built_in.BuiltInRegister.{BuiltInRegister}
use Rattle.nr_formatter.specs.declared.built_in.BuiltInRegister.TheVariants as given
use Rattle.nr_formatter.specs.declared.paper.Given.{Given}
use Rattle.nr_formatter.specs.declared.formatter.Formatter.{Formatter}
use Rattle.nr_formatter.specs.Access.{line, long, asked, spacing, diversion}
use Rattle.nr_formatter.specs.BuiltIn.{given_named}
use Rattle.nr_formatter.specs.Places.{page_place, place_in, present_place, distance_below, diversion_room, to_read}

-- ---- texts that are spliced

-- a splice more since the last byte of the input
abbrev pub one_expansion : Reader → Reader
one_expansion r = record (idle r) { burst = r.burst + 1 }

-- a text comes before the rest of the input, and the arguments stay in force
abbrev pub spliced : List ℕ → Formatter → Formatter
spliced bytes f = record f { store = reading_bytes bytes f.store; reader = one_expansion f.reader }

-- A splice that comes to f is made, or names what is above its limit: what is stored, the levels, or the splices after a byte.
abbrev pub splice_checked : Formatter → Result (Unit {0}) Refusal
splice_checked f =
    if nat_lt f.store.limit (charge_of f.store) then Err refusals.Stored
    else (if nat_lt f.store.deepest (length f.store.levels) then Err refusals.Depth
    else (if nat_lt f.reader.most f.reader.burst then Err refusals.Expansions else Ok tt))

-- ---- values of built-in registers

-- to the next trap, or else to the bottom; in a diversion to its trap
abbrev pub distance : Formatter → ℕ
distance f = if is_some (diversion f) then diversion_room f else distance_below (page_place f.paper) f

abbrev pub number_of : Bool → ℤ
number_of false = pos 0
number_of true = pos 1

-- in u, where it is a length or a place
abbrev pub given_value : BuiltInRegister → Formatter → ℤ
given_value given.Page f = f.paper.number
given_value given.Place f = pos (page_place f.paper)
given_value given.Height f = f.given.height
given_value given.Width f = f.given.width
given_value given.Arguments f = pos (min greatest (length f.store.arguments))
given_value given.DiversionPlace f = present_place f
given_value given.Indent f = pos f.settings.indents.indent.value
given_value given.LineLength f = pos f.settings.indents.line_length.value
given_value given.Offset f = pos f.settings.indents.page_offset.value
given_value given.PageLength f = pos f.settings.pages.page_length
given_value given.Spacing f = pos (spacing f)
given_value given.TextWidth f = pos f.settings.text_width
given_value given.Distance f = pos (distance f)
given_value given.Fill f = number_of f.settings.filling.fill
given_value given.Diversion f = pos 0
given_value given.HorizontalUnit f = pos 24
given_value given.VerticalUnit f = pos 40
given_value given.Other f = pos 0

-- four of them have a format
abbrev pub given_format : BuiltInRegister → Given → Format
given_format given.Page g = g.page_format
given_format given.Place g = g.place_format
given_format given.Height g = g.height_format
given_format given.Width g = g.width_format
given_format r g = Arabic 1

-- ---- their texts

-- no diversion has the empty name
abbrev pub name_of : Option Diversion → List ℕ
name_of None = []
name_of (Some d) = d.name

-- `.z` is the name of the innermost diversion
abbrev pub given_text : BuiltInRegister → Formatter → List ℕ
given_text given.Diversion f = name_of (diversion f)
given_text r f = number_text (given_format r f.given) (given_value r f)

abbrev pub given_by : Option BuiltInRegister → Formatter → Formatter
given_by None f = f
given_by (Some r) f = spliced (given_text r f) f

-- the text of the built-in register that was asked for is spliced
abbrev pub given_register : Formatter → Formatter
given_register f = record (given_by (given_named (asked f)) f) { event = events.Nothing }

-- ---- setting registers

-- `%`, `dn` and `dl` can be set
abbrev pub given_set : BuiltInRegister → ℤ → Formatter → Formatter
given_set given.Page n f = record f { paper = record f.paper { number = n } }
given_set given.Height n f = record f { given = record f.given { height = n } }
given_set given.Width n f = record f { given = record f.given { width = n } }
given_set r n f = f

-- A value that a register doesn't hold changes nothing.
abbrev pub register_set_by : Option BuiltInRegister → List ℕ → ℤ → Option ℤ → Formatter → Formatter
register_set_by None name n step f = record f { store = registered name n step f.store }
register_set_by (Some r) name n step f = if is_held n then given_set r n f else f

-- a register takes a value, and a step where one is given
abbrev pub register_set : List ℕ → ℤ → Option ℤ → Formatter → Formatter
register_set name n step f = register_set_by (given_named name) name n step f

-- what setting it answers: a built-in register is never refused, and any other where it would be stored above the limit
abbrev pub set_checked_by : Option BuiltInRegister → List ℕ → ℤ → Option ℤ → Formatter
    → Result (Unit {0}) StoredBytes
set_checked_by None name n step f = afforded (registered name n step f.store) tt
set_checked_by (Some r) name n step f = Ok tt

abbrev pub set_checked : List ℕ → ℤ → Option ℤ → Formatter → Result (Unit {0}) StoredBytes
set_checked name n step f = set_checked_by (given_named name) name n step f

abbrev pub register_value_by : Option BuiltInRegister → List ℕ → Formatter → ℤ
register_value_by None name f = (register_of (find name f.store.registers)).value
register_value_by (Some r) name f = given_value r f

-- what a register holds
abbrev pub register_value : List ℕ → Formatter → ℤ
register_value name f = register_value_by (given_named name) name f

-- ---- requests

-- `.nr R ±N M`
abbrev pub register_changed : Option RegisterChange → Formatter → Formatter
register_changed None f = f
register_changed (Some c) f = register_set c.name (applied c.change (register_value c.name f)) c.step f

abbrev pub nr : Formatter → Formatter
nr f = register_changed (lines.nr (line f) (long f) (spacing f)) (to_read f)

-- what `.nr` answers: refused, where its register would be stored above the limit
abbrev pub change_checked : Option RegisterChange → Formatter → Result (Unit {0}) StoredBytes
change_checked None f = Ok tt
change_checked (Some c) f = set_checked c.name (applied c.change (register_value c.name f)) c.step f

abbrev pub nr_checked : Formatter → Result (Unit {0}) StoredBytes
nr_checked f = change_checked (lines.nr (line f) (long f) (spacing f)) (to_read f)

-- `.af R c`
abbrev pub given_formatted : BuiltInRegister → Format → Given → Given
given_formatted given.Page x g = record g { page_format = x }
given_formatted given.Place x g = record g { place_format = x }
given_formatted given.Height x g = record g { height_format = x }
given_formatted given.Width x g = record g { width_format = x }
given_formatted r x g = g

abbrev pub formatted_by : Option BuiltInRegister → List ℕ → Format → Formatter → Formatter
formatted_by None name x f = record f { store = formatted name x f.store }
formatted_by (Some r) name x f = record f { given = given_formatted r x f.given }

abbrev pub format_changed : Option FormatChange → Formatter → Formatter
format_changed None f = f
format_changed (Some c) f = formatted_by (given_named c.name) c.name c.format f

abbrev pub af : Formatter → Formatter
af f = format_changed (lines.af (line f) (long f)) (to_read f)

-- `.rr R`; a built-in register stays
abbrev pub register_removed : Option (List ℕ) → Formatter → Formatter
register_removed None f = f
register_removed (Some name) f =
    if is_none (given_named name) then record f { store = unregistered name f.store } else f

abbrev pub rr : Formatter → Formatter
rr f = register_removed (name_in (long f) (line f)) (to_read f)

-- `.mk R`: the present place into a register, or without R into the inner mark
abbrev pub place_marked : Option (List ℕ) → Formatter → Formatter
place_marked None f =
    record f
    { settings = record f.settings { pages = record f.settings.pages { mark = place_in (diversion f) f } } }
place_marked (Some name) f = register_set name (present_place f) None f

abbrev pub mk : Formatter → Formatter
mk f = place_marked (name_in (long f) (line f)) (to_read f)

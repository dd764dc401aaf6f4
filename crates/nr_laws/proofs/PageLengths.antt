-- A page is as high as a line at least, whatever move is made.
use Prim.Native.Char.{code}
use Rattle.std.specs.Prelude.{nat_lt, int_lt, is_none, not, ◌==◌, ◌&&◌, ◌||◌}
use Rattle.std.proofs.Common.{ℕ, zero, suc, ◌-◌, ◌+◌, ◌<◌, Bool, true, false, if◌then◌else◌, List, [], ◌∷◌, Option, None, Some, ℤ, pos, negsuc, arith}
use Rattle.nr_units.specs.Units.{nearest_multiple}
use Rattle.nr_vectors.specs.declared.cell.Cell.{Cell}
use Rattle.nr_units.specs.declared.units.Scale.TheVariants.{VerticalSpace, Point}
use Rattle.nr_units.specs.declared.number_text.Format.{Format}
use Rattle.nr_symbol_tables.specs.Table.{find}
use Rattle.nr_symbol_tables.specs.declared.trap.Trap.{Trap}
use Rattle.nr_store.specs.declared.element.Diversion.{Diversion}
use Rattle.nr_store.specs.declared.element.Element.{Element}
use Rattle.nr_store.specs.declared.request.Request.{Request}
use Rattle.nr_store.specs.declared.request.Request.TheVariants as requests
use Rattle.nr_store.specs.Store.{words, newest_diversion, diversion_ended, is_held, unregistered}
use Rattle.nr_settings.specs.Arguments.{name_in}
use Rattle.nr_settings.specs.Characters.{prints}
use Rattle.nr_settings.specs.Lengths.{held}
use Rattle.nr_settings.specs.Numbers.{applied, first_change, first_value}
use Rattle.nr_settings.specs.Pages as page_lines
use Rattle.nr_settings.specs.Registers as register_lines
use Rattle.nr_settings.specs.Spacing as space_lines
use Rattle.nr_settings.specs.Specials.{special_of}
use Rattle.nr_settings.specs.Traps as trap_lines
use Rattle.nr_settings.specs.declared.numbers.Change.{Change}
use Rattle.nr_settings.specs.declared.pages.Pages.{Pages}
use Rattle.nr_settings.specs.declared.registers.RegisterChange.{RegisterChange}
use Rattle.nr_settings.specs.declared.registers.FormatChange.{FormatChange}
use Rattle.nr_settings.specs.declared.specials.Special.{Special}
use Rattle.nr_settings.specs.declared.specials.Special.TheVariants as specials
use Rattle.nr_settings.specs.declared.traps.DiversionTrap.{DiversionTrap}
use Rattle.nr_settings.specs.declared.traps.DiversionTrap.TheVariants as diversion_traps
use Rattle.nr_settings.specs.declared.traps.PageTrap.{PageTrap}
use Rattle.nr_settings.specs.declared.traps.PageTrap.TheVariants as page_traps
use Rattle.nr_settings.specs.declared.traps.TrapMove.{TrapMove}
use Rattle.nr_reading.specs.declared.event.Event.{Event}
use Rattle.nr_reading.specs.declared.event.Event.TheVariants as events
use Rattle.nr_input.specs.Moving.{move as input_move}
use Rattle.nr_input.specs.declared.splicing.Definition.{Definition}
use Rattle.nr_input.specs.declared.splicing.Definition.TheVariants as definitions
use Rattle.nr_input.specs.declared.emitted.Emitted.{Emitted}
use Rattle.nr_input.specs.declared.emitted.Emitted.TheVariants as tells
use Rattle.nr_formatter.specs.declared.formatter.Formatter.{Formatter}
use Rattle.nr_formatter.specs.declared.built_in.BuiltInRegister.{BuiltInRegister}
use Rattle.nr_formatter.specs.declared.built_in.BuiltInRegister.TheVariants as given
use Rattle.nr_formatter.specs.declared.lines.Going.{Going}
use Rattle.nr_formatter.specs.declared.paper.Outlet.{Outlet}
use Rattle.nr_formatter.specs.declared.paper.Outlet.TheVariants as outlets
use Rattle.nr_formatter.specs.declared.paper.PageState.{PageState}
use Rattle.nr_formatter.specs.declared.paper.PageState.TheVariants as states
use Rattle.nr_formatter.specs.declared.tasks.After.{After}
use Rattle.nr_formatter.specs.declared.tasks.After.TheVariants as afters
use Rattle.nr_formatter.specs.declared.tasks.Ejected.{Ejected}
use Rattle.nr_formatter.specs.declared.tasks.Ejected.TheVariants as ejecteds
use Rattle.nr_formatter.specs.declared.tasks.Resume.{Resume}
use Rattle.nr_formatter.specs.declared.tasks.Room.{Room}
use Rattle.nr_formatter.specs.declared.tasks.Room.TheVariants as rooms
use Rattle.nr_formatter.specs.declared.tasks.Step.{Step}
use Rattle.nr_formatter.specs.declared.tasks.Step.TheVariants as steps
use Rattle.nr_formatter.specs.declared.tasks.Task.{Task}
use Rattle.nr_formatter.specs.declared.tasks.Task.TheVariants as tasks
use Rattle.nr_formatter.specs.declared.tasks.Then.{Then}
use Rattle.nr_formatter.specs.Access.{line, long, spacing, diversion, is_filling, asked, collected, done}
use Rattle.nr_formatter.specs.Diversions as diversions
use Rattle.nr_formatter.specs.Ending as ending
use Rattle.nr_formatter.specs.BuiltIn.{given_named}
use Rattle.nr_formatter.specs.Lines as lines
use Rattle.nr_formatter.specs.Moves as moves
use Rattle.nr_formatter.specs.Names as naming
use Rattle.nr_formatter.specs.Numbering as numbering
use Rattle.nr_formatter.specs.Pages as pages
use Rattle.nr_formatter.specs.Places.{is_diverting, is_open, outlet, present_place, page_place, distance_below, to_read}
use Rattle.nr_formatter.specs.Registers as registers
use Rattle.nr_formatter.specs.Requests.{act}
use Rattle.nr_formatter.specs.Spacing as spaces
use Rattle.nr_formatter.specs.Springing as springing
use Rattle.nr_formatter.specs.Text as texts
use Rattle.nr_formatter.specs.Titles as titles
use Rattle.nr_formatter.specs.Traps as traps
use Rattle.nr_machine.specs.State.{State, Choice, First, Register, plainly}
use Rattle.nr_machine.specs.Machine as machine

-- a page has a height
abbrev pub HasHeight : Formatter → Type 0
HasHeight f = 0 < f.settings.pages.page_length

-- one of two
either : (c : Bool) (f g : Formatter) → HasHeight f → HasHeight g → HasHeight (if c then f else g)
either true f g first second = first
either false f g first second = second

-- ---- `.pl`

held-pos : (n : ℤ) → 0 < held 40 32760 n
held-pos (pos n) = omega arith
held-pos (negsuc n) = omega arith

new_length-pos : (c : Option Change) (old : ℕ) → 0 < page_lines.new_length c old
new_length-pos None old = omega arith
new_length-pos (Some c) old = held-pos (nearest_multiple 40 (applied c (pos old)))

-- ---- words and text

word_ended : (f : Formatter) → HasHeight f → HasHeight (lines.word_ended f)
word_ended f h = h

broken_word : (f : Formatter) → HasHeight f → HasHeight (lines.break_word_end f)
broken_word f h = either (lines.reads_a_field f) (lines.field_ended f) (lines.word_ended f) h h

blank : (f : Formatter) → HasHeight f → HasHeight (texts.blank f)
unfolding texts.blank
blank f h = either (not (is_filling f)) (texts.blank_cell f) _ h (either (lines.reads_a_field f) (lines.field_ended f) (texts.gap_blank f) h h)

tab : (filler : Option ℕ) (f : Formatter) → HasHeight f → HasHeight (texts.tab filler f)
unfolding texts.tab
tab filler f h = either (lines.reads_a_field f) (lines.field_ended f) _ h h

text_byte : (b : ℕ) (f : Formatter) → HasHeight f → HasHeight (texts.text_byte b f)
unfolding texts.text_byte
text_byte b f h =
    either (b == code " ") (texts.blank f) _ (blank f h)
    (either (b == 9) (texts.tab f.settings.tabs.tab f) _ (tab f.settings.tabs.tab f h)
    (either (b == 1) (texts.tab f.settings.tabs.leader f) _ (tab f.settings.tabs.leader f h)
    (either (prints b) (texts.character b f) _ h h)))

special_at : (s : Option Special) (f : Formatter) → HasHeight f → HasHeight (texts.special_at s f)
special_at None f h = h
special_at (Some specials.Hyphen) f h = h
special_at (Some specials.Dash) f h = h
special_at (Some s) f h = h

special : (f : Formatter) → HasHeight f → HasHeight (texts.special f)
unfolding texts.special
special f h = special_at (special_of (asked f)) f h

trimmed : (after : After) (f : Formatter) → HasHeight f → HasHeight (texts.trimmed_end after f)
trimmed after f h = either (lines.reads_a_field f) (lines.field_ended f) (texts.word_line_ended after f) h h

line_end : (after : After) (f : Formatter) → HasHeight f → HasHeight (texts.line_end after f)
unfolding texts.line_end
line_end after f h = trimmed after (texts.blanks_dropped f) (either (not (is_filling f)) _ f h h)

text_line_end : (f : Formatter) → HasHeight f → HasHeight (texts.text_line_end f)
unfolding texts.text_line_end
text_line_end f h = either (texts.joins_lines f) (done f) _ h (line_end afters.Line f h)

text : (e : Event) (f : Formatter) → HasHeight f → HasHeight (texts.text e f)
text (events.Byte b) f h = text_byte b f h
text events.Tab f h = tab f.settings.tabs.tab f h
text events.Leader f h = tab f.settings.tabs.leader f h
text events.Special f h = special f h
text events.EndLine f h = text_line_end f h
text events.EndContinued f h = line_end afters.Continued f h
text e f h = h

title_special : (s : Option Special) (f : Formatter) → HasHeight f → HasHeight (titles.title_special s f)
title_special None f h = h
title_special (Some specials.Dash) f h = h
title_special (Some s) f h = h

title : (e : Event) (f : Formatter) → HasHeight f → HasHeight (titles.title e f)
title events.Special f h = title_special (special_of (asked f)) f h
title e f h = h

-- ---- what was read

given_by : (r : Option BuiltInRegister) (f : Formatter) → HasHeight f → HasHeight (registers.given_by r f)
given_by None f h = h
given_by (Some r) f h = h

heard_beside : (e : Event) (f : Formatter) → HasHeight f → HasHeight (moves.heard_beside e f)
heard_beside events.Given f h = given_by (given_named (asked f)) f h
heard_beside (events.DivertedEnd None) f h = h
heard_beside (events.DivertedEnd (Some height)) f h = h
heard_beside e f h = h

heard : (e : Event) (f : Formatter) → HasHeight f → HasHeight (moves.heard e f)
heard e f h =
    either (moves.is_text e) (moves.text_heard e f) (moves.heard_beside e f)
    (either (titles.reads_title f) (titles.title e f) (texts.text e f) (title e f h) (text e f h)) (heard_beside e f h)

-- ---- springing

sprung_text : (name : List ℕ) (t : Option (List Element)) (f : Formatter) → HasHeight f → HasHeight (springing.sprung_text name t f)
sprung_text name None f h = h
sprung_text name (Some t) f h = h

sprung : (name : List ℕ) (f : Formatter) → HasHeight f → HasHeight (springing.sprung name f)
sprung name f h = sprung_text name (words (find name f.store.names)) f h

-- ---- registers

given_set : (r : BuiltInRegister) (n : ℤ) (f : Formatter) → HasHeight f → HasHeight (registers.given_set r n f)
given_set given.Page n f h = h
given_set given.Height n f h = h
given_set given.Width n f h = h
given_set r n f h = h

register_set_by : (r : Option BuiltInRegister) (name : List ℕ) (n : ℤ) (step : Option ℤ) (f : Formatter) → HasHeight f → HasHeight (registers.register_set_by r name n step f)
register_set_by None name n step f h = h
register_set_by (Some r) name n step f h = either (is_held n) (registers.given_set r n f) f (given_set r n f h) h

register_set : (name : List ℕ) (n : ℤ) (step : Option ℤ) (f : Formatter) → HasHeight f → HasHeight (registers.register_set name n step f)
register_set name n step f h = register_set_by (given_named name) name n step f h

register_changed : (c : Option RegisterChange) (f : Formatter) → HasHeight f → HasHeight (registers.register_changed c f)
register_changed None f h = h
register_changed (Some c) f h = register_set c.name (applied c.change (registers.register_value c.name f)) c.step f h

formatted_by : (r : Option BuiltInRegister) (name : List ℕ) (x : Format) (f : Formatter) → HasHeight f → HasHeight (registers.formatted_by r name x f)
formatted_by None name x f h = h
formatted_by (Some r) name x f h = h

format_changed : (c : Option FormatChange) (f : Formatter) → HasHeight f → HasHeight (registers.format_changed c f)
format_changed None f h = h
format_changed (Some c) f h = formatted_by (given_named c.name) c.name c.format f h

register_removed : (name : Option (List ℕ)) (f : Formatter) → HasHeight f → HasHeight (registers.register_removed name f)
register_removed None f h = h
register_removed (Some name) f h = either (is_none (given_named name)) (record f { store = unregistered name f.store }) f h h

place_marked : (name : Option (List ℕ)) (f : Formatter) → HasHeight f → HasHeight (registers.place_marked name f)
place_marked None f h = h
place_marked (Some name) f h = register_set name (present_place f) None f h

-- ---- names, traps and diversions

without_name : (name : Option (List ℕ)) (f : Formatter) → HasHeight f → HasHeight (naming.without_name name f)
without_name None f h = h
without_name (Some name) f h = h

with_renamed : (from to : Option (List ℕ)) (f : Formatter) → HasHeight f → HasHeight (naming.with_renamed from to f)
with_renamed None to f h = h
with_renamed (Some from) None f h = h
with_renamed (Some from) (Some to) f h = h

named_definition : (d : Definition) (name : Option (List ℕ)) (f : Formatter) → HasHeight f → HasHeight (naming.defined_as d name f)
named_definition d None f h = h
named_definition d (Some name) f h = h

with_page_trap : (t : PageTrap) (f : Formatter) → HasHeight f → HasHeight (traps.with_page_trap t f)
with_page_trap (page_traps.Plant place name) f h = h
with_page_trap (page_traps.Remove place) f h = h
with_page_trap page_traps.Nothing f h = h

with_trap_moved : (t : Option TrapMove) (f : Formatter) → HasHeight f → HasHeight (traps.with_trap_moved t f)
with_trap_moved None f h = h
with_trap_moved (Some t) f h = h

with_diversion_trap : (t : DiversionTrap) (f : Formatter) → HasHeight f → HasHeight (diversions.with_diversion_trap t f)
with_diversion_trap (diversion_traps.Set place name) f h = h
with_diversion_trap diversion_traps.Remove f h = h
with_diversion_trap diversion_traps.Nothing f h = h

measured : (d : Option Diversion) (f : Formatter) → HasHeight f → HasHeight (diversions.measured d f)
measured None f h = h
measured (Some d) f h = h

end_diversion : (f : Formatter) → HasHeight f → HasHeight (diversions.end_diversion f)
end_diversion f h = measured (newest_diversion f.store.building) (record f { store = diversion_ended f.store }) h

divert_to : (name : Option (List ℕ)) (f : Formatter) → HasHeight f → HasHeight (diversions.divert_to name f)
divert_to None f h = end_diversion f h
divert_to (Some name) f h = h

append_to : (name : Option (List ℕ)) (f : Formatter) → HasHeight f → HasHeight (diversions.append_to name f)
append_to None f h = end_diversion f h
append_to (Some name) f h = h

-- ---- space and pages

spaced_up : (n : ℕ) (f : Formatter) → HasHeight f → HasHeight (spaces.spaced_up n f)
spaced_up n f h =
    either (spaces.is_on_page (outlet f) && not f.settings.pages.no_space) (record f { paper = record f.paper { place = f.paper.place - n } }) f h h

sp_by : (n : ℤ) (f : Formatter) → HasHeight f → HasHeight (spaces.sp_by n f)
sp_by (pos n) f h = h
sp_by (negsuc n) f h = spaced_up (suc n) f h

needed : (below : ℕ) (n : ℤ) (f : Formatter) → HasHeight f → HasHeight (spaces.needed below n f)
needed below n f h = either (spaces.has_room (outlet f) && int_lt (pos below) n) (pages.moved_to (f.paper.place + below) f) f h h

returned : (n : ℤ) (f : Formatter) → HasHeight f → HasHeight (spaces.returned n f)
returned (pos n) f h = either (not (is_diverting (diversion f)) && nat_lt n (page_place f.paper)) (record f { paper = record f.paper { place = n } }) f h h
returned (negsuc n) f h = h

number_next : (n : Option ℤ) (f : Formatter) → HasHeight f → HasHeight (numbering.number_next n f)
number_next None f h = h
number_next (Some n) f h = h

numbered : (n : Option ℤ) (f : Formatter) → HasHeight f → HasHeight (numbering.numbered n f)
numbered None f h = h
numbered (Some n) f h = h

bp_at : (s : PageState) (n : Option ℤ) (f : Formatter) → HasHeight f → HasHeight (numbering.bp_at s n f)
bp_at states.Unbegun n f h = h
bp_at states.Open n f h = number_next n f h
bp_at states.Closed n f h = number_next n f h

with_spacing : (units : Option ℤ) (s : Pages) → 0 < s.page_length → 0 < (page_lines.with_spacing units s).page_length
with_spacing None s h = h
with_spacing (Some units) s h = h

-- ---- requests

acted : (r : Request) (f : Formatter) → HasHeight f → HasHeight (act r f)
acted requests.Af f h = format_changed (register_lines.af (line f) (long f)) (to_read f) h
acted requests.Am f h = named_definition definitions.Am (naming.first_name f) f h
acted requests.Bp f h = either (is_diverting (diversion f)) (to_read f) (numbering.bp_at f.paper.state (numbering.given_number f) f) h (bp_at f.paper.state (numbering.given_number f) f h)
acted requests.Ch f h = with_trap_moved (trap_lines.ch (line f) (long f) (spacing f) (present_place f)) f h
acted requests.Da f h = append_to (name_in (long f) (line f)) f h
acted requests.De f h = named_definition definitions.De (naming.first_name f) f h
acted requests.Di f h = divert_to (name_in (long f) (line f)) f h
acted requests.Dt f h = with_diversion_trap (trap_lines.dt (line f) (long f) (spacing f) (present_place f)) f h
acted requests.Mk f h = place_marked (name_in (long f) (line f)) (to_read f) h
acted requests.Ne f h = needed (distance_below f.paper.place f) (space_lines.ne (line f) (spacing f) (present_place f)) f h
acted requests.Nr f h = register_changed (register_lines.nr (line f) (long f) (spacing f)) (to_read f) h
acted requests.Pl f h = new_length-pos (first_change VerticalSpace (spacing f) (present_place f) (line f)) f.settings.pages.page_length
acted requests.Pn f h = numbered (numbering.given_number f) f h
acted requests.Rm f h = without_name (naming.first_name f) f h
acted requests.Rn f h = with_renamed (naming.first_name f) (naming.second_name f) f h
acted requests.Rr f h = register_removed (name_in (long f) (line f)) (to_read f) h
acted requests.Rt f h = returned (space_lines.rt (line f) (spacing f) (page_place f.paper) f.settings.pages.mark) f h
acted requests.Sp f h = sp_by (space_lines.sp (line f) (spacing f) (present_place f)) f h
acted requests.Vs f h = with_spacing (first_value Point (spacing f) (present_place f) (line f)) f.settings.pages h
acted requests.Wh f h = with_page_trap (trap_lines.wh (line f) (long f) (spacing f) (present_place f)) f h
acted r f h = h

-- ---- what is under way

finish_at : (s : Step) (f : Formatter) → HasHeight f → HasHeight (ending.finish_at s f)
finish_at steps.Diversions f h = either (is_diverting (newest_diversion f.store.building)) (diversions.end_diversion f) (ending.eject_last f) (end_diversion f h) h
finish_at s f h = h

turned : (g : Bool) (f : Formatter) → HasHeight f → HasHeight (pages.turned g f)
turned g f h =
    either (is_open f.paper.state && (g || not f.settings.pages.no_space)) (record f { paper = record f.paper { ejecting = true }; task = tasks.Eject ejecteds.Request }) (to_read f) h h

gone_on : (t : Task) (f : Formatter) → HasHeight f → HasHeight (moves.gone_on t f)
gone_on (tasks.Turn g) f h = turned g f h
gone_on tasks.Finish f h = finish_at f.step f h
gone_on t f h = h

worked : (t : Task) (f : Formatter) → HasHeight f → HasHeight (moves.worked t f)
worked tasks.Dash f h = either (titles.reads_title f) (titles.title_dash_end f) (texts.dash_end f) h h
worked (tasks.Act r) f h = acted r f h
worked t f h = gone_on t f h

-- ---- states

-- of two
one_of : (c : Bool) (s t : State) → HasHeight s.formatter → HasHeight t.formatter → HasHeight (if c then s else t).formatter
one_of true s t first second = first
one_of false s t first second = second

page_turned : (o : Outlet) (s : State) → HasHeight s.formatter → HasHeight (machine.turn_page o s).formatter
page_turned outlets.Full s h = h
page_turned o s h = h

line_put : (o : Outlet) (g : Going) (s : State) → HasHeight s.formatter → HasHeight (machine.put_line_to o g s).formatter
line_put outlets.Diversion g s h = h
line_put outlets.Room g s h = h
line_put o g s h = page_turned o s h

put : (g : Option Going) (done : Formatter → Formatter) (s : State) → HasHeight s.formatter → HasHeight (done s.formatter) → HasHeight (machine.put_or g done s).formatter
put None done s h after = after
put (Some g) done s h after = line_put (outlet s.formatter) g s h

broken : (t : Then) (s : State) → HasHeight s.formatter → HasHeight (machine.break_part t s).formatter
broken t s h =
    one_of (not (is_none (collected s.formatter).word)) (plainly lines.break_word_end s) _ (broken_word s.formatter h)
    (one_of (pages.begins_first_page t s.formatter) (machine.begin_page s) (machine.put_or (lines.break_line s.formatter) (lines.break_done t) s) h
    (put (lines.break_line s.formatter) (lines.break_done t) s h h))

room_made : (o : Outlet) (r : Room) (s : State) → HasHeight s.formatter → HasHeight (machine.room_in o r s).formatter
room_made outlets.Diversion rooms.Title s h = h
room_made outlets.Diversion rooms.Line s h = h
room_made outlets.Room rooms.Title s h = h
room_made outlets.Room rooms.Line s h = h
room_made o r s h = page_turned o s h

title_put : (o : Outlet) (s : State) → HasHeight s.formatter → HasHeight (machine.title_to o s).formatter
title_put outlets.Diversion s h = h
title_put outlets.Room s h = h
title_put o s h = page_turned o s h

cell_put : (o : Outlet) (x : Cell) (s : State) → HasHeight s.formatter → HasHeight (machine.cell_to o x s).formatter
cell_put outlets.Diversion x s h = h
cell_put o x s h = h

row_put : (o : Outlet) (n : ℕ) (s : State) → HasHeight s.formatter → HasHeight (machine.line_to o n s).formatter
row_put outlets.Diversion n s h = h
row_put outlets.Room n s h = h
row_put o n s h = page_turned o s h

space_made : (o : Outlet) (n : ℕ) (s : State) → HasHeight s.formatter → HasHeight (machine.space_to o n s).formatter
space_made outlets.Diversion n s h = h
space_made outlets.Room n s h = h
space_made o n s h = page_turned o s h

space_put : (n : ℕ) (s : State) → HasHeight s.formatter → HasHeight (machine.put_space n s).formatter
space_put n s h =
    one_of (spaces.is_spaceless n s.formatter) (plainly to_read s) (machine.space_to (outlet s.formatter) n s) h (space_made (outlet s.formatter) n s h)

ejected_at : (t : Option Trap) (s : State) → HasHeight s.formatter → HasHeight (machine.eject_to t s).formatter
ejected_at None s h = h
ejected_at (Some t) s h = sprung t.name _ h

ejected : (e : Ejected) (s : State) → HasHeight s.formatter → HasHeight (machine.eject e s).formatter
ejected e s h =
    one_of (pages.is_ejecting s.formatter) (machine.eject_to (pages.next_springing s.formatter) s) (plainly (λ f. record f { task = pages.task_ejected e }) s)
    (ejected_at (pages.next_springing s.formatter) s h) h

acted_on : (r : Request) (s : State) → HasHeight s.formatter → HasHeight (machine.act r s).formatter
acted_on requests.Ex s h = h
acted_on r s h = acted r s.formatter h

emitted : (t : Emitted Resume) (f : Formatter) → HasHeight f → HasHeight (machine.emitted t f)
emitted (tells.Event e) f h = h
emitted (tells.Resume k) f h = h

work : (t : Task) (s : State) → HasHeight s.formatter → HasHeight (machine.work t s).formatter
work tasks.Read s h = emitted (input_move (machine.situation_of s)).emitted _ h
work (tasks.Flow after breaks) s h = put (lines.flow_line after breaks s.formatter) (lines.flow_done after) s h h
work (tasks.Break t) s h = broken t (plainly machine.continues_none s) h
work (tasks.Act r) s h = acted_on r s h
work (tasks.Room r) s h = room_made (outlet s.formatter) r s h
work tasks.Title s h = title_put (outlet s.formatter) s h
work (tasks.Line n) s h = row_put (outlet s.formatter) n s h
work (tasks.Space n) s h = space_put n s h
work (tasks.Begin g) s h = h
work (tasks.Eject e) s h = ejected e s h
work tasks.Halted s h = h
work t s h = worked t s.formatter h

hear : (e : Event) (s : State) → HasHeight s.formatter → HasHeight (machine.hear e s).formatter
hear events.Nothing s h = work s.formatter.task s h
hear (events.DivertedCell x) s h = cell_put (outlet s.formatter) x s h
hear e s h = heard e s.formatter h

spring : (n : Option (List ℕ)) (s : State) → HasHeight s.formatter → HasHeight (machine.spring_or n s).formatter
spring None s h = hear s.formatter.event s h
spring (Some n) s h = sprung n s.formatter h

chosen : (c : Choice) (f : Formatter) → HasHeight f → HasHeight (machine.choose c f)
chosen (First n) f h = either (is_held n) (record f { paper = record f.paper { number = n } }) f h h
chosen (Register name n) f h = register_set (name ∷ []) n None f h

choose : (cs : List Choice) (s : State) → HasHeight s.formatter → HasHeight (machine.choose_or cs s).formatter
choose [] s h = spring s.formatter.springs s h
choose (c ∷ cs) s h = chosen c s.formatter h

stepped : (s : State) → HasHeight s.formatter → HasHeight (machine.step s).formatter
unfolding machine.step
stepped s h = choose s.chosen s h

pub height-after : (n : ℕ) (s : State) → HasHeight s.formatter → HasHeight (machine.state_after n s).formatter
height-after zero s h = h
height-after (suc n) s h = stepped (machine.state_after n s) (height-after n s h)

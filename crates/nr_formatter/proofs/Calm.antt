-- Requests, and what is read beside text, splice nothing.
use Rattle.std.proofs.Common.{ℕ, ◌≤◌, List, Bool, true, false, if◌then◌else◌, Option, Some, None, ℤ, pos, negsuc}
use Rattle.std.specs.Prelude.{◌&&◌, not, nat_lt, int_lt, is_none}
use Rattle.nr_store.specs.declared.request.Request.{Request}
use Rattle.nr_store.specs.declared.request.Request.TheVariants as requests
use Rattle.nr_store.specs.Store.{is_held}
use Rattle.nr_input.specs.declared.splicing.Definition.{Definition}
use Rattle.nr_input.specs.declared.splicing.Definition.TheVariants as definitions
use Rattle.nr_settings.specs.Arguments.{name_in}
use Rattle.nr_settings.specs.Numbers.{applied}
use Rattle.nr_settings.specs.Registers as register_lines
use Rattle.nr_settings.specs.Spacing as space_lines
use Rattle.nr_settings.specs.Traps as trap_lines
use Rattle.nr_settings.specs.declared.registers.RegisterChange.{RegisterChange}
use Rattle.nr_settings.specs.declared.registers.FormatChange.{FormatChange}
use Rattle.nr_settings.specs.declared.traps.PageTrap.{PageTrap}
use Rattle.nr_settings.specs.declared.traps.PageTrap.TheVariants as page_traps
use Rattle.nr_settings.specs.declared.traps.TrapMove.{TrapMove}
use Rattle.nr_units.specs.declared.number_text.Format.{Format}
use Rattle.nr_formatter.specs.declared.formatter.Formatter.{Formatter}
use Rattle.nr_formatter.specs.declared.built_in.BuiltInRegister.{BuiltInRegister}
use Rattle.nr_formatter.specs.declared.built_in.BuiltInRegister.TheVariants as given
use Rattle.nr_formatter.specs.declared.paper.PageState.{PageState}
use Rattle.nr_formatter.specs.declared.paper.PageState.TheVariants as states
use Rattle.nr_formatter.specs.Access.{line, long, spacing, diversion}
use Rattle.nr_formatter.specs.BuiltIn.{given_named}
use Rattle.nr_formatter.specs.Names as naming
use Rattle.nr_formatter.specs.Numbering as numbering
use Rattle.nr_formatter.specs.Places.{is_diverting, outlet, present_place, page_place, distance_below, to_read}
use Rattle.nr_formatter.specs.Registers as registers
use Rattle.nr_formatter.specs.Requests.{act}
use Rattle.nr_formatter.specs.Spacing as spaces
use Rattle.nr_formatter.specs.Traps as traps
use Rattle.nr_store.specs.declared.element.Diversion.{Diversion}
use Rattle.nr_store.specs.Store.{newest_diversion, diversion_ended}
use Rattle.nr_settings.specs.declared.traps.DiversionTrap.{DiversionTrap}
use Rattle.nr_settings.specs.declared.traps.DiversionTrap.TheVariants as diversion_traps
use Rattle.nr_formatter.specs.Diversions as diversions

-- the splices after the last byte are no more than they may be
abbrev pub IsCalm : Formatter → Type 0
IsCalm f = f.reader.burst ≤ f.reader.most

calm-if : (b : Bool) (g h : Formatter) → IsCalm g → IsCalm h → IsCalm (if b then g else h)
calm-if true g h k l = k
calm-if false g h k l = l

-- ---- registers

calm-given_set : (r : BuiltInRegister) (n : ℤ) (f : Formatter) → IsCalm f → IsCalm (registers.given_set r n f)
calm-given_set given.Page n f h = h
calm-given_set given.Height n f h = h
calm-given_set given.Width n f h = h
calm-given_set r n f h = h

calm-register_set_by : (r : Option BuiltInRegister) (name : List ℕ) (n : ℤ) (step : Option ℤ) (f : Formatter) → IsCalm f → IsCalm (registers.register_set_by r name n step f)
calm-register_set_by None name n step f h = h
calm-register_set_by (Some r) name n step f h = calm-if (is_held n) _ _ (calm-given_set r n f h) h

calm-register_changed : (c : Option RegisterChange) (f : Formatter) → IsCalm f → IsCalm (registers.register_changed c f)
calm-register_changed None f h = h
calm-register_changed (Some c) f h = calm-register_set_by (given_named c.name) c.name (applied c.change (registers.register_value c.name f)) c.step f h

calm-formatted_by : (r : Option BuiltInRegister) (name : List ℕ) (x : Format) (f : Formatter) → IsCalm f → IsCalm (registers.formatted_by r name x f)
calm-formatted_by None name x f h = h
calm-formatted_by (Some r) name x f h = h

calm-format_changed : (c : Option FormatChange) (f : Formatter) → IsCalm f → IsCalm (registers.format_changed c f)
calm-format_changed None f h = h
calm-format_changed (Some c) f h = calm-formatted_by (given_named c.name) c.name c.format f h

calm-register_removed : (name : Option (List ℕ)) (f : Formatter) → IsCalm f → IsCalm (registers.register_removed name f)
calm-register_removed None f h = h
calm-register_removed (Some name) f h = calm-if (is_none (given_named name)) _ _ h h

calm-place_marked : (name : Option (List ℕ)) (f : Formatter) → IsCalm f → IsCalm (registers.place_marked name f)
calm-place_marked None f h = h
calm-place_marked (Some name) f h = calm-register_set_by (given_named name) name (present_place f) None f h

-- ---- names

calm-defined_as : (d : Definition) (name : Option (List ℕ)) (f : Formatter) → IsCalm f → IsCalm (naming.defined_as d name f)
calm-defined_as d None f h = h
calm-defined_as d (Some name) f h = h

calm-without_name : (name : Option (List ℕ)) (f : Formatter) → IsCalm f → IsCalm (naming.without_name name f)
calm-without_name None f h = h
calm-without_name (Some name) f h = h

calm-with_renamed : (from to : Option (List ℕ)) (f : Formatter) → IsCalm f → IsCalm (naming.with_renamed from to f)
calm-with_renamed None to f h = h
calm-with_renamed (Some from) None f h = h
calm-with_renamed (Some from) (Some to) f h = h

-- ---- traps and pages

calm-with_page_trap : (t : PageTrap) (f : Formatter) → IsCalm f → IsCalm (traps.with_page_trap t f)
calm-with_page_trap (page_traps.Plant place name) f h = h
calm-with_page_trap (page_traps.Remove place) f h = h
calm-with_page_trap page_traps.Nothing f h = h

calm-with_trap_moved : (m : Option TrapMove) (f : Formatter) → IsCalm f → IsCalm (traps.with_trap_moved m f)
calm-with_trap_moved None f h = h
calm-with_trap_moved (Some m) f h = h

calm-numbered : (n : Option ℤ) (f : Formatter) → IsCalm f → IsCalm (numbering.numbered n f)
calm-numbered None f h = h
calm-numbered (Some n) f h = h

calm-number_next : (n : Option ℤ) (f : Formatter) → IsCalm f → IsCalm (numbering.number_next n f)
calm-number_next None f h = h
calm-number_next (Some n) f h = h

calm-bp_at : (s : PageState) (n : Option ℤ) (f : Formatter) → IsCalm f → IsCalm (numbering.bp_at s n f)
calm-bp_at states.Unbegun n f h = h
calm-bp_at states.Open n f h = calm-number_next n f h
calm-bp_at states.Closed n f h = calm-number_next n f h

-- ---- vertical space

calm-sp_by : (n : ℤ) (f : Formatter) → IsCalm f → IsCalm (spaces.sp_by n f)
calm-sp_by (pos n) f h = h
calm-sp_by (negsuc n) f h = calm-if (spaces.is_on_page (outlet f) && not f.settings.pages.no_space) _ _ h h

calm-returned : (n : ℤ) (f : Formatter) → IsCalm f → IsCalm (spaces.returned n f)
calm-returned (pos n) f h = calm-if (not (is_diverting (diversion f)) && nat_lt n (page_place f.paper)) _ _ h h
calm-returned (negsuc n) f h = h

calm-ne : (f : Formatter) → IsCalm f → IsCalm (spaces.ne f)
calm-ne f h = calm-if (spaces.has_room (outlet f) && int_lt (pos (distance_below f.paper.place f)) (space_lines.ne (line f) (spacing f) (present_place f))) _ _ h h

-- ---- diversions and the end

calm-measured : (d : Option Diversion) (f : Formatter) → IsCalm f → IsCalm (diversions.measured d f)
calm-measured None f h = h
calm-measured (Some d) f h = h

calm-end_diversion : (f : Formatter) → IsCalm f → IsCalm (diversions.end_diversion f)
calm-end_diversion f h = calm-measured (newest_diversion f.store.building) (record f { store = diversion_ended f.store }) h

calm-divert_to : (name : Option (List ℕ)) (f : Formatter) → IsCalm f → IsCalm (diversions.divert_to name f)
calm-divert_to None f h = calm-end_diversion f h
calm-divert_to (Some name) f h = h

calm-append_to : (name : Option (List ℕ)) (f : Formatter) → IsCalm f → IsCalm (diversions.append_to name f)
calm-append_to None f h = calm-end_diversion f h
calm-append_to (Some name) f h = h

calm-with_diversion_trap : (t : DiversionTrap) (f : Formatter) → IsCalm f → IsCalm (diversions.with_diversion_trap t f)
calm-with_diversion_trap (diversion_traps.Set place name) f h = h
calm-with_diversion_trap diversion_traps.Remove f h = h
calm-with_diversion_trap diversion_traps.Nothing f h = h

-- ---- requests

pub calm-act : (r : Request) (f : Formatter) → IsCalm f → IsCalm (act r f)
calm-act requests.Af f h = calm-format_changed (register_lines.af (line f) (long f)) (to_read f) h
calm-act requests.Am f h = calm-defined_as definitions.Am (naming.first_name f) f h
calm-act requests.Bp f h = calm-if (is_diverting (diversion f)) _ _ h (calm-bp_at f.paper.state (numbering.given_number f) f h)
calm-act requests.Ch f h = calm-with_trap_moved (trap_lines.ch (line f) (long f) (spacing f) (present_place f)) f h
calm-act requests.Da f h = calm-append_to (name_in (long f) (line f)) f h
calm-act requests.De f h = calm-defined_as definitions.De (naming.first_name f) f h
calm-act requests.Di f h = calm-divert_to (name_in (long f) (line f)) f h
calm-act requests.Dt f h = calm-with_diversion_trap (trap_lines.dt (line f) (long f) (spacing f) (present_place f)) f h
calm-act requests.Mk f h = calm-place_marked (name_in (long f) (line f)) (to_read f) h
calm-act requests.Ne f h = calm-ne f h
calm-act requests.Nr f h = calm-register_changed (register_lines.nr (line f) (long f) (spacing f)) (to_read f) h
calm-act requests.Pn f h = calm-numbered (numbering.given_number f) f h
calm-act requests.Rm f h = calm-without_name (naming.first_name f) f h
calm-act requests.Rn f h = calm-with_renamed (naming.first_name f) (naming.second_name f) f h
calm-act requests.Rr f h = calm-register_removed (name_in (long f) (line f)) (to_read f) h
calm-act requests.Rt f h = calm-returned (space_lines.rt (line f) (spacing f) (page_place f.paper) f.settings.pages.mark) f h
calm-act requests.Sp f h = calm-sp_by (space_lines.sp (line f) (spacing f) (present_place f)) f h
calm-act requests.Wh f h = calm-with_page_trap (trap_lines.wh (line f) (long f) (spacing f) (present_place f)) f h
calm-act r f h = h

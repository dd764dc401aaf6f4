-- No call changes the limits, whether it is refused or not.
use Rattle.std.specs.Prelude.{◌&&◌, not, nat_lt, int_lt, is_none, length}
use Rattle.std.proofs.Common.{◌≡◌, ℕ, suc, ◌+◌, ◌-◌, Bool, true, false, if◌then◌else◌, List, Option, None, Some, ℤ, pos, negsuc, refl, ap}
use Rattle.nr_input.specs.Limits as input
use Rattle.nr_input.specs.declared.reader.Reader.{Reader}
use Rattle.nr_symbol_tables.specs.Table.{find, is_same}
use Rattle.nr_store.specs.declared.register.Register.{Register}
use Rattle.nr_store.specs.Store.{Stored, Means, moved, renamed, worded, written, unregistered}
use Rattle.nr_settings.specs.Arguments.{name_in}
use Rattle.nr_settings.specs.Spacing as space_lines
use Rattle.nr_settings.specs.Traps as trap_lines
use Rattle.nr_settings.specs.declared.traps.DiversionTrap.{DiversionTrap}
use Rattle.nr_settings.specs.declared.traps.DiversionTrap.TheVariants as diversion_traps
use Rattle.nr_settings.specs.declared.traps.TrapMove.{TrapMove}
use Rattle.nr_formatter.specs.declared.formatter.Formatter.{Formatter}
use Rattle.nr_formatter.specs.declared.paper.PageState.{PageState}
use Rattle.nr_formatter.specs.declared.paper.PageState.TheVariants as states
use Rattle.nr_formatter.specs.declared.tasks.Resume.{Resume}
use Rattle.nr_formatter.specs.Access.{line, long, spacing, diversion}
use Rattle.nr_formatter.specs.Diversions as diversions
use Rattle.nr_formatter.specs.BuiltIn.{given_named}
use Rattle.nr_formatter.specs.Limits.{StoredLimits, stored_limits, limits_of}
use Rattle.nr_formatter.specs.Names as naming
use Rattle.nr_formatter.specs.Numbering as numbering
use Rattle.nr_formatter.specs.Pages as pages
use Rattle.nr_formatter.specs.Places.{is_diverting, outlet, page_place, present_place, distance_below, to_read}
use Rattle.nr_formatter.specs.Registers as registers
use Rattle.nr_formatter.specs.Spacing as spaces
use Rattle.nr_formatter.specs.Traps as traps

-- ---- where a part of the formatter keeps its limits

pub store-limits : (f : Formatter) (v : Stored Resume) → stored_limits v ≡ stored_limits f.store → limits_of (record f { store = v }) ≡ limits_of f
store-limits f v same = ap (λ (l : StoredLimits). record (limits_of f) { stored = l.stored; depth = l.depth }) same

pub input-limits : (f : Formatter) (v : Stored Resume) (r : Reader) → input.limits_of v r ≡ input.limits_of f.store f.reader → limits_of (record f { store = v; reader = r }) ≡ limits_of f
input-limits f v r same = ap (λ (l : input.Limits). record (limits_of f) { stored = l.stored; depth = l.depth; expansions = l.expansions }) same

-- ---- what is stored

moved-limits : (m : Option Means) (from to : List ℕ) (v : Stored Resume) → stored_limits (moved m from to v) ≡ stored_limits v
moved-limits None from to v = refl
moved-limits (Some m) from to v = refl

stored-either : (b : Bool) (v x y : Stored Resume) → stored_limits x ≡ stored_limits v → stored_limits y ≡ stored_limits v → stored_limits (if b then x else y) ≡ stored_limits v
stored-either true v x y first second = first
stored-either false v x y first second = second

renamed-limits : (from to : List ℕ) (v : Stored Resume) → stored_limits (renamed from to v) ≡ stored_limits v
renamed-limits from to v = stored-either (is_same from to) v v (moved (find from v.names) from to v) refl (moved-limits (find from v.names) from to v)

pub worded-limits : (word : List ℕ) (v : Stored Resume) → stored_limits (worded word v) ≡ stored_limits v
worded-limits word v = stored-either (nat_lt 64 (length word)) v v _ refl refl

pub written-limits : (x : Option Register) (name : List ℕ) (v : Stored Resume) → stored_limits (written x name v) ≡ stored_limits v
written-limits None name v = refl
written-limits (Some x) name v = refl

-- ---- requests, and what is under way

-- of two
pub either-limits : (b : Bool) (f g h : Formatter) → limits_of g ≡ limits_of f → limits_of h ≡ limits_of f → limits_of (if b then g else h) ≡ limits_of f
either-limits true f g h first second = first
either-limits false f g h first second = second

spaced_up-limits : (n : ℕ) (f : Formatter) → limits_of (spaces.spaced_up n f) ≡ limits_of f
spaced_up-limits n f =
    either-limits (spaces.is_on_page (outlet f) && not f.settings.pages.no_space) f (record f { paper = record f.paper { place = f.paper.place - n } }) f refl refl

sp_by-limits : (n : ℤ) (f : Formatter) → limits_of (spaces.sp_by n f) ≡ limits_of f
sp_by-limits (pos n) f = refl
sp_by-limits (negsuc n) f = spaced_up-limits (suc n) f

pub sp-limits : (f : Formatter) → limits_of (spaces.sp f) ≡ limits_of f
sp-limits f = sp_by-limits (space_lines.sp (line f) (spacing f) (present_place f)) f

pub ne-limits : (f : Formatter) → limits_of (spaces.ne f) ≡ limits_of f
ne-limits f =
    let below = distance_below f.paper.place f in
    let n = space_lines.ne (line f) (spacing f) (present_place f) in
    either-limits (spaces.has_room (outlet f) && int_lt (pos below) n) f (pages.moved_to (f.paper.place + below) f) f refl refl

returned-limits : (z : ℤ) (f : Formatter) → limits_of (spaces.returned z f) ≡ limits_of f
returned-limits (pos n) f =
    either-limits (not (is_diverting (diversion f)) && nat_lt n (page_place f.paper)) f (record f { paper = record f.paper { place = n } }) f refl refl
returned-limits (negsuc n) f = refl

pub rt-limits : (f : Formatter) → limits_of (spaces.rt f) ≡ limits_of f
rt-limits f = returned-limits (space_lines.rt (line f) (spacing f) (page_place f.paper) f.settings.pages.mark) f

number_next-limits : (n : Option ℤ) (f : Formatter) → limits_of (numbering.number_next n f) ≡ limits_of f
number_next-limits None f = refl
number_next-limits (Some n) f = refl

numbered-limits : (n : Option ℤ) (f : Formatter) → limits_of (numbering.numbered n f) ≡ limits_of f
numbered-limits None f = refl
numbered-limits (Some n) f = refl

pub pn-limits : (f : Formatter) → limits_of (numbering.pn f) ≡ limits_of f
pn-limits f = numbered-limits (numbering.given_number f) f

bp_at-limits : (s : PageState) (n : Option ℤ) (f : Formatter) → limits_of (numbering.bp_at s n f) ≡ limits_of f
bp_at-limits states.Unbegun n f = refl
bp_at-limits states.Open n f = number_next-limits n f
bp_at-limits states.Closed n f = number_next-limits n f

pub bp-limits : (f : Formatter) → limits_of (numbering.bp f) ≡ limits_of f
bp-limits f = either-limits (is_diverting (diversion f)) f (to_read f) (numbering.bp_at f.paper.state (numbering.given_number f) f) refl (bp_at-limits f.paper.state (numbering.given_number f) f)

with_trap_moved-limits : (m : Option TrapMove) (f : Formatter) → limits_of (traps.with_trap_moved m f) ≡ limits_of f
with_trap_moved-limits None f = refl
with_trap_moved-limits (Some m) f = refl

pub ch-limits : (f : Formatter) → limits_of (traps.ch f) ≡ limits_of f
ch-limits f = with_trap_moved-limits (trap_lines.ch (line f) (long f) (spacing f) (present_place f)) f

with_diversion_trap-limits : (t : DiversionTrap) (f : Formatter) → limits_of (diversions.with_diversion_trap t f) ≡ limits_of f
with_diversion_trap-limits (diversion_traps.Set place name) f = refl
with_diversion_trap-limits diversion_traps.Remove f = refl
with_diversion_trap-limits diversion_traps.Nothing f = refl

pub dt-limits : (f : Formatter) → limits_of (diversions.dt f) ≡ limits_of f
dt-limits f = with_diversion_trap-limits (trap_lines.dt (line f) (long f) (spacing f) (present_place f)) f

without_name-limits : (name : Option (List ℕ)) (f : Formatter) → limits_of (naming.without_name name f) ≡ limits_of f
without_name-limits None f = refl
without_name-limits (Some name) f = refl

pub rm-limits : (f : Formatter) → limits_of (naming.rm f) ≡ limits_of f
rm-limits f = without_name-limits (naming.first_name f) f

with_renamed-limits : (from to : Option (List ℕ)) (f : Formatter) → limits_of (naming.with_renamed from to f) ≡ limits_of f
with_renamed-limits None to f = refl
with_renamed-limits (Some from) None f = refl
with_renamed-limits (Some from) (Some to) f = store-limits f (renamed from to f.store) (renamed-limits from to f.store)

pub rn-limits : (f : Formatter) → limits_of (naming.rn f) ≡ limits_of f
rn-limits f = with_renamed-limits (naming.first_name f) (naming.second_name f) f

register_removed-limits : (name : Option (List ℕ)) (f : Formatter) → limits_of (registers.register_removed name f) ≡ limits_of f
register_removed-limits None f = refl
register_removed-limits (Some name) f = either-limits (is_none (given_named name)) f (record f { store = unregistered name f.store }) f refl refl

pub rr-limits : (f : Formatter) → limits_of (registers.rr f) ≡ limits_of f
rr-limits f = register_removed-limits (name_in (long f) (line f)) (to_read f)

-- What may still come falls with each request.
use Rattle.std.specs.Prelude.{◌&&◌, not, nat_lt, int_lt, is_none, is_some, length, unwrap_or}
use Rattle.std.proofs.Common.{◌≡◌, ℕ, ◌+◌, ◌≤◌, List, [], Bool, true, false, if◌then◌else◌, Option, Some, None, ℤ, pos, negsuc, suc, refl, ap, ◌∙◌, arith}
use Rattle.nr_store.specs.declared.element.Diversion.{Diversion}
use Rattle.nr_store.specs.declared.element.Element.{Element}
use Rattle.nr_store.specs.declared.request.Request.{Request}
use Rattle.nr_store.specs.declared.request.Request.TheVariants as requests
use Rattle.nr_store.specs.Store.{is_held, begun, text_of, fresh, set_to, register_of, renamed, written, trapped, newest_diversion, diversion_ended}
use Rattle.nr_symbol_tables.specs.Table.{find}
use Rattle.nr_symbol_tables.specs.declared.trap.Trap.{Trap}
use Rattle.nr_input.specs.declared.splicing.Definition.{Definition}
use Rattle.nr_input.specs.declared.splicing.Definition.TheVariants as definitions
use Rattle.nr_input.specs.Splicing.{base, keeps}
use Rattle.nr_input.proofs.Costs.{diverting_costs}
use Rattle.nr_settings.specs.Arguments.{name_in}
use Rattle.nr_settings.specs.Numbers.{applied}
use Rattle.nr_settings.specs.Registers as register_lines
use Rattle.nr_settings.specs.Spacing as space_lines
use Rattle.nr_settings.specs.Traps as trap_lines
use Rattle.nr_settings.specs.declared.registers.RegisterChange.{RegisterChange}
use Rattle.nr_settings.specs.declared.registers.FormatChange.{FormatChange}
use Rattle.nr_settings.specs.declared.traps.DiversionTrap.{DiversionTrap}
use Rattle.nr_settings.specs.declared.traps.DiversionTrap.TheVariants as diversion_traps
use Rattle.nr_settings.specs.declared.traps.PageTrap.{PageTrap}
use Rattle.nr_settings.specs.declared.traps.PageTrap.TheVariants as page_traps
use Rattle.nr_settings.specs.declared.traps.TrapMove.{TrapMove}
use Rattle.nr_units.specs.declared.number_text.Format.{Format}
use Rattle.nr_reading.specs.declared.event.Event.TheVariants as events
use Rattle.nr_reading.specs.declared.half.Half.{Half}
use Rattle.nr_reading.specs.declared.mode.PendingAct.{PendingAct}
use Rattle.nr_reading.specs.declared.mode.PendingAct.TheVariants as pending_acts
use Rattle.nr_reading.specs.declared.mode.Escape.{Escape}
use Rattle.nr_reading.specs.declared.mode.Mode.TheVariants as modes
use Rattle.nr_reading.specs.Setting.{defining}
use Rattle.nr_reading.specs.Weights.{weight_by}
use Rattle.nr_formatter.specs.declared.formatter.Formatter.{Formatter}
use Rattle.nr_formatter.specs.declared.built_in.BuiltInRegister.{BuiltInRegister}
use Rattle.nr_formatter.specs.declared.built_in.BuiltInRegister.TheVariants as given
use Rattle.nr_formatter.specs.declared.paper.PageState.{PageState}
use Rattle.nr_formatter.specs.declared.paper.PageState.TheVariants as states
use Rattle.nr_formatter.specs.declared.tasks.Task.{Task}
use Rattle.nr_formatter.specs.declared.tasks.Task.TheVariants as tasks
use Rattle.nr_formatter.specs.Access.{collected, line, long, spacing, diversion}
use Rattle.nr_formatter.specs.Diversions as diversions
use Rattle.nr_formatter.specs.Ending as ending
use Rattle.nr_formatter.specs.BuiltIn.{given_named}
use Rattle.nr_formatter.specs.Names as naming
use Rattle.nr_formatter.specs.Numbering as numbering
use Rattle.nr_formatter.specs.Pages.{moved_to}
use Rattle.nr_formatter.specs.Places.{is_diverting, outlet, page_outlet, present_place, page_place, distance_below, to_read}
use Rattle.nr_formatter.specs.Registers as registers
use Rattle.nr_formatter.specs.Requests.{act}
use Rattle.nr_formatter.specs.Spacing as spaces
use Rattle.nr_formatter.specs.Traps as traps
use Rattle.nr_formatter.specs.Weights.{Falls, weight, steps_left, owed, owed_by_event, owed_by_task, weight_of_agenda, weight_of_diversions, weight_of_line, weight_of_step, weight_of_task}
use Rattle.nr_formatter.proofs.Falling.{KeepsInput, falls-kept, weight_read, weight_of_name-le, weight_of_outlet-le}
use Rattle.nr_formatter.proofs.Views.{StoreView, View, view, view-stored, view-if, view-task, seen-written, seen-renamed, seen-trapped, seen-with_words, begun-weighs, diversion_ended-keeps, diversion_ended-le}

-- ---- by what stays

-- what a request leaves: it may set what is read next, for 23 moves, and begin a diversion
pub record Acts (f g : Formatter) : Type 0 where
  pub input : KeepsInput f g
  pub read : weight_read g.reader.half ≤ weight_read f.reader.half + 23
  pub line : weight_of_line (collected g) ≡ weight_of_line (collected f)
  pub diversions : weight_of_diversions g.store.building ≤ weight_of_diversions f.store.building + 1
  pub step : g.step ≡ f.step
  pub event : g.event ≡ f.event
  pub light : weight_of_task g.task g.step ≤ 11
  pub owes : owed_by_task g.task g.reader.half ≡ 0

falls-acts : (r : Request) (f g : Formatter) → f.event ≡ events.Nothing → f.task ≡ tasks.Act r → Acts f g → Falls 1 0 f g
unfolding steps_left owed
falls-acts r f g none is acts =
    let agenda : weight_of_agenda f.event f.task f.step ≡ 25 = rw (none, is) refl in
    let event : g.event ≡ events.Nothing = acts.event ∙ none in
    let left : weight_of_agenda g.event g.task g.step ≡ weight_of_task g.task g.step = rw event refl in
    let owes : owed_by_event f.event + owed_by_task f.task f.reader.half ≡ 23 = rw (none, is) refl in
    let owes_new : owed_by_event g.event ≡ 0 = rw event refl in
    let step = ap weight_of_step acts.step in
    falls-kept 1 0 f g acts.input (omega (arith, acts.read, acts.owes))
    (omega (arith, acts.light, acts.line, acts.diversions, weight_of_name-le g.springs, weight_of_outlet-le (page_outlet g.paper.state g.paper.place g.settings.pages.page_length)))

-- where all that weighs is the same, but for what goes on
falls-view : (r : Request) (t : Task) (f g : Formatter) → f.event ≡ events.Nothing → f.task ≡ tasks.Act r → view g ≡ view (record f { task = t })
    → weight_of_task t f.step ≤ 11 → ((h : Half) → owed_by_task t h ≡ 0) → Falls 1 0 f g
falls-view r t f g none is same light owes =
    let store = ap (λ (v : View). v.store) same in
    let task : g.task ≡ t = ap (λ (v : View). v.task) same in
    let step : g.step ≡ f.step = ap (λ (v : View). v.step) same in
    falls-acts r f g none is (record {
      input = record { levels = ap (λ (s : StoreView). s.levels) store; limit = ap (λ (s : StoreView). s.limit) store; burst = ap (λ (v : View). v.burst) same; most = ap (λ (v : View). v.most) same };
      read = (let e : weight_read g.reader.half ≡ weight_read f.reader.half = ap (λ (v : View). v.read) same in omega arith);
      line = ap (λ (v : View). v.line) same;
      diversions = (let e : weight_of_diversions g.store.building ≡ weight_of_diversions f.store.building = ap (λ (s : StoreView). s.diversions) store in omega arith);
      step = step;
      event = ap (λ (v : View). v.event) same;
      light = rw (task, step) light;
      owes = rw task (owes g.reader.half);
    })

-- the same, where the input is read then
falls-read : (r : Request) (f g : Formatter) → f.event ≡ events.Nothing → f.task ≡ tasks.Act r → view g ≡ view (to_read f) → Falls 1 0 f g
falls-read r f g none is same = falls-view r tasks.Read f g none is same (omega arith) (λ h. refl)

pub falls-if : (b : Bool) (f g h : Formatter) → Falls 1 0 f g → Falls 1 0 f h → Falls 1 0 f (if b then g else h)
falls-if true f g h first second = first
falls-if false f g h first second = second

-- ---- registers

view-given_set : (r : BuiltInRegister) (n : ℤ) (f : Formatter) → view (registers.given_set r n f) ≡ view f
view-given_set given.Page n f = refl
view-given_set given.Height n f = refl
view-given_set given.Width n f = refl
view-given_set r n f = refl

view-register_set_by : (r : Option BuiltInRegister) (name : List ℕ) (n : ℤ) (step : Option ℤ) (f : Formatter) → view (registers.register_set_by r name n step f) ≡ view f
view-register_set_by None name n step f =
    let r = set_to n step (register_of (find name f.store.registers)) in view-stored (written r name f.store) f (seen-written r name f.store)
view-register_set_by (Some r) name n step f = view-if (is_held n) f _ f (view-given_set r n f) refl

view-register_changed : (c : Option RegisterChange) (f : Formatter) → view (registers.register_changed c f) ≡ view f
view-register_changed None f = refl
view-register_changed (Some c) f = view-register_set_by (given_named c.name) c.name (applied c.change (registers.register_value c.name f)) c.step f

view-formatted_by : (r : Option BuiltInRegister) (name : List ℕ) (x : Format) (f : Formatter) → view (registers.formatted_by r name x f) ≡ view f
view-formatted_by None name x f = refl
view-formatted_by (Some r) name x f = refl

view-format_changed : (c : Option FormatChange) (f : Formatter) → view (registers.format_changed c f) ≡ view f
view-format_changed None f = refl
view-format_changed (Some c) f = view-formatted_by (given_named c.name) c.name c.format f

view-register_removed : (name : Option (List ℕ)) (f : Formatter) → view (registers.register_removed name f) ≡ view f
view-register_removed None f = refl
view-register_removed (Some name) f = view-if (is_none (given_named name)) f _ f refl refl

view-place_marked : (name : Option (List ℕ)) (f : Formatter) → view (registers.place_marked name f) ≡ view f
view-place_marked None f = refl
view-place_marked (Some name) f = view-register_set_by (given_named name) name (present_place f) None f

-- ---- names

view-without_name : (name : Option (List ℕ)) (f : Formatter) → view (naming.without_name name f) ≡ view f
view-without_name None f = refl
view-without_name (Some name) f = refl

view-with_renamed : (from to : Option (List ℕ)) (f : Formatter) → view (naming.with_renamed from to f) ≡ view f
view-with_renamed None to f = refl
view-with_renamed (Some from) None f = refl
view-with_renamed (Some from) (Some to) f = view-stored (renamed from to f.store) f (seen-renamed from to f.store)

-- ---- traps and pages

view-with_page_trap : (t : PageTrap) (f : Formatter) → view (traps.with_page_trap t f) ≡ view f
view-with_page_trap (page_traps.Plant place name) f = refl
view-with_page_trap (page_traps.Remove place) f = refl
view-with_page_trap page_traps.Nothing f = refl

view-with_trap_moved : (m : Option TrapMove) (f : Formatter) → view (traps.with_trap_moved m f) ≡ view f
view-with_trap_moved None f = refl
view-with_trap_moved (Some m) f = refl

view-numbered : (n : Option ℤ) (f : Formatter) → view (numbering.numbered n f) ≡ view f
view-numbered None f = refl
view-numbered (Some n) f = refl

view-number_next : (n : Option ℤ) (f : Formatter) → view (numbering.number_next n f) ≡ view f
view-number_next None f = refl
view-number_next (Some n) f = refl

falls-bp_at : (s : PageState) (n : Option ℤ) (f : Formatter) → f.event ≡ events.Nothing → f.task ≡ tasks.Act requests.Bp → Falls 1 0 f (numbering.bp_at s n f)
falls-bp_at states.Unbegun n f none is = falls-view requests.Bp (tasks.Begin None) f _ none is refl (omega arith) (λ h. refl)
falls-bp_at states.Open n f none is =
    falls-view requests.Bp (tasks.Turn (is_some n)) f _ none is (view-task (tasks.Turn (is_some n)) f (numbering.number_next n f) (view-number_next n f)) (omega arith) (λ h. refl)
falls-bp_at states.Closed n f none is =
    falls-view requests.Bp (tasks.Begin (Some (is_some n))) f _ none is (view-task (tasks.Begin (Some (is_some n))) f (numbering.number_next n f) (view-number_next n f)) (omega arith) (λ h. refl)

-- ---- vertical space

view-needed : (below : ℕ) (n : ℤ) (f : Formatter) → view (spaces.needed below n f) ≡ view f
view-needed below n f = view-if (spaces.has_room (outlet f) && int_lt (pos below) n) f (moved_to (f.paper.place + below) f) f refl refl

view-returned : (n : ℤ) (f : Formatter) → view (spaces.returned n f) ≡ view f
view-returned (pos n) f = view-if (not (is_diverting (diversion f)) && nat_lt n (page_place f.paper)) f (record f { paper = record f.paper { place = n } }) f refl refl
view-returned (negsuc n) f = refl

view-spaced_up : (n : ℕ) (f : Formatter) → view (spaces.spaced_up n f) ≡ view f
view-spaced_up n f = view-if (spaces.is_on_page (outlet f) && not f.settings.pages.no_space) f _ f refl refl

falls-sp_by : (n : ℤ) (f : Formatter) → f.event ≡ events.Nothing → f.task ≡ tasks.Act requests.Sp → Falls 1 0 f (spaces.sp_by n f)
falls-sp_by (pos n) f none is = falls-view requests.Sp (tasks.Space n) f _ none is refl (omega arith) (λ h. refl)
falls-sp_by (negsuc n) f none is = falls-read requests.Sp f _ none is (view-task tasks.Read f (spaces.spaced_up (suc n) f) (view-spaced_up (suc n) f))

-- ---- definitions

body-le : (d : PendingAct) (e : Escape) → weight_by d (modes.BodyStart 0) e ≤ weight_by d modes.Diverting e + 22
body-le pending_acts.Seek e = omega arith
body-le (pending_acts.Judge b) e = omega arith
body-le d e = omega arith

defining-le : (h : Half) (name ends : List ℕ) (kept : Bool) → weight_read (defining name ends kept h) ≤ weight_read h + 23
defining-le h name ends kept = omega (arith, body-le h.reading.pending_act h.reading.escape, diverting_costs h)

base-keeps : (d : Definition) (name : List ℕ) (f : Formatter) → KeepsInput f (record f { store = base d name f.store })
base-keeps definitions.De name f = record { levels = refl; limit = refl; burst = refl; most = refl }
base-keeps definitions.Am name f = record { levels = refl; limit = refl; burst = refl; most = refl }
base-keeps definitions.Ig name f = record { levels = refl; limit = refl; burst = refl; most = refl }

base-weighs : (d : Definition) (name : List ℕ) (f : Formatter) → weight_of_diversions (base d name f.store).building ≤ weight_of_diversions f.store.building + 1
base-weighs definitions.De name f = begun-weighs [] None f.store
base-weighs definitions.Am name f = begun-weighs (text_of name f.store) None f.store
base-weighs definitions.Ig name f = omega arith

falls-with_lines : (r : Request) (d : Definition) (name : List ℕ) (ends : Option (List ℕ)) (f : Formatter) → f.event ≡ events.Nothing → f.task ≡ tasks.Act r
    → Falls 1 0 f (to_read (naming.with_lines d name ends f))
falls-with_lines r d name ends f none is =
    let stays = base-keeps d name f in
    falls-acts r f (to_read (naming.with_lines d name ends f)) none is (record {
      input = record { levels = stays.levels; limit = stays.limit; burst = refl; most = refl };
      read = defining-le f.reader.half name (unwrap_or ends []) (keeps d);
      line = refl;
      diversions = base-weighs d name f;
      step = refl;
      event = refl;
      light = omega arith;
      owes = refl;
    })

falls-defined_as : (r : Request) (d : Definition) (name : Option (List ℕ)) (f : Formatter) → f.event ≡ events.Nothing → f.task ≡ tasks.Act r → Falls 1 0 f (to_read (naming.defined_as d name f))
falls-defined_as r d None f none is = falls-read r f (to_read f) none is refl
falls-defined_as r d (Some name) f none is = falls-with_lines r d name (naming.second_name f) f none is

-- ---- diversions

falls-begun_diversion : (r : Request) (text : List Element) (name : List ℕ) (f : Formatter) → f.event ≡ events.Nothing → f.task ≡ tasks.Act r
    → Falls 1 0 f (to_read (record f { store = begun text (Some (fresh name)) f.store }))
falls-begun_diversion r text name f none is =
    falls-acts r f (to_read (record f { store = begun text (Some (fresh name)) f.store })) none is (record {
      input = record { levels = refl; limit = refl; burst = refl; most = refl };
      read = omega arith;
      line = refl;
      diversions = begun-weighs text (Some (fresh name)) f.store;
      step = refl;
      event = refl;
      light = omega arith;
      owes = refl;
    })

falls-measured : (r : Request) (d : Option Diversion) (f : Formatter) → f.event ≡ events.Nothing → f.task ≡ tasks.Act r
    → Falls 1 0 f (to_read (diversions.measured d (record f { store = diversion_ended f.store })))
falls-measured r None f none is =
    let stays = diversion_ended-keeps f.store in
    falls-acts r f _ none is (record {
      input = record { levels = stays.0; limit = stays.1; burst = refl; most = refl };
      read = omega arith;
      line = refl;
      diversions = (let e = diversion_ended-le f.store in omega arith);
      step = refl;
      event = refl;
      light = omega arith;
      owes = refl;
    })
falls-measured r (Some d) f none is =
    let stays = diversion_ended-keeps f.store in
    falls-acts r f _ none is (record {
      input = record { levels = stays.0; limit = stays.1; burst = refl; most = refl };
      read = omega arith;
      line = refl;
      diversions = (let e = diversion_ended-le f.store in omega arith);
      step = refl;
      event = refl;
      light = omega arith;
      owes = refl;
    })

falls-divert_to : (r : Request) (name : Option (List ℕ)) (f : Formatter) → f.event ≡ events.Nothing → f.task ≡ tasks.Act r → Falls 1 0 f (to_read (diversions.divert_to name f))
falls-divert_to r None f none is = falls-measured r (newest_diversion f.store.building) f none is
falls-divert_to r (Some name) f none is = falls-begun_diversion r [] name f none is

falls-append_to : (r : Request) (name : Option (List ℕ)) (f : Formatter) → f.event ≡ events.Nothing → f.task ≡ tasks.Act r → Falls 1 0 f (to_read (diversions.append_to name f))
falls-append_to r None f none is = falls-measured r (newest_diversion f.store.building) f none is
falls-append_to r (Some name) f none is = falls-begun_diversion r (text_of name f.store) name f none is

view-with_diversion_trap : (t : DiversionTrap) (f : Formatter) → view (diversions.with_diversion_trap t f) ≡ view f
view-with_diversion_trap (diversion_traps.Set place name) f =
    let trap : Option Trap = Some (record { place = place; name = name }) in view-stored (trapped trap f.store) f (seen-trapped trap f.store)
view-with_diversion_trap diversion_traps.Remove f = view-stored (trapped None f.store) f (seen-trapped None f.store)
view-with_diversion_trap diversion_traps.Nothing f = refl

-- ---- `.ex`

pub falls-ex : (f : Formatter) → f.event ≡ events.Nothing → f.task ≡ tasks.Act requests.Ex → Falls 1 0 f (ending.ex f)
unfolding steps_left owed weight
falls-ex f none is =
    let agenda : weight_of_agenda f.event f.task f.step ≡ 25 = rw (none, is) refl in
    let owes : owed_by_event f.event + owed_by_task f.task f.reader.half ≡ 23 = rw (none, is) refl in
    record { limit = refl; most = refl; falls = λ p. omega arith }

-- ---- all of them

pub falls-act : (r : Request) (f : Formatter) → f.event ≡ events.Nothing → f.task ≡ tasks.Act r → Falls 1 0 f (act r f)
falls-act requests.Af f none acts = falls-read requests.Af f _ none acts (view-format_changed (register_lines.af (line f) (long f)) (to_read f))
falls-act requests.Am f none acts = falls-defined_as requests.Am definitions.Am (naming.first_name f) f none acts
falls-act requests.Bp f none acts =
    falls-if (is_diverting (diversion f)) f (to_read f) (numbering.bp_at f.paper.state (numbering.given_number f) f) (falls-read requests.Bp f (to_read f) none acts refl)
    (falls-bp_at f.paper.state (numbering.given_number f) f none acts)
falls-act requests.Ch f none acts =
    let m = trap_lines.ch (line f) (long f) (spacing f) (present_place f) in falls-read requests.Ch f _ none acts (view-task tasks.Read f (traps.with_trap_moved m f) (view-with_trap_moved m f))
falls-act requests.Da f none acts = falls-append_to requests.Da (name_in (long f) (line f)) f none acts
falls-act requests.De f none acts = falls-defined_as requests.De definitions.De (naming.first_name f) f none acts
falls-act requests.Di f none acts = falls-divert_to requests.Di (name_in (long f) (line f)) f none acts
falls-act requests.Dt f none acts =
    let t = trap_lines.dt (line f) (long f) (spacing f) (present_place f) in
    falls-read requests.Dt f _ none acts (view-task tasks.Read f (diversions.with_diversion_trap t f) (view-with_diversion_trap t f))
falls-act requests.Ex f none acts = falls-ex f none acts
falls-act requests.Hw f none acts =
    falls-read requests.Hw f _ none acts (view-task tasks.Read f (record f { store = naming.with_words (length (line f)) (line f) f.store }) (view-stored (naming.with_words (length (line f)) (line f) f.store) f (seen-with_words (length (line f)) (line f) f.store)))
falls-act requests.Ig f none acts = falls-with_lines requests.Ig definitions.Ig [] (naming.first_name f) f none acts
falls-act requests.Mk f none acts = falls-read requests.Mk f _ none acts (view-place_marked (name_in (long f) (line f)) (to_read f))
falls-act requests.Ne f none acts =
    let below = distance_below f.paper.place f in
    let n = space_lines.ne (line f) (spacing f) (present_place f) in
    falls-read requests.Ne f _ none acts (view-task tasks.Read f (spaces.needed below n f) (view-needed below n f))
falls-act requests.Nr f none acts = falls-read requests.Nr f _ none acts (view-register_changed (register_lines.nr (line f) (long f) (spacing f)) (to_read f))
falls-act requests.Pn f none acts =
    let n = numbering.given_number f in falls-read requests.Pn f _ none acts (view-task tasks.Read f (numbering.numbered n f) (view-numbered n f))
falls-act requests.Rm f none acts =
    let name = naming.first_name f in falls-read requests.Rm f _ none acts (view-task tasks.Read f (naming.without_name name f) (view-without_name name f))
falls-act requests.Rn f none acts =
    let from = naming.first_name f in
    let to = naming.second_name f in
    falls-read requests.Rn f _ none acts (view-task tasks.Read f (naming.with_renamed from to f) (view-with_renamed from to f))
falls-act requests.Rr f none acts = falls-read requests.Rr f _ none acts (view-register_removed (name_in (long f) (line f)) (to_read f))
falls-act requests.Rt f none acts =
    let n = space_lines.rt (line f) (spacing f) (page_place f.paper) f.settings.pages.mark in
    falls-read requests.Rt f _ none acts (view-task tasks.Read f (spaces.returned n f) (view-returned n f))
falls-act requests.Sp f none acts = falls-sp_by (space_lines.sp (line f) (spacing f) (present_place f)) f none acts
falls-act requests.Wh f none acts =
    let t = trap_lines.wh (line f) (long f) (spacing f) (present_place f) in
    falls-read requests.Wh f _ none acts (view-task tasks.Read f (traps.with_page_trap t f) (view-with_page_trap t f))
falls-act r f none acts = falls-read r f _ none acts refl

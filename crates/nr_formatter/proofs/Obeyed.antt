-- Requests that only set or make space: what they leave as it was, and what may still come after them.
use Rattle.std.specs.Prelude.{suc, ◌+◌, ◌-◌, not, ◌&&◌, ◌||◌, if◌then◌else◌, int_lt, is_ok, length, nat_lt, pos, negsuc}
use Rattle.std.proofs.Common.{◌≡◌, ℕ, ◌≤◌, List, Bool, true, false, Option, None, Some, ℤ, refl, ap, sym, ◌∙◌, subst, arith}
use Rattle.std.proofs.lemmas.Bool.{and_parts, ltb-false}
use Rattle.nr_reading.specs.declared.event.Event.TheVariants as events
use Rattle.nr_store.specs.declared.request.Request.{Request}
use Rattle.nr_store.specs.declared.request.Request.TheVariants.{Ad, Br, Ce, Fi, Ft, Hy, In, It, Lc, Ll, Lt, Na, Ne, Nf, Nh, Nr, Ns, Pc, Pl, Po, Rs, Sp, Ta, Tc, Ti, Ul, Vs}
use Rattle.nr_store.specs.declared.register.Register.{Register}
use Rattle.nr_store.specs.Store.{Stored, afforded, charge_of, is_held, register_of, registered, set_to, written}
use Rattle.nr_settings.specs.Numbers.{applied}
use Rattle.nr_settings.specs.Registers as lines
use Rattle.nr_settings.specs.Spacing as space_lines
use Rattle.nr_settings.specs.declared.registers.RegisterChange.{RegisterChange}
use Rattle.nr_symbol_tables.specs.Table.{find}
use Rattle.nr_formatter.specs.declared.built_in.BuiltInRegister.{BuiltInRegister}
use Rattle.nr_formatter.specs.declared.built_in.BuiltInRegister.TheVariants as given
use Rattle.nr_formatter.specs.declared.tasks.Resume.{Resume}
use Rattle.nr_formatter.specs.Access.{line, long, spacing}
use Rattle.nr_formatter.specs.BuiltIn.{given_named}
use Rattle.nr_formatter.specs.Limits.{IsWithin, limits_of}
use Rattle.nr_formatter.specs.Registers.{change_checked, given_set, nr_checked, register_changed, register_set_by, register_value, set_checked_by}
use Rattle.nr_formatter.specs.Lines.{break_done}
use Rattle.nr_formatter.specs.Moves.{heard_for, task_requested}
use Rattle.nr_formatter.specs.Many.Obeying.{acted, after_break, after_space, breaks_first, is_nr, is_spacing, may_act, may_obey, may_set, may_space, moves_obeying, moves_spacing, obeyed, only_sets, space_made}
use Rattle.nr_formatter.specs.Pages.{moved_to}
use Rattle.nr_formatter.specs.Places.{distance_below, outlet, present_place, to_read}
use Rattle.nr_formatter.specs.Requests.{act}
use Rattle.nr_formatter.specs.Spacing.{has_room, is_on_page, is_spaceless, ne, needed, sp_by, spaced, spaced_up}
use Rattle.nr_formatter.specs.Weights.{Falls}
use Rattle.nr_formatter.specs.declared.formatter.Formatter.{Formatter}
use Rattle.nr_formatter.specs.declared.tasks.Task.{Task}
use Rattle.nr_formatter.specs.declared.tasks.Task.TheVariants as tasks
use Rattle.nr_formatter.specs.declared.tasks.Then.TheVariants as thens
use Rattle.nr_formatter.proofs.Falling.{falls-then}
use Rattle.nr_formatter.proofs.HearingFalls.{falls-control}
use Rattle.nr_formatter.proofs.LimitsStay.{either-limits, store-limits, written-limits}
use Rattle.nr_formatter.proofs.LineFalls.{falls-break_done}
use Rattle.nr_formatter.proofs.PageFalls.{falls-spaced, falls-spaceless}
use Rattle.nr_formatter.proofs.RequestFalls.{falls-act}

-- only the settings and the input line trap change, and the input is read on
act-sets : (r : Request) (f : Formatter) → only_sets r ≡ true
    → act r f ≡ to_read (record f { settings = (act r f).settings; input_trap = (act r f).input_trap })
act-sets Ad f is = refl
act-sets Br f is = refl
act-sets Ce f is = refl
act-sets Fi f is = refl
act-sets Ft f is = refl
act-sets Hy f is = refl
act-sets In f is = refl
act-sets It f is = refl
act-sets Lc f is = refl
act-sets Ll f is = refl
act-sets Lt f is = refl
act-sets Na f is = refl
act-sets Nf f is = refl
act-sets Nh f is = refl
act-sets Ns f is = refl
act-sets Pc f is = refl
act-sets Pl f is = refl
act-sets Po f is = refl
act-sets Rs f is = refl
act-sets Ta f is = refl
act-sets Tc f is = refl
act-sets Ti f is = refl
act-sets Ul f is = refl
act-sets Vs f is = refl
act-sets r f is = absurd (let wrong : false ≡ true = is in cc)

-- ---- `.nr`, where it is not refused

-- what it leaves as it was
record Stays (f g : Formatter) : Type 0 where
  springs : g.springs ≡ f.springs
  event : g.event ≡ f.event
  task : g.task ≡ f.task
  limits : limits_of g ≡ limits_of f
  within : IsWithin f → IsWithin g

stays-if : (b : Bool) (f g h : Formatter) → Stays f g → Stays f h → Stays f (if b then g else h)
stays-if true f g h first second = first
stays-if false f g h first second = second

stays-same : (f : Formatter) → Stays f f
stays-same f = record { springs = refl; event = refl; task = refl; limits = refl; within = λ w. w }

within_kept : (f g : Formatter) → g.store ≡ f.store → g.line ≡ f.line → g.reader ≡ f.reader → IsWithin f → IsWithin g
within_kept f g store line reader w =
    record { stored = rw store w.stored; depth = rw store w.depth; line = rw line w.line; burst = rw reader w.burst }

stays-given_set : (r : BuiltInRegister) (n : ℤ) (f : Formatter) → Stays f (given_set r n f)
stays-given_set given.Page n f = record { springs = refl; event = refl; task = refl; limits = refl; within = within_kept f _ refl refl refl }
stays-given_set given.Height n f = record { springs = refl; event = refl; task = refl; limits = refl; within = within_kept f _ refl refl refl }
stays-given_set given.Width n f = record { springs = refl; event = refl; task = refl; limits = refl; within = within_kept f _ refl refl refl }
stays-given_set r n f = stays-same f

fits_by : (b : Bool) (v : Stored Resume) → nat_lt v.limit (charge_of v) ≡ b → is_ok (afforded v (tt {0})) ≡ true → charge_of v ≤ v.limit
fits_by true v above ok = absurd (let wrong : false ≡ true = (let e : is_ok (afforded v (tt {0})) ≡ false = rw above refl in sym e ∙ ok) in cc)
fits_by false v above ok = ltb-false v.limit (charge_of v) above

written-depth : (x : Option Register) (name : List ℕ) (v : Stored Resume) → length v.levels ≤ v.deepest → length (written x name v).levels ≤ (written x name v).deepest
written-depth None name v h = h
written-depth (Some x) name v h = h

stays-register_set_by : (o : Option BuiltInRegister) (name : List ℕ) (n : ℤ) (step : Option ℤ) (f : Formatter) → is_ok (set_checked_by o name n step f) ≡ true
    → Stays f (register_set_by o name n step f)
stays-register_set_by None name n step f ok =
    let x : Option Register = set_to n step (register_of (find name f.store.registers)) in
    let v : Stored Resume = registered name n step f.store in
    record {
      springs = refl;
      event = refl;
      task = refl;
      limits = store-limits f v (written-limits x name f.store);
      within = λ w. record { stored = fits_by (nat_lt v.limit (charge_of v)) v refl ok; depth = written-depth x name f.store w.depth; line = w.line; burst = w.burst };
    }
stays-register_set_by (Some r) name n step f ok = stays-if (is_held n) f (given_set r n f) f (stays-given_set r n f) (stays-same f)

stays-register_changed : (c : Option RegisterChange) (f : Formatter) → is_ok (change_checked c f) ≡ true → Stays f (register_changed c f)
stays-register_changed None f ok = stays-same f
stays-register_changed (Some c) f ok = stays-register_set_by (given_named c.name) c.name (applied c.change (register_value c.name f)) c.step f ok

-- ---- both

-- what either leaves as it was, where it is made, and that the input is read on
pub record Sets (f g : Formatter) : Type 0 where
  pub springs : g.springs ≡ f.springs
  pub event : g.event ≡ f.event
  pub task : g.task ≡ tasks.Read
  pub limits : limits_of g ≡ limits_of f
  pub within : IsWithin f → IsWithin g

sets-nr : (r : Request) (f : Formatter) → is_nr r ≡ true → is_ok (nr_checked f) ≡ true → Sets f (act r f)
sets-nr Nr f is ok =
    let stays = stays-register_changed (lines.nr (line f) (long f) (spacing f)) (to_read f) ok in
    record {
      springs = stays.springs;
      event = stays.event;
      task = stays.task;
      limits = stays.limits;
      within = λ w. stays.within (within_kept f (to_read f) refl refl refl w);
    }
sets-nr r f is ok = absurd (let wrong : false ≡ true = is in cc)

sets-by : (b : Bool) (r : Request) (f : Formatter) → only_sets r ≡ b → (b || (is_nr r && is_ok (nr_checked f))) ≡ true → Sets f (act r f)
sets-by true r f sets may =
    subst (Sets f) (sym (act-sets r f sets)) (record { springs = refl; event = refl; task = refl; limits = refl; within = within_kept f _ refl refl refl })
sets-by false r f sets may = let parts = and_parts (is_nr r) (is_ok (nr_checked f)) may in sets-nr r f parts.0 parts.1

pub sets-act : (r : Request) (f : Formatter) → may_set r f ≡ true → Sets f (act r f)
sets-act r f may = sets-by (only_sets r) r f refl may

-- ---- `.ne` and `.sp`

-- what a place on the page and a macro that springs leave as it was
record Keeps (f g : Formatter) : Type 0 where
  event : g.event ≡ f.event
  store : g.store ≡ f.store
  line : g.line ≡ f.line
  reader : g.reader ≡ f.reader

keeps-if : (b : Bool) (f g : Formatter) → Keeps f g → Keeps f (if b then g else f)
keeps-if true f g keeps = keeps
keeps-if false f g keeps = record { event = refl; store = refl; line = refl; reader = refl }

-- what is to be done after a request: the input is read, or so much space is made and the request springs no macro
pub data Leaves (f g : Formatter) : Type 0 where
  Reads : g.task ≡ tasks.Read → Leaves f g
  Spaces : (n : ℕ) → g.task ≡ tasks.Space n → g.springs ≡ f.springs → Leaves f g

-- what a request that sets or makes space leaves as it was, where it is made, and what is to be done then
pub record Acts (f g : Formatter) : Type 0 where
  pub event : g.event ≡ f.event
  pub limits : limits_of g ≡ limits_of f
  pub within : IsWithin f → IsWithin g
  pub leaves : Leaves f g

acts-read : (f g : Formatter) → Keeps f g → Acts f (to_read g)
acts-read f g keeps = record {
  event = keeps.event;
  limits = rw (keeps.store, keeps.line, keeps.reader) refl;
  within = within_kept f (to_read g) keeps.store keeps.line keeps.reader;
  leaves = Reads refl;
}

acts-ne : (f : Formatter) → Acts f (ne f)
acts-ne f =
    let below = distance_below f.paper.place f in
    let n = space_lines.ne (line f) (spacing f) (present_place f) in
    acts-read f (needed below n f)
    (keeps-if (has_room (outlet f) && int_lt (pos below) n) f (moved_to (f.paper.place + below) f) (record { event = refl; store = refl; line = refl; reader = refl }))

acts-sp_by : (n : ℤ) (f : Formatter) → Acts f (sp_by n f)
acts-sp_by (pos n) f =
    record { event = refl; limits = refl; within = within_kept f (record f { task = tasks.Space n }) refl refl refl; leaves = Spaces n refl refl }
acts-sp_by (negsuc n) f =
    acts-read f (spaced_up (suc n) f)
    (keeps-if (is_on_page (outlet f) && not f.settings.pages.no_space) f (record f { paper = record f.paper { place = f.paper.place - suc n } }) (record { event = refl; store = refl; line = refl; reader = refl }))

acts-spacing : (r : Request) (f : Formatter) → is_spacing r ≡ true → Acts f (act r f)
acts-spacing Ne f is = acts-ne f
acts-spacing Sp f is = acts-sp_by (space_lines.sp (line f) (spacing f) (present_place f)) f
acts-spacing r f is = absurd (let wrong : false ≡ true = is in cc)

acts-by : (b : Bool) (r : Request) (f : Formatter) → may_set r f ≡ b → (b || is_spacing r) ≡ true → Acts f (act r f)
acts-by true r f sets may = let stays = sets-act r f sets in record { event = stays.event; limits = stays.limits; within = stays.within; leaves = Reads stays.task }
acts-by false r f sets may = acts-spacing r f may

pub acts-act : (r : Request) (f : Formatter) → may_act r f ≡ true → Acts f (act r f)
acts-act r f may = acts-by (may_set r f) r f refl may

-- ---- the formatter that acts

-- after a break or without one
abbrev pub after_by : Bool → Formatter → Formatter
after_by first f =
    if first then break_done (thens.Act f.reader.request) (heard_for (tasks.Break (thens.Act f.reader.request)) f)
    else heard_for (tasks.Act f.reader.request) f

pub springs_after : (first : Bool) (f : Formatter) → (after_by first f).springs ≡ f.springs
springs_after true f = refl
springs_after false f = refl

pub event_after : (first : Bool) (f : Formatter) → (after_by first f).event ≡ events.Nothing
event_after true f = refl
event_after false f = refl

-- ---- space that is made

pub within-spaced : (spaceless : Bool) (n : ℕ) (f : Formatter) → IsWithin f → IsWithin (if spaceless then to_read f else spaced n f)
within-spaced true n f within = within_kept f (to_read f) refl refl refl within
within-spaced false n f within = within_kept f (spaced n f) refl refl refl within

space-limits : (t : Task) (f : Formatter) → limits_of (if may_space t f then space_made t f else f) ≡ limits_of f
space-limits (tasks.Space n) f =
    either-limits (may_space (tasks.Space n) f) f (space_made (tasks.Space n) f) f (either-limits (is_spaceless n f) f (to_read f) (spaced n f) refl refl) refl
space-limits t f = refl

falls-space_by : (may spaceless : Bool) (n : ℕ) (f : Formatter) → f.event ≡ events.Nothing → f.task ≡ tasks.Space n
    → Falls (if may then 1 else 0) 0 f (if may then (if spaceless then to_read f else spaced n f) else f)
falls-space_by true true n f idle is = falls-spaceless n f idle is
falls-space_by true false n f idle is = falls-spaced n f idle is
falls-space_by false spaceless n f idle is = record { limit = refl; most = refl; falls = λ p. omega arith }

falls-space : (t : Task) (f : Formatter) → f.event ≡ events.Nothing → f.task ≡ t → Falls (if may_space t f then 1 else 0) 0 f (if may_space t f then space_made t f else f)
falls-space (tasks.Space n) f idle is = falls-space_by (may_space (tasks.Space n) f) (is_spaceless n f) n f idle is
falls-space t f idle is = record { limit = refl; most = refl; falls = λ p. omega arith }

-- ---- all of it

-- the limits stay
after_break-limits : (f : Formatter) → limits_of (after_break f) ≡ limits_of f
after_break-limits f =
    let r = f.reader.request in
    either-limits (breaks_first f) f (break_done (thens.Act r) (heard_for (tasks.Break (thens.Act r)) f)) (heard_for (tasks.Act r) f) refl refl

pub obeyed-limits : (f : Formatter) → may_act f.reader.request (after_break f) ≡ true → may_obey f ≡ true → limits_of (obeyed f) ≡ limits_of f
obeyed-limits f acts may =
    let there : obeyed f ≡ after_space (acted f) = rw may refl in
    ap limits_of there ∙ space-limits (acted f).task (acted f) ∙ (acts-act f.reader.request (after_break f) acts).limits ∙ after_break-limits f

-- each move takes off one
falls-acted : (first : Bool) (f : Formatter) → breaks_first f ≡ first → f.event ≡ events.Request → Falls (if first then 3 else 2) 0 f (act f.reader.request (after_by first f))
falls-acted true f b is =
    let r = f.reader.request in
    let task : task_requested f ≡ tasks.Break (thens.Act r) = rw b refl in
    let g : Formatter = heard_for (tasks.Break (thens.Act r)) f in
    let h : Formatter = break_done (thens.Act r) g in
    let hears : Falls 1 0 f g = subst (λ t. Falls 1 0 f (heard_for t f)) task (falls-control events.Request f is (λ e. let wrong : ⊥ = cc in wrong)) in
    falls-then 2 0 1 0 f h (act r h) (falls-then 1 0 1 0 f g h hears (falls-break_done (thens.Act r) g refl refl)) (falls-act r h refl refl)
falls-acted false f b is =
    let r = f.reader.request in
    let task : task_requested f ≡ tasks.Act r = rw b refl in
    let g : Formatter = heard_for (tasks.Act r) f in
    let hears : Falls 1 0 f g = subst (λ t. Falls 1 0 f (heard_for t f)) task (falls-control events.Request f is (λ e. let wrong : ⊥ = cc in wrong)) in
    falls-then 1 0 1 0 f g (act r g) hears (falls-act r g refl refl)

pub falls-obeyed : (f : Formatter) → f.event ≡ events.Request → may_act f.reader.request (after_break f) ≡ true → may_obey f ≡ true → Falls (moves_obeying f) 0 f (obeyed f)
falls-obeyed f is acts may =
    let idle : (acted f).event ≡ events.Nothing = (acts-act f.reader.request (after_break f) acts).event ∙ event_after (breaks_first f) f in
    let moves : ℕ = if breaks_first f then 3 else 2 in
    let falls : Falls (moves + moves_spacing (acted f)) 0 f (after_space (acted f)) =
    falls-then moves 0 (moves_spacing (acted f)) 0 f (acted f) (after_space (acted f)) (falls-acted (breaks_first f) f refl is) (falls-space (acted f).task (acted f) idle refl) in
    rw may falls

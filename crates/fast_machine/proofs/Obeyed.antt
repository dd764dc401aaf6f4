-- Requests that only set or make space: what was read is heard, the break does nothing, the request takes effect, and its space is
-- made.
use Rattle.std.specs.Prelude.{◌+◌, ◌&&◌, ◌||◌, not, if◌then◌else◌, is_none}
use Rattle.std.proofs.Common.{◌≡◌, ℕ, ◌<◌, ◌≤◌, Bool, true, false, List, [], Option, None, Some, refl, sym, ap, ◌∙◌, subst, arith}
use Rattle.std.proofs.lemmas.Bool.{and_parts}
use Rattle.nr_units.specs.Source.{Supply}
use Rattle.nr_fill.specs.Piece.{begins_line, is_nil}
use Rattle.nr_reading.specs.declared.event.Event.TheVariants as events
use Rattle.nr_store.specs.declared.request.Request.{Request}
use Rattle.nr_store.specs.declared.request.Request.TheVariants as requests
use Rattle.nr_formatter.specs.Access.{collected}
use Rattle.nr_formatter.specs.Lines.{break_done}
use Rattle.nr_formatter.specs.Moves.{heard_for, task_requested}
use Rattle.nr_formatter.specs.Many.Obeying.{acted, after_break, after_space, breaks_first, breaks_idly, is_spacing, may_act, may_obey, may_set, may_space, moves_obeying, moves_spacing, obeyed, space_made}
use Rattle.nr_formatter.specs.Pages.{begins_first_page}
use Rattle.nr_formatter.specs.Places.{outlet}
use Rattle.nr_formatter.specs.Requests.{act}
use Rattle.nr_formatter.specs.Spacing.{has_room, is_spaceless}
use Rattle.nr_formatter.specs.declared.formatter.Formatter.{Formatter}
use Rattle.nr_formatter.specs.declared.paper.Outlet.{Outlet}
use Rattle.nr_formatter.specs.declared.paper.Outlet.TheVariants as outlets
use Rattle.nr_formatter.specs.declared.tasks.Task.{Task}
use Rattle.nr_formatter.specs.declared.tasks.Task.TheVariants as tasks
use Rattle.nr_formatter.specs.declared.tasks.Then.TheVariants as thens
use Rattle.nr_formatter.proofs.Obeyed.{Leaves, Reads, Spaces, acts-act, after_by, event_after, falls-obeyed, obeyed-limits, sets-act, springs_after, within-spaced}
use Rattle.nr_machine.specs.State.{State, plainly}
use Rattle.nr_machine.specs.Machine as machine
use Rattle.nr_machine.specs.Machine.{put_space, work}
use Rattle.nr_machine.specs.Measures.{IsWithin}
use Rattle.nr_machine.specs.Holding.{Holds, Made, ReadsNext, Shape, Stands, at}
use Rattle.fast_machine.specs.Running.{Makes, MakesInPlace}
use Rattle.fast_machine.proofs.EmptyLines.{within_kept}
use Rattle.fast_machine.proofs.Gliding.{Glides, glides-add, glides-by}
use Rattle.nr_machine.proofs.LimitsStay.{formatter-limits}
use Rattle.nr_machine.proofs.NextMoves.{kind-hear, kind-work, step-hear, step-work}
use Rattle.nr_machine.proofs.Standing.{wrote_nothing}
use Rattle.fast_machine.proofs.Running.{makes_none}
use Rattle.nr_machine.proofs.Working.{holds_of}

none_of : {X : Type 0} (o : Option X) → is_none o ≡ true → o ≡ None
none_of None is = refl
none_of (Some x) is = absurd (let wrong : false ≡ true = is in cc)

not_of : (b : Bool) → not b ≡ true → b ≡ false
not_of true is = absurd (let wrong : false ≡ true = is in cc)
not_of false is = refl

-- with another formatter
abbrev with_formatter : Formatter → State → State
with_formatter f s = record s { formatter = f }

-- ---- the moves

-- the line of a request is heard
hears : (s : State) (t : Task) → s.chosen ≡ [] → s.formatter.springs ≡ None → s.formatter.event ≡ events.Request → task_requested s.formatter ≡ t → IsWithin s
    → Glides s 1 (with_formatter (heard_for t s.formatter) s)
hears s t chosen springs request is within =
    glides-by (heard_for t) s (kind-hear s events.Request chosen springs request (λ e. let wrong : ⊥ = cc in wrong))
    (step-hear s events.Request chosen springs request ∙ ap (λ k. with_formatter (heard_for k s.formatter) s) is)
    (within_kept s s.coming (heard_for t s.formatter) refl refl within.formatter.burst within)

-- nothing is collected, and no page begins
idle_break : (s : State) (r : Request) → is_nil (collected s.formatter).pieces ≡ true → is_none (collected s.formatter).word ≡ true → begins_first_page (thens.Act r) s.formatter ≡ false
    → work (tasks.Break (thens.Act r)) s ≡ plainly (break_done (thens.Act r)) s
idle_break s r pieces word page = rw (word, page, pieces) refl

-- so the break does nothing
breaks : (s : State) (r : Request) → s.chosen ≡ [] → s.formatter.springs ≡ None → s.formatter.event ≡ events.Nothing → s.formatter.task ≡ tasks.Break (thens.Act r)
    → is_nil (collected s.formatter).pieces ≡ true → is_none (collected s.formatter).word ≡ true → begins_first_page (thens.Act r) s.formatter ≡ false → IsWithin s
    → Glides s 1 (with_formatter (break_done (thens.Act r) s.formatter) s)
breaks s r chosen springs idle task pieces word page within =
    glides-by (break_done (thens.Act r)) s (kind-work s (tasks.Break (thens.Act r)) chosen springs idle task)
    (step-work s (tasks.Break (thens.Act r)) chosen springs idle task ∙ idle_break s r pieces word page)
    (within_kept s s.coming (break_done (thens.Act r) s.formatter) refl refl within.formatter.burst within)

-- none of these is `.ex`
acts_plainly : (r : Request) (s : State) → may_act r s.formatter ≡ true → machine.act r s ≡ plainly (act r) s
acts_plainly requests.Ex s is = absurd (let wrong : false ≡ true = is in cc)
acts_plainly r s is = refl

-- nothing comes to be above its limit
within_acted : (r : Request) (s : State) → may_act r s.formatter ≡ true → IsWithin s → IsWithin (with_formatter (act r s.formatter) s)
within_acted r s may within = record { formatter = (acts-act r s.formatter may).within within.formatter; page = within.page }

-- the request takes effect
acts : (s : State) (r : Request) → may_act r s.formatter ≡ true → s.chosen ≡ [] → s.formatter.springs ≡ None → s.formatter.event ≡ events.Nothing → s.formatter.task ≡ tasks.Act r → IsWithin s
    → Glides s 1 (with_formatter (act r s.formatter) s)
acts s r may chosen springs idle task within =
    glides-by (act r) s (kind-work s (tasks.Act r) chosen springs idle task)
    (step-work s (tasks.Act r) chosen springs idle task ∙ acts_plainly r s may) (within_acted r s may within)

-- ---- the space

-- with this task
abbrev space_by : Task → Formatter → Formatter
space_by t f = if may_space t f then space_made t f else f

abbrev moves_by_task : Task → Formatter → ℕ
moves_by_task t f = if may_space t f then 1 else 0

room_of : (o : Outlet) → has_room o ≡ true → o ≡ outlets.Room
room_of outlets.Room is = refl
room_of o is = absurd (let wrong : false ≡ true = is in cc)

-- there is none, or the open page has room
space_put : (b : Bool) (n : ℕ) (s : State) → is_spaceless n s.formatter ≡ b → (b || has_room (outlet s.formatter)) ≡ true → put_space n s ≡ plainly (space_made (tasks.Space n)) s
space_put true n s is may = rw is refl
space_put false n s is may = rw (is, room_of (outlet s.formatter) may) refl

within_space : (b : Bool) (n : ℕ) (s : State) → may_space (tasks.Space n) s.formatter ≡ b → IsWithin s → IsWithin (with_formatter (if b then space_made (tasks.Space n) s.formatter else s.formatter) s)
within_space true n s may within = record { formatter = within-spaced (is_spaceless n s.formatter) n s.formatter within.formatter; page = within.page }
within_space false n s may within = within

glides_none : (s : State) → Glides s 0 s
glides_none s = record { runs = λ k below. absurd (omega (arith, below)); leads = refl }

glides_space : (b : Bool) (n : ℕ) (s : State) → may_space (tasks.Space n) s.formatter ≡ b → s.chosen ≡ [] → s.formatter.springs ≡ None → s.formatter.event ≡ events.Nothing → s.formatter.task ≡ tasks.Space n → IsWithin s
    → Glides s (if b then 1 else 0) (with_formatter (if b then space_made (tasks.Space n) s.formatter else s.formatter) s)
glides_space false n s may chosen springs idle task within = glides_none s
glides_space true n s may chosen springs idle task within =
    glides-by (space_made (tasks.Space n)) s (kind-work s (tasks.Space n) chosen springs idle task)
    (step-work s (tasks.Space n) chosen springs idle task ∙ space_put (is_spaceless n s.formatter) n s refl may) (within_space true n s may within)

-- after a request that was made with this formatter
glides_after : (f : Formatter) (s : State) → Leaves f s.formatter → f.springs ≡ None → s.chosen ≡ [] → s.formatter.event ≡ events.Nothing → IsWithin s
    → Glides s (moves_spacing s.formatter) (with_formatter (after_space s.formatter) s)
glides_after f s (Reads task) springs chosen idle within =
    subst (λ (t : Task). Glides s (moves_by_task t s.formatter) (with_formatter (space_by t s.formatter) s)) (sym task) (glides_none s)
glides_after f s (Spaces n task kept) springs chosen idle within =
    subst (λ (t : Task). Glides s (moves_by_task t s.formatter) (with_formatter (space_by t s.formatter) s)) (sym task)
    (glides_space (may_space (tasks.Space n) s.formatter) n s refl chosen (kept ∙ springs) idle task within)

within_afterwards : (f : Formatter) (s : State) → Leaves f s.formatter → IsWithin s → IsWithin (with_formatter (after_space s.formatter) s)
within_afterwards f s (Reads task) within = subst (λ (t : Task). IsWithin (with_formatter (space_by t s.formatter) s)) (sym task) within
within_afterwards f s (Spaces n task kept) within =
    subst (λ (t : Task). IsWithin (with_formatter (space_by t s.formatter) s)) (sym task) (within_space (may_space (tasks.Space n) s.formatter) n s refl within)

-- ---- all of them

module _ (s : State) (chosen : s.chosen ≡ []) (request : s.formatter.event ≡ events.Request) (springs : s.formatter.springs ≡ None) (may : may_act s.formatter.reader.request (after_break s.formatter) ≡ true) (within : IsWithin s) where
  abbrev r : Request
  r = s.formatter.reader.request

  abbrev acting : Formatter
  acting = heard_for (tasks.Act r) s.formatter

  abbrev breaking : Formatter
  breaking = heard_for (tasks.Break (thens.Act r)) s.formatter

  acts_by : (b : Bool) → breaks_first s.formatter ≡ b → may_act r (after_by b s.formatter) ≡ true
  acts_by b first = subst (λ (x : Bool). may_act r (after_by x s.formatter) ≡ true) first may

  -- the request takes effect without a break
  glides_acted : breaks_first s.formatter ≡ false → Glides s 2 (with_formatter (act r acting) s)
  glides_acted first =
      let task : task_requested s.formatter ≡ tasks.Act r = rw first refl in
      glides-add s 1 1 (with_formatter acting s) (with_formatter (act r acting) s) (hears s (tasks.Act r) chosen springs request task within)
      (acts (with_formatter acting s) r (acts_by false first) chosen springs refl refl (within_kept s s.coming acting refl refl within.formatter.burst within))

  -- and after one
  glides_broken : breaks_first s.formatter ≡ true → breaks_idly s.formatter ≡ true → Glides s 3 (with_formatter (act r (break_done (thens.Act r) breaking)) s)
  glides_broken first idly =
      let task : task_requested s.formatter ≡ tasks.Break (thens.Act r) = rw first refl in
      let parts = and_parts (begins_line (collected s.formatter)) (not (begins_first_page (thens.Act r) s.formatter)) idly in
      let none = and_parts (is_nil (collected s.formatter).pieces) (is_none (collected s.formatter).word) parts.0 in
      let broken : Formatter = break_done (thens.Act r) breaking in
      glides-add s 2 1 (with_formatter broken s) (with_formatter (act r broken) s)
      (glides-add s 1 1 (with_formatter breaking s) (with_formatter broken s) (hears s (tasks.Break (thens.Act r)) chosen springs request task within)
      (breaks (with_formatter breaking s) r chosen springs refl refl none.0 none.1 (not_of (begins_first_page (thens.Act r) s.formatter) parts.1) (within_kept s s.coming breaking refl refl within.formatter.burst within)))
      (acts (with_formatter broken s) r (acts_by true first) chosen springs refl refl (within_kept s s.coming broken refl refl within.formatter.burst within))

  glides_by_break : (b : Bool) → breaks_first s.formatter ≡ b → (not b || breaks_idly s.formatter) ≡ true → Glides s (if b then 3 else 2) (with_formatter (act r (after_by b s.formatter)) s)
  glides_by_break true first idly = glides_broken first idly
  glides_by_break false first idly = glides_acted first

  within_after_break : (b : Bool) → IsWithin (with_formatter (after_by b s.formatter) s)
  within_after_break true = within_kept s s.coming (break_done (thens.Act r) breaking) refl refl within.formatter.burst within
  within_after_break false = within_kept s s.coming acting refl refl within.formatter.burst within

  -- the request took effect
  abbrev after : State
  after = with_formatter (acted s.formatter) s

  within_after : IsWithin after
  within_after = within_acted r (with_formatter (after_break s.formatter) s) may (within_after_break (breaks_first s.formatter))

  leaves : Leaves (after_break s.formatter) (acted s.formatter)
  leaves = (acts-act r (after_break s.formatter) may).leaves

  idle : (acted s.formatter).event ≡ events.Nothing
  idle = (acts-act r (after_break s.formatter) may).event ∙ event_after (breaks_first s.formatter) s.formatter

  -- and its space is made
  glides_obeyed : (not (breaks_first s.formatter) || breaks_idly s.formatter) ≡ true
      → Glides s ((if breaks_first s.formatter then 3 else 2) + moves_spacing (acted s.formatter)) (with_formatter (after_space (acted s.formatter)) s)
  glides_obeyed idly =
      glides-add s (if breaks_first s.formatter then 3 else 2) (moves_spacing (acted s.formatter)) after (with_formatter (after_space (acted s.formatter)) s)
      (glides_by_break (breaks_first s.formatter) refl idly)
      (glides_after (after_break s.formatter) after leaves (springs_after (breaks_first s.formatter) s.formatter ∙ springs) chosen idle within_after)

  within_obeyed : IsWithin (with_formatter (after_space (acted s.formatter)) s)
  within_obeyed = within_afterwards (after_break s.formatter) after leaves within_after

-- what the engine is then
abbrev pub obeyed_shape : Formatter → Shape → Shape
obeyed_shape f e = record e { formatter = f }

-- what may be obeyed, part by part
record MayObey (f : Formatter) : Type 0 where
  springs : f.springs ≡ None
  acts : may_act f.reader.request (after_break f) ≡ true
  idly : (not (breaks_first f) || breaks_idly f) ≡ true

may_parts : (f : Formatter) → may_obey f ≡ true → MayObey f
may_parts f may =
    let first = and_parts (is_none f.springs) (may_act f.reader.request (after_break f) && (not (breaks_first f) || breaks_idly f)) may in
    let second = and_parts (may_act f.reader.request (after_break f)) (not (breaks_first f) || breaks_idly f) first.1 in
    record { springs = none_of f.springs first.0; acts = second.0; idly = second.1 }

-- how many moves the request takes
abbrev moves_acting : Formatter → ℕ
moves_acting f = (if breaks_first f then 3 else 2) + moves_spacing (acted f)

made_obeyed : (e : Shape) (supply : Option Supply) (held : Option (List ℕ)) (s : State) → Stands [] supply s e → e.formatter.event ≡ events.Request → may_obey e.formatter ≡ true
    → Made [] (at e s) (moves_acting e.formatter) (obeyed_shape (obeyed e.formatter) e) supply held held
made_obeyed e supply held s h request may =
    let f = e.formatter in
    let parts = may_parts f may in
    let glides = glides_obeyed (at e s) h.chosen_is request parts.springs parts.acts h.within parts.idly in
    let within = within_obeyed (at e s) h.chosen_is request parts.springs parts.acts h.within in
    let g : Formatter = after_space (acted f) in
    let is : obeyed f ≡ g = rw may refl in
    let holds : Holds [] supply (with_formatter g (at e s)) (obeyed_shape g e) =
    holds_of supply (with_formatter g (at e s)) (obeyed_shape g e) refl h.chosen_is h.coming h.row h.page h.page_limit h.select h.faces within in
    subst (λ (x : Formatter). Made [] (at e s) (moves_acting f) (obeyed_shape x e) supply held held) (sym is) (record {
      runs = glides.runs;
      holds = rw glides.leads holds;
      wrote = wrote_nothing (at e s) _ held (ap (λ (t : State). t.pages) glides.leads);
    })

makes_by : (m : Bool) (e : Shape) (supply : Option Supply) → may_obey e.formatter ≡ m → e.formatter.event ≡ events.Request
    → Makes (moves_obeying e.formatter) e (obeyed_shape (obeyed e.formatter) e) supply supply
makes_by false e supply may request =
    let none : moves_obeying e.formatter ≡ 0 = rw may refl in
    let same : obeyed e.formatter ≡ e.formatter = rw may refl in
    subst (λ (x : Formatter). Makes (moves_obeying e.formatter) e (obeyed_shape x e) supply supply) (sym same)
    (subst (λ n. Makes n e e supply supply) (sym none) (makes_none e supply))
makes_by true e supply may request =
    let acts = (may_parts e.formatter may).acts in
    let falls = falls-obeyed e.formatter request acts may in
    let moves : moves_obeying e.formatter ≡ moves_acting e.formatter = rw may refl in
    record {
      makes = λ held s h. subst (λ n. Made [] (at e s) n (obeyed_shape (obeyed e.formatter) e) supply held held) (sym moves) (made_obeyed e supply held s h request may);
      limit = falls.limit;
      most = falls.most;
      limits = formatter-limits e (obeyed e.formatter) (obeyed-limits e.formatter acts may);
      spends = (let less = falls.falls e.place in omega (arith, less));
    }

-- the request whose line was read, if it only sets or makes space
pub makes_obeyed : (e : Shape) → e.formatter.event ≡ events.Request → MakesInPlace (moves_obeying e.formatter) e (obeyed_shape (obeyed e.formatter) e)
makes_obeyed e request = record { makes = λ supply. makes_by (may_obey e.formatter) e supply refl request; place = refl }

few_by : (may first space : Bool) → (if may then (if first then 3 else 2) + (if space then 1 else 0) else 0) ≤ 4
few_by true true true = omega arith
few_by true true false = omega arith
few_by true false true = omega arith
few_by true false false = omega arith
few_by false first space = omega arith

pub moves_obeying-le : (f : Formatter) → moves_obeying f ≤ 4
moves_obeying-le f = few_by (may_obey f) (breaks_first f) (may_space (acted f).task (acted f))

-- ---- what comes next

-- what is no request that makes space only sets
sets_of : (a b : Bool) → b ≡ false → (a || b) ≡ true → a ≡ true
sets_of true b none may = refl
sets_of false b none may = absurd (let wrong : false ≡ true = sym none ∙ may in cc)

reads_after : (b : Bool) (f : Formatter) → may_set f.reader.request (after_by b f) ≡ true → f.springs ≡ None → ReadsNext (act f.reader.request (after_by b f))
reads_after b f sets springs =
    let act = sets-act f.reader.request (after_by b f) sets in
    record { springs = act.springs ∙ springs_after b f ∙ springs; event = act.event ∙ event_after b f; task = act.task }

-- where the input is read no space is to be made
reads_made : (f : Formatter) → ReadsNext f → ReadsNext (after_space f)
reads_made f reads = subst (λ (t : Task). ReadsNext (space_by t f)) (sym reads.task) reads

reads_by : (m : Bool) (f : Formatter) → may_obey f ≡ m → is_spacing f.reader.request ≡ false → 0 < moves_obeying f → ReadsNext (obeyed f)
reads_by false f may sets some =
    let none : moves_obeying f ≡ 0 = rw may refl in
    absurd (omega (arith, none, some))
reads_by true f may sets some =
    let parts = may_parts f may in
    let is : obeyed f ≡ after_space (acted f) = rw may refl in
    let only = sets_of (may_set f.reader.request (after_break f)) (is_spacing f.reader.request) sets parts.acts in
    subst ReadsNext (sym is) (reads_made (acted f) (reads_after (breaks_first f) f only parts.springs))

-- the input is read next where a request took effect that only sets
pub reads_obeyed : (f : Formatter) → is_spacing f.reader.request ≡ false → 0 < moves_obeying f → ReadsNext (obeyed f)
reads_obeyed f sets some = reads_by (may_obey f) f refl sets some

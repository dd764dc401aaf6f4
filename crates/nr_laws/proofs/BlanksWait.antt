-- A state in which blanks of a line's beginning wait, and the moves from it.
use Rattle.std.proofs.Common.{◌≡◌, ◌≢◌, ℕ, ◌+◌, ◌≤◌, Bool, true, false, if◌then◌else◌, [], Option, None, Some, refl, ap, sym, subst, ◌∙◌, arith}
use Rattle.nr_settings.specs.Specials.{special_of}
use Rattle.nr_settings.specs.declared.specials.Special.{Special}
use Rattle.nr_settings.specs.declared.specials.Special.TheVariants as specials
use Rattle.nr_store.specs.Store.{Stored, shown}
use Rattle.nr_store.specs.declared.shown.Shown.{Shown}
use Rattle.nr_store.specs.declared.shown.Shown.TheVariants as shows
use Rattle.nr_reading.specs.Half.{TakenIn, take_in}
use Rattle.nr_reading.specs.Weights.{blanks_owed, blanks_of_pending, blanks_of_mode}
use Rattle.nr_reading.specs.declared.event.Event.{Event}
use Rattle.nr_reading.specs.declared.event.Event.TheVariants as events
use Rattle.nr_reading.specs.declared.half.Half.{Half}
use Rattle.nr_reading.specs.declared.mode.Mode.TheVariants as modes
use Rattle.nr_input.specs.Moving.{looks, look, taken_at, stays_at, acted_at, acting, emitted_of}
use Rattle.nr_input.specs.Moving as input
use Rattle.nr_input.specs.Place.{Coming, next_item}
use Rattle.nr_input.specs.declared.reader.Reader.{Reader}
use Rattle.nr_input.specs.declared.emitted.Emitted.TheVariants as tells
use Rattle.nr_formatter.specs.Access.{asked, done}
use Rattle.nr_formatter.specs.BuiltIn.{given_named}
use Rattle.nr_formatter.specs.Moves as moves
use Rattle.nr_formatter.specs.Registers as registers
use Rattle.nr_formatter.specs.Text as texts
use Rattle.nr_formatter.specs.Titles as titles
use Rattle.nr_formatter.specs.Titles.{is_title}
use Rattle.nr_formatter.specs.declared.built_in.BuiltInRegister.{BuiltInRegister}
use Rattle.nr_formatter.specs.declared.formatter.Formatter.{Formatter}
use Rattle.nr_formatter.specs.declared.tasks.Resume.{Resume}
use Rattle.nr_formatter.specs.declared.tasks.Task.{Task}
use Rattle.nr_formatter.specs.declared.tasks.Task.TheVariants as tasks
use Rattle.nr_machine.specs.State.{State, plainly}
use Rattle.nr_machine.specs.Machine.{work, hear, step, situation_of, with_situation}
use Rattle.nr_machine.specs.Run.{Reads, Kind, kind, Goes, GoesBy}
use Rattle.nr_laws.proofs.BlanksActs.{act-after, act-silent}
use Rattle.nr_laws.proofs.BlanksReads.{IsQuiet, After, Wait as Waiting, Tell, Few, take_in-after, resume-stays}
use Rattle.nr_laws.proofs.BlanksSaved.{Saves, blanks_in, look-saves, pending_act-saves}
use Rattle.nr_laws.proofs.BlanksEmitted.{Leads, step-hears}
use Rattle.nr_laws.proofs.MovesPaid.{step-paid}
use Rattle.nr_laws.proofs.PageLengths.{HasHeight}
use Rattle.nr_laws.proofs.ReadMoves.{reads-step}
use Rattle.nr_laws.proofs.ReadsPaid.{Paid}

-- what is under way while blanks wait
abbrev pub IsCalm : Event → Task → Type 0
IsCalm e tasks.Read = IsQuiet e
IsCalm e tasks.Dash = e ≡ events.Nothing
IsCalm e t = ⊥

pub record Waits (n : ℕ) (s : State) : Type 0 where
  pub chosen : s.chosen ≡ []
  pub springs : s.formatter.springs ≡ None
  pub calm : IsCalm s.formatter.event s.formatter.task
  pub mode : s.formatter.reader.half.reading.mode ≡ modes.Leading n
  pub none : blanks_of_pending s.formatter.reader.half.reading.pending_act ≡ 0

-- no more than so many blanks are owed, or they are pending, or they wait
pub data Stands (most : ℕ) (s : State) : Type 0 where
  Has : blanks_in s ≤ most → Stands most s
  Emitted : (n : ℕ) → Leads n s → Stands most s
  Wait : (n : ℕ) → Waits n s → Stands most s

-- ---- after a move that reads

after-stands : (most : ℕ) (s : State) (v : Stored Resume) (c : Coming) (r : Reader) (e : Event) → 1 ≤ most → s.chosen ≡ [] → s.formatter.springs ≡ None → s.formatter.task ≡ tasks.Read
    → After e r.half.reading → Stands most (record s { coming = c; formatter = record s.formatter { store = v; reader = r; event = e } })
after-stands most s v c r e some chosen springs task (Waiting n mode none quiet) =
    Wait n (record { chosen = chosen; springs = springs; calm = subst (λ (t : Task). IsCalm e t) (sym task) quiet; mode = mode; none = none })
after-stands most s v c r e some chosen springs task (Tell n mode pending_act event) =
    Emitted n (record { chosen = chosen; springs = springs; event = event; task = task; mode = mode; pending_act = pending_act })
after-stands most s v c r e some chosen springs task (Few few) = Has (omega (arith, few, some))

-- what is emitted where an item is taken: a resume mark is not
event-emitted : (sh : Shown Resume) (n : ℕ) (c : Coming) (h : Half) → h.reading.mode ≡ modes.Leading n → blanks_of_pending h.reading.pending_act ≡ 0
    → let m = take_in (next_item sh c) h in m.takes ≡ true → emitted_of sh m.event ≡ tells.Event m.event
event-emitted (shows.Resume k) n c h mode none takes = absurd (let wrong : true ≡ false = sym takes ∙ resume-stays n h mode none in cc)
event-emitted sh n c h mode none takes = refl

looked : (b : Bool) (most : ℕ) (m : TakenIn) (s : State) → (b ≡ true → emitted_of (shown s.formatter.store.levels) m.event ≡ tells.Event m.event) → 1 ≤ most
    → s.chosen ≡ [] → s.formatter.springs ≡ None → s.formatter.task ≡ tasks.Read → After m.event m.half.reading
    → Stands most (with_situation (if b then taken_at m (situation_of s) else stays_at m (situation_of s)) s)
looked true most m s event some chosen springs task after =
    let t = taken_at m (situation_of s) in
    rw (event refl) (after-stands most s t.situation.stored t.situation.coming t.situation.reader m.event some chosen springs task after)
looked false most m s event some chosen springs task after =
    let t = stays_at m (situation_of s) in
    after-stands most s t.situation.stored t.situation.coming t.situation.reader m.event some chosen springs task after

-- ---- what is heard

-- the blanks stay
record Keeps (f g : Formatter) : Type 0 where
  springs : g.springs ≡ f.springs
  calm : IsCalm g.event g.task
  mode : g.reader.half.reading.mode ≡ f.reader.half.reading.mode
  none : blanks_of_pending g.reader.half.reading.pending_act ≡ 0

module _ (f : Formatter) (task : f.task ≡ tasks.Read) (none : blanks_of_pending f.reader.half.reading.pending_act ≡ 0) where
  calm : IsCalm events.Nothing f.task
  calm = rw task tt

  given-keeps : (r : Option BuiltInRegister) → Keeps f (done (registers.given_by r f))
  given-keeps None = record { springs = refl; calm = calm; mode = refl; none = none }
  given-keeps (Some r) = record { springs = refl; calm = calm; mode = refl; none = refl }

  special_at-keeps : (x : Option Special) → Keeps f (texts.special_at x f)
  special_at-keeps None = record { springs = refl; calm = calm; mode = refl; none = none }
  special_at-keeps (Some specials.Dash) = record { springs = refl; calm = refl; mode = refl; none = none }
  special_at-keeps (Some x) = record { springs = refl; calm = calm; mode = refl; none = none }

  special-keeps : Keeps f (texts.special f)
  unfolding texts.special
  special-keeps = special_at-keeps (special_of (asked f))

  text-keeps : (e : Event) (c : Bool) → IsQuiet e → moves.is_text e ≡ true → c ≡ false → Keeps f (if c then titles.title e f else texts.text e f)
  text-keeps e true quiet is untitled = absurd (let wrong : true ≡ false = untitled in cc)
  text-keeps events.Special false quiet is untitled = special-keeps
  text-keeps events.Horizontal false quiet is untitled = record { springs = refl; calm = calm; mode = refl; none = none }
  text-keeps events.Rule false quiet is untitled = record { springs = refl; calm = calm; mode = refl; none = none }
  text-keeps events.Nothing false quiet is untitled = absurd (let wrong : false ≡ true = is in cc)
  text-keeps events.Given false quiet is untitled = absurd (let wrong : false ≡ true = is in cc)
  text-keeps events.Width false quiet is untitled = absurd (let wrong : false ≡ true = is in cc)
  text-keeps events.Font false quiet is untitled = absurd (let wrong : false ≡ true = is in cc)
  text-keeps e false quiet is untitled = absurd quiet

  heard-keeps : (n : ℕ) (e : Event) → f.reader.half.reading.mode ≡ modes.Leading n → IsQuiet e → Keeps f (moves.heard e f)
  heard-keeps n events.Nothing mode quiet = record { springs = refl; calm = calm; mode = refl; none = none }
  heard-keeps n events.Given mode quiet = given-keeps (given_named (asked f))
  heard-keeps n events.Width mode quiet = record { springs = refl; calm = calm; mode = refl; none = refl }
  heard-keeps n events.Font mode quiet = record { springs = refl; calm = calm; mode = refl; none = none }
  heard-keeps n events.Special mode quiet = text-keeps events.Special (titles.reads_title f) tt refl (ap is_title mode)
  heard-keeps n events.Horizontal mode quiet = text-keeps events.Horizontal (titles.reads_title f) tt refl (ap is_title mode)
  heard-keeps n events.Rule mode quiet = text-keeps events.Rule (titles.reads_title f) tt refl (ap is_title mode)
  heard-keeps n e mode quiet = absurd quiet

-- the second cell of a dash
dash-keeps : (c : Bool) (f : Formatter) → c ≡ false → f.event ≡ events.Nothing → blanks_of_pending f.reader.half.reading.pending_act ≡ 0 → Keeps f (if c then titles.title_dash_end f else texts.dash_end f)
dash-keeps true f untitled idle none = absurd (let wrong : true ≡ false = untitled in cc)
dash-keeps false f untitled idle none = record { springs = refl; calm = tt; mode = refl; none = none }

hears-plainly : (e : Event) (s : State) → e ≢ events.Nothing → IsQuiet e → hear e s ≡ plainly (moves.heard e) s
hears-plainly events.Nothing s other quiet = absurd (other refl)
hears-plainly events.Given s other quiet = refl
hears-plainly events.Width s other quiet = refl
hears-plainly events.Font s other quiet = refl
hears-plainly events.Special s other quiet = refl
hears-plainly events.Horizontal s other quiet = refl
hears-plainly events.Rule s other quiet = refl
hears-plainly e s other quiet = absurd quiet

-- where blanks wait the next move saves
pub record Holds (most : ℕ) (s t : State) : Type 0 where
  pub saves : Saves s t
  pub stands : Stands most t

module _ (most n : ℕ) (s : State) (some : 1 ≤ most) (h : Waits n s) where
  read-holds : (b : Bool) → looks (situation_of s) ≡ b → s.formatter.event ≡ events.Nothing → s.formatter.task ≡ tasks.Read → input.GoesBy b (situation_of s)
      → Holds most s (with_situation (if b then look (situation_of s) else acted_at (situation_of s)) s)
  read-holds true looking idle task goes =
      let half = s.formatter.reader.half in
      let sh = shown s.formatter.store.levels in
      let m = take_in (next_item sh s.coming) half in
      let event = event-emitted sh n s.coming half h.mode h.none in
      record {
        saves = look-saves s event looking idle task;
        stands = looked m.takes most m s event some h.chosen h.springs task (take_in-after n (next_item sh s.coming) half h.mode h.none);
      }
  read-holds false looking idle task goes =
      let v = s.formatter.store in
      let r = s.formatter.reader in
      let a = acting (situation_of s) in
      record {
        saves = pending_act-saves s looking idle task goes (act-silent n v r h.mode h.none r.half.reading.pending_act h.none);
        stands = after-stands most s a.stored s.coming a.reader a.event some h.chosen h.springs task (act-after n v r h.mode h.none r.half.reading.pending_act h.none);
      }

  kept-holds : (f : Formatter) → Keeps s.formatter f → Paid s (record s { formatter = f }) → Holds most s (record s { formatter = f })
  kept-holds f keeps paid =
      let before : blanks_in s ≡ blanks_of_mode (modes.Leading n) + 0 = rw (h.mode, h.none) refl in
      let mode : f.reader.half.reading.mode ≡ modes.Leading n = keeps.mode ∙ h.mode in
      let after : blanks_owed f.reader.half ≡ blanks_of_mode (modes.Leading n) + 0 = rw (mode, keeps.none) refl in
      let pays = paid.pays in
      record {
        saves = record { pays = omega (arith, before, after, pays) };
        stands = Wait n (record { chosen = h.chosen; springs = keeps.springs ∙ h.springs; calm = keeps.calm; mode = mode; none = keeps.none });
      }

  hear-holds : (e : Event) → HasHeight s.formatter → Goes s → s.formatter.event ≡ e → e ≢ events.Nothing → s.formatter.task ≡ tasks.Read → IsQuiet e → Holds most s (step s)
  hear-holds e height goes event other task quiet =
      let is : step s ≡ plainly (moves.heard e) s = step-hears e s h.chosen h.springs event ∙ hears-plainly e s other quiet in
      subst (λ (t : State). Holds most s t) (sym is)
      (kept-holds (moves.heard e s.formatter) (heard-keeps s.formatter task h.none n e h.mode quiet) (subst (λ (t : State). Paid s t) is (step-paid s height goes)))

  dash-holds : HasHeight s.formatter → Goes s → s.formatter.event ≡ events.Nothing → s.formatter.task ≡ tasks.Dash → Holds most s (step s)
  dash-holds height goes idle task =
      let is : step s ≡ plainly texts.finish_dash s = step-hears events.Nothing s h.chosen h.springs idle ∙ ap (λ (t : Task). work t s) task in
      subst (λ (t : State). Holds most s t) (sym is)
      (kept-holds (texts.finish_dash s.formatter) (dash-keeps (titles.reads_title s.formatter) s.formatter (ap is_title h.mode) idle h.none) (subst (λ (t : State). Paid s t) is (step-paid s height goes)))

  reads-holds : Goes s → s.formatter.event ≡ events.Nothing → s.formatter.task ≡ tasks.Read → Holds most s (step s)
  reads-holds goes idle task =
      let kind_is : kind s ≡ Reads = rw (h.chosen, h.springs, idle, task) refl in
      let looks_on = subst (λ (k : Kind). GoesBy k s) kind_is goes in
      subst (λ (t : State). Holds most s t) (sym (reads-step s kind_is)) (read-holds (looks (situation_of s)) refl idle task looks_on)

  event-holds : (e : Event) → HasHeight s.formatter → Goes s → s.formatter.event ≡ e → s.formatter.task ≡ tasks.Read → IsQuiet e → Holds most s (step s)
  event-holds events.Nothing height goes event task quiet = reads-holds goes event task
  event-holds events.Given height goes event task quiet = hear-holds events.Given height goes event (λ e. let wrong : ⊥ = cc in wrong) task tt
  event-holds events.Width height goes event task quiet = hear-holds events.Width height goes event (λ e. let wrong : ⊥ = cc in wrong) task tt
  event-holds events.Font height goes event task quiet = hear-holds events.Font height goes event (λ e. let wrong : ⊥ = cc in wrong) task tt
  event-holds events.Special height goes event task quiet = hear-holds events.Special height goes event (λ e. let wrong : ⊥ = cc in wrong) task tt
  event-holds events.Horizontal height goes event task quiet = hear-holds events.Horizontal height goes event (λ e. let wrong : ⊥ = cc in wrong) task tt
  event-holds events.Rule height goes event task quiet = hear-holds events.Rule height goes event (λ e. let wrong : ⊥ = cc in wrong) task tt
  event-holds e height goes event task quiet = absurd quiet

  task-holds : (t : Task) → HasHeight s.formatter → Goes s → s.formatter.task ≡ t → IsCalm s.formatter.event t → Holds most s (step s)
  task-holds tasks.Read height goes task calm = event-holds s.formatter.event height goes refl task calm
  task-holds tasks.Dash height goes task calm = dash-holds height goes calm task
  task-holds t height goes task calm = absurd calm

  pub step-holds : HasHeight s.formatter → Goes s → Holds most s (step s)
  step-holds height goes = task-holds s.formatter.task height goes refl h.calm

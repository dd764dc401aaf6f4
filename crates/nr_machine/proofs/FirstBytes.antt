-- The states of a run over the first bytes of an input alone.
use Rattle.std.specs.Prelude.{is_none, not}
use Rattle.std.proofs.lemmas.Bool.{cases_lt}
use Rattle.std.proofs.Common.{◌≡◌, ℕ, zero, suc, ◌+◌, ◌-◌, ◌<◌, Bool, true, false, if◌then◌else◌, List, [], ◌∷◌, ◌++◌, length, Option, None, Some, refl, ap, sym, ◌∙◌, subst, arith, inl, inr}
use Rattle.nr_units.specs.Source.{Supply, Faults, Never, After, Anytime, MayGive, one_later}
use Rattle.nr_vectors.specs.declared.cell.Cell.{Cell}
use Rattle.nr_symbol_tables.specs.declared.trap.Trap.{Trap}
use Rattle.nr_store.specs.Store.{shown, left}
use Rattle.nr_store.specs.declared.request.Request.{Request}
use Rattle.nr_store.specs.declared.request.Request.TheVariants as requests
use Rattle.nr_store.specs.declared.shown.Shown.{Shown}
use Rattle.nr_store.specs.declared.shown.Shown.TheVariants as shows
use Rattle.nr_reading.specs.Half.{TakenIn, take_in}
use Rattle.nr_reading.specs.declared.event.Event.{Event}
use Rattle.nr_reading.specs.declared.event.Event.TheVariants as events
use Rattle.nr_input.specs.Place.{Coming, emptied, next_item, next_item_of, afterwards, after_item_of, MaySee, MayLook}
use Rattle.nr_input.specs.Moving as input
use Rattle.nr_input.specs.Moving.{Situation, burst_after, emitted_of, looks, look, taken_in_at, taken_at, stays_at, acted_at}
use Rattle.nr_formatter.specs.declared.formatter.Formatter.{Formatter}
use Rattle.nr_formatter.specs.declared.lines.Going.{Going}
use Rattle.nr_formatter.specs.declared.paper.Outlet.{Outlet}
use Rattle.nr_formatter.specs.declared.paper.Outlet.TheVariants as outlets
use Rattle.nr_formatter.specs.declared.tasks.Ejected.{Ejected}
use Rattle.nr_formatter.specs.declared.tasks.Resume.{Resume}
use Rattle.nr_formatter.specs.declared.tasks.Room.{Room}
use Rattle.nr_formatter.specs.declared.tasks.Task.{Task}
use Rattle.nr_formatter.specs.declared.tasks.Task.TheVariants as tasks
use Rattle.nr_formatter.specs.declared.tasks.Then.{Then}
use Rattle.nr_formatter.specs.Access.{collected}
use Rattle.nr_formatter.specs.Lines.{flow_line, break_line, flow_done, break_word_end, break_done}
use Rattle.nr_formatter.specs.Pages.{begins_first_page, is_ejecting, next_springing, task_ejected}
use Rattle.nr_formatter.specs.Places.{outlet, to_read}
use Rattle.nr_formatter.specs.Spacing.{is_spaceless}
use Rattle.nr_machine.specs.State.{State, Choice, plainly, start}
use Rattle.nr_machine.specs.Machine.{begin_page, turn_page, put_line_to, put_or, break_part, break_out, continues_none, room_in, title_to, cell_to, line_to, space_to, put_space, eject_to, eject, act, work, hear, spring_or, choose_or, step, state_after, situation_of, with_situation, emitted, read}
use Rattle.nr_machine.specs.Measures.{passed}
use Rattle.nr_machine.specs.Run.{Kind, Works, Over, kind, kind_of, kind_of_springs, kind_of_event, kind_of_task, Goes, GoesBy, Runs}
use Rattle.nr_machine.specs.Run as run
use Rattle.nr_machine.specs.FirstBytes.{after_more, preceded, broken_off, followed, with_rest, FirstIsKept}

-- the source fails after the bytes that are to come
abbrev BreaksOff : Coming → Type 0
BreaksOff c = c.supply.faults ≡ After (length c.supply.bytes)

-- it gives nothing and never fails
abbrev IsOver : Coming → Type 0
IsOver c = c.supply.faults ≡ Never

-- ---- the next item

module _ (rest : Supply) where
  -- the source goes on
  abbrev going_on : Coming → Coming
  going_on c = record c { supply = preceded c.supply.bytes rest }

  one_less : (n m : ℕ) → (suc n + m) - 1 ≡ n + m
  one_less n m = omega arith

  later_more : (n : ℕ) (f : Faults) → one_later (after_more (suc n) f) ≡ after_more n f
  later_more n Never = refl
  later_more n (After m) = ap After (one_less n m)
  later_more n Anytime = refl

  abbrev coming : List ℕ → Faults → ℕ → Bool → Coming
  coming bytes faults taken inside = record { supply = record { bytes = bytes; faults = faults }; taken = taken; inside = inside }

  none_given : (f : Faults) → f ≡ After 0 → MayGive f → ⊥
  none_given f is gives = let less : 0 < 0 = subst MayGive is gives in omega (arith, less)

  source_item : (bytes : List ℕ) (f : Faults) (taken : ℕ) (inside : Bool) → BreaksOff (coming bytes f taken inside) → MaySee (coming bytes f taken inside)
      → next_item_of (bytes ++ rest.bytes) inside ≡ next_item_of bytes inside
  source_item [] f taken inside breaks sees = absurd (none_given f breaks sees.0)
  source_item (b ∷ bs) f taken inside breaks sees = refl

  after_source_item : (bytes : List ℕ) (f : Faults) (taken : ℕ) (inside : Bool) → BreaksOff (coming bytes f taken inside) → MaySee (coming bytes f taken inside)
      → after_item_of (bytes ++ rest.bytes) (going_on (coming bytes f taken inside)) ≡ going_on (after_item_of bytes (coming bytes f taken inside))
  after_source_item [] f taken inside breaks sees = absurd (none_given f breaks sees.0)
  after_source_item (b ∷ bs) f taken inside breaks sees =
      let after = after_item_of (b ∷ bs) (coming (b ∷ bs) f taken inside) in
      ap (λ (g : Faults). coming (bs ++ rest.bytes) g after.taken after.inside) (later_more (length bs) rest.faults)

  breaks_later : (bytes : List ℕ) (f : Faults) (taken : ℕ) (inside : Bool) → BreaksOff (coming bytes f taken inside) → MaySee (coming bytes f taken inside)
      → BreaksOff (after_item_of bytes (coming bytes f taken inside))
  breaks_later [] f taken inside breaks sees = breaks
  breaks_later (b ∷ bs) f taken inside breaks sees =
      ap one_later breaks ∙ ap After (let e : suc (length bs) - 1 ≡ length bs = omega arith in e)

  sees_more : (bytes : List ℕ) (f g : Faults) (taken : ℕ) (inside : Bool) → BreaksOff (coming bytes f taken inside) → MaySee (coming bytes f taken inside)
      → MaySee (coming (bytes ++ rest.bytes) (after_more (length bytes) g) taken inside)
  sees_more [] f g taken inside breaks sees = absurd (none_given f breaks sees.0)
  sees_more (b ∷ bs) f Never taken inside breaks sees = (tt, sees.1)
  sees_more (b ∷ bs) f (After m) taken inside breaks sees = ((let less : 0 < suc (length bs) + m = omega arith in less), sees.1)
  sees_more (b ∷ bs) f Anytime taken inside breaks sees = (tt, sees.1)

  item : (s : Shown Resume) (c : Coming) → BreaksOff c → MayLook s c → next_item s (going_on c) ≡ next_item s c
  item shows.Nothing c breaks looks = source_item c.supply.bytes c.supply.faults c.taken c.inside breaks looks
  item shows.End c breaks looks = refl
  item (shows.Item x) c breaks looks = refl
  item (shows.Resume k) c breaks looks = refl

  after_item : (s : Shown Resume) (c : Coming) → BreaksOff c → MayLook s c → afterwards s (going_on c) ≡ going_on (afterwards s c)
  after_item shows.Nothing c breaks looks = after_source_item c.supply.bytes c.supply.faults c.taken c.inside breaks looks
  after_item s c breaks looks = refl

  breaks_after : (s : Shown Resume) (c : Coming) → BreaksOff c → MayLook s c → BreaksOff (afterwards s c)
  breaks_after shows.Nothing c breaks looks = breaks_later c.supply.bytes c.supply.faults c.taken c.inside breaks looks
  breaks_after s c breaks looks = breaks

  looks_on : (s : Shown Resume) (c : Coming) → BreaksOff c → MayLook s c → MayLook s (going_on c)
  looks_on shows.Nothing c breaks looks = sees_more c.supply.bytes c.supply.faults rest.faults c.taken c.inside breaks looks
  looks_on s c breaks looks = tt

  -- ---- a move that reads

  taken_in : (k : Bool) (m : TakenIn) (s : State) → BreaksOff s.coming → MayLook (shown s.formatter.store.levels) s.coming
      → with_situation (if k then taken_at m (situation_of (followed rest s)) else stays_at m (situation_of (followed rest s))) (followed rest s)
      ≡ followed rest (with_situation (if k then taken_at m (situation_of s) else stays_at m (situation_of s)) s)
  taken_in true m s breaks looks =
      ap (λ (c : Coming). record s {
        coming = c;
        formatter = emitted (emitted_of (shown s.formatter.store.levels) m.event) (record s.formatter {
          store = left s.formatter.store.levels s.formatter.store;
          reader = record s.formatter.reader { half = m.half; burst = burst_after s.coming c s.formatter.reader.burst };
        });
      }) (after_item (shown s.formatter.store.levels) s.coming breaks looks)
  taken_in false m s breaks looks = refl

  looked : (s : State) → BreaksOff s.coming → MayLook (shown s.formatter.store.levels) s.coming
      → with_situation (look (situation_of (followed rest s))) (followed rest s) ≡ followed rest (with_situation (look (situation_of s)) s)
  looked s breaks looks =
      let m = take_in (next_item (shown s.formatter.store.levels) s.coming) s.formatter.reader.half in
      ap (λ x. with_situation (taken_in_at (take_in x s.formatter.reader.half) (situation_of (followed rest s))) (followed rest s))
      (item (shown s.formatter.store.levels) s.coming breaks looks)
      ∙ taken_in m.takes m s breaks looks

  moved : (k : Bool) (s : State) → BreaksOff s.coming → input.GoesBy k (situation_of s)
      → with_situation (if k then look (situation_of (followed rest s)) else acted_at (situation_of (followed rest s))) (followed rest s)
      ≡ followed rest (with_situation (if k then look (situation_of s) else acted_at (situation_of s)) s)
  moved true s breaks goes = looked s breaks goes
  moved false s breaks goes = refl

  read-followed : (s : State) → BreaksOff s.coming → input.Goes (situation_of s) → read (followed rest s) ≡ followed rest (read s)
  read-followed s breaks goes = moved (looks (situation_of s)) s breaks goes

  breaks_in : (k : Bool) (m : TakenIn) (q : Situation Resume) → BreaksOff q.coming → MayLook (shown q.stored.levels) q.coming → BreaksOff (if k then taken_at m q else stays_at m q).situation.coming
  breaks_in true m q breaks looks = breaks_after (shown q.stored.levels) q.coming breaks looks
  breaks_in false m q breaks looks = breaks

  breaks_moved : (k : Bool) (q : Situation Resume) → BreaksOff q.coming → input.GoesBy k q → BreaksOff (if k then look q else acted_at q).situation.coming
  breaks_moved true q breaks goes = let m = take_in (next_item (shown q.stored.levels) q.coming) q.reader.half in breaks_in m.takes m q breaks goes
  breaks_moved false q breaks goes = breaks

  goes_reading : (k : Bool) (s : State) → BreaksOff s.coming → input.GoesBy k (situation_of s) → input.GoesBy k (situation_of (followed rest s))
  goes_reading true s breaks goes = looks_on (shown s.formatter.store.levels) s.coming breaks goes
  goes_reading false s breaks goes = goes

  -- ---- what is under way

  -- t is come to where the source does not matter
  abbrev Same : State → State → State → Type 0
  Same s t t' = (t' ≡ followed rest t) × (t.coming ≡ s.coming)

  either : (c : Bool) (s t u t' u' : State) → Same s t t' → Same s u u' → Same s (if c then t else u) (if c then t' else u')
  either true s t u t' u' first second = first
  either false s t u t' u' first second = second

  turned : (o : Outlet) (s : State) → Same s (turn_page o s) (turn_page o (followed rest s))
  turned outlets.Full s = (refl, refl)
  turned o s = (refl, refl)

  line_put : (o : Outlet) (g : Going) (s : State) → Same s (put_line_to o g s) (put_line_to o g (followed rest s))
  line_put outlets.Diversion g s = (refl, refl)
  line_put outlets.Room g s = (refl, refl)
  line_put o g s = turned o s

  put : (g : Option Going) (done : Formatter → Formatter) (s : State) → Same s (put_or g done s) (put_or g done (followed rest s))
  put None done s = (refl, refl)
  put (Some g) done s = line_put (outlet s.formatter) g s

  broken_part : (t : Then) (s : State) → Same s (break_part t s) (break_part t (followed rest s))
  broken_part t s =
      either (not (is_none (collected s.formatter).word)) s (plainly break_word_end s) (if begins_first_page t s.formatter then begin_page s else put_or (break_line s.formatter) (break_done t) s)
      (plainly break_word_end (followed rest s)) (if begins_first_page t s.formatter then begin_page (followed rest s) else put_or (break_line s.formatter) (break_done t) (followed rest s)) (refl, refl)
      (either (begins_first_page t s.formatter) s (begin_page s) (put_or (break_line s.formatter) (break_done t) s) (begin_page (followed rest s)) (put_or (break_line s.formatter) (break_done t) (followed rest s))
      (refl, refl) (put (break_line s.formatter) (break_done t) s))

  broken_out : (t : Then) (s : State) → Same s (break_out t s) (break_out t (followed rest s))
  broken_out t s = broken_part t (plainly continues_none s)

  room_made : (o : Outlet) (r : Room) (s : State) → Same s (room_in o r s) (room_in o r (followed rest s))
  room_made outlets.Diversion r s = (refl, refl)
  room_made outlets.Room r s = (refl, refl)
  room_made o r s = turned o s

  title_put : (o : Outlet) (s : State) → Same s (title_to o s) (title_to o (followed rest s))
  title_put outlets.Diversion s = (refl, refl)
  title_put outlets.Room s = (refl, refl)
  title_put o s = turned o s

  cell_put : (o : Outlet) (x : Cell) (s : State) → Same s (cell_to o x s) (cell_to o x (followed rest s))
  cell_put outlets.Diversion x s = (refl, refl)
  cell_put o x s = (refl, refl)

  row_put : (o : Outlet) (n : ℕ) (s : State) → Same s (line_to o n s) (line_to o n (followed rest s))
  row_put outlets.Diversion n s = (refl, refl)
  row_put outlets.Room n s = (refl, refl)
  row_put o n s = turned o s

  space_made : (o : Outlet) (n : ℕ) (s : State) → Same s (space_to o n s) (space_to o n (followed rest s))
  space_made outlets.Diversion n s = (refl, refl)
  space_made outlets.Room n s = (refl, refl)
  space_made o n s = turned o s

  space_put : (n : ℕ) (s : State) → Same s (put_space n s) (put_space n (followed rest s))
  space_put n s =
      either (is_spaceless n s.formatter) s (plainly to_read s) (space_to (outlet s.formatter) n s) (plainly to_read (followed rest s)) (space_to (outlet s.formatter) n (followed rest s)) (refl, refl)
      (space_made (outlet s.formatter) n s)

  ejected_at : (t : Option Trap) (s : State) → Same s (eject_to t s) (eject_to t (followed rest s))
  ejected_at None s = (refl, refl)
  ejected_at (Some t) s = (refl, refl)

  ejected : (e : Ejected) (s : State) → Same s (eject e s) (eject e (followed rest s))
  ejected e s =
      either (is_ejecting s.formatter) s (eject_to (next_springing s.formatter) s) (plainly (λ f. record f { task = task_ejected e }) s)
      (eject_to (next_springing s.formatter) (followed rest s)) (plainly (λ f. record f { task = task_ejected e }) (followed rest s)) (ejected_at (next_springing s.formatter) s) (refl, refl)

  -- ---- a move

  -- what a move of this kind does with the source
  data Leads (k : Kind) (s t t' : State) : Type 0 where
    Keeps : Same s t t' → Leads k s t t'
    Takes : k ≡ run.Reads → t ≡ read s → t' ≡ read (followed rest s) → Leads k s t t'
    Empties : t.coming ≡ emptied s.coming → Leads k s t t'

  acted : (k : Kind) (r : Request) (s : State) → Leads k s (act r s) (act r (followed rest s))
  acted k requests.Ex s = Empties refl
  acted k r s = Keeps (refl, refl)

  worked_on : (t : Task) (s : State) → Leads (kind_of_task t) s (work t s) (work t (followed rest s))
  worked_on tasks.Read s = Takes refl refl refl
  worked_on (tasks.Flow after breaks) s = Keeps (put (flow_line after breaks s.formatter) (flow_done after) s)
  worked_on (tasks.Break t) s = Keeps (broken_out t s)
  worked_on (tasks.Act r) s = acted (kind_of_task (tasks.Act r)) r s
  worked_on (tasks.Room r) s = Keeps (room_made (outlet s.formatter) r s)
  worked_on tasks.Title s = Keeps (title_put (outlet s.formatter) s)
  worked_on (tasks.Line n) s = Keeps (row_put (outlet s.formatter) n s)
  worked_on (tasks.Space n) s = Keeps (space_put n s)
  worked_on (tasks.Begin given) s = Keeps (refl, refl)
  worked_on (tasks.Eject e) s = Keeps (ejected e s)
  worked_on tasks.Halted s = Keeps (refl, refl)
  worked_on t s = Keeps (refl, refl)

  heard_of : (e : Event) (s : State) → Leads (kind_of_event e s.formatter.task) s (hear e s) (hear e (followed rest s))
  heard_of events.Nothing s = worked_on s.formatter.task s
  heard_of (events.DivertedCell x) s = Keeps (cell_put (outlet s.formatter) x s)
  heard_of e s = Keeps (refl, refl)

  sprung_or : (n : Option (List ℕ)) (s : State) → Leads (kind_of_springs n s.formatter.event s.formatter.task) s (spring_or n s) (spring_or n (followed rest s))
  sprung_or None s = heard_of s.formatter.event s
  sprung_or (Some n) s = Keeps (refl, refl)

  chosen_or : (cs : List Choice) (s : State) → Leads (kind_of cs s.formatter.springs s.formatter.event s.formatter.task) s (choose_or cs s) (choose_or cs (followed rest s))
  chosen_or [] s = sprung_or s.formatter.springs s
  chosen_or (c ∷ cs) s = Keeps (refl, refl)

  leads : (s : State) → Leads (kind s) s (step s) (step (followed rest s))
  unfolding step
  leads s = chosen_or s.chosen s

  -- a source that is over stays so
  over_after : (s : Shown Resume) (c : Coming) → IsOver c → IsOver (afterwards s c)
  over_after shows.Nothing c over = over_later c.supply.bytes c over
    where
      over_later : (bytes : List ℕ) (c : Coming) → IsOver c → IsOver (after_item_of bytes c)
      over_later [] c over = over
      over_later (b ∷ bs) c over = ap one_later over
  over_after s c over = over

  over_in : (k : Bool) (m : TakenIn) (q : Situation Resume) → IsOver q.coming → IsOver (if k then taken_at m q else stays_at m q).situation.coming
  over_in true m q over = over_after (shown q.stored.levels) q.coming over
  over_in false m q over = over

  over_moved : (k : Bool) (q : Situation Resume) → IsOver q.coming → IsOver (if k then look q else acted_at q).situation.coming
  over_moved true q over = let m = take_in (next_item (shown q.stored.levels) q.coming) q.reader.half in over_in m.takes m q over
  over_moved false q over = over

  over_led : (k : Kind) (s t t' : State) → Leads k s t t' → IsOver s.coming → IsOver t.coming
  over_led k s t t' (Keeps same) over = subst IsOver (sym same.1) over
  over_led k s t t' (Takes reads is is') over = subst (λ (x : State). IsOver x.coming) (sym is) (over_moved (looks (situation_of s)) (situation_of s) over)
  over_led k s t t' (Empties empty) over = subst IsOver (sym empty) refl

  over_stepped : (s : State) → IsOver s.coming → IsOver (step s).coming
  over_stepped s over = over_led (kind s) s (step s) (step (followed rest s)) (leads s) over

  -- ---- one move, where the source is not emptied

  reads_goes : (k : Kind) (s : State) → k ≡ run.Reads → GoesBy k s → input.Goes (situation_of s)
  reads_goes k s is goes = subst (λ k. GoesBy k s) is goes

  led : (k : Kind) (s t t' : State) → Leads k s t t' → BreaksOff s.coming → GoesBy k s → (IsOver t.coming → ⊥) → (t' ≡ followed rest t) × BreaksOff t.coming
  led k s t t' (Keeps same) breaks goes left = (same.0, subst BreaksOff (sym same.1) breaks)
  led k s t t' (Takes reads is is') breaks goes left =
      let reading = reads_goes k s reads goes in (
        is' ∙ read-followed s breaks reading ∙ ap (followed rest) (sym is),
        subst (λ (x : State). BreaksOff x.coming) (sym is) (breaks_moved (looks (situation_of s)) (situation_of s) breaks reading),
      )
  led k s t t' (Empties empty) breaks goes left = absurd (left (subst IsOver (sym empty) refl))

  goes_followed : (k : Kind) (s : State) → BreaksOff s.coming → step (followed rest s) ≡ followed rest (step s) → GoesBy k s → GoesBy k (followed rest s)
  goes_followed run.Reads s breaks same goes = goes_reading (looks (situation_of s)) s breaks goes
  goes_followed Works s breaks same goes = ap passed same ∙ goes
  goes_followed Over s breaks same goes = goes

  -- ---- many

  record Follows (n : ℕ) (s : State) : Type 0 where
    runs : Runs n (followed rest s)
    same : state_after n (followed rest s) ≡ followed rest (state_after n s)
    breaks : BreaksOff (state_after n s).coming

  runs_more : (n : ℕ) (s : State) → Runs n s → Goes (state_after n s) → Runs (suc n) s
  runs_more n s runs goes = λ m less. elim (cases_lt m n) [
    | inl before ↦ runs m before
    | inr after ↦ (let is : n ≡ m = omega (arith, less, after) in subst (λ k. Goes (state_after k s)) is goes)
  ]

  follows : (n : ℕ) (s : State) → BreaksOff s.coming → Runs n s → (IsOver (state_after n s).coming → ⊥) → Follows n s
  follows zero s breaks runs left = record { runs = λ m less. absurd (omega (arith, less)); same = refl; breaks = breaks }
  follows (suc n) s breaks runs left =
      let t = state_after n s in
      let before = follows n s breaks (λ m less. runs m (omega (arith, less))) (λ over. left (over_stepped t over)) in
      let goes = runs n (omega arith) in
      let one = led (kind t) t (step t) (step (followed rest t)) (leads t) before.breaks goes left in
      record {
        runs = runs_more n (followed rest s) before.runs (subst Goes (sym before.same) (goes_followed (kind t) t before.breaks one.0 goes));
        same = ap step before.same ∙ one.0;
        breaks = one.1;
      }

  -- ---- where nothing is left of the first bytes

  more_of_none : (f : Faults) → after_more 0 f ≡ f
  more_of_none Never = refl
  more_of_none (After n) = ap After (let e : 0 + n ≡ n = omega arith in e)
  more_of_none Anytime = refl

  preceded_by_none : preceded [] rest ≡ rest
  preceded_by_none = ap (λ (f : Faults). record rest { faults = f }) (more_of_none rest.faults)

  all_taken : (s : State) → s.coming.supply ≡ broken_off [] → followed rest s ≡ with_rest rest s
  all_taken s taken =
      ap (λ (q : Supply). with_rest (preceded q.bytes rest) s) taken ∙ ap (λ (q : Supply). with_rest q s) preceded_by_none

  not_over : (q : Supply) → q ≡ broken_off [] → q.faults ≡ Never → ⊥
  not_over q is over = let wrong : After 0 ≡ Never = sym (ap (λ (q : Supply). q.faults) is) ∙ over in cc

-- The first moves are made over any input that begins with these bytes.
pub first_is_kept : FirstIsKept
first_is_kept b options first n rest takes =
    let s = start b options (broken_off first) in
    let f = follows rest n s refl takes.runs (not_over rest (state_after n s).coming.supply takes.taken) in
    (f.runs, f.same ∙ all_taken rest (state_after n s) takes.taken)

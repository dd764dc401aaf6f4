-- A whole run: its moves, and how many there are.
use Rattle.std.specs.Prelude.{is_some}
use Rattle.std.proofs.Common.{◌≡◌, ℕ, ◌+◌, ◌-◌, ◌*◌, ◌≤◌, true, false, List, [], Option, None, Some, Ok, Err, refl, inr, sym, ap, ◌∙◌, subst, arith}
use Rattle.nr_units.specs.Source.{Supply}
use Rattle.nr_machine.specs.State.{State}
use Rattle.nr_machine.specs.Machine.{state_after}
use Rattle.nr_formatter.specs.declared.formatter.Formatter.{Formatter}
use Rattle.nr_reading.specs.declared.event.Event.{Event}
use Rattle.nr_reading.specs.declared.event.Event.TheVariants as events
use Rattle.nr_formatter.specs.declared.tasks.Task.{Task}
use Rattle.nr_formatter.specs.declared.tasks.Task.TheVariants as tasks
use Rattle.nr_machine.specs.declared.outcome.Measure.TheVariants as measures
use Rattle.nr_machine.specs.declared.outcome.Outcome.TheVariants.{Done, Limit}
use Rattle.nr_machine.specs.Run.{Stops, AreSpent, Kind, Reads, Works, Over, kind, kind_of, kind_of_springs}
use Rattle.nr_machine.specs.Holding.{Shape, Holds, Moved, Left, Made, Halts, Finishes, Advances, Spends, weight, worth}
use Rattle.fast_machine.specs.Running.{Makes}
use Rattle.nr_machine.specs.declared.outcome.Outcome.{Outcome}
use Rattle.nr_machine.proofs.Standing.{made_one, made_all, halts_here, halts_after, finishes_stopped, finishes_spent}
use Rattle.fast_machine.proofs.Running.{same_state, worth_same}
use Rattle.nr_engine.specs.Travelling.{outcome_when_spent}

pub made_more : (s : State) (n : ℕ) (e f : Shape) (x y : Option Supply) (old mid new : Option (List ℕ))
    → Made [] s n e x old mid → Advances e f x y mid new (Ok tt) → Made [] s (n + 1) f y old new
made_more s n e f x y old mid new m advances =
    let t = state_after n s in
    let moved = subst (λ u. Moved u f y mid new) (same_state [] x t e m.holds) (advances t m.holds.stands) in
    made_all [] [] s n 1 e f x y old mid new m (made_one t f y mid new moved)

pub halted : (most made : ℕ) (s : State) (n : ℕ) (e f : Shape) (x y : Option Supply) (outcome : Outcome) (old mid new : Option (List ℕ))
    → made ≤ most → (AreSpent most made (state_after n s) → ⊥) → Made [] s n e x old mid → Advances e f x y mid new (Err outcome) → Finishes most made s n outcome old new
halted most made s n e f x y outcome old mid new allowed left m advances =
    let t = state_after n s in
    let stops = subst (λ u. Stops u outcome × Left u outcome mid new) (same_state [] x t e m.holds) (advances t m.holds.stands) in
    let none : n + 0 ≡ n = omega arith in
    finishes_stopped most made s n outcome old new allowed left
    (subst (λ k. Halts s k outcome old new) none (halts_after [] s n 0 e x outcome old mid new m (halts_here t outcome mid new stops.0 stops.1)))

-- ---- how many

bound_more : (worth m w w' t t' : ℕ) → m + w ≤ worth * (t + 1) → w' + 1 + worth * t ≤ w + worth * t' → m + 1 + w' ≤ worth * (t' + 1)
bound_more worth m w w' t t' before spent = omega arith

-- the first engine's bound holds still after a move
pub spent : (first e f : Shape) (m : ℕ) → e.formatter.store.limit ≡ first.formatter.store.limit → e.formatter.reader.most ≡ first.formatter.reader.most
    → m + weight e ≤ worth first * (e.place.taken + 1) → Spends e f → m + 1 + weight f ≤ worth first * (f.place.taken + 1)
spent first e f m limit most within spends =
    bound_more (worth first) m (weight e) (weight f) e.place.taken f.place.taken within
    (subst (λ k. weight f + 1 + k * e.place.taken ≤ weight e + k * f.place.taken) (worth_same first e limit most) spends.spends)

bound_run : (worth m n w w' t t' : ℕ) → m + w ≤ worth * (t + 1) → w' + n + worth * t ≤ w + worth * t' → m + n + w' ≤ worth * (t' + 1)
bound_run worth m n w w' t t' before spent = omega arith

-- and after many
pub spent_run : (first e f : Shape) (x y : Option Supply) (m n : ℕ) → e.formatter.store.limit ≡ first.formatter.store.limit → e.formatter.reader.most ≡ first.formatter.reader.most
    → m + weight e ≤ worth first * (e.place.taken + 1) → Makes n e f x y → m + n + weight f ≤ worth first * (f.place.taken + 1)
spent_run first e f x y m n limit most within run =
    bound_run (worth first) m n (weight e) (weight f) e.place.taken f.place.taken within
    (subst (λ k. weight f + n + k * e.place.taken ≤ weight e + k * f.place.taken) (worth_same first e limit most) run.spends)

-- the same by how many moves are left
pub spent_left : (first e f : Shape) (x y : Option Supply) (most left n : ℕ) → e.formatter.store.limit ≡ first.formatter.store.limit → e.formatter.reader.most ≡ first.formatter.reader.most
    → left ≤ most → n ≤ left → most + weight e ≤ worth first * (e.place.taken + 1) + left → Makes n e f x y → most + weight f ≤ worth first * (f.place.taken + 1) + (left - n)
spent_left first e f x y most left n limit same within some bound run =
    let made : (most - left) + weight e ≤ worth first * (e.place.taken + 1) = omega arith in
    let after : (most - left) + n + weight f ≤ worth first * (f.place.taken + 1) = spent_run first e f x y (most - left) n limit same made run in
    omega (arith, after, within, some)

pub spent_one : (first e f : Shape) (most left : ℕ) → e.formatter.store.limit ≡ first.formatter.store.limit → e.formatter.reader.most ≡ first.formatter.reader.most
    → left ≤ most → 1 ≤ left → most + weight e ≤ worth first * (e.place.taken + 1) + left → Spends e f → most + weight f ≤ worth first * (f.place.taken + 1) + (left - 1)
spent_one first e f most left limit same within some bound spends =
    let made : (most - left) + weight e ≤ worth first * (e.place.taken + 1) = omega arith in
    let after : (most - left) + 1 + weight f ≤ worth first * (f.place.taken + 1) = spent first e f (most - left) limit same made spends in
    omega (arith, after, within, some)

-- so many were made where so many are left
pub bound_left : (worth most left w t t' : ℕ) → left ≤ most → t ≡ t' → most + w ≤ worth * (t + 1) + left → most - left ≤ worth * (t' + 1)
bound_left worth most left w t t' within same bound = subst (λ k. most - left ≤ worth * (k + 1)) same (omega (arith, bound, within))

-- ---- moves are spent

pub spent_springs : (o : Option (List ℕ)) (e : Event) (t : Task) (at : ℕ) → is_some o ≡ true → outcome_when_spent (kind_of_springs o e t) at ≡ Limit measures.Moves at
spent_springs None e t at some = (let wrong : false ≡ true = some in cc)
spent_springs (Some n) e t at some = refl

pub spent_event : (o : Option (List ℕ)) (e : Event) (t : Task) (at : ℕ) → (e ≡ events.Nothing → ⊥) → outcome_when_spent (kind_of_springs o e t) at ≡ Limit measures.Moves at
spent_event (Some n) e t at other = refl
spent_event None events.Nothing t at other = absurd (other refl)
spent_event None e t at other = refl

pub spent_task : (o : Option (List ℕ)) (e : Event) (t : Task) (at : ℕ) → (t ≡ tasks.Halted → ⊥) → outcome_when_spent (kind_of_springs o e t) at ≡ Limit measures.Moves at
spent_task (Some n) e t at other = refl
spent_task None events.Nothing tasks.Read at other = refl
spent_task None events.Nothing tasks.Halted at other = absurd (other refl)
spent_task None events.Nothing t at other = refl
spent_task None e t at other = refl

pub spent_over : (o : Option (List ℕ)) (e : Event) (t : Task) (at : ℕ) → is_some o ≡ false → e ≡ events.Nothing → t ≡ tasks.Halted → outcome_when_spent (kind_of_springs o e t) at ≡ Done
spent_over (Some n) e t at none quiet halted = (let wrong : true ≡ false = none in cc)
spent_over None e t at none quiet halted = rw (quiet, halted) refl

kind_held : (s : State) (e : Shape) (x : Option Supply) → Holds [] x s e → kind s ≡ kind_of [] e.formatter.springs e.formatter.event e.formatter.task
kind_held s e x h =
    ap (λ cs. kind_of cs s.formatter.springs s.formatter.event s.formatter.task) h.stands.chosen_is
    ∙ ap (λ (f : Formatter). kind_of [] f.springs f.event f.task) (sym h.formatter)

spent_by : (k : Kind) (most made : ℕ) (s : State) (n : ℕ) (e : Shape) (x : Option Supply) (old new : Option (List ℕ)) → made ≡ most → kind (state_after n s) ≡ k
    → Made [] s n e x old new → Finishes most made s n (outcome_when_spent k e.place.taken) old new
spent_by Over most made s n e x old new all is m = record { runs = m.runs; allowed = omega (arith, all); ends = inr (λ spent. spent.1 is, is); writes = m.wrote }
spent_by Reads most made s n e x old new all is m =
    finishes_spent [] most made s n e x e.place.taken old new all (λ over. let wrong : Reads ≡ Over = sym is ∙ over in cc) m.holds.stands.coming.taken m
spent_by Works most made s n e x old new all is m =
    finishes_spent [] most made s n e x e.place.taken old new all (λ over. let wrong : Works ≡ Over = sym is ∙ over in cc) m.holds.stands.coming.taken m

pub finished_spent : (most made : ℕ) (s : State) (n : ℕ) (e : Shape) (x : Option Supply) (old new : Option (List ℕ)) → made ≡ most → Made [] s n e x old new
    → Finishes most made s n (outcome_when_spent (kind_of [] e.formatter.springs e.formatter.event e.formatter.task) e.place.taken) old new
finished_spent most made s n e x old new all m =
    spent_by (kind_of [] e.formatter.springs e.formatter.event e.formatter.task) most made s n e x old new all (kind_held (state_after n s) e x m.holds) m

-- Parts of a move, as parts of a whole one.
use Rattle.std.proofs.Common.{◌≡◌, ℕ, false, List, [], Option, Result, Ok, Err, refl, ◌∙◌}
use Rattle.std.specs.Prelude.{OnOk}
use Rattle.nr_units.specs.Source.{Supply}
use Rattle.nr_input.specs.Place.{has_failed}
use Rattle.nr_machine.specs.State.{State}
use Rattle.nr_machine.specs.Machine.{step}
use Rattle.nr_machine.specs.Run.{Works as WorksKind, kind, limited, stopped, stops_reading, stops_writing, fails_writing}
use Rattle.nr_machine.specs.Holding.{Shape, at, Stands, IsLighter, Works, WorksQuietly, Acts, Moves, TellsSource, Spends}
use Rattle.nr_machine.specs.declared.outcome.Measure.{Measure}
use Rattle.nr_machine.specs.declared.outcome.Outcome.{Outcome}
use Rattle.nr_machine.specs.declared.outcome.Stop.{Stop}
use Rattle.nr_machine.specs.declared.outcome.Stop.TheVariants as stops
use Rattle.nr_machine.proofs.Spending.{work_spends}
use Rattle.nr_machine.proofs.Working.{worked, worked_quietly}

-- a move that takes no byte spends what it lightens
pub spends-light : (e f : Shape) → IsLighter e f → Spends e f
spends-light e f h = record {
  limit = h.0.limit;
  most = h.0.most;
  spends = rw h.1 (work_spends _ e.place e.formatter f.formatter h.0);
}

pub spends-lightens : {E : Type 0} (e f : Shape) (r : Result (Unit {0}) E) → OnOk r (IsLighter e f) → OnOk r (Spends e f)
spends-lightens e f (Ok x) h = spends-light e f h
spends-lightens e f (Err o) h = tt

-- the source has not failed where the place stays
pub unfailed-lightens : {E : Type 0} (e f : Shape) (r : Result (Unit {0}) E) → OnOk r (IsLighter e f) → has_failed e.place.ahead ≡ false → OnOk r (has_failed f.place.ahead ≡ false)
unfailed-lightens e f (Ok x) h u = rw h.1 u
unfailed-lightens e f (Err o) h u = tt

-- so it acts
pub acts_of : (f : State → State) (e e' : Shape) (old new : Option (List ℕ)) (r : Result (Unit {0}) Stop) → Works f e e' old new r → Acts f e e' old new r
acts_of f e e' old new r w = record { comes = w.comes; unfailed = unfailed-lightens e e' r w.lightens; spends = spends-lightens e e' r w.lightens }

-- ---- whole moves, by their answers

-- whether the source is reported to have failed, and the sink

pub limited_reads : (n : ℕ) (r : Result (Unit {0}) Measure) → stops_reading (limited n r) ≡ false
limited_reads n (Ok x) = refl
limited_reads n (Err which) = refl

pub limited_writes : (n : ℕ) (r : Result (Unit {0}) Measure) → stops_writing (limited n r) ≡ false
limited_writes n (Ok x) = refl
limited_writes n (Err which) = refl

pub stopped_reads : (n : ℕ) (r : Result (Unit {0}) Stop) → stops_reading (stopped n r) ≡ false
stopped_reads n (Ok x) = refl
stopped_reads n (Err (stops.Limit which)) = refl
stopped_reads n (Err stops.WriteFault) = refl

pub stopped_writes : (n : ℕ) (r : Result (Unit {0}) Stop) → stops_writing (stopped n r) ≡ fails_writing r
stopped_writes n (Ok x) = refl
stopped_writes n (Err (stops.Limit which)) = refl
stopped_writes n (Err stops.WriteFault) = refl

on_limited : (X : Type 0) (n : ℕ) (r : Result (Unit {0}) Measure) → OnOk r X → OnOk (limited n r) X
on_limited x n (Ok u) h = h
on_limited x n (Err which) h = tt

on_stopped : (X : Type 0) (n : ℕ) (r : Result (Unit {0}) Stop) → OnOk r X → OnOk (stopped n r) X
on_stopped x n (Ok u) h = h
on_stopped x n (Err stop) h = tt

-- a move that writes nothing
module _ (f : State → State) (e e' : Shape) (n : ℕ) (r : Result (Unit {0}) Measure) (o : Result (Unit {0}) Outcome) (is : o ≡ limited n r) (w : WorksQuietly f e e' r) where
  pub moves_quietly : (supply : Option Supply) (held : Option (List ℕ)) → n ≡ e.place.taken
      → ((s : State) → Stands [] supply s e → (kind (at e s) ≡ WorksKind) × (step (at e s) ≡ f (at e s))) → Moves e e' supply supply held held o
  moves_quietly supply held taken leads = record {
    advances = λ s h. rw is (worked_quietly supply (at e s) (f (at e s)) e' (leads s h).0 (leads s h).1 held r n (taken ∙ h.coming.taken) (w.comes supply s h));
    spends = rw is (on_limited _ n r (spends-lightens e e' r w.lightens));
  }

  pub tells_quietly : (failures : ℕ) → TellsSource e e' o failures failures
  tells_quietly failures = record {
    counts = λ u. rw (is, limited_reads n r) refl;
    unfailed = λ u. rw is (on_limited _ n r (unfailed-lightens e e' r w.lightens u));
  }

-- a move of what is under way
module _ (f : State → State) (e e' : Shape) (n : ℕ) (old new : Option (List ℕ)) (r : Result (Unit {0}) Stop) (o : Result (Unit {0}) Outcome) (is : o ≡ stopped n r) (w : Acts f e e' old new r) where
  pub moves_acts : (supply : Option Supply) → n ≡ e.place.taken
      → ((s : State) → Stands [] supply s e → (kind (at e s) ≡ WorksKind) × (step (at e s) ≡ f (at e s))) → Moves e e' supply supply old new o
  moves_acts supply taken leads = record {
    advances = λ s h. rw is (worked supply (at e s) (f (at e s)) e' (leads s h).0 (leads s h).1 old new r n (taken ∙ h.coming.taken) (w.comes supply s h));
    spends = rw is (on_stopped _ n r w.spends);
  }

  pub tells_acts : (failures : ℕ) → TellsSource e e' o failures failures
  tells_acts failures = record {
    counts = λ u. rw (is, stopped_reads n r) refl;
    unfailed = λ u. rw is (on_stopped _ n r (w.unfailed u));
  }

-- Moves, one after another. Nothing here knows the language.
use Rattle.std.proofs.Common.{◌≡◌, ℕ, zero, suc, ◌+◌, ◌-◌, ◌*◌, ◌≤◌, ◌<◌, List, [], ◌++◌, Option, refl, sym, ap, ◌∙◌, subst, append-nil, append_assoc, arith, inl, inr}
use Rattle.std.specs.Io.KnownBytes.{Appends, Keeps}
use Rattle.std.proofs.KnownBytes.{Appends-nil, Appends-trans, Appends-kept}
use Rattle.std.proofs.lemmas.Bool.{cases_lt}
use Rattle.nr_units.specs.Source.{Supply}
use Rattle.nr_options.specs.Limits.{Bounds}
use Rattle.nr_machine.specs.State.{State, Choice}
use Rattle.nr_machine.specs.Machine.{step, state_after}
use Rattle.nr_machine.specs.Printing.{text}
use Rattle.nr_machine.specs.Run.{Goes, Stops, AreSpent, Runs, Writes, Answers, kind, Over, moves_a_byte}
use Rattle.nr_machine.specs.Holding.{Shape, Holds, Moved, Left, Made, Halts, Finishes, Grows, Wrote, WritesFrom}
use Rattle.nr_machine.specs.declared.outcome.Measure.TheVariants as measures
use Rattle.nr_machine.specs.declared.outcome.Outcome.{Outcome}
use Rattle.nr_machine.specs.declared.outcome.Outcome.TheVariants.{Done, Limit, ReadFault, TooLong, WriteFault}

pub state_after-add : (s : State) (n m : ℕ) → state_after (n + m) s ≡ state_after m (state_after n s)
state_after-add s n zero = ap (λ k. state_after k s) (let e : n + 0 ≡ n = omega arith in e)
state_after-add s n (suc m) = ap (λ k. state_after k s) (let e : n + suc m ≡ suc (n + m) = omega arith in e) ∙ ap step (state_after-add s n m)

pub runs-add : (s : State) (n m : ℕ) → Runs n s → Runs m (state_after n s) → Runs (n + m) s
runs-add s n m x y = λ k h. elim (cases_lt k n) [
  | inl i ↦ x k i
  | inr i ↦ (let e : n + (k - n) ≡ k = omega arith in subst (λ j. Goes (state_after j s)) e (subst Goes (sym (state_after-add s n (k - n))) (y (k - n) (omega arith))))
]

-- ---- what was written

-- nothing, where no page has ended
pub wrote_nothing : (s t : State) (held : Option (List ℕ)) → t.pages ≡ s.pages → Wrote s t held held
wrote_nothing s t held e = record { wrote = ([], record { grows = ap text e ∙ sym (append-nil (text s.pages)) }, Appends-nil held) }

-- the same where what is held only kept
pub wrote_kept : (s : State) (old new : Option (List ℕ)) → Keeps old new → Wrote s s old new
wrote_kept s old new k = record { wrote = ([], record { grows = sym (append-nil (text s.pages)) }, Appends-kept old old new [] (Appends-nil old) k) }

grows-add : (s t u : State) (xs ys : List ℕ) → Grows s t xs → Grows t u ys → Grows s u (xs ++ ys)
grows-add s t u xs ys a b = record { grows = b.grows ∙ ap (λ z. z ++ ys) a.grows ∙ append_assoc (text s.pages) xs ys }

pub wrote-trans : (s t u : State) (old mid new : Option (List ℕ)) → Wrote s t old mid → Wrote t u mid new → Wrote s u old new
wrote-trans s t u old mid new a b =
    record { wrote = (a.wrote.0 ++ b.wrote.0, grows-add s t u a.wrote.0 b.wrote.0 a.wrote.1 b.wrote.1, Appends-trans old mid new a.wrote.0 b.wrote.0 a.wrote.2 b.wrote.2) }

-- ---- moves

pub made_none : (chosen : List Choice) (s : State) (e : Shape) (supply : Option Supply) (held : Option (List ℕ)) → Holds chosen supply s e → Made chosen s 0 e supply held held
made_none chosen s e supply held h =
    record { runs = λ m k. absurd (omega arith); holds = h; wrote = wrote_nothing s s held refl }

-- one move
pub made_one : (s : State) (e : Shape) (supply : Option Supply) (old new : Option (List ℕ)) → Moved s e supply old new → Made [] s 1 e supply old new
made_one s e supply old new m =
    record {
      runs = λ k h. (let same : 0 ≡ k = omega arith in subst (λ j. Goes (state_after j s)) same m.goes);
      holds = m.holds;
      wrote = m.wrote;
    }

-- moves, and then others
pub made_all : (before after : List Choice) (s : State) (n m : ℕ) (e f : Shape) (x y : Option Supply) (old mid new : Option (List ℕ))
    → Made before s n e x old mid → Made after (state_after n s) m f y mid new → Made after s (n + m) f y old new
made_all before after s n m e f x y old mid new p q =
    let both = state_after-add s n m in
    record {
      runs = runs-add s n m p.runs q.runs;
      holds = rw both q.holds;
      wrote = rw both (wrote-trans s (state_after n s) (state_after m (state_after n s)) old mid new p.wrote q.wrote);
    }

-- the run stops after no further move
pub halts_here : (s : State) (outcome : Outcome) (old new : Option (List ℕ)) → Stops s outcome → Left s outcome old new → Halts s 0 outcome old new
halts_here s outcome old new stops left = record { runs = λ m k. absurd (omega arith); stops = stops; writes = from outcome left }
  where
    from : (o : Outcome) → Left s o old new → WritesFrom s s o old new
    from Done k = wrote_kept s old new k
    from (Limit which at) k = wrote_kept s old new k
    from (ReadFault at) k = wrote_kept s old new k
    from TooLong k = wrote_kept s old new k
    from WriteFault k = (old, wrote_nothing s s old refl, k)

writes-add : (s t u : State) (o : Outcome) (old mid new : Option (List ℕ)) → Wrote s t old mid → WritesFrom t u o mid new → WritesFrom s u o old new
writes-add s t u Done old mid new a w = wrote-trans s t u old mid new a w
writes-add s t u (Limit which at) old mid new a w = wrote-trans s t u old mid new a w
writes-add s t u (ReadFault at) old mid new a w = wrote-trans s t u old mid new a w
writes-add s t u TooLong old mid new a w = wrote-trans s t u old mid new a w
writes-add s t u WriteFault old mid new a w = (w.0, wrote-trans s t u old mid w.0 a w.1, w.2)

-- moves, and then others up to where the run stops
pub halts_after : (chosen : List Choice) (s : State) (n m : ℕ) (e : Shape) (x : Option Supply) (outcome : Outcome) (old mid new : Option (List ℕ))
    → Made chosen s n e x old mid → Halts (state_after n s) m outcome mid new → Halts s (n + m) outcome old new
halts_after chosen s n m e x outcome old mid new p q =
    let both = state_after-add s n m in
    record {
      runs = runs-add s n m p.runs q.runs;
      stops = rw both q.stops;
      writes = rw both (writes-add s (state_after n s) (state_after m (state_after n s)) outcome old mid new p.wrote q.writes);
    }

-- where the run stops, it ends, if moves are left or it is over
pub finishes_stopped : (most made : ℕ) (s : State) (n : ℕ) (outcome : Outcome) (old new : Option (List ℕ)) → made ≤ most → (AreSpent most made (state_after n s) → ⊥)
    → Halts s n outcome old new → Finishes most made s n outcome old new
finishes_stopped most made s n outcome old new allowed left h = record { runs = h.runs; allowed = allowed; ends = inr (left, h.stops); writes = h.writes }

-- fewer moves were made than are allowed
pub none_spent : (most n : ℕ) (s : State) → n < most → AreSpent most n s → ⊥
none_spent most n s less spent = omega (arith, less, spent.0)

-- moves are spent here
pub finishes_spent : (chosen : List Choice) (most made : ℕ) (s : State) (n : ℕ) (e : Shape) (x : Option Supply) (at : ℕ) (old new : Option (List ℕ)) → made ≡ most → (kind (state_after n s) ≡ Over → ⊥)
    → at ≡ (state_after n s).coming.taken → Made chosen s n e x old new → Finishes most made s n (Limit measures.Moves at) old new
finishes_spent chosen most made s n e x at old new all pending_act place m =
    record { runs = m.runs; allowed = omega (arith, all); ends = inl ((all, pending_act), ap (Limit measures.Moves) place); writes = m.wrote }

-- moves, and then others up to where the run ends
pub finishes_after : (chosen : List Choice) (most made : ℕ) (s : State) (n m : ℕ) (e : Shape) (x : Option Supply) (outcome : Outcome) (old mid new : Option (List ℕ))
    → Made chosen s n e x old mid → Finishes most made (state_after n s) m outcome mid new → Finishes most made s (n + m) outcome old new
finishes_after chosen most made s n m e x outcome old mid new p q =
    let both = state_after-add s n m in
    record {
      runs = runs-add s n m p.runs q.runs;
      allowed = q.allowed;
      ends = rw both q.ends;
      writes = rw both (writes-add s (state_after n s) (state_after m (state_after n s)) outcome old mid new p.wrote q.writes);
    }

-- from a state in which no page has ended
pub answers : (b : Bounds) (s : State) (n : ℕ) (outcome : Outcome) (old new : Option (List ℕ)) → s.pages ≡ [] → Finishes b.moves n s n outcome old new
    → n ≤ moves_a_byte b * ((state_after n s).coming.taken + 1) → Answers b s n outcome old new
answers b s n outcome old new none h bound = record { runs = h.runs; allowed = h.allowed; ends = h.ends; writes = from outcome h.writes; bound = bound }
  where
    clean : (t : State) (more : List ℕ) → Grows s t more → more ≡ text t.pages
    clean t more g = sym (g.grows ∙ ap (λ z. text z ++ more) none)

    all : (t : State) → Wrote s t old new → Appends old new (text t.pages)
    all t w = subst (Appends old new) (clean t w.wrote.0 w.wrote.1) w.wrote.2

    from : (o : Outcome) → WritesFrom s (state_after n s) o old new → Writes (state_after n s) o old new
    from Done w = all (state_after n s) w
    from (Limit which at) w = all (state_after n s) w
    from (ReadFault at) w = all (state_after n s) w
    from TooLong w = all (state_after n s) w
    from WriteFault w =
        record { between = w.0; ended = subst (Appends old w.0) (clean (state_after n s) w.1.wrote.0 w.1.wrote.1) w.1.wrote.2; page = w.2.page; ends = w.2.ends; prefix = w.2.prefix }

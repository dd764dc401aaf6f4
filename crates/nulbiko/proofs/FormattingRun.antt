-- What a run of the formatter answered, said of what its caller knows.
use Rattle.std.proofs.Common.{◌≡◌, ℕ, List, Bool, true, false, Option, refl, subst, arith}
use Rattle.nr_units.specs.Failures.{counted_if, next_count}
use Rattle.nr_units.specs.Source.{Supply}
use Rattle.nr_options.specs.Limits.{Bounds}
use Rattle.nr_options.specs.declared.options.Options.{Options}
use Rattle.nr_machine.specs.State.{start}
use Rattle.nr_machine.specs.Run.{Answers}
use Rattle.nr_machine.specs.declared.outcome.Outcome.{Outcome}

-- under the same bounds, with the same bytes before and after
pub carried : (b b' : Bounds) (o : Options) (q : Supply) (n : ℕ) (outcome : Outcome) (old old' new new' : Option (List ℕ))
    → Answers b (start b o q) n outcome old new → b ≡ b' → old ≡ old' → new ≡ new' → Answers b' (start b' o q) n outcome old' new'
carried b b' o q n outcome old old' new new' a same before after =
    subst (λ z. Answers b' (start b' o q) n outcome old' z) after
    (subst (λ y. Answers b' (start b' o q) n outcome y new) before
    (subst (λ x. Answers x (start x o q) n outcome old new) same a))

-- where no call failed, none is reported
pub unread : (reported : Bool) → 0 ≡ counted_if reported 0 → reported ≡ false
unfolding next_count
unread false e = refl
unread true e = absurd (omega (arith, e))

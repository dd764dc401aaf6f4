-- Answers of a run carried to what they are of.
use Rattle.std.proofs.Common.{◌≡◌, ℕ, List, Option, subst}
use Rattle.nr_units.specs.Source.{Supply}
use Rattle.nr_options.specs.Limits.{Bounds}
use Rattle.nr_options.specs.declared.options.Options.{Options}
use Rattle.nr_machine.specs.State.{start}
use Rattle.nr_machine.specs.Run.{Answers}
use Rattle.nr_machine.specs.declared.outcome.Outcome.{Outcome}

pub carried : (b b' : Bounds) (o : Options) (q : Supply) (n : ℕ) (outcome : Outcome) (old new : Option (List ℕ))
    → Answers b (start b o q) n outcome old new → b ≡ b' → Answers b' (start b' o q) n outcome old new
carried b b' o q n outcome old new a same = subst (λ x. Answers x (start x o q) n outcome old new) same a

pub held_from : (b : Bounds) (o : Options) (q : Supply) (n : ℕ) (outcome : Outcome) (old old' new : Option (List ℕ))
    → old ≡ old' → Answers b (start b o q) n outcome old new → Answers b (start b o q) n outcome old' new
held_from b o q n outcome old old' new same a = subst (λ held. Answers b (start b o q) n outcome held new) same a

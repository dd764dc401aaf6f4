-- Macros that were read before stand before a text as others do.
use Rattle.std.proofs.Common.{◌≡◌, ℕ, ◌++◌, List, length, Option, None, Some, IfSome, refl, ap, subst}
use Rattle.nr_units.specs.Source.{Faults, Never, After, Anytime, Supply}
use Rattle.nr_options.specs.Limits.{Bounds}
use Rattle.nr_options.specs.declared.options.Options.{Options}
use Rattle.nr_machine.specs.State.{start}
use Rattle.nr_machine.specs.Run.{Answers}
use Rattle.nr_machine.specs.FirstBytes as first_bytes
use Rattle.nr_machine.specs.declared.outcome.Outcome.{Outcome}
use Rattle.document_stages.specs.Joined.{after_more, preceded}

after_same : (n : ℕ) (f : Faults) → first_bytes.after_more n f ≡ after_more n f
after_same n Never = refl
after_same n (After m) = refl
after_same n Anytime = refl

preceded_same : (first : List ℕ) (rest : Supply) → first_bytes.preceded first rest ≡ preceded first rest
preceded_same first rest =
    ap (λ (f : Faults). let q : Supply = record { bytes = first ++ rest.bytes; faults = f } in q) (after_same (length first) rest.faults)

answers_joined : (b b' : Bounds) (o : Options) (first : List ℕ) (rest : Supply) (n : ℕ) (outcome : Outcome) (old new : Option (List ℕ)) → b ≡ b'
    → Answers b (start b o (first_bytes.preceded first rest)) n outcome old new → Answers b' (start b' o (preceded first rest)) n outcome old new
answers_joined b b' o first rest n outcome old new same a =
    subst (λ (q : Supply). Answers b' (start b' o q) n outcome old new) (preceded_same first rest)
    (subst (λ (x : Bounds). Answers x (start x o (first_bytes.preceded first rest)) n outcome old new) same a)

-- where there is an answer
pub joined_where : (b b' : Bounds) (o : Options) (first : List ℕ) (known : Option Supply) (n : ℕ) (answer : Option Outcome) (old new : Option (List ℕ)) → b ≡ b'
    → IfSome answer (λ outcome. (rest : Supply) → known ≡ Some rest → Answers b (start b o (first_bytes.preceded first rest)) n outcome old new)
    → IfSome answer (λ outcome. (rest : Supply) → known ≡ Some rest → Answers b' (start b' o (preceded first rest)) n outcome old new)
joined_where b b' o first known n None old new same h = tt
joined_where b b' o first known n (Some outcome) old new same h =
    λ rest q. answers_joined b b' o first rest n outcome old new same (h rest q)

-- Bytes of a text came, and then more.
use Rattle.std.proofs.Common.{◌≡◌, ℕ, List, [], Option, None, Some, refl, sym, subst, ap, ◌∙◌}
use Rattle.nr_units.specs.Source.{Supply}
use Rattle.document_stages.specs.Joined.{Begins, joined}
use Rattle.document_stages.specs.Pulling.{Stays}
use Rattle.program_command.proofs.Bytewise.{Stays-nothing}

through : (a b c : Option Supply) → Stays a b → Stays b c → Stays a c
through None b c first next = tt
through (Some q) None c first next = absurd (let never : None ≡ Some q = first in cc)
through (Some q) (Some t) c first next = next ∙ first

-- the first ones
pub came-first : (files known new : Option Supply) (none bytes : List ℕ) → known ≡ files → none ≡ [] → Stays (joined none known) (joined bytes new)
    → Stays files (joined bytes new)
came-first files known new none bytes same is came =
    let begun : Stays known (joined none known) = subst (λ (xs : List ℕ). Stays known (joined xs known)) (sym is) (Stays-nothing known) in
    subst (λ (x : Option Supply). Stays x (joined bytes new)) same (through known (joined none known) (joined bytes new) begun came)

begins : (first : List ℕ) (known : Option Supply) → Begins (joined first known) first
begins first None = tt
begins first (Some q) = (q.bytes, refl)

pub begins-joined : (first slice : List ℕ) (known : Option Supply) → slice ≡ first → Begins (joined first known) slice
begins-joined first slice known same = subst (λ (xs : List ℕ). Begins (joined first known) xs) (sym same) (begins first known)

-- and others after them
pub came-then : (known prefix new : Option Supply) (bytes slice : List ℕ) → Stays known (joined bytes new) → prefix ≡ joined slice new → slice ≡ bytes
    → Stays known prefix
came-then known prefix new bytes slice came over same =
    subst (λ (x : Option Supply). Stays known x) (ap (λ (xs : List ℕ). joined xs new) (sym same) ∙ sym over) came

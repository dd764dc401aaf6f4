-- What a run counted is the definition's number of steps.
use Rattle.std.proofs.Common.{◌≡◌, ℕ, ◌+◌, ◌*◌, ◌≤◌, List, length, Bool, Option, arith}
use Rattle.nr_units.specs.Source.{Supply}
use Rattle.document_stages.specs.Running as runs
use Rattle.document_stages.specs.Running.{at_most}
use Rattle.document_stages.specs.declared.running.RunEnd.{RunEnd}
use Rattle.document_stages.proofs.Runs.{Ran-counted, Ran-known}
use Rattle.mdoc_converter.specs.Reading.{first_state}
use Rattle.mdoc_converter.specs.Running.{Ran}
use Rattle.mdoc_converter.specs.Staged.{counted, said, steps_said}
use Rattle.mdoc_converter.proofs.Steps.{steps_said-quick}

below-most : (n k : ℕ) → n ≤ 96 * (k + 1) → k ≤ 1099511627776 → at_most (0 + n) ≡ n
below-most n k l m = omega (arith, l, m)

pub ran-of : (says : Bool → List ℕ → List ℕ) (counts : Bool → List ℕ → ℕ) (wants : ℕ) (first last : Option Supply) (held new : Option (List ℕ))
    (n k : ℕ) (outcome : RunEnd) → says ≡ said first_state → counts ≡ counted 0 first_state → wants ≡ 73984 → k ≡ n
    → runs.Ran says counts wants first last held new n outcome → Ran first last held new k outcome
ran-of says counts wants first last held new n k outcome p q e same ran =
    Ran-counted (said first_state) (counted 0 first_state) (steps_said first_state) 73984 first last held new k
    (λ ends bytes short. below-most (steps_said first_state ends bytes) (length bytes) (steps_said-quick ends bytes) short)
    outcome (Ran-known says (said first_state) counts (counted 0 first_state) wants 73984 first last held new n k outcome p q e same ran)

-- What a run counted is the definition's number of steps, and what goes out may.
use Rattle.std.proofs.Common.{◌≡◌, ℕ, ◌+◌, ◌*◌, ◌≤◌, List, length, Bool, true, false, Option, arith}
use Rattle.std.specs.List.{AllPass}
use Rattle.nr_units.specs.Source.{Supply}
use Rattle.document_stages.specs.Running as runs
use Rattle.document_stages.specs.Running.{at_most}
use Rattle.document_stages.specs.declared.running.RunEnd.{RunEnd}
use Rattle.document_stages.proofs.Runs.{Ran-counted, Ran-known}
use Rattle.preconv_characters.specs.declared.target.Target.{Target}
use Rattle.preconv_converter.specs.Reading.{first_reader}
use Rattle.preconv_converter.specs.Running.{Ran}
use Rattle.preconv_characters.specs.Saying.{may_go_out}
use Rattle.preconv_converter.specs.Staged.{counted, said, steps_said}
use Rattle.preconv_converter.proofs.Sent.{converted-shown, fed-shown}
use Rattle.preconv_converter.proofs.Steps.{steps_said-quick}

below-most : (n k : ℕ) → n ≤ 6 * k → k ≤ 1099511627776 → at_most (0 + n) ≡ n
below-most n k l m = omega (arith, l, m)

pub ran-of : (e : Target) (says : Bool → List ℕ → List ℕ) (counts : Bool → List ℕ → ℕ) (wants : ℕ) (first last : Option Supply) (held new : Option (List ℕ))
    (n k : ℕ) (outcome : RunEnd) → says ≡ said (first_reader e) → counts ≡ counted 0 (first_reader e) → wants ≡ 1536 → k ≡ n
    → runs.Ran says counts wants first last held new n outcome → Ran e first last held new k outcome
ran-of e says counts wants first last held new n k outcome p q w same ran =
    let r = first_reader e in
    Ran-counted (said r) (counted 0 r) (steps_said r) 1536 first last held new k
    (λ ends bytes short. below-most (steps_said r ends bytes) (length bytes) (steps_said-quick e ends bytes) short)
    outcome (Ran-known says (said r) counts (counted 0 r) wants 1536 first last held new n k outcome p q w same ran)

pub said-shown : (e : Target) (ends : Bool) (bytes : List ℕ) → AllPass (may_go_out e) (said (first_reader e) ends bytes)
said-shown e true bytes = converted-shown e bytes
said-shown e false bytes = fed-shown e bytes

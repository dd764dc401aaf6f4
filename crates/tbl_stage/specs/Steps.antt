-- What one step of a source comes to that turns another.
use Rattle.std.specs.Prelude.{ℕ, ◌<◌, ◌≤◌, List, Bool, true, false, Option, Result, Ok, Err}
use Rattle.nr_units.specs.Source.{Supply}
use Rattle.nr_units.specs.declared.source.Fault.{Fault}
use Rattle.document_stages.specs.Pulling.{Ended, Failed, SaysNothing, Took}
use Rattle.tbl_stage.specs.declared.turned.Step.{Step}
use Rattle.tbl_stage.specs.declared.turned.Step.TheVariants as steps

-- bytes came, so many at most, or the end, or a fault
abbrev pub Steps : Option Supply → Option Supply → (Bool → List ℕ → List ℕ) → (Bool → List ℕ → List ℕ)
    → (List ℕ → Bool) → (List ℕ → Bool) → List ℕ → ℕ → Result Step Fault → Type 0
Steps old new says says' fits fits' items most (Ok (steps.Took n)) =
    Took old new says says' fits fits' items n × (0 < n) × (n ≤ most)
Steps old new says says' fits fits' items most (Ok steps.End) = Ended old new says fits items true
Steps old new says says' fits fits' items most (Ok steps.Full) =
    Ended old new says fits items false × SaysNothing says' fits'
Steps old new says says' fits fits' items most (Err e) = Failed old new says says' fits fits' items e

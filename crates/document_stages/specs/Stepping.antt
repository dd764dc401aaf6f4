-- One step: some bytes of a source are turned, or its end.
use Rattle.std.specs.Prelude.{◌≡◌, ℕ, ◌+◌, ◌*◌, ◌<◌, ◌≤◌, List, [], ◌++◌, length, Bool, true, false, Option, None, Result, Ok, Err}
use Rattle.nr_units.specs.Source.{Supply, Gives}
use Rattle.nr_units.specs.declared.source.Fault.{Fault}
use Rattle.document_stages.specs.Pulling.{Came, SaysNothing}
use Rattle.document_stages.specs.declared.step.Step.{Step}
use Rattle.document_stages.specs.declared.step.Step.TheVariants as steps

-- what a stage makes of bytes that are to come, whether all of it fits, and how much it will have counted
pub record Meaning : Type 0 where
  pub says : Bool → List ℕ → List ℕ
  pub fits : List ℕ → Bool
  pub counts : Bool → List ℕ → ℕ

-- what is to go out where these bytes wait
abbrev pub after : List ℕ → (Bool → List ℕ → List ℕ) → Bool → List ℕ → List ℕ
after waits says ends bytes = waits ++ says ends bytes

-- so many bytes came and were turned, and leave as it was what is to go out and how much is counted
pub record Turned (old new : Option Supply) (m m' : Meaning) (waits items : List ℕ) (n : ℕ) : Type 0 where
  pub bytes : List ℕ
  pub came : Came old bytes new
  pub count : length bytes ≡ n
  pub said : (ends : Bool) → (rest : List ℕ) → after waits m.says ends (bytes ++ rest) ≡ items ++ m'.says ends rest
  pub fitted : (rest : List ℕ) → m.fits (bytes ++ rest) ≡ m'.fits rest
  pub counted : (ends : Bool) → (rest : List ℕ) → m.counts ends (bytes ++ rest) ≡ m'.counts ends rest

-- the end came and was turned
pub record TurnedEnd (old new : Option Supply) (m m' : Meaning) (waits items : List ℕ) (fit : Bool) : Type 0 where
  pub gives : Gives {E = Fault} old (Ok None) new
  pub said : after waits m.says true [] ≡ items
  pub fitted : m.fits [] ≡ fit
  pub counted : m.counts true [] ≡ m'.counts false []

abbrev pub Steps : Option Supply → Option Supply → Meaning → Meaning → List ℕ → List ℕ → ℕ → Result Step Fault → Type 0
Steps old new m m' waits items most (Ok (steps.Took n)) = Turned old new m m' waits items n × (0 < n) × (n ≤ most)
Steps old new m m' waits items most (Ok steps.End) = TurnedEnd old new m m' waits items true
Steps old new m m' waits items most (Ok steps.Full) =
    TurnedEnd old new m m' waits items false × SaysNothing m'.says m'.fits
Steps old new m m' waits items most (Err e) = Gives old (Err e) new × (m' ≡ m) × (items ≡ waits)

-- at most so many bytes went out for each that came, and for the end
abbrev pub IsMeasured : ℕ → ℕ → ℕ → Result Step Fault → Type 0
IsMeasured wants before later (Ok (steps.Took n)) = later ≤ before + wants * n
IsMeasured wants before later (Ok step) = later ≤ before + wants
IsMeasured wants before later (Err e) = later ≤ before

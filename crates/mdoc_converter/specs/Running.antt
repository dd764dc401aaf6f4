-- What came of a page, and in how many steps.
use Rattle.std.specs.Prelude.{ℕ, List, Option}
use Rattle.nr_units.specs.Source.{Supply}
use Rattle.document_stages.specs.Running as runs
use Rattle.document_stages.specs.declared.running.RunEnd.{RunEnd}
use Rattle.mdoc_converter.specs.Reading.{first_state}
use Rattle.mdoc_converter.specs.Staged.{said, steps_said}

-- All of it, or the first of it, came and was turned. At most 73984 bytes went out for each that came, and as
-- many more.
abbrev pub Ran : Option Supply → Option Supply → Option (List ℕ) → Option (List ℕ) → ℕ → RunEnd → Type 0
Ran first last held new steps outcome = runs.Ran (said first_state) (steps_said first_state) 73984 first last held new steps outcome

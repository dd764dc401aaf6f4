-- What came of a text, and in how many steps.
use Rattle.std.specs.Prelude.{ℕ, List, Option}
use Rattle.nr_units.specs.Source.{Supply}
use Rattle.document_stages.specs.Running as runs
use Rattle.document_stages.specs.declared.running.RunEnd.{RunEnd}
use Rattle.preconv_characters.specs.declared.target.Target.{Target}
use Rattle.preconv_converter.specs.Reading.{first_reader}
use Rattle.preconv_converter.specs.Staged.{said, steps_said}

-- All of it, or the first of it, came and was turned. At most 1536 bytes went out for each that came, and as
-- many more.
abbrev pub Ran : Target → Option Supply → Option Supply → Option (List ℕ) → Option (List ℕ) → ℕ → RunEnd → Type 0
Ran table first last held new steps outcome =
    runs.Ran (said (first_reader table)) (steps_said (first_reader table)) 1536 first last held new steps outcome

-- What came of a text, and how many of its bytes were dropped.
use Rattle.std.specs.Prelude.{ℕ, ◌*◌, ◌≤◌, List, length, Bool, true, false, Option}
use Rattle.nr_units.specs.Source.{Supply}
use Rattle.document_stages.specs.Running as runs
use Rattle.document_stages.specs.declared.running.RunEnd.{RunEnd}
use Rattle.utf8_characters.specs.declared.table.FixedTable.{FixedTable}
use Rattle.utf8_converter.specs.Cells.{converted, strays_of}
use Rattle.utf8_converter.specs.Lines.{KeepsLines}
use Rattle.utf8_converter.specs.Reading.{fed, first_reader}
use Rattle.utf8_converter.specs.Text.{IsText}

-- what goes out of all bytes of a text, or of some of them but for what is half read
abbrev pub says : FixedTable → Bool → Bool → List ℕ → List ℕ
says table escapes true bytes = converted table escapes bytes
says table escapes false bytes = (fed (first_reader table escapes) bytes).bytes

-- and how many of these are dropped
abbrev pub drops : FixedTable → Bool → Bool → List ℕ → ℕ
drops table escapes true bytes = strays_of table bytes
drops table escapes false bytes = (fed (first_reader table escapes) bytes).strays

-- All of it, or the first of it, came and was turned. Whatever comes, at most four bytes go out for each: a
-- text for a terminal, in lines of as many cells with the same characters.
pub record Ran (table : FixedTable) (escapes : Bool) (first last : Option Supply) (held new : Option (List ℕ)) (strays : ℕ)
    (outcome : RunEnd) : Type 0 where
  pub ran : runs.Ran (says table escapes) (drops table escapes) 1536 first last held new strays outcome
  pub few : (bytes : List ℕ) → length (converted table escapes bytes) ≤ 4 * length bytes
  pub lines : (bytes : List ℕ) → KeepsLines table escapes bytes (converted table escapes bytes)
  pub text : (ends : Bool) → (bytes : List ℕ) → IsText escapes (says table escapes ends bytes)

-- What mdoc makes of texts, and what its words ask for.
use Rattle.std.specs.Prelude.{ℕ, List, [], ◌∷◌, Bool, true, false, if◌then◌else◌, None, codes}
use Rattle.mdoc_converter.specs.Reading as reading
use Rattle.document_stages.specs.declared.running.RunEnd.{RunEnd}
use Rattle.document_stages.specs.declared.running.RunEnd.TheVariants as outcomes
use Rattle.filters.specs.Arguments.{is_option}
use Rattle.filters.specs.Program.{Job, IsBad, TurnsTexts}
use Rattle.filters.specs.Turning.{Filter}
use Rattle.filters.specs.declared.endings.Ending.{Ending}
use Rattle.filters.specs.declared.endings.Ending.TheVariants.{Done, Complained, TooLong, ReadFault}
use Rattle.filters.specs.declared.endings.Ending.TheVariants.{WriteFault}

-- A text is turned into man(7). Which texts are complained of is not said here.
abbrev pub mdoc : Filter
mdoc = record {
  text_of = λ bytes. bytes;
  whole = reading.converted;
  begun = λ text. (reading.fed reading.first_state text).bytes;
  may_end_line = false;
  complains = λ text. None;
  is_naming = false;
}

-- the files are turned, or the first word is an option
abbrev pub job_of : List (List ℕ) → Job
job_of [] = TurnsTexts mdoc []
job_of (word ∷ words) =
    if is_option word then IsBad (codes "unknown option ") word else TurnsTexts mdoc (word ∷ words)

-- how a text ended, complained of or not
abbrev pub ending_of : Bool → RunEnd → Ending
ending_of true outcomes.Done = Complained
ending_of false outcomes.Done = Done
ending_of wrong (outcomes.ReadFault at) = ReadFault None at
ending_of wrong outcomes.TooLong = TooLong None
ending_of wrong outcomes.WriteFault = WriteFault

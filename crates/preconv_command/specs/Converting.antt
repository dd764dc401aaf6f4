-- What preconv makes of texts, and what its words ask for.
use Rattle.std.specs.Prelude.{◌≡◌, ℕ, List, [], drop, get_or, Bool, true, false, Option, None, Some, Result}
use Rattle.std.specs.Prelude.{Ok, Err, codes}
use Rattle.std.specs.Borrow.{Bor}
use Rattle.std.specs.Io.KnownBytes.{Appends}
use Rattle.nr_units.specs.Sink.{AppendsPrefix}
use Rattle.preconv_coding.specs.UnderCoding as coding
use Rattle.preconv_converter.specs.Reading.{converted, fed, first_reader}
use Rattle.preconv_characters.specs.declared.target.Target.{Target}
use Rattle.preconv_characters.specs.declared.target.Target.TheVariants.{Ascii, Bytes, Utf8}
use Rattle.document_stages.specs.declared.running.RunEnd.{RunEnd}
use Rattle.document_stages.specs.declared.running.RunEnd.TheVariants as outcomes
use Rattle.utf8_own_characters.specs.Table.{Characters}
use Rattle.utf8_own_stage.specs.Coding.{coded_text}
use Rattle.filters.specs.Program as programs
use Rattle.filters.specs.Turning.{Filter, MayEnd}
use Rattle.filters.specs.declared.endings.Ending.{Ending}
use Rattle.filters.specs.declared.endings.Ending.TheVariants.{Done, Complained, TooLong, ReadFault}
use Rattle.filters.specs.declared.endings.Ending.TheVariants.{WriteFault, BadWord, CannotOpen, CannotRead}
use Rattle.filters.specs.declared.endings.Ending.TheVariants.{OutOfMemory}
use Rattle.filters_own.specs.declared.names.Named.{Named}
use Rattle.filters_own.specs.declared.names.Named.TheVariants.{Fixed, Own}
use Rattle.filters_own.specs.Looking.{AsksForOwn}
use Rattle.filters_own.specs.Names.{file_at}
use Rattle.preconv_command.specs.declared.arguments.Job.{Job}
use Rattle.preconv_command.specs.declared.arguments.Wrong.{Wrong}
use Rattle.preconv_command.specs.declared.arguments.Wrong.TheVariants.{UnknownOption, UnknownTable, NoTable}

-- A text is read under its coding, and turned into the language of a table, or of ASCII; a newline may
-- follow.
abbrev pub preconv : Target → Filter
preconv target = record {
  text_of = coding.text_of;
  whole = converted target;
  begun = λ text. (fed (first_reader target) text).bytes;
  may_end_line = true;
  complains = λ text. None;
  is_naming = true;
}

-- The same, where each letter with its marks becomes its bytes in a page's own table, or what it looks like.
abbrev pub own : Characters → Filter
own table = record {
  text_of = coding.text_of;
  whole = λ text. coded_text table true (converted Utf8 text);
  begun = λ text. coded_text table false (fed (first_reader Utf8) text).bytes;
  may_end_line = true;
  complains = λ text. None;
  is_naming = true;
}

-- what is reported of a bad word, and the word
abbrev pub what_of : Wrong → List ℕ
what_of (UnknownOption place) = codes "unknown option "
what_of (UnknownTable place) = codes "unknown table "
what_of NoTable = codes "no table is named"

abbrev pub word_of : List (List ℕ) → Wrong → List ℕ
word_of words (UnknownOption place) = get_or words place []
word_of words (UnknownTable place) = get_or words place []
word_of words NoTable = []

-- the files are turned, by the last table that is named
abbrev pub AsksBy : Option Named → List (List ℕ) → ℕ → programs.Job → Type 0
AsksBy None words files job = job ≡ programs.TurnsTexts (preconv Ascii) (drop files words)
AsksBy (Some (Fixed table)) words files job = job ≡ programs.TurnsTexts (preconv (Bytes table)) (drop files words)
AsksBy (Some (Own place)) words files job = AsksForOwn own (file_at words place) (drop files words) job

-- or a word is bad
abbrev pub AsksFor : List (List ℕ) → Result Job Wrong → programs.Job → Type 0
AsksFor words (Ok asked) job = AsksBy asked.table words asked.files job
AsksFor words (Err wrong) job = job ≡ programs.IsBad (what_of wrong) (word_of words wrong)

-- ---- the end of a text

-- a newline went out after what had gone out, or nothing
abbrev pub EndsLine : Option (List ℕ) → Option (List ℕ) → Type 0
EndsLine held new = (end : List ℕ) × MayEnd true end × Appends held new end

-- how a text of this name ended, where its line could be ended or not
abbrev pub ending_of : Bool → Bor (List ℕ) → RunEnd → Ending
ending_of true name outcomes.Done = Done
ending_of false name outcomes.Done = WriteFault
ending_of fine name (outcomes.ReadFault at) = ReadFault (Some name) at
ending_of fine name outcomes.TooLong = TooLong (Some name)
ending_of fine name outcomes.WriteFault = WriteFault

-- what went out at the end
abbrev pub PutsEnd : Bool → RunEnd → Option (List ℕ) → Option (List ℕ) → Type 0
PutsEnd true outcomes.Done held new = EndsLine held new
PutsEnd false outcomes.Done held new = AppendsPrefix held new (codes "\n")
PutsEnd fine (outcomes.ReadFault at) held new = new ≡ held
PutsEnd fine outcomes.TooLong held new = new ≡ held
PutsEnd fine outcomes.WriteFault held new = new ≡ held

pub record Ended (outcome : RunEnd) (name : Bor (List ℕ)) (held new : Option (List ℕ)) (ending : Ending) : Type 0 where
  pub fine : Bool
  pub ending_is : ending ≡ ending_of fine name outcome
  pub puts : PutsEnd fine outcome held new

-- a text that is whole was complained of
abbrev pub complained_by : Ending → Ending
complained_by Done = Complained
complained_by Complained = Complained
complained_by (TooLong name) = TooLong name
complained_by (ReadFault name at) = ReadFault name at
complained_by WriteFault = WriteFault
complained_by (BadWord what word) = BadWord what word
complained_by (CannotOpen name) = CannotOpen name
complained_by (CannotRead name) = CannotRead name
complained_by OutOfMemory = OutOfMemory

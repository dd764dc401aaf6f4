-- What utf8 makes of texts, and what its words ask for.
use Rattle.std.specs.Prelude.{◌≡◌, ℕ, List, [], ◌∷◌, drop, get_or, Bool, true, false, Some, Result, Ok, Err}
use Rattle.std.specs.Prelude.{codes}
use Rattle.std.specs.Borrow.{Bor}
use Rattle.utf8_characters.specs.declared.table.FixedTable.{FixedTable}
use Rattle.utf8_converter.specs.Cells.{converted}
use Rattle.utf8_converter.specs.Reading.{fed, first_reader}
use Rattle.document_stages.specs.declared.running.RunEnd.{RunEnd}
use Rattle.document_stages.specs.declared.running.RunEnd.TheVariants as outcomes
use Rattle.utf8_own_characters.specs.Table.{Characters}
use Rattle.utf8_own_sink.specs.Cells as own_sink
use Rattle.utf8_own_sink.specs.Reading as own_reading
use Rattle.filters.specs.Program as programs
use Rattle.filters.specs.Turning.{Filter}
use Rattle.filters.specs.declared.endings.Ending.{Ending}
use Rattle.filters.specs.declared.endings.Ending.TheVariants.{Done, TooLong, ReadFault, WriteFault}
use Rattle.filters_own.specs.declared.names.Named.{Named}
use Rattle.filters_own.specs.declared.names.Named.TheVariants.{Fixed, Own}
use Rattle.filters_own.specs.Looking.{AsksForOwn}
use Rattle.filters_own.specs.Names.{file_at}
use Rattle.utf8_command.specs.Choosing.{AsksForChoice}
use Rattle.utf8_command.specs.declared.arguments.Job.{Job}
use Rattle.utf8_command.specs.declared.arguments.Job.TheVariants.{Turn, Choose, Version}
use Rattle.utf8_command.specs.declared.arguments.Wrong.{Wrong}
use Rattle.utf8_command.specs.declared.arguments.Wrong.TheVariants.{UnknownOption, UnknownTable, NoTable}
use Rattle.utf8_command.specs.declared.arguments.Wrong.TheVariants.{SeveralFiles}

-- A text is turned into UTF-8, bytes from 128 on by a table, with escape sequences or without; no text is
-- complained of.
abbrev pub utf8 : FixedTable → Bool → Filter
utf8 table escapes = record {
  text_of = λ bytes. bytes;
  whole = converted table escapes;
  begun = λ text. (fed (first_reader table escapes) text).bytes;
  may_end_line = false;
  complains = λ text. Some false;
  is_naming = true;
}

-- The same, where bytes from 128 on are those of a page's own table.
abbrev pub own : Bool → Characters → Filter
own escapes table = record {
  text_of = λ bytes. bytes;
  whole = own_sink.converted table escapes;
  begun = λ text. (own_reading.fed table (own_reading.first escapes) text).bytes;
  may_end_line = false;
  complains = λ text. Some false;
  is_naming = true;
}

-- what is reported of bad words, and the word
abbrev pub what_of : Wrong → List ℕ
what_of (UnknownOption place) = codes "unknown option "
what_of (UnknownTable place) = codes "unknown table "
what_of NoTable = codes "no table is named"
what_of SeveralFiles = codes "--choose takes one file"

abbrev pub word_of : List (List ℕ) → Wrong → List ℕ
word_of words (UnknownOption place) = get_or words place []
word_of words (UnknownTable place) = get_or words place []
word_of words NoTable = []
word_of words SeveralFiles = []

-- the file after the first word, or standard input
abbrev pub file_after : List (List ℕ) → List ℕ
file_after [] = codes "-"
file_after (word ∷ []) = codes "-"
file_after (word ∷ file ∷ words) = file

abbrev pub version_line : List ℕ
version_line = codes "utf8 0.2.0\n"

-- files are turned, by the table that is named
abbrev pub AsksBy : Named → Bool → List (List ℕ) → ℕ → programs.Job → Type 0
AsksBy (Fixed table) escapes words files job = job ≡ programs.TurnsTexts (utf8 table escapes) (drop files words)
AsksBy (Own place) escapes words files job = AsksForOwn (own escapes) (file_at words place) (drop files words) job

-- or a table is chosen for one, the version is printed, or a word is bad
abbrev pub AsksFor : List (List ℕ) → Result Job Wrong → programs.Job → Type 0
AsksFor words (Ok (Turn table escapes files)) job = AsksBy table escapes words files job
AsksFor words (Ok Choose) job = AsksForChoice (file_after words) job
AsksFor words (Ok Version) job = job ≡ programs.Prints version_line
AsksFor words (Err wrong) job = job ≡ programs.IsBad (what_of wrong) (word_of words wrong)

-- how a text of this name ended
abbrev pub ending_of : Bor (List ℕ) → RunEnd → Ending
ending_of name outcomes.Done = Done
ending_of name (outcomes.ReadFault at) = ReadFault (Some name) at
ending_of name outcomes.TooLong = TooLong (Some name)
ending_of name outcomes.WriteFault = WriteFault

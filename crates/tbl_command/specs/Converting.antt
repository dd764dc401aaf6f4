-- What tbl makes of texts, and what its words ask for.
use Rattle.std.specs.Prelude.{◌≡◌, ℕ, List, [], drop, get_or, min, Bool, true, false, Option, None, Some}
use Rattle.std.specs.Prelude.{Result, Ok, Err, codes}
use Rattle.tbl_table.specs.declared.signs.Signs.{Signs}
use Rattle.tbl_reader.specs.declared.running.ReadEnd.{ReadEnd}
use Rattle.tbl_reader.specs.declared.running.ReadEnd.TheVariants as outcomes
use Rattle.tbl_setting.specs.Drawing.{signs_of}
use Rattle.tbl_setting.specs.Bounds.{Bounds}
use Rattle.tbl_setting.specs.Running.{set_page, set_so_far}
use Rattle.utf8_own_characters.specs.Table.{Characters}
use Rattle.utf8_own_page.specs.Signs.{signs_for}
use Rattle.filters.specs.Program as programs
use Rattle.filters.specs.Turning.{Filter}
use Rattle.filters.specs.declared.endings.Ending.{Ending}
use Rattle.filters.specs.declared.endings.Ending.TheVariants.{Done, Complained, TooLong, ReadFault}
use Rattle.filters.specs.declared.endings.Ending.TheVariants.{WriteFault}
use Rattle.filters_own.specs.declared.names.Named.{Named}
use Rattle.filters_own.specs.declared.names.Named.TheVariants.{Fixed, Own}
use Rattle.filters_own.specs.Looking.{AsksForOwn}
use Rattle.filters_own.specs.Names.{file_at}
use Rattle.tbl_command.specs.Arguments.{IsAnswer}
use Rattle.tbl_command.specs.declared.arguments.BadWord.{BadWord}
use Rattle.tbl_command.specs.declared.arguments.Job.{Job}
use Rattle.tbl_command.specs.declared.arguments.Wrong.{Wrong}
use Rattle.tbl_command.specs.declared.arguments.Wrong.TheVariants.{Unknown, BadValue, UnknownTable, NoTable}

-- The tables of a text are set by these bounds. Which texts are complained of is not said here.
abbrev pub tbl : Bounds → Filter
tbl bounds = record {
  text_of = λ bytes. bytes;
  whole = set_page bounds;
  begun = set_so_far bounds;
  may_end_line = false;
  complains = λ text. None;
  is_naming = false;
}

-- what a job asks for whose frames are drawn with these
abbrev pub bounds_of : Signs → Job → Bounds
bounds_of signs job = record {
  signs = signs;
  limits = record {
    formats = min job.formats 18446744073709551614;
    row = min job.row 18446744073709551614;
  };
  cells = job.line;
  fits = job.fits;
}

-- what is reported of a bad word, and the word
abbrev pub what_of : Wrong → List ℕ
what_of Unknown = codes "unknown option "
what_of BadValue = codes "bad value in "
what_of UnknownTable = codes "unknown table "
what_of NoTable = codes "no table is named"

abbrev pub word_of : List ℕ → Wrong → List ℕ
word_of word Unknown = word
word_of word BadValue = word
word_of word UnknownTable = word
word_of word NoTable = []

-- The tables of a text are set with frames of a page's own table.
abbrev pub own : Job → Characters → Filter
own job table = tbl (bounds_of (signs_for table) job)

-- the files are turned, by the last table that is named
abbrev pub AsksBy : Option Named → List (List ℕ) → Job → programs.Job → Type 0
AsksBy None words asked job = job ≡ programs.TurnsTexts (tbl (bounds_of (signs_of None) asked)) (drop asked.files words)
AsksBy (Some (Fixed table)) words asked job =
    job ≡ programs.TurnsTexts (tbl (bounds_of (signs_of (Some table)) asked)) (drop asked.files words)
AsksBy (Some (Own place)) words asked job = AsksForOwn (own asked) (file_at words place) (drop asked.files words) job

-- or a word is bad
abbrev pub AsksAs : List (List ℕ) → Result Job BadWord → programs.Job → Type 0
AsksAs words (Ok asked) job = AsksBy asked.characters words asked job
AsksAs words (Err bad) job =
    job ≡ programs.IsBad (what_of bad.wrong) (word_of (get_or words bad.place []) bad.wrong)

-- they ask for it by the one answer that they come to
abbrev pub AsksFor : List (List ℕ) → programs.Job → Type 0
AsksFor words job = (answer : Result Job BadWord) × IsAnswer words answer × AsksAs words answer job

-- how a text ended, complained of or not
abbrev pub ending_of : Bool → ReadEnd → Ending
ending_of true outcomes.Done = Complained
ending_of false outcomes.Done = Done
ending_of wrong (outcomes.ReadFault at) = ReadFault None at
ending_of wrong outcomes.TooLong = TooLong None
ending_of wrong outcomes.WriteFault = WriteFault

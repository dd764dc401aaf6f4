-- What a program comes to over its words.
use Rattle.std.specs.Prelude.{◌≡◌, ℕ, List, [], Bool, true, false, IsTrue, Option, None, Some, ◌⊎◌}
use Rattle.std.specs.Io.KnownBytes.{Appends}
use Rattle.nr_units.specs.Failures.{SinkFailures}
use Rattle.nr_units.specs.Sink.{AppendsPrefix}
use Rattle.filters.specs.Disk.{AreOpened, AreUnread, Asks, IsUnlooked, Opened, Opening, Opens, all_paths, named, paths_of}
use Rattle.filters.specs.Endings.{Tells, line_of, status_of}
use Rattle.filters.specs.Turning.{Filter, Ran}
use Rattle.filters.specs.declared.endings.Ending.{Ending}
use Rattle.filters.specs.declared.endings.Ending.TheVariants.{Done, WriteFault, BadWord, CannotOpen, CannotRead, OutOfMemory}

-- what words ask for
pub data Job : Type 0 where
  -- the texts of these names are turned, or standard input where there is none
  TurnsTexts : Filter → List (List ℕ) → Job
  -- a text is looked at first, and then the texts of these names are turned
  TurnsAfter : Opened → Filter → List (List ℕ) → Job
  -- this is printed of a text
  Answers : Opened → List ℕ → Job
  -- this is printed
  Prints : List ℕ → Job
  -- a word is bad: what is wrong, and the word, if it is one
  IsBad : List ℕ → List ℕ → Job

-- nothing went out
abbrev pub IsSilent : Option (List ℕ) → Option (List ℕ) → SinkFailures → SinkFailures → Type 0
IsSilent held new writes writes' = (new ≡ held) × (writes' ≡ writes)

-- The texts of these names were opened, each once and in order, and turned.
pub record RanOver (may_come : List ℕ → Opening → Type 0) (asked asked' : Option (List (List ℕ)))
    (held new : Option (List ℕ)) (writes writes' : SinkFailures) (passed_on : Bool) (f : Filter)
    (names : List (List ℕ)) (ending : Ending) : Type 0 where
  pub texts : List Opened
  pub opened : AreOpened may_come names texts
  pub asks : Asks asked asked' (all_paths names)
  pub ran : Ran f texts held new writes writes' passed_on ending

-- They were turned, or one can't be opened, or there was not enough memory; then nothing went out.
abbrev pub TurnsNames : (List ℕ → Opening → Type 0) → Option (List (List ℕ)) → Option (List (List ℕ))
    → Option (List ℕ) → Option (List ℕ) → SinkFailures → SinkFailures → Bool → Filter → List (List ℕ)
    → Ending → Type 0
TurnsNames may_come asked asked' held new writes writes' passed_on f names (CannotOpen name) =
    AreUnread may_come asked asked' (named names) (CannotOpen name) × IsSilent held new writes writes'
TurnsNames may_come asked asked' held new writes writes' passed_on f names OutOfMemory =
    AreUnread may_come asked asked' (named names) OutOfMemory × IsSilent held new writes writes'
TurnsNames may_come asked asked' held new writes writes' passed_on f names ending =
    RanOver may_come asked asked' held new writes writes' passed_on f (named names) ending

-- ---- a line alone

-- it went out whole and went on, or the output failed
abbrev pub Puts : List ℕ → Option (List ℕ) → Option (List ℕ) → Bool → Ending → Type 0
Puts line held new passed_on Done = Appends held new line × IsTrue passed_on
Puts line held new passed_on WriteFault = AppendsPrefix held new line
Puts line held new passed_on ending = ⊥

-- ---- a text that is looked at

-- the text can't be opened or read, or there was not enough memory; nothing went out
pub record IsUnread (may_come : List ℕ → Opening → Type 0) (asked asked' : Option (List (List ℕ)))
    (held new : Option (List ℕ)) (writes writes' : SinkFailures) (name : List ℕ) (ending : Ending) : Type 0 where
  pub unlooked : IsUnlooked may_come asked asked' name ending
  pub silent : IsSilent held new writes writes'

-- it was opened, and this was printed of it
pub record IsAnswered (may_come : List ℕ → Opening → Type 0) (asked asked' : Option (List (List ℕ)))
    (held new : Option (List ℕ)) (passed_on : Bool) (text : Opened) (line : List ℕ) (ending : Ending) : Type 0 where
  pub opened : may_come text.name (Opens text.left)
  pub asks : Asks asked asked' (paths_of text.name)
  pub puts : Puts line held new passed_on ending

abbrev pub AnswersText : (List ℕ → Opening → Type 0) → Option (List (List ℕ)) → Option (List (List ℕ))
    → Option (List ℕ) → Option (List ℕ) → SinkFailures → SinkFailures → Bool → Opened → List ℕ → Ending → Type 0
AnswersText may_come asked asked' held new writes writes' passed_on text line ending =
    IsUnread may_come asked asked' held new writes writes' text.name ending
    ⊎ IsAnswered may_come asked asked' held new passed_on text line ending

-- it was opened before the texts of these names, and these were turned
pub record IsTurnedAfter (may_come : List ℕ → Opening → Type 0) (asked asked' : Option (List (List ℕ)))
    (held new : Option (List ℕ)) (writes writes' : SinkFailures) (passed_on : Bool) (text : Opened) (f : Filter)
    (names : List (List ℕ)) (ending : Ending) : Type 0 where
  pub opened : may_come text.name (Opens text.left)
  pub between : Option (List (List ℕ))
  pub asks : Asks asked between (paths_of text.name)
  pub turns : TurnsNames may_come between asked' held new writes writes' passed_on f names ending

abbrev pub TurnsAfterText : (List ℕ → Opening → Type 0) → Option (List (List ℕ)) → Option (List (List ℕ))
    → Option (List ℕ) → Option (List ℕ) → SinkFailures → SinkFailures → Bool → Opened → Filter → List (List ℕ)
    → Ending → Type 0
TurnsAfterText may_come asked asked' held new writes writes' passed_on text f names ending =
    IsUnread may_come asked asked' held new writes writes' text.name ending
    ⊎ IsTurnedAfter may_come asked asked' held new writes writes' passed_on text f names ending

-- ---- a bad word

-- what is wrong with a word is reported, and the word
abbrev pub IsReportedWord : List ℕ → List ℕ → Ending → Type 0
IsReportedWord what word (BadWord reported about) = (reported.now ≡ what) × (about.now ≡ word)
IsReportedWord what word ending = ⊥

-- ---- any words

-- A program came to this ending by what its words ask for. The paths before it and after it are those that were asked for.
abbrev pub Comes : (List ℕ → Opening → Type 0) → Option (List (List ℕ)) → Option (List (List ℕ))
    → Option (List ℕ) → Option (List ℕ) → SinkFailures → SinkFailures → Bool → Job → Ending → Type 0
Comes may_come asked asked' held new writes writes' passed_on (TurnsTexts f names) ending =
    TurnsNames may_come asked asked' held new writes writes' passed_on f names ending
Comes may_come asked asked' held new writes writes' passed_on (TurnsAfter text f names) ending =
    TurnsAfterText may_come asked asked' held new writes writes' passed_on text f names ending
Comes may_come asked asked' held new writes writes' passed_on (Answers text line) ending =
    AnswersText may_come asked asked' held new writes writes' passed_on text line ending
Comes may_come asked asked' held new writes writes' passed_on (Prints line) ending =
    Asks asked asked' [] × Puts line held new passed_on ending
Comes may_come asked asked' held new writes writes' passed_on (IsBad what word) ending =
    Asks asked asked' [] × IsSilent held new writes writes' × IsReportedWord what word ending

-- no text was read
abbrev pub is_unread : Ending → Bool
is_unread (BadWord what word) = true
is_unread (CannotOpen name) = true
is_unread OutOfMemory = true
is_unread ending = false

-- What a program's words ask for came about.
pub record IsRun (asks : Job → Type 0) (may_come : List ℕ → Opening → Type 0) (asked asked' : Option (List (List ℕ)))
    (held new : Option (List ℕ)) (writes writes' : SinkFailures) (passed_on : Bool) (ending : Ending) : Type 0 where
  pub job : Job
  pub is_asked : asks job
  pub comes : Comes may_come asked asked' held new writes writes' passed_on job ending

-- The status of a program and its last line report the ending that it came to. Lines about texts stand before that
-- line; where no text was read there are none.
pub record Ends (asks : Job → Type 0) (may_come : List ℕ → Opening → Type 0) (asked asked' : Option (List (List ℕ)))
    (held new : Option (List ℕ)) (writes writes' : SinkFailures) (passed_on : Bool) (reported reported' : Option (List ℕ))
    (untold untold' : SinkFailures) (program : List ℕ) (status : ℕ) : Type 0 where
  pub ending : Ending
  pub run : IsRun asks may_come asked asked' held new writes writes' passed_on ending
  pub about_texts : Option (List ℕ)
  pub untold_before : SinkFailures
  pub quiet : is_unread ending ≡ true → (about_texts ≡ reported) × (untold_before ≡ untold)
  pub status_is : status ≡ status_of ending
  pub line : Tells about_texts reported' untold_before untold' (line_of program ending)

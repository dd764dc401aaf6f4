-- What the words of the command line come to. (POSIX, utility syntax guidelines; groff's nroff(1).)
use Rattle.std.specs.Prelude.{ℕ, List, [], ◌∷◌, Option, None, Some, Result, Ok, Err}
use Rattle.program_options.specs.declared.usage.Case.{Case}
use Rattle.program_options.specs.declared.usage.Case.TheVariants.{NoValue}
use Rattle.program_options.specs.declared.usage.Usage.{Usage}
use Rattle.program_options.specs.declared.names.Valued.{Valued}
use Rattle.program_options.specs.declared.reading.Awaited.{Awaited}
use Rattle.program_options.specs.declared.job.Job.{Job}
use Rattle.program_options.specs.Values.{Meaning, meaning}
use Rattle.program_options.specs.Words.{Form, IsFile, IsEnd, IsWhole, Awaits, word_of}
use Rattle.program_options.specs.Job.{Asked, asked_of, nothing_asked, with_files, with_meaning}

-- what is wrong with a word
pub record Complaint : Type 0 where
  pub case : Case
  pub word : List ℕ

abbrev pub is_bad : Case → List ℕ → Result Asked Complaint
is_bad case word = Err (record { case = case; word = word })

-- with what an option asks for, if it is good
abbrev pub with_whole : Result Meaning Case → Asked → Result Asked Case
with_whole (Ok meaning) asked = with_meaning meaning asked
with_whole (Err case) asked = Err case

-- an option whose value is the next word, and its word
pub record Pending : Type 0 where
  pub option : Valued
  pub word : List ℕ

-- a word that stands after an option which awaits it is its value
abbrev pub form_of : Option Pending → List ℕ → Form
form_of (Some pending) word = IsWhole (meaning pending.option word)
form_of None word = word_of word

abbrev pub go_on : Result Asked Case → List ℕ → (Asked → Result Asked Complaint) → Result Asked Complaint
go_on (Ok asked) word rest = rest asked
go_on (Err case) word rest = is_bad case word

-- a word of this form before these words, after which the rest comes to this
abbrev pub before : Form → List ℕ → List (List ℕ) → Asked → (Option Pending → Asked → Result Asked Complaint)
    → Result Asked Complaint
before IsFile word words asked rest = Ok (with_files (word ∷ words) asked)
before IsEnd word words asked rest = Ok (with_files words asked)
before (Awaits option) word words asked rest = rest (Some (record { option = option; word = word })) asked
before (IsWhole whole) word words asked rest = go_on (with_whole whole asked) word (rest None)

-- What these words come to after others that asked for this: the options up to the first file or `--`, each with its value.
abbrev pub comes_to : List (List ℕ) → Option Pending → Asked → Result Asked Complaint
comes_to [] (Some pending) asked = is_bad NoValue pending.word
comes_to [] None asked = Ok asked
comes_to (word ∷ words) pending asked = before (form_of pending word) word words asked (comes_to words)

-- THE CONTRACT: what all words come to, or the first bad word
abbrev pub asked : List (List ℕ) → Result Asked Complaint
asked words = comes_to words None nothing_asked

-- ---- what the program holds of this, as texts

abbrev pub answer_of : Result Job Usage → Result Asked Complaint
answer_of (Ok job) = Ok (asked_of job)
answer_of (Err usage) = is_bad usage.case usage.word.now

abbrev pub pending_of : Awaited → Pending
pending_of awaited = record { option = awaited.valued; word = awaited.word.now }

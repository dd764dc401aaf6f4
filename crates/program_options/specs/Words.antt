-- What a word is.
use Prim.Native.Char.{code}
use Rattle.std.specs.Prelude.{ℕ, List, [], ◌∷◌, ◌==◌, nat_lt, Option, None, Some, Result, Ok, Err, if◌then◌else◌, codes}
use Rattle.std.specs.Borrow.{Bor}
use Rattle.std.specs.Str.{bytes_eq}
use Rattle.program_options.specs.declared.plain.Change.TheVariants as changes
use Rattle.program_options.specs.declared.plain.Says.TheVariants as says
use Rattle.program_options.specs.declared.names.Letter.{Letter}
use Rattle.program_options.specs.declared.names.Letter.TheVariants as letters
use Rattle.program_options.specs.declared.names.Valued.{Valued}
use Rattle.program_options.specs.declared.names.Valued.TheVariants as valued
use Rattle.program_options.specs.declared.usage.Case.{Case}
use Rattle.program_options.specs.declared.usage.Case.TheVariants.{LeftOut, Unknown, BadValue}
use Rattle.program_options.specs.declared.words.Word.{Word}
use Rattle.program_options.specs.declared.words.Word.TheVariants as words
use Rattle.program_options.specs.Names.{letter_of}
use Rattle.program_options.specs.Values.{Meaning, IsNothing, Changes, meaning, meant, at_equals}

-- a word is a file; ends the options; is an option that is whole, with what it asks for or why it is bad; or is one whose value is
-- the next word
pub data Form : Type 0 where
  IsFile : Form
  IsEnd : Form
  IsWhole : Result Meaning Case → Form
  Awaits : Valued → Form

-- ---- options of one letter

-- one that has no value
abbrev pub alone : Meaning → List ℕ → Result Meaning Case
alone asked [] = Ok asked
alone asked (byte ∷ bytes) = Err BadValue

-- one that asks for a value: what stands after the letter, or the next word
abbrev pub asking : Valued → List ℕ → Form
asking option [] = Awaits option
asking option (byte ∷ bytes) = IsWhole (meaning option (byte ∷ bytes))

abbrev pub by_letter : Letter → List ℕ → Form
by_letter (letters.Asks option) value = asking option value
by_letter (letters.Sets change) value = IsWhole (alone (Changes change) value)
by_letter letters.Passed value = IsWhole (alone IsNothing value)
by_letter letters.LeftOut value = IsWhole (Err LeftOut)
by_letter letters.Unknown value = IsWhole (Err Unknown)

abbrev pub letter_word : ℕ → List ℕ → Form
letter_word letter value = by_letter (letter_of letter) value

-- the first byte, if it is ASCII, and what follows it
abbrev pub first_byte : List ℕ → Option (ℕ × List ℕ)
first_byte [] = None
first_byte (byte ∷ bytes) = if nat_lt byte 128 then Some (byte, bytes) else None

-- ---- options that begin with `--`

abbrev pub long_named : List ℕ → Option Valued
long_named name =
    if bytes_eq name (codes "--width") then Some valued.Cells else
    if bytes_eq name (codes "--faces") then Some valued.Faces else
    if bytes_eq name (codes "--within") then Some valued.Within else None

abbrev pub whole_alone : List ℕ → Form
whole_alone word =
    if bytes_eq word (codes "--warnings") then IsWhole (Ok (Changes changes.Warns)) else
    if bytes_eq word (codes "--alone") then IsWhole (Ok (Changes changes.Alone)) else
    if bytes_eq word (codes "--version") then IsWhole (Ok (Changes (changes.Says says.Version))) else
    if bytes_eq word (codes "--help") then IsWhole (Ok (Changes (changes.Says says.Help))) else
    IsWhole (Err Unknown)

abbrev pub or_awaits : Option Valued → Form → Form
or_awaits (Some option) other = Awaits option
or_awaits None other = other

abbrev pub word_alone : List ℕ → Form
word_alone word =
    if bytes_eq word (codes "--") then IsEnd else or_awaits (long_named word) (whole_alone word)

abbrev pub with_value : Option Valued → List ℕ → Form
with_value None value = IsWhole (Err Unknown)
with_value (Some option) value = IsWhole (meaning option value)

abbrev pub long_parts : Option (List ℕ × List ℕ) → List ℕ → Form
long_parts (Some parts) word = with_value (long_named parts.0) parts.1
long_parts None word = word_alone word

abbrev pub long_word : List ℕ → Form
long_word word = long_parts (at_equals word) word

-- ---- any word

-- after `-`
abbrev pub short_word : Option (ℕ × List ℕ) → Form
short_word None = IsWhole (Err Unknown)
short_word (Some parts) = letter_word parts.0 parts.1

-- An option begins with `-` and is not `-`.
abbrev pub word_of : List ℕ → Form
word_of [] = IsFile
word_of (byte ∷ []) = IsFile
word_of (byte ∷ next ∷ rest) =
    if byte == code "-"
    then (if next == code "-" then long_word (byte ∷ next ∷ rest) else short_word (first_byte (next ∷ rest)))
    else IsFile

-- ---- what the program holds of this, as texts

abbrev pub seen : Word → Form
seen words.File = IsFile
seen words.End = IsEnd
seen (words.Whole asks) = IsWhole (meant asks)
seen (words.Awaits option) = Awaits option

abbrev pub letter_now : ℕ × Bor (List ℕ) → ℕ × List ℕ
letter_now parts = (parts.0, parts.1.now)

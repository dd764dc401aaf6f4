-- What an option of the command line means. (CSTR 54, usage.)
use Prim.Native.Char.{code}
use Rattle.std.specs.Prelude.{◌≡◌, ◌≢◌, ℕ, ◌≤◌, ◌⊎◌, List, [], ◌∷◌, Bool, ◌==◌, IsTrue, codes, ℤ, pos, neg_ℤ}
use Rattle.std.specs.List.{list_any}
use Rattle.std.specs.Str.Parse.{IsNumeral, digits_value}
use Rattle.nr_page.specs.Selection.{IsPageList, WritesNumber}
use Rattle.nr_page.specs.declared.selection.PageRange.{PageRange}
use Rattle.nr_options.specs.Limits.{IsInRange}
use Rattle.nr_options.specs.declared.limits.Limit.{Limit}
use Rattle.nr_options.specs.declared.limits.Limit.TheVariants.{Stored, Depth, Cells, Expansions, Moves}
use Rattle.nr_command_options.specs.declared.usage.Case.{Case}
use Rattle.nr_command_options.specs.declared.usage.Case.TheVariants.{LeftOut, Unknown, BadValue, TooMany}

-- what one option asks for: `-olist`, `-nN`, `-raN`, `-mname`, `-Mdir`, `-i`, `-b`, or `-L`, a letter and N
pub data Meaning : Type 0 where
  PrintOnly : List PageRange → Meaning
  BeginAt : ℕ → Meaning
  SetRegister : ℕ → ℤ → Meaning
  ReadMacros : List ℕ → Meaning
  MacrosIn : List ℕ → Meaning
  ReadInput : Meaning
  ShowFaces : Meaning
  SetLimit : Limit → ℕ → Meaning

-- the byte `-`
abbrev pub hyphen : ℕ
hyphen = code "-"

-- the letter of the option: `o`, `n`, `r`, `m`, `M`, `i`, `b` or `L`
abbrev pub letter_of : Meaning → ℕ
letter_of (PrintOnly pages) = code "o"
letter_of (BeginAt n) = code "n"
letter_of (SetRegister name n) = code "r"
letter_of (ReadMacros name) = code "m"
letter_of (MacrosIn folder) = code "M"
letter_of ReadInput = code "i"
letter_of ShowFaces = code "b"
letter_of (SetLimit limit n) = code "L"

-- the letter of a limit: `s`, `d`, `p`, `x` or `m`
abbrev pub limit_letter : Limit → ℕ
limit_letter Stored = code "s"
limit_letter Depth = code "d"
limit_letter Cells = code "p"
limit_letter Expansions = code "x"
limit_letter Moves = code "m"

-- the text writes the number: decimal digits, or `-` and decimal digits
abbrev pub WritesInteger : ℤ → List ℕ → Type 0
WritesInteger n text =
    ((size : ℕ) × WritesNumber size text × (n ≡ pos size))
    ⊎ ((size : ℕ) × (digits : List ℕ) × (text ≡ hyphen ∷ digits) × WritesNumber size digits
    × (n ≡ neg_ℤ (pos size)))

-- the text writes the number of a limit: decimal digits, and in its range
pub record WritesLimit (limit : Limit) (n : ℕ) (text : List ℕ) : Type 0 where
  pub digits : IsNumeral 10 text
  pub value : n ≡ digits_value 10 text
  pub in_range : IsInRange limit n

-- what stands after the letter of an option that means this
abbrev pub IsValue : Meaning → List ℕ → Type 0
IsValue (PrintOnly pages) value = IsPageList pages value
IsValue (BeginAt n) value = WritesNumber n value
IsValue (SetRegister name n) value =
    (number : List ℕ) × (value ≡ name ∷ number) × (code "!" ≤ name) × (name ≤ code "~")
    × WritesInteger n number
IsValue (ReadMacros name) value = (value ≡ name) × (name ≢ [])
IsValue (MacrosIn folder) value = (value ≡ folder) × (folder ≢ [])
IsValue ReadInput value = value ≡ []
IsValue ShowFaces value = value ≡ []
IsValue (SetLimit limit n) value =
    (number : List ℕ) × (value ≡ limit_letter limit ∷ number) × WritesLimit limit n number

-- the word means this: it is `-`, the letter, and a value
abbrev pub Means : Meaning → List ℕ → Type 0
Means meaning word = (value : List ℕ) × (word ≡ hyphen ∷ letter_of meaning ∷ value) × IsValue meaning value

-- the letters of the options, and those of options that other programs of this name have
abbrev pub known_letters : List ℕ
known_letters = codes "onrmMibL"

abbrev pub left_out_letters : List ℕ
left_out_letters = codes "Tsqehz"

abbrev pub is_among : List ℕ → ℕ → Bool
is_among letters letter = list_any (λ known. known == letter) letters

-- a word is bad by its own form: its letter is left out, or unknown, or known and its value is no good
abbrev pub IsIllFormed : Case → List ℕ → Type 0
IsIllFormed LeftOut word =
    (letter : ℕ) × (value : List ℕ) × (word ≡ hyphen ∷ letter ∷ value)
    × IsTrue (is_among left_out_letters letter)
IsIllFormed Unknown word = (letter : ℕ) × (value : List ℕ) × (word ≡ hyphen ∷ letter ∷ value)
    × ¬ IsTrue (is_among left_out_letters letter) × ¬ IsTrue (is_among known_letters letter)
IsIllFormed BadValue word = (letter : ℕ) × (value : List ℕ) × (word ≡ hyphen ∷ letter ∷ value)
    × IsTrue (is_among known_letters letter) × ((meaning : Meaning) → Means meaning word → ⊥)
IsIllFormed TooMany word = ⊥

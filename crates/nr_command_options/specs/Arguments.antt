-- What the words of the command line come to. (CSTR 54, usage.)
use Rattle.std.specs.Prelude.{◌≡◌, ℕ, ◌≤◌, List, [], ◌∷◌, ◌++◌, length, drop, Bool, true, false, ◌==◌, ◌||◌, Option, None, Some, Result, Ok, Err, ℤ, pos, codes}
use Rattle.std.specs.List.{take_while, filter_map, last_or, list_any, fold, AllZip}
use Rattle.nr_page.specs.declared.faces.Faces.{Faces}
use Rattle.nr_page.specs.declared.faces.Faces.TheVariants.{Letters, All}
use Rattle.nr_page.specs.declared.selection.PageRange.{PageRange}
use Rattle.nr_options.specs.Limits.{Bounds, default_bounds, with_bound}
use Rattle.nr_options.specs.declared.limits.Limit.{Limit}
use Rattle.nr_command_options.specs.declared.usage.Case.{Case}
use Rattle.nr_command_options.specs.declared.usage.Case.TheVariants.{LeftOut, Unknown, BadValue, TooMany}
use Rattle.nr_command_options.specs.Settings.{Meaning, PrintOnly, BeginAt, SetRegister, ReadMacros, MacrosIn, ReadInput, ShowFaces, SetLimit, Means, IsIllFormed, hyphen}

-- an option begins with `-` and is not `-`
abbrev pub is_option : List ℕ → Bool
is_option [] = false
is_option (byte ∷ []) = false
is_option (byte ∷ next ∷ rest) = byte == hyphen

-- the words before the first that is no option, and the others
abbrev pub options : List (List ℕ) → List (List ℕ)
options words = take_while is_option words

abbrev pub files : List (List ℕ) → List (List ℕ)
files words = drop (length (options words)) words

-- each word has the meaning that stands at its place
abbrev pub Mean : List Meaning → List (List ℕ) → Type 0
Mean meanings words = AllZip Means meanings words

-- what an option says of each matter, if it says anything of it
abbrev pub page_list : Meaning → Option (List PageRange)
page_list (PrintOnly pages) = Some pages
page_list other = None

abbrev pub shown : Meaning → Option Faces
shown ShowFaces = Some All
shown other = None

abbrev pub first_page : Meaning → Option ℤ
first_page (BeginAt n) = Some (pos n)
first_page other = None

abbrev pub register : Meaning → Option (ℕ × ℤ)
register (SetRegister name n) = Some (name, n)
register other = None

abbrev pub macro_name : Meaning → Option (List ℕ)
macro_name (ReadMacros name) = Some name
macro_name other = None

abbrev pub macro_folder : Meaning → Option (List ℕ)
macro_folder (MacrosIn folder) = Some folder
macro_folder other = None

abbrev pub limit : Meaning → Option (Limit × ℕ)
limit (SetLimit which n) = Some (which, n)
limit other = None

abbrev pub is_input : Meaning → Bool
is_input ReadInput = true
is_input other = false

-- no more than 32 registers and 32 macro files
pub record AreFew (meanings : List Meaning) : Type 0 where
  pub registers : length (filter_map register meanings) ≤ 32
  pub macros : length (filter_map macro_name meanings) ≤ 32

-- with one of this kind after these it would be too many
abbrev pub IsFull : List Meaning → Meaning → Type 0
IsFull before (SetRegister name n) = length (filter_map register before) ≡ 32
IsFull before (ReadMacros name) = length (filter_map macro_name before) ≡ 32
IsFull before other = ⊥

-- what the program is asked to do
pub record Asked : Type 0 where
  pub first : ℤ
  pub registers : List (ℕ × ℤ)
  -- None: all pages
  pub select : Option (List PageRange)
  pub faces : Faces
  pub limits : Bounds
  pub folder : List ℕ
  pub macros : List (List ℕ)
  -- standard input is read after the files
  pub reads_input : Bool
  pub files : List (List ℕ)

-- the last of a list, or else d
abbrev pub last_of : {A : Type 0} → A → List A → A
last_of d [] = d
last_of d (x ∷ xs) = last_of x xs

-- the limits where these are set one after the other
abbrev pub limited : List (Limit × ℕ) → Bounds
limited limits = fold (λ bounds given. with_bound given.0 given.1 bounds) default_bounds limits

-- What options of these meanings ask for, and these files: of each kind the last counts, but registers and macro
-- files all do, in order. Without files standard input is read, once, with `-i` or without.
abbrev pub asked_by : List Meaning → List (List ℕ) → Asked
asked_by meanings files = record {
  first = last_of (pos 1) (filter_map first_page meanings);
  registers = filter_map register meanings;
  select = last_or None (filter_map page_list meanings);
  faces = last_of Letters (filter_map shown meanings);
  limits = limited (filter_map limit meanings);
  folder = last_of (codes ".") (filter_map macro_folder meanings);
  macros = filter_map macro_name meanings;
  reads_input = list_any is_input meanings || (length files == 0);
  files = files;
}

-- what is wrong with a word
pub record Complaint : Type 0 where
  pub case : Case
  pub word : List ℕ

-- a word after options of these meanings is bad: by its own form, or, where its form is good, as one too many of its kind
abbrev pub IsBad : List Meaning → Case → List ℕ → Type 0
IsBad before TooMany word = (meaning : Meaning) × Means meaning word × IsFull before meaning
IsBad before LeftOut word = IsIllFormed LeftOut word
IsBad before Unknown word = IsIllFormed Unknown word
IsBad before BadValue word = IsIllFormed BadValue word

-- all options are good, and this is what is asked
pub record IsGood (words : List (List ℕ)) (asked : Asked) : Type 0 where
  pub meanings : List Meaning
  pub meant : Mean meanings (options words)
  pub few : AreFew meanings
  pub asked_is : asked ≡ asked_by meanings (files words)

-- the first bad option, and what is wrong with it
pub record IsFirstBad (words : List (List ℕ)) (complaint : Complaint) : Type 0 where
  pub good : List (List ℕ)
  pub rest : List (List ℕ)
  pub options_are : options words ≡ good ++ complaint.word ∷ rest
  pub meanings : List Meaning
  pub meant : Mean meanings good
  pub few : AreFew meanings
  pub bad : IsBad meanings complaint.case complaint.word

-- what the words come to: a job, or the first bad word
abbrev pub IsAnswer : List (List ℕ) → Result Asked Complaint → Type 0
IsAnswer words (Ok asked) = IsGood words asked
IsAnswer words (Err complaint) = IsFirstBad words complaint

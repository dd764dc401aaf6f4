-- What options mean by their values. (groff's nroff(1) and groff(1), options; CSTR 54, usage.)
use Prim.Native.Char.{code}
use Rattle.std.specs.Prelude.{ℕ, List, [], ◌∷◌, length, take, drop, Bool, not, ◌==◌, ◌&&◌, ◌||◌, nat_le, nat_lt, Option, None, Some, Result, Ok, Err, if◌then◌else◌, codes}
use Rattle.std.specs.Borrow.{Bor}
use Rattle.std.specs.Option.{option_map}
use Rattle.std.specs.List.{list_any, list_all, before_first, after_first, position_or_len}
use Rattle.std.specs.Str.{bytes_eq}
use Rattle.nr_options.specs.declared.limits.Limit.{Limit}
use Rattle.nr_options.specs.declared.limits.Limit.TheVariants.{Stored, Depth, Cells, Expansions, Moves}
use Rattle.program_options.specs.declared.plain.Device.{Device}
use Rattle.program_options.specs.declared.plain.Device.TheVariants.{Utf8, Latin1, Ascii}
use Rattle.program_options.specs.declared.plain.Faces.{Faces}
use Rattle.program_options.specs.declared.plain.Faces.TheVariants as faces
use Rattle.program_options.specs.declared.plain.Kind.{Kind}
use Rattle.program_options.specs.declared.plain.Kind.TheVariants as kinds
use Rattle.program_options.specs.declared.plain.Change.{Change}
use Rattle.program_options.specs.declared.plain.Change.TheVariants as changes
use Rattle.program_options.specs.declared.names.Valued.{Valued}
use Rattle.program_options.specs.declared.names.Valued.TheVariants as valued
use Rattle.program_options.specs.declared.usage.Case.{Case}
use Rattle.program_options.specs.declared.usage.Case.TheVariants.{BadValue}
use Rattle.program_options.specs.declared.values.Which.{Which}
use Rattle.program_options.specs.declared.values.Which.TheVariants as whiches
use Rattle.program_options.specs.declared.values.Ask.{Ask}
use Rattle.program_options.specs.declared.values.Ask.TheVariants as asks
use Rattle.program_options.specs.Numbers.{number, number_between, without_scale}

-- what one option asks for
pub data Meaning : Type 0 where
  -- nothing: it changes nothing on a terminal
  IsNothing : Meaning
  -- one thing set
  Changes : Change → Meaning
  -- a limit, and its number
  Limits : Limit → ℕ → Meaning
  -- one more macro file, by its name
  ReadsMacros : List ℕ → Meaning
  -- something by a text
  Names : Which → List ℕ → Meaning
  -- a register or a string by its name, and what it is set to
  Sets : Kind → List ℕ → List ℕ → Meaning

-- ---- values

abbrev pub device_named : List ℕ → Option Device
device_named name =
    if bytes_eq name (codes "utf8") then Some Utf8 else
    if bytes_eq name (codes "latin1") then Some Latin1 else
    if bytes_eq name (codes "ascii") then Some Ascii else None

abbrev pub faces_named : List ℕ → Option Faces
faces_named name =
    if bytes_eq name (codes "auto") then Some faces.Auto else
    if bytes_eq name (codes "on") then Some faces.On else
    if bytes_eq name (codes "off") then Some faces.Off else
    if bytes_eq name (codes "none") then Some faces.None else None

-- the cells of a line: 1 to 9999
abbrev pub cells : List ℕ → Option ℕ
cells text = number_between 1 9999 text

abbrev pub is_digit : ℕ → Bool
is_digit byte = nat_le (code "0") byte && nat_le byte (code "9")

-- `-w`: what begins with a digit is the cells of a line, and else a warning
abbrev pub width_meaning : List ℕ → Option Change
width_meaning [] = Some changes.Warns
width_meaning (byte ∷ bytes) =
    if is_digit byte then option_map changes.Width (cells (byte ∷ bytes)) else Some changes.Warns

abbrev pub has : ℕ → List ℕ → Bool
has byte bytes = list_any (λ b. b == byte) bytes

-- `-P`: `c` strikes over
abbrev pub output_meaning : List ℕ → Meaning
output_meaning value =
    if has (code "c") value then Changes (changes.Faces faces.Off) else IsNothing

-- `-LsN`, by the letter and the number
abbrev pub limit_of : ℕ → ℕ → Option Meaning
limit_of letter n =
    if letter == code "s" then Some (Limits Stored n) else
    if letter == code "d" then Some (Limits Depth n) else
    if letter == code "p" then Some (Limits Cells n) else
    if letter == code "x" then Some (Limits Expansions n) else
    if letter == code "m" then Some (Limits Moves n) else
    if letter == code "t" && (nat_le 1 n && nat_le n 1048576) then Some (Changes (changes.Formats n)) else
    if letter == code "r" && (nat_le 64 n && nat_le n 1048576) then Some (Changes (changes.Row n)) else
    None

abbrev pub if_number : Option ℕ → (ℕ → Option Meaning) → Option Meaning
if_number None next = None
if_number (Some n) next = next n

abbrev pub limit_meaning : List ℕ → Option Meaning
limit_meaning [] = None
limit_meaning (letter ∷ digits) = if_number (number digits) (limit_of letter)

-- ---- registers and strings

abbrev pub is_equals : ℕ → Bool
is_equals byte = byte == code "="

-- what stands before the first `=` and after it
abbrev pub at_equals : List ℕ → Option (List ℕ × List ℕ)
at_equals text =
    if nat_lt (position_or_len is_equals text) (length text)
    then Some (before_first is_equals text, after_first is_equals text) else None

-- a name is bytes of `!` to `~`
abbrev pub is_printable : ℕ → Bool
is_printable byte = nat_le (code "!") byte && nat_le byte (code "~")

abbrev pub is_name : List ℕ → Bool
is_name bytes = not (length bytes == 0) && list_all is_printable bytes

-- a name and a text of one line
abbrev pub if_setting : List ℕ × List ℕ → Option (List ℕ × List ℕ)
if_setting parts = if is_name parts.0 && not (has (code "\n") parts.1) then Some parts else None

-- what stands before the first `=` and after it, or the first byte and the rest
abbrev pub halves : List ℕ → Option (List ℕ × List ℕ) → List ℕ × List ℕ
halves text (Some parts) = parts
halves text None = (take 1 text, drop 1 text)

abbrev pub setting_parts : List ℕ → Option (List ℕ × List ℕ)
setting_parts text = if_setting (halves text (at_equals text))

-- the length of lines is their width, that of titles is the same
abbrev pub register_of : List ℕ → List ℕ → Option Meaning
register_of name [] = None
register_of name (byte ∷ bytes) =
    if bytes_eq name (codes "LL") || bytes_eq name (codes "L")
    then option_map (λ n. Changes (changes.Width n)) (cells (without_scale (byte ∷ bytes))) else
    if bytes_eq name (codes "LT") then Some IsNothing else Some (Sets kinds.Register name (byte ∷ bytes))

abbrev pub if_parts : Option (List ℕ × List ℕ) → (List ℕ → List ℕ → Option Meaning) → Option Meaning
if_parts None next = None
if_parts (Some parts) next = next parts.0 parts.1

abbrev pub register_meaning : List ℕ → Option Meaning
register_meaning text = if_parts (setting_parts text) register_of

abbrev pub text_meaning : List ℕ → Option Meaning
text_meaning text = if_parts (setting_parts text) (λ name value. Some (Sets kinds.Text name value))

-- ---- options

-- those that set one thing
abbrev pub change_meaning : Valued → List ℕ → Option Change
change_meaning valued.Device value = option_map changes.Device (device_named value)
change_meaning valued.Faces value = option_map changes.Faces (faces_named value)
change_meaning valued.First value = option_map changes.First (number_between 0 2147483647 value)
change_meaning valued.Width value = width_meaning value
change_meaning valued.Cells value = option_map changes.Width (cells value)
change_meaning other value = None

-- what an option with these bytes for a value asks for, if it may have them
abbrev pub meaning_of_some : Valued → List ℕ → Option Meaning
meaning_of_some valued.Macros value = Some (ReadsMacros value)
meaning_of_some valued.Folder value = Some (Names whiches.Folder value)
meaning_of_some valued.Coding value = Some (Names whiches.Coding value)
meaning_of_some valued.Pages value = Some (Names whiches.Pages value)
meaning_of_some valued.Within value = Some (Names whiches.Within value)
meaning_of_some valued.Register value = register_meaning value
meaning_of_some valued.Text value = text_meaning value
meaning_of_some valued.Limit value = limit_meaning value
meaning_of_some valued.Passed value = Some IsNothing
meaning_of_some valued.Output value = Some (output_meaning value)
meaning_of_some other value = option_map Changes (change_meaning other value)

abbrev pub or_bad : Option Meaning → Result Meaning Case
or_bad None = Err BadValue
or_bad (Some meaning) = Ok meaning

-- the same, where an empty value is bad
abbrev pub meaning : Valued → List ℕ → Result Meaning Case
meaning option [] = Err BadValue
meaning option (byte ∷ bytes) = or_bad (meaning_of_some option (byte ∷ bytes))

-- ---- what the program holds of this, as texts

abbrev pub meaning_of : Ask → Meaning
meaning_of asks.Nothing = IsNothing
meaning_of (asks.Change change) = Changes change
meaning_of (asks.Limit limit n) = Limits limit n
meaning_of (asks.Macros name) = ReadsMacros name.now
meaning_of (asks.Named which text) = Names which text.now
meaning_of (asks.Sets kind name text) = Sets kind name.now text.now

abbrev pub meant : Result Ask Case → Result Meaning Case
meant (Ok ask) = Ok (meaning_of ask)
meant (Err case) = Err case

abbrev pub parts_now : Bor (List ℕ) × Bor (List ℕ) → List ℕ × List ℕ
parts_now parts = (parts.0.now, parts.1.now)

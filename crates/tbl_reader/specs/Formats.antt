-- The formats of a table (Tbl, "Format"; tbl(1), "Column descriptors"): lines of columns, each with what modifies it.
use Rattle.std.specs.Prelude.{ℕ, Bool, true, false, ◌==◌, ◌&&◌, ◌||◌, nat_le, nat_lt, if◌then◌else◌, Option, None, Some}
use Prim.Native.Char.{code}
use Rattle.tbl_reader.specs.declared.formats.Formats.{Formats}
use Rattle.tbl_reader.specs.declared.formats.Part.{Part}
use Rattle.tbl_reader.specs.declared.formats.Part.TheVariants as parts
use Rattle.tbl_reader.specs.declared.formats.Call.{Call}
use Rattle.tbl_reader.specs.declared.formats.Call.TheVariants.{Nothing, Cell, Bars, Font, Width, Gap, Byte, Equal, Wide, Zero, Top, Low}
use Rattle.tbl_reader.specs.declared.formats.Called.{Called}
use Rattle.tbl_reader.specs.Numbers.{is_digit, one_more}
use Rattle.tbl_reader.specs.Options.{small}
use Rattle.tbl_blocks.specs.declared.parts.Font.TheVariants as fonts
use Rattle.tbl_blocks.specs.Parts.{font_of}
use Rattle.tbl_table.specs.declared.table.Kind.{Kind}
use Rattle.tbl_table.specs.declared.table.Kind.TheVariants as kinds
use Rattle.tbl_table.specs.Held.{is_number}

-- ---- what is called

abbrev pub only : Call → Called
only call = record { ends = false; begins = false; call = call }

-- what is half read then, and what is called
pub record Returned : Type 0 where
  pub formats : Formats
  pub called : Called

abbrev pub returned : Formats → Called → Returned
returned f called = record { formats = f; called = called }

abbrev pub first_formats : ℕ → ℕ → Bool → Formats
first_formats columns lines numeric = record {
  part = parts.Keys;
  begun = false;
  bars = 0;
  cells = 0;
  columns = columns;
  lines = lines;
  numeric = numeric;
  bad = None;
  many = false;
}

-- ---- columns and lines

-- by the key letter of a column: - is _
abbrev pub kind_of : ℕ → Option Kind
kind_of b =
    if b == code "l" then Some kinds.Left else
    if b == code "r" then Some kinds.Right else
    if b == code "c" then Some kinds.Centre else
    if b == code "n" then Some kinds.Number else
    if b == code "a" then Some kinds.Alpha else
    if b == code "s" then Some kinds.Across else
    if b == code "^" then Some kinds.Down else
    if (b == code "_") || (b == code "-") then Some kinds.Rule else
    if b == code "=" then Some kinds.DoubleRule else None

-- a line begins
abbrev pub line_begun : Formats → Formats
line_begun f = record f { cells = 0; many = f.many || nat_le 256 f.lines; lines = one_more f.lines 256 }

-- the first byte that is no part of a format, or lacks what it needs
abbrev pub blamed_in : Option ℕ → ℕ → Formats → Formats
blamed_in (Some first) b f = f
blamed_in None b f = record f { bad = Some b }

abbrev pub blaming : ℕ → Formats → Formats
blaming b f = blamed_in f.bad b f

-- the letter of a column where nothing stands before it, or above it, that could go on over it
abbrev pub bad_letter : Kind → Formats → Option ℕ
bad_letter kinds.Across f = if f.cells == 0 then Some (code "s") else None
bad_letter kinds.Down f = if f.lines == 1 then Some (code "^") else None
bad_letter kind f = None

-- one column more, of at most 64
abbrev pub with_cell : Kind → Formats → Formats
with_cell kind f =
    let cells = one_more f.cells 64 in
    record f {
      many = f.many || nat_le 64 f.cells;
      cells = cells;
      columns = if nat_lt f.columns cells then cells else f.columns;
      numeric = f.numeric || is_number kind;
      begun = true;
      bars = 0;
    }

abbrev pub cell_added : Kind → Bool → Formats → Returned
cell_added kind begins f =
    returned (with_cell kind f) (record { ends = false; begins = begins; call = Cell kind f.bars })

-- one of l where it can't be of its kind
abbrev pub kind_added_in : Option ℕ → Kind → Bool → Formats → Returned
kind_added_in (Some letter) kind begins f = cell_added kinds.Left begins (blaming letter f)
kind_added_in None kind begins f = cell_added kind begins f

abbrev pub kind_added : Kind → Bool → Formats → Returned
kind_added kind begins f = kind_added_in (bad_letter kind f) kind begins f

abbrev pub cell : Kind → Formats → Returned
cell kind f = if f.begun then kind_added kind false f else kind_added kind true (line_begun f)

abbrev pub line_ends : Formats → Returned
line_ends f =
    if f.begun then returned (record f { begun = false; bars = 0 }) (only (Bars f.bars))
    else returned f (only Nothing)

abbrev pub bar : Formats → Returned
bar f = returned (record f { bars = one_more f.bars 2 }) (only Nothing)

abbrev pub bad_byte : ℕ → Formats → Returned
bad_byte b f = returned (blaming b f) (only Nothing)

-- ---- what modifies a column

abbrev pub going_on : Part → Call → Formats → Returned
going_on part call f = returned (record f { part = part }) (only call)

-- b i e x z t d, u without effect, f w p v m, and a number for the space after it
abbrev pub modifier : ℕ → Formats → Returned
modifier b f =
    if b == code "b" then returned f (only (Font fonts.Bold)) else
    if b == code "i" then returned f (only (Font fonts.Italic)) else
    if b == code "e" then returned f (only Equal) else
    if b == code "x" then returned f (only Wide) else
    if b == code "z" then returned f (only Zero) else
    if b == code "t" then returned f (only Top) else
    if b == code "d" then returned f (only Low) else
    if b == code "u" then returned f (only Nothing) else
    if b == code "f" then going_on parts.Font Nothing f else
    if b == code "w" then going_on parts.Width Width f else
    if (b == code "p") || (b == code "v") || (b == code "m") then going_on (parts.Size b) Nothing f else
    if is_digit b then going_on parts.Digits (Gap b) f else bad_byte b f

abbrev pub column : ℕ → Option Kind → Formats → Returned
column b (Some kind) f = cell kind f
column b None f = if f.begun then modifier b f else bad_byte b f

abbrev pub small_key : ℕ → Formats → Returned
small_key b f =
    if (b == code "\n") || (b == code ",") then line_ends f else
    if (b == code " ") || (b == code "\t") || (b == code ".") then returned f (only Nothing) else
    if b == code "|" then bar f else column b (kind_of b) f

-- a byte where a column may come, in either case of letters
abbrev pub key : ℕ → Formats → Returned
key b f = small_key (small b) f

-- a part has ended before this byte
abbrev pub ended : Bool → ℕ → Formats → Returned
ended ends b f =
    let t = key b (record f { part = parts.Keys }) in
    returned t.formats (record t.called { ends = ends })

-- the part of a letter has ended before what it needs
abbrev pub cut_short : ℕ → Bool → ℕ → Formats → Returned
cut_short letter ends b f = ended ends b (blaming letter f)

-- ---- fonts

-- by the last letter of its name
abbrev pub font : ℕ → Formats → Returned
font b f = going_on parts.Keys (Font (font_of b)) f

abbrev pub in_font : ℕ → Formats → Returned
in_font b f =
    if b == code "(" then going_on (parts.FontName (code "R")) Nothing f else
    if (b == code " ") || (b == code "\t") then returned f (only Nothing) else
    if b == code "\n" then cut_short (code "f") false b f else going_on parts.FontMore (Font (font_of b)) f

-- a capital letter or a digit
abbrev pub is_name_byte : ℕ → Bool
is_name_byte b = (nat_le (code "A") b && nat_le b (code "Z")) || is_digit b

abbrev pub in_font_more : ℕ → Formats → Returned
in_font_more b f = if is_name_byte b then font b f else ended false b f

abbrev pub in_font_name : ℕ → ℕ → Formats → Returned
in_font_name last b f =
    if b == code ")" then font last f else
    if b == code "\n" then cut_short (code "f") false b f else going_on (parts.FontName b) Nothing f

-- ---- numbers

abbrev pub in_width : ℕ → Formats → Returned
in_width b f =
    if b == code "(" then going_on (parts.WidthIn false) Nothing f else
    if is_digit b then going_on parts.Digits (Byte b) f else
    if (b == code " ") || (b == code "\t") then returned f (only Nothing) else cut_short (code "w") true b f

-- in parentheses a digit stands, or an escape
abbrev pub width_ended : Bool → Formats → Returned
width_ended said f = going_on parts.Keys (Byte (code "\n")) (if said then f else blaming (code "w") f)

abbrev pub in_width_in : Bool → ℕ → Formats → Returned
in_width_in said b f =
    if b == code ")" then width_ended said f else
    if b == code "\n" then cut_short (code "w") true b f else
    if is_digit b || (b == code "\\") then going_on (parts.WidthIn true) (Byte b) f
    else returned f (only (Byte b))

abbrev pub in_digits : ℕ → Formats → Returned
in_digits b f = if is_digit b then returned f (only (Byte b)) else ended true b f

-- type sizes and the like have no effect
abbrev pub in_size : ℕ → ℕ → Formats → Returned
in_size letter b f =
    if b == code "(" then going_on (parts.SizeIn letter) Nothing f else
    if (b == code "+") || (b == code "-") || is_digit b then going_on parts.SizeDigits Nothing f
    else cut_short letter false b f

abbrev pub in_size_digits : ℕ → Formats → Returned
in_size_digits b f = if is_digit b then returned f (only Nothing) else ended false b f

abbrev pub in_size_in : ℕ → ℕ → Formats → Returned
in_size_in letter b f =
    if b == code ")" then going_on parts.Keys Nothing f else
    if b == code "\n" then cut_short letter false b f else returned f (only Nothing)

-- ---- a byte, by the part that is half read

abbrev pub read_in : Part → ℕ → Formats → Returned
read_in parts.Keys b f = key b f
read_in parts.Font b f = in_font b f
read_in parts.FontMore b f = in_font_more b f
read_in (parts.FontName last) b f = in_font_name last b f
read_in parts.Width b f = in_width b f
read_in (parts.WidthIn said) b f = in_width_in said b f
read_in parts.Digits b f = in_digits b f
read_in (parts.Size letter) b f = in_size letter b f
read_in parts.SizeDigits b f = in_size_digits b f
read_in (parts.SizeIn letter) b f = in_size_in letter b f

abbrev pub read : ℕ → Formats → Returned
read b f = read_in f.part b f

-- The lines that report what is wrong with tables.
use Prim.Native.Char.{code}
use Rattle.std.specs.Prelude.{ℕ, List, [], ◌∷◌, ◌++◌, Bool, ◌&&◌, nat_le, if◌then◌else◌, codes, decimal}
use Rattle.std.specs.List.{concat, flat_map}
use Rattle.tbl_reader.specs.declared.complaint.Complaint.{Complaint}
use Rattle.tbl_reader.specs.declared.complaint.Kind.{Kind}
use Rattle.tbl_reader.specs.declared.complaint.Kind.TheVariants.{NoFormat, BadFormat, UnknownOption}
use Rattle.tbl_reader.specs.declared.complaint.Kind.TheVariants.{BadArgument, TooManyFields, OpenBlock}
use Rattle.tbl_reader.specs.declared.complaint.Kind.TheVariants.{OpenTable, TooManyColumns, FormatsLimit}
use Rattle.tbl_reader.specs.declared.complaint.Kind.TheVariants.{RowLimit, TooWide, UnsetRequest}

-- ---- what is wrong

-- before what it names
abbrev pub words_of : Kind → List ℕ
words_of NoFormat = codes "table without a format"
words_of (BadFormat byte) = codes "bad format: "
words_of (UnknownOption word) = codes "unknown option: "
words_of (BadArgument word) = codes "not one character after "
words_of TooManyFields = codes "more fields than columns"
words_of (OpenBlock line) = codes "text block without an end, from line "
words_of (OpenTable line) = codes "table without an end, from line "
words_of TooManyColumns = codes "more than 64 columns"
words_of FormatsLimit = codes "table formats limit passed"
words_of RowLimit = codes "table row limit passed"
words_of TooWide = codes "table wider than the line"
words_of (UnsetRequest name) = codes "not set in a text block: ."

-- a byte that prints, or else its number
abbrev pub byte_text : ℕ → List ℕ
byte_text byte = if nat_le (code "!") byte && nat_le byte (code "~") then byte ∷ [] else decimal byte

-- what it names
abbrev pub named_by : Kind → List ℕ
named_by (BadFormat byte) = byte_text byte
named_by (UnknownOption word) = word
named_by (BadArgument word) = word
named_by (UnsetRequest name) = name
named_by (OpenBlock line) = decimal line
named_by (OpenTable line) = decimal line
named_by other = []

-- ---- lines

-- how a line begins that a program tells of a line of the text of this name
abbrev pub place_text : List ℕ → List ℕ → List ℕ → List ℕ
place_text program name line = concat (program ∷ codes ": " ∷ name ∷ codes ":" ∷ line ∷ codes ": " ∷ [])

abbrev pub complaint_line : List ℕ → List ℕ → Complaint → List ℕ
complaint_line program name c =
    place_text program name (decimal c.line) ++ concat (words_of c.kind ∷ named_by c.kind ∷ codes "\n" ∷ [])

-- a line about the whole text, if it is reported
abbrev pub line_if : Bool → List ℕ → List ℕ → List ℕ → List ℕ
line_if said program name what = if said then concat (program ∷ codes ": " ∷ name ∷ what ∷ []) else []

abbrev pub UNEVEN : List ℕ
UNEVEN = codes ": a table longer than -Lt went out in parts, whose columns may differ\n"

-- there was more to tell, and a table went out in parts
abbrev pub report_lines : List ℕ → List ℕ → Bool → Bool → List ℕ
report_lines program name missed uneven =
    line_if missed program name (codes ": and more\n") ++ line_if uneven program name UNEVEN

-- THE LINES of a program about the tables of the text of this name, of which these complaints are kept
abbrev pub lines_of : List ℕ → List ℕ → List Complaint → Bool → Bool → List ℕ
lines_of program name complaints missed uneven =
    flat_map (complaint_line program name) complaints ++ report_lines program name missed uneven

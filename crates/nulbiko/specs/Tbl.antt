-- What a call of tbl comes to.
use Rattle.std.specs.Prelude.{◌≡◌, ℕ, List, [], ◌∷◌, length, Bool, true, false, Option, Some}
use Rattle.nr_vectors.specs.Items.{Items}
use Rattle.nr_units.specs.Source.{Supply}
use Rattle.tbl_table.specs.declared.signs.Signs.{Signs}
use Rattle.utf8_own_characters.specs.Table.{Characters}
use Rattle.utf8_own_page.specs.Needing.{IsTableOf}
use Rattle.utf8_own_page.specs.Signs.{signs_for}
use Rattle.tbl_setting.specs.Bounds.{Bounds}
use Rattle.tbl_setting.specs.Running.{Ran, is_read_fault}
use Rattle.tbl_reader.specs.declared.reader.Limits.{Limits}
use Rattle.tbl_reader.specs.declared.complaint.Complaint.{Complaint}
use Rattle.tbl_reader.specs.declared.complaint.Kind.{Kind}
use Rattle.tbl_reader.specs.declared.complaint.Kind.TheVariants as kinds
use Rattle.tbl_reader.specs.declared.running.ReadEnd.{ReadEnd}
use Rattle.tbl_reader.specs.declared.running.ReadEnd.TheVariants.{Done, ReadFault, TooLong, WriteFault}
use Rattle.nulbiko.specs.Looked.{counts_in}
use Rattle.nulbiko.specs.Reported.{IsHanded, code_within, whole_text}
use Rattle.nulbiko.specs.declared.reported.Report.{Report}

-- the number of an outcome
abbrev pub code_of : ReadEnd → ℕ
code_of Done = 0
code_of WriteFault = 4
code_of TooLong = 6
-- never reported
code_of (ReadFault at) = 9

abbrev pub kind_number : Kind → ℕ
kind_number kinds.NoFormat = 1
kind_number (kinds.BadFormat byte) = 2
kind_number (kinds.UnknownOption word) = 3
kind_number kinds.TooManyFields = 4
kind_number (kinds.OpenBlock line) = 5
kind_number (kinds.OpenTable line) = 6
kind_number kinds.TooManyColumns = 7
kind_number kinds.FormatsLimit = 8
kind_number kinds.RowLimit = 9
kind_number kinds.TooWide = 10
kind_number (kinds.BadArgument word) = 11
kind_number (kinds.UnsetRequest name) = 12

-- what is wrong by the first of these complaints, and 0 where there is none
abbrev pub first_kind : List Complaint → ℕ
first_kind [] = 0
first_kind (c ∷ cs) = kind_number c.kind

-- on which line
abbrev pub first_line : List Complaint → ℕ
first_line [] = 0
first_line (c ∷ cs) = c.line

-- how much of a table is held, and of a line of a row
abbrev pub limits : Limits
limits = record { formats = 262144; row = 16384 }

-- tables of manual pages are narrowed
abbrev pub bounds : Signs → ℕ → Bounds
bounds signs line = record { signs = signs; limits = limits; cells = line; fits = true }

-- The tables of the text were set for a line of so many cells, with boxes that are drawn with these, what
-- came out was handed over, and what was wrong first is reported.
pub record SetsTables (signs : Signs) (line : ℕ) (text output : List ℕ) (report : Report) (code : ℕ) : Type 0 where
  pub outcome : ReadEnd
  pub left : Option Supply
  pub bytes : List ℕ
  pub kept : Items Complaint
  pub missed : Bool
  pub uneven : Bool
  pub ran : Ran (bounds signs line) (Some (whole_text text)) left (Some []) (Some bytes) kept
      missed uneven outcome
  pub room : kept.capacity ≡ 1
  pub handed : IsHanded bytes output report.written
  pub code_is : code ≡ code_within (code_of outcome) (length bytes) (length output)
  pub no_moves : report.moves ≡ 0
  pub wrong : report.limit ≡ first_kind kept.items
  pub place : report.at ≡ first_line kept.items
  pub none_dropped : report.dropped ≡ 0
  pub no_line : report.line ≡ 0
  -- a slice doesn't fail
  pub readable : is_read_fault outcome ≡ false

-- The same, with boxes of the characters of the table of this page.
pub record SetsByOwn (page : List ℕ) (line : ℕ) (text output : List ℕ) (report : Report) (code : ℕ) : Type 0 where
  pub table : Characters
  pub is : IsTableOf (counts_in page) table
  pub sets : SetsTables (signs_for table) line text output report code

-- What a call that prints a whole page comes to.
use Rattle.std.specs.Prelude.{◌≡◌, ℕ, ℤ, pos, List, [], ◌∷◌, length, take, Bool, true, false, ◌==◌, ◌&&◌}
use Rattle.std.specs.Prelude.{◌||◌, nat_lt, if◌then◌else◌, Option, None, Some, codes}
use Rattle.std.specs.List.{starts_with}
use Prim.Native.Char.{code}
use Rattle.tbl_table.specs.declared.signs.Signs.{Signs}
use Rattle.tbl_setting.specs.Drawing.{signs_of}
use Rattle.tbl_stage.specs.Memory.{limits_of}
use Rattle.tbl_stage.specs.Text.{Bounds}
use Rattle.utf8_characters.specs.declared.table.FixedTable.{FixedTable}
use Rattle.preconv_characters.specs.Targets.{target_of}
use Rattle.utf8_converter.specs.Choosing.{chosen, looked_at}
use Rattle.nr_options.specs.Limits.{AreLimits}
use Rattle.nr_options.specs.declared.options.Options.{Options}
use Rattle.document_printing.specs.Document.{Setting}
use Rattle.document_printing.specs.declared.setup.PageEnd.{PageEnd}
use Rattle.tbl_stage.specs.declared.rooms.PageLimits.{PageLimits}
use Rattle.nulbiko.specs.Formatting.{bounds_of, faces_of}
use Rattle.nulbiko.specs.Printed.{IsPrinted, code_of, form_of, limit_reported, place_reported}
use Rattle.nulbiko.specs.Tables.{table_numbered}
use Rattle.nulbiko.specs.Reported.{IsHanded, code_within, count_reported}
use Rattle.nulbiko.specs.declared.document.DocumentOptions.{DocumentOptions}
use Rattle.nulbiko.specs.declared.document.DocumentSetup.{DocumentSetup}
use Rattle.nulbiko.specs.declared.document.TableLimits.{TableLimits}
use Rattle.nulbiko.specs.declared.reported.Report.{Report}

-- ---- what may be asked for

-- there are tables 0 to 6, and forms 0 to 2, of which those in UTF-8 have a table
abbrev pub are_numbers : ℕ → ℕ → Bool
are_numbers table form = nat_lt table 7 && (form == 0 || (nat_lt form 3 && nat_lt 0 table))

abbrev pub IsAllowed : DocumentSetup → Type 0
IsAllowed setup = AreLimits (bounds_of setup.limits) × (are_numbers setup.options.table setup.options.form ≡ true)

-- ---- how a page is set

-- 6 is the number of the table that the page takes
abbrev pub table_for : ℕ → List ℕ → Option FixedTable
table_for number page = if number == 6 then Some (chosen (take looked_at page)) else table_numbered number

-- the width of a line, and of a long page that it is one: `-rL` and `-rC1`
abbrev pub registers_for : DocumentOptions → List (ℕ × ℤ)
registers_for asked = (76, pos asked.width) ∷ (if asked.long then (67, pos 1) ∷ [] else [])

-- the first page has this number, these registers are set, all pages are printed, and they show these faces
pub record AreSet (asked : DocumentOptions) (options : Options) : Type 0 where
  pub first_page : options.first ≡ asked.text.first
  pub registers : options.registers.items ≡ registers_for asked
  pub all_pages : options.select ≡ None
  pub faces : options.faces ≡ faces_of asked.text.bold

-- the rest of a page, from the beginning of a line or from within one
abbrev pub has_table_from : Bool → List ℕ → Bool
has_table_from begins [] = false
has_table_from begins (byte ∷ bytes) =
    (if begins then starts_with (λ a b. a == b) (byte ∷ bytes) (codes ".TS") else false)
    || has_table_from (byte == code "\n") bytes

-- a line of the page begins with `.TS`
abbrev pub has_tables : List ℕ → Bool
has_tables page = has_table_from true page

abbrev pub sets_of : DocumentSetup → List ℕ → Bool
sets_of setup page = setup.options.tables && has_tables page

-- the limits of tables; a page without any has no room for them
abbrev pub page_limits : TableLimits → Bool → PageLimits
page_limits asked true = record { formats = asked.formats; row = asked.row; set = asked.page }
page_limits asked false = record { formats = 0; row = 0; set = 0 }

-- tables are set by these, for the width of a line, and drawn with these
abbrev pub tables_by : DocumentSetup → Bool → Signs → Bounds
tables_by setup sets signs = limits_of (page_limits setup.tables sets) setup.options.width signs

-- after these macros, through mdoc where that is asked for, characters, and tables where there are some
abbrev pub setting_for : DocumentSetup → List ℕ → List ℕ → Bounds → Options → Setting
setting_for setup macros page tables options =
    record {
      macros = macros;
      stages = record { mdoc = setup.options.mdoc; characters = true };
      sets = sets_of setup page;
      characters = target_of (table_for setup.options.table page);
      tables = tables;
      limits = bounds_of setup.limits;
      options = options;
    }

-- ---- what is reported

-- THE DOCUMENT WAS PRINTED as it is set: what goes out of its pages was handed over.
pub record PrintsDocument (setup : DocumentSetup) (macros page output : List ℕ) (report : Report) (code : ℕ) : Type 0 where
  pub options : Options
  pub asked : AreSet setup.options options
  pub tables : Bounds
  pub set_by : tables ≡ tables_by setup (sets_of setup page) (signs_of (table_for setup.options.table page))
  pub bytes : List ℕ
  pub moves : ℕ
  pub outcome : PageEnd
  pub printed : IsPrinted (setting_for setup macros page tables options) (form_of setup.options.form (table_for setup.options.table page))
      page bytes moves outcome report.dropped
  pub handed : IsHanded bytes output report.written
  pub code_is : code ≡ code_within (code_of outcome) (length bytes) (length output)
  pub moves_reported : report.moves ≡ count_reported moves
  pub limit : report.limit ≡ limit_reported outcome
  pub place : report.at ≡ place_reported (length macros) outcome

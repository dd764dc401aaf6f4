-- Lines of a table, which are for tbl: they pass, but for the names of macros (tbl(7)).
use Rattle.std.specs.Prelude.{ℕ, List, [], ◌∷◌, ◌++◌, Bool, true, false, ◌==◌, ◌||◌, if◌then◌else◌, codes}
use Rattle.std.specs.Prelude.{Option, Some}
use Prim.Native.Char.{code}
use Rattle.nr_units.specs.Name.{is_full}
use Rattle.mdoc_layout.specs.declared.acts.Act.TheVariants as acts
use Rattle.mdoc_layout.specs.declared.acts.Request.TheVariants as requests
use Rattle.mdoc_layout.specs.declared.macros.Macro.{Macro}
use Rattle.mdoc_layout.specs.declared.macros.Macro.TheVariants as macros
use Rattle.mdoc_layout.specs.declared.page.Page.{Page}
use Rattle.mdoc_layout.specs.declared.page.RowPart.{RowPart}
use Rattle.mdoc_layout.specs.declared.page.RowPart.TheVariants as rows
use Rattle.mdoc_layout.specs.declared.page.Scan.{Scan}
use Rattle.mdoc_layout.specs.declared.page.Scan.TheVariants as scans
use Rattle.mdoc_words.specs.Keeping.{ends_word, turns}
use Rattle.mdoc_layout.specs.Laying.{is_control}
use Rattle.mdoc_converter.specs.Lines.{is_request}
use Rattle.mdoc_words.specs.Macros.{macro_of}
use Rattle.mdoc_layout.specs.Seeing.{Offered, offered, left, two, taken}

abbrev pub is_of_table : Option Macro → Bool
is_of_table (Some macros.Table) = true
is_of_table m = false

-- requests pass, and what divides a table
abbrev pub passes : List ℕ → Bool
passes name = is_request name || is_of_table (macro_of name)

abbrev pub is_table_end : Option Macro → Bool
is_table_end (Some macros.TableEnds) = true
is_table_end m = false

abbrev pub ends_table : List ℕ → Bool
ends_table name = is_table_end (macro_of name)

-- the rest of the line, or the next one
abbrev pub after_byte : RowPart → ℕ → Scan
after_byte rest b = if b == code "\n" then scans.Table rows.Start else scans.Table rest

abbrev pub row_passes : ℕ → Page → Offered
row_passes b p = turns (after_byte rows.Rest b) (taken (acts.Byte b)) p

abbrev pub row_begins : ℕ → Page → Offered
row_begins b p =
    if is_control b then turns (scans.Table rows.Control) (taken acts.Nothing) p else row_passes b p

abbrev pub after_row_control : ℕ → Page → Offered
after_row_control b p =
    if (b == code " ") || (b == code "\t") then offered p (taken acts.Nothing) else
    if b == code "\n" then turns (scans.Table rows.Start) (taken acts.Nothing) p else
    if b == code "\\" then turns (scans.Table rows.Escape) (taken acts.Nothing) p else
    turns (scans.Table rows.Name) (taken acts.Nothing) (record p { word = b ∷ [] })

-- comments are dropped
abbrev pub after_row_escape : ℕ → Page → Offered
after_row_escape b p =
    if (b == code "\"") || (b == code "#") then turns (scans.Table rows.Comment) (taken acts.Nothing) p else
    turns (scans.Table rows.Rest) (left acts.Control) (record p { word = codes "\\" })

-- of another line the words are text
abbrev pub named_row : Page → Offered
named_row p =
    if ends_table p.word then turns scans.Rest (two (acts.Request requests.Distance) acts.Control) p else
    if passes p.word then turns (scans.Table rows.Rest) (left acts.Control) p else
    turns (scans.Table rows.Words) (left acts.Nothing) p

abbrev pub in_row_name : ℕ → Page → Offered
in_row_name b p =
    if ends_word b || (b == code "\\") || is_full p.word then named_row p else
    offered (record p { word = p.word ++ b ∷ [] }) (taken acts.Nothing)

-- such text must not be a control line
abbrev pub row_words : ℕ → Page → Offered
row_words b p =
    if b == code " " then offered p (taken acts.Nothing) else
    if b == code "\n" then turns (scans.Table rows.Start) (taken acts.Nothing) p else
    if is_control b then
    turns (scans.Table rows.Rest) (two (acts.Byte (code "\\")) (acts.Byte (code "&"))) p else
    turns (scans.Table rows.Rest) (left acts.Nothing) p

abbrev pub in_table : RowPart → ℕ → Page → Offered
in_table rows.Start b p = row_begins b p
in_table rows.Control b p = after_row_control b p
in_table rows.Escape b p = after_row_escape b p
in_table rows.Comment b p = turns (after_byte rows.Comment b) (taken acts.Nothing) p
in_table rows.Name b p = in_row_name b p
in_table rows.Words b p = row_words b p
in_table rows.Rest b p = row_passes b p

-- A page is printed with a table of its own.
use Rattle.std.specs.Prelude.{◌≡◌, ℕ, ◌<◌, List, [], length, Bool, true, false, not, ◌==◌, ◌&&◌, Option, None}
use Rattle.std.specs.Prelude.{Some, ⊤}
use Rattle.utf8_own_characters.specs.declared.counting.Count.{Count}
use Rattle.utf8_own_characters.specs.Ranking.{ranked}
use Rattle.utf8_own_characters.specs.Table.{Characters}
use Rattle.utf8_own_page.specs.Looking.{counts_of}
use Rattle.utf8_own_page.specs.Needing.{IsTableOf, prefix_of, lacks, may_need_own}
use Rattle.preconv_characters.specs.declared.target.Target.TheVariants.{Ascii, Utf8}
use Rattle.tbl_stage.specs.Text.{Bounds}
use Rattle.nr_options.specs.declared.options.Options.{Options}
use Rattle.document_stages.specs.Pulling.{whole}
use Rattle.document_reader.specs.Page.{IsShort, man_of, own_of, plain_of}
use Rattle.document_reader.specs.declared.page.Stages.{Stages}
use Rattle.document_printing.specs.Document.{Setting, source_of}
use Rattle.document_printing.specs.Showing.{Shows}
use Rattle.document_printing.specs.declared.setup.PageEnd.{PageEnd}
use Rattle.document_printing.specs.declared.setup.Setup.{Setup}
use Rattle.document_printing.specs.declared.showing.PageTable.{PageTable}
use Rattle.document_printing.specs.declared.showing.PageTable.TheVariants.{Fixed, Own}
use Rattle.document_printing.specs.declared.showing.Spelling.TheVariants as spellings
use Rattle.nulbiko.specs.Document.{AreSet, PrintsDocument, setting_for, sets_of, table_for, tables_by}
use Rattle.nulbiko.specs.Printed.{code_of, limit_reported, place_reported}
use Rattle.nulbiko.specs.Reported.{IsHanded, code_within, count_reported}
use Rattle.nulbiko.specs.declared.document.DocumentSetup.{DocumentSetup}
use Rattle.nulbiko.specs.declared.reported.Report.{Report}

-- ---- which pages are

abbrev pub stages_of : DocumentSetup → Stages
stages_of setup = record { mdoc = setup.options.mdoc; characters = true }

-- it is asked for by the number 6 and a form in UTF-8
abbrev pub asks_for_own : DocumentSetup → List ℕ → Bool
asks_for_own setup text = (setup.options.table == 6) && (not (setup.options.form == 0) && may_need_own text)

-- what the first 512 KiB of a page print, with what frames are drawn with where tables are set
abbrev pub counts_by : Stages → Bool → List ℕ → List Count
counts_by stages sets text = counts_of 4352 sets (plain_of stages Utf8 (prefix_of text))

abbrev pub counts_for : DocumentSetup → List ℕ → List Count
counts_for setup text = counts_by (stages_of setup) (sets_of setup text) text

-- and the fixed table that the page takes lacks some of it
abbrev pub takes_own : DocumentSetup → List ℕ → Bool
takes_own setup text = asks_for_own setup text && lacks (table_for setup.options.table text) (counts_for setup text)

-- ---- what each stage is given is short

pub record LookIsShort (stages : Stages) (prefix : List ℕ) : Type 0 where
  pub page : IsShort prefix (man_of stages.mdoc prefix)
  pub plain : length (plain_of stages Utf8 prefix) < 1099511627776

pub record OwnIsShort (setup : DocumentSetup) (text : List ℕ) : Type 0 where
  pub page : IsShort text (man_of setup.options.mdoc text)
  pub plain : length (plain_of (stages_of setup) Utf8 text) < 1099511627776
  pub coded : (table : Characters) → IsTableOf (counts_for setup text) table
      → length (own_of (stages_of setup) table text) < 1099511627776

pub record OwnIsShortToo (setup : DocumentSetup) (text : List ℕ) : Type 0 where
  pub look : LookIsShort (stages_of setup) (prefix_of text)
  pub own : OwnIsShort setup text

abbrev pub IsShortIf : Bool → DocumentSetup → List ℕ → Type 0
IsShortIf false setup text = ⊤
IsShortIf true setup text = OwnIsShortToo setup text

-- a text, and what mdoc makes of it, have less than 2^40 bytes, and where a table of its own is asked for,
-- what characters and the table make of it
pub record AreShort (setup : DocumentSetup) (text : List ℕ) : Type 0 where
  pub page : IsShort text (man_of setup.options.mdoc text)
  pub own : IsShortIf (asks_for_own setup text) setup text

-- ---- how it is printed

pub record IsCodedShort (stages : Stages) (table : Characters) (text : List ℕ) : Type 0 where
  pub page : IsShort text (man_of stages.mdoc text)
  pub plain : length (plain_of stages Utf8 text) < 1099511627776
  pub coded : length (own_of stages table text) < 1099511627776

-- its characters are coded, and no stage stands before its tables then
abbrev pub coded_setting : Setting → Setting
coded_setting s = record s { stages = record { mdoc = false; characters = false }; characters = Ascii }

abbrev pub coded_setup : Setup → Setup
coded_setup s = record s { stages = record { mdoc = false; characters = false }; characters = Ascii }

-- A reader gets the document of document_printing, of the page in the bytes of its table.
abbrev pub ShowsOwn : Setting → PageTable → Bool → List ℕ → List ℕ → ℕ → PageEnd → Type 0
ShowsOwn s (Own table) escapes text bytes moves outcome =
    Shows (coded_setting s) (spellings.Utf8 (Own table) escapes)
    (source_of (coded_setting s) (whole (own_of s.stages table.now text))) moves outcome (Some []) (Some bytes)
ShowsOwn s (Fixed table) escapes text bytes moves outcome = ⊥

-- a reference to that table
abbrev pub Lends : PageTable → Characters → Type 0
Lends (Own table) t = table.now ≡ t
Lends (Fixed table) t = ⊥

abbrev pub ShowsCoded : Setting → Characters → Bool → List ℕ → List ℕ → ℕ → PageEnd → Type 0
ShowsCoded s t escapes text bytes moves outcome =
    (table : PageTable) × Lends table t × ShowsOwn s table escapes text bytes moves outcome

abbrev pub IsOwn : List Count → PageTable → Type 0
IsOwn xs (Own table) = IsTableOf xs table.now
IsOwn xs (Fixed table) = ⊥

-- these were counted of it and ranked, where it takes a table of its own
abbrev pub HasOwn : DocumentSetup → List ℕ → Option (List Count) → Type 0
HasOwn setup text None = takes_own setup text ≡ false
HasOwn setup text (Some xs) = (takes_own setup text ≡ true) × (xs ≡ ranked (counts_for setup text))

-- THE DOCUMENT WAS PRINTED with its own table: what goes out of its pages was handed over.
pub record PrintsOwn (setup : DocumentSetup) (macros text output : List ℕ) (report : Report) (code : ℕ) : Type 0 where
  pub table : PageTable
  pub is : IsOwn (counts_for setup text) table
  pub options : Options
  pub asked : AreSet setup.options options
  pub tables : Bounds
  pub set_by : tables ≡ tables_by setup (sets_of setup text) tables.tables.signs
  pub bytes : List ℕ
  pub moves : ℕ
  pub outcome : PageEnd
  pub shown : ShowsOwn (setting_for setup macros text tables options) table (setup.options.form == 2) text bytes moves outcome
  pub handed : IsHanded bytes output report.written
  pub code_is : code ≡ code_within (code_of outcome) (length bytes) (length output)
  pub moves_reported : report.moves ≡ count_reported moves
  pub limit : report.limit ≡ limit_reported outcome
  pub place : report.at ≡ place_reported (length macros) outcome
  pub none_dropped : report.dropped ≡ 0

abbrev pub PrintsBy : Bool → DocumentSetup → List ℕ → List ℕ → List ℕ → Report → ℕ → Type 0
PrintsBy false setup macros text output report code = PrintsDocument setup macros text output report code
PrintsBy true setup macros text output report code = PrintsOwn setup macros text output report code

-- THE PAGE WAS PRINTED, with a fixed table or its own
unfoldable pub PrintsPage : DocumentSetup → List ℕ → List ℕ → List ℕ → Report → ℕ → Type 0
PrintsPage setup macros text = PrintsBy (takes_own setup text) setup macros text

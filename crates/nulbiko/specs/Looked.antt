-- The table of a page's own characters, for the calls of a stage, and what these come to.
use Rattle.std.specs.Prelude.{◌≡◌, ℕ, ◌<◌, List, length, take, Bool, true, false, ◌&&◌, if◌then◌else◌, Some}
use Rattle.std.specs.Prelude.{⊤}
use Rattle.preconv_characters.specs.declared.target.Target.TheVariants.{Utf8}
use Rattle.utf8_converter.specs.Choosing.{chosen, looked_at}
use Rattle.utf8_own_characters.specs.declared.counting.Count.{Count}
use Rattle.utf8_own_characters.specs.Table.{Characters}
use Rattle.utf8_own_page.specs.Needing.{IsTableOf, lacks, may_need_own, prefix_of}
use Rattle.document_reader.specs.Page.{plain_of}
use Rattle.document_reader.specs.declared.page.Stages.{Stages}
use Rattle.nulbiko.specs.Document.{has_tables}
use Rattle.nulbiko.specs.Own.{LookIsShort, counts_by}
use Rattle.nulbiko.specs.Reported.{IsHanded, code_within, only_written}
use Rattle.nulbiko.specs.Tables.{number_of}
use Rattle.nulbiko.specs.declared.reported.Report.{Report}

-- ---- the table of the text of a page

-- mdoc(7) becomes man(7), and characters stay themselves
abbrev pub all_stages : Stages
all_stages = record { mdoc = true; characters = true }

-- what its first 512 KiB print, with what frames are drawn with where it has tables: as of a whole page
abbrev pub counts_in : List ℕ → List Count
counts_in text = counts_by all_stages (has_tables text) text

-- ---- whether a page takes it: as one that is printed whole in UTF-8, with its tables set (`takes_own` in Own.antt)

abbrev pub needs_own : List ℕ → Bool
needs_own text = may_need_own text && lacks (Some (chosen (take looked_at text))) (counts_in text)

-- 8 is the number of its own
abbrev pub choice : List ℕ → ℕ
choice text = if needs_own text then 8 else number_of (chosen (take looked_at text))

abbrev pub IsShortIf : Bool → List ℕ → Type 0
IsShortIf false text = ⊤
IsShortIf true text = LookIsShort all_stages (prefix_of text)

-- this is its number, where what each stage is given that looks at it has less than 2^40 bytes
abbrev pub ChoosesOwn : List ℕ → ℕ → Type 0
ChoosesOwn text number = IsShortIf (may_need_own text) text → number ≡ choice text

-- ---- a stage

-- characters become what the formatter reads, and nothing else
abbrev pub characters_alone : Stages
characters_alone = record { mdoc = false; characters = true }

-- what each is given has less than 2^40 bytes
pub record CodingIsShort (page text : List ℕ) : Type 0 where
  pub look : LookIsShort all_stages (prefix_of page)
  pub text_is : length text < 1099511627776
  pub plain : length (plain_of characters_alone Utf8 text) < 1099511627776

pub record ShowingIsShort (page text : List ℕ) : Type 0 where
  pub look : LookIsShort all_stages (prefix_of page)
  pub text_is : length text < 1099511627776

-- WHAT THE TABLE OF A PAGE MAKES of a text stands at the beginning of the output, or as much of it as fits,
-- and nothing else is reported.
pub record MakesByOwn (page : List ℕ) (makes : Characters → List ℕ) (output : List ℕ) (report : Report) (code : ℕ) : Type 0 where
  pub table : Characters
  pub is : IsTableOf (counts_in page) table
  pub handed : IsHanded (makes table) output report.written
  pub code_is : code ≡ code_within 0 (length (makes table)) (length output)
  pub only : report ≡ only_written report.written

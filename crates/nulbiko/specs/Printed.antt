-- What becomes of the pages of a document.
use Rattle.std.specs.Prelude.{◌≡◌, ℕ, ◌-◌, List, [], ◌++◌, Bool, ◌==◌, if◌then◌else◌, Option, None, Some}
use Rattle.std.specs.Prelude.{Result, Ok, Err, ◌⊎◌}
use Rattle.utf8_characters.specs.declared.table.FixedTable.{FixedTable}
use Rattle.utf8_converter.specs.Cells.{converted, strays_of}
use Rattle.utf8_converter.specs.Lines.{KeepsLines}
use Rattle.document_stages.specs.Running.{at_most}
use Rattle.document_stages.specs.Pulling.{whole}
use Rattle.document_printing.specs.Document.{Prints, Setting, source_of}
use Rattle.document_printing.specs.declared.setup.PageEnd.{PageEnd}
use Rattle.document_printing.specs.declared.setup.PageEnd.TheVariants.{Done, Limit, NoRoom, ReadFault}
use Rattle.document_printing.specs.declared.setup.PageEnd.TheVariants.{TooLong, WriteFault}
use Rattle.nulbiko.specs.Formatting.{limit_number}
use Rattle.nulbiko.specs.declared.printed.Form.{Form}
use Rattle.nulbiko.specs.declared.printed.Form.TheVariants.{Bytes, Characters}

-- ---- the form

abbrev pub characters : FixedTable → Bool → Form
characters table escapes = Characters table escapes

abbrev pub with_table : ℕ → Option FixedTable → Form
with_table number None = Bytes
with_table number (Some table) = Characters table (number == 2)

-- 0 is that of bytes
abbrev pub form_of : ℕ → Option FixedTable → Form
form_of number table = if number == 0 then Bytes else with_table number table

-- ---- what goes out of pages

-- all of them, in their form: bytes as they are; or a text for a terminal in UTF-8, in lines of as many cells
-- with the same characters, without so many bytes that are no character of the table
abbrev pub Shows : Form → List ℕ → List ℕ → ℕ → Type 0
Shows Bytes pages bytes dropped = (bytes ≡ pages) × (dropped ≡ 0)
Shows (Characters table escapes) pages bytes dropped =
    (bytes ≡ converted table escapes pages) × KeepsLines table escapes pages bytes
    × (dropped ≡ at_most (strays_of table pages))

-- the pages in their form
abbrev pub shown : Form → List ℕ → List ℕ
shown Bytes pages = pages
shown (Characters table escapes) pages = converted table escapes pages

-- a prefix of a text
abbrev pub IsPrefix : List ℕ → List ℕ → Type 0
IsPrefix prefix text = (rest : List ℕ) × (text ≡ prefix ++ rest)

-- All of the pages goes out where there is room, and else a prefix of that.
abbrev pub IsOut : PageEnd → Form → List ℕ → List ℕ → ℕ → Type 0
IsOut WriteFault form pages bytes dropped = IsPrefix bytes (shown form pages)
IsOut ReadFault form pages bytes dropped = Unit {0}
IsOut TooLong form pages bytes dropped = Unit {0}
IsOut outcome form pages bytes dropped = Shows form pages bytes dropped

-- ---- how it ended

-- where the end of what was printed had no room
abbrev pub cut_off : PageEnd → PageEnd
cut_off ReadFault = ReadFault
cut_off TooLong = TooLong
cut_off outcome = WriteFault

abbrev pub outcome_of : {E : Type 0} → PageEnd → Result ℕ E → PageEnd
outcome_of outcome (Ok dropped) = outcome
outcome_of outcome (Err e) = cut_off outcome

abbrev pub dropped_of : {E : Type 0} → Result ℕ E → ℕ
dropped_of (Ok dropped) = dropped
dropped_of (Err e) = 0

-- A PAGE WAS PRINTED: so many moves of the machine printed these pages of its document, and that is what went
-- out of them. Where there was room for all pages but not for the end of what they become, that is reported.
pub record IsPrinted (s : Setting) (form : Form) (page bytes : List ℕ) (moves : ℕ) (outcome : PageEnd) (dropped : ℕ) : Type 0 where
  pub ended : PageEnd
  pub pages : List ℕ
  pub prints : Prints s (source_of s (whole page)) moves ended (Some []) (Some pages)
  pub reported : (outcome ≡ ended) ⊎ (outcome ≡ cut_off ended)
  pub out : IsOut outcome form pages bytes dropped

-- ---- the numbers

abbrev pub code_of : PageEnd → ℕ
code_of Done = 0
code_of (Limit which at) = 1
code_of NoRoom = 1
-- there is no room for the next byte
code_of WriteFault = 4
code_of TooLong = 6
code_of ReadFault = 9

-- which limit would be passed, 7 that of what goes out of a table at once, and 0 where none would
abbrev pub limit_reported : PageEnd → ℕ
limit_reported (Limit which at) = limit_number which
limit_reported NoRoom = 7
limit_reported outcome = 0

-- after how many bytes of what the formatter reads after macros of so many bytes, and 0 in these
abbrev pub place_reported : ℕ → PageEnd → ℕ
place_reported macros (Limit which at) = at - macros
place_reported macros outcome = 0

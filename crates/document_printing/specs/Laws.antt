-- Laws of what reaches a terminal, whatever the page is.
use Rattle.std.specs.Prelude.{◌≡◌, ℕ, List, [], ◌++◌, Bool, true, false, Some}
use Rattle.nr_units.specs.Source.{Supply}
use Rattle.utf8_characters.specs.declared.table.FixedTable.{FixedTable}
use Rattle.utf8_converter.specs.Lines.{KeepsLines}
use Rattle.utf8_converter.specs.Text.{IsText}
use Rattle.document_printing.specs.Document.{Setting, pages_of}
use Rattle.document_printing.specs.Showing.{Shows, document}
use Rattle.document_printing.specs.declared.setup.PageEnd.{PageEnd}
use Rattle.document_printing.specs.declared.setup.PageEnd.TheVariants as outcomes
use Rattle.document_printing.specs.declared.showing.PageTable.TheVariants.{Fixed}
use Rattle.document_printing.specs.declared.showing.Spelling.TheVariants.{Utf8}

-- all that the pages come to went out
abbrev pub is_whole : PageEnd → Bool
is_whole outcomes.Done = true
is_whole (outcomes.Limit which at) = true
is_whole outcomes.NoRoom = true
is_whole outcome = false

-- a text for a terminal, or a prefix of one
pub record IsPrefixOfText (escapes : Bool) (bytes : List ℕ) : Type 0 where
  pub rest : List ℕ
  pub text : IsText escapes (bytes ++ rest)

-- What reached an empty terminal is a text for one: UTF-8 without control characters but newline, and with
-- backspaces or escape sequences only as they were asked for.
abbrev pub ReachesTerminal : Type 0
ReachesTerminal = (s : Setting) (table : FixedTable) (escapes : Bool) (source : Supply) (n : ℕ) (outcome : PageEnd) (bytes : List ℕ)
    → is_whole outcome ≡ true → Shows s (Utf8 (Fixed table) escapes) source n outcome (Some []) (Some bytes) → IsText escapes bytes

-- where the terminal failed, a prefix of such a text did
abbrev pub CutReachesTerminal : Type 0
CutReachesTerminal = (s : Setting) (table : FixedTable) (escapes : Bool) (source : Supply) (n : ℕ) (bytes : List ℕ)
    → Shows s (Utf8 (Fixed table) escapes) source n outcomes.WriteFault (Some []) (Some bytes) → IsPrefixOfText escapes bytes

-- Its lines are those of the pages: each has as many cells, with the same characters.
abbrev pub LinesStay : Type 0
LinesStay = (s : Setting) (table : FixedTable) (escapes : Bool) (source : Supply) (n : ℕ)
    → KeepsLines table escapes (pages_of s source n) (document s (Utf8 (Fixed table) escapes) source n)

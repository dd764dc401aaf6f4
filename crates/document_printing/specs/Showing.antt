-- What a reader gets of a page.
use Rattle.std.specs.Prelude.{◌≡◌, ℕ, ◌≤◌, suc, List, Option, Bool, true, false}
use Rattle.std.specs.Io.KnownBytes.{Appends}
use Rattle.nr_units.specs.Sink.{AppendsPrefix}
use Rattle.nr_units.specs.Source.{Supply}
use Rattle.nr_machine.specs.declared.outcome.Outcome as machine
use Rattle.nr_machine.specs.declared.outcome.Outcome.TheVariants as machines
use Rattle.utf8_converter.specs.Cells as fixed
use Rattle.utf8_own_sink.specs.Cells as own
use Rattle.document_printing.specs.Document.{Ran, Setting, pages_of, read_fault}
use Rattle.document_printing.specs.declared.setup.PageEnd.{PageEnd}
use Rattle.document_printing.specs.declared.setup.PageEnd.TheVariants as outcomes
use Rattle.document_printing.specs.declared.showing.PageTable.{PageTable}
use Rattle.document_printing.specs.declared.showing.PageTable.TheVariants.{Fixed, Own}
use Rattle.document_printing.specs.declared.showing.Spelling.{Spelling}
use Rattle.document_printing.specs.declared.showing.Spelling.TheVariants.{Bytes, Utf8}

-- the UTF-8 of their characters, in a fixed table or the page's own
abbrev pub in_utf8 : PageTable → Bool → List ℕ → List ℕ
in_utf8 (Fixed table) escapes pages = fixed.converted table escapes pages
in_utf8 (Own table) escapes pages = own.converted table.now escapes pages

-- what the bytes of pages go out as
abbrev pub shown : Spelling → List ℕ → List ℕ
shown Bytes pages = pages
shown (Utf8 table escapes) pages = in_utf8 table escapes pages

-- THE DOCUMENT that a reader gets: the pages that the machine printed after so many moves, as they are shown
abbrev pub document : Setting → Spelling → Supply → ℕ → List ℕ
document s spelling source n = shown spelling (pages_of s source n)

-- the machine ends so after so many moves, and all that it printed until then is shown
pub record IsShown (s : Setting) (spelling : Spelling) (source : Supply) (n : ℕ) (ended : machine.Outcome)
    (held new : Option (List ℕ)) : Type 0 where
  pub ran : Ran s source n ended
  pub out : Appends held new (document s spelling source n)

-- the same, and of all that it printed until then a prefix is shown
pub record IsCut (s : Setting) (spelling : Spelling) (source : Supply) (n : ℕ) (ended : machine.Outcome)
    (held new : Option (List ℕ)) : Type 0 where
  pub ran : Ran s source n ended
  pub prefix : AppendsPrefix held new (document s spelling source n)

-- Where the output fails, a prefix of the document went out, after so many moves or one more.
pub record IsPrefix (s : Setting) (spelling : Spelling) (source : Supply) (n : ℕ) (held new : Option (List ℕ)) : Type 0 where
  pub made : ℕ
  pub few : made ≤ suc n
  pub prefix : AppendsPrefix held new (document s spelling source made)

-- HOW IT ENDS for a reader
abbrev pub Shows : Setting → Spelling → Supply → ℕ → PageEnd → Option (List ℕ) → Option (List ℕ) → Type 0
Shows s spelling source n outcomes.Done held new = IsShown s spelling source n machines.Done held new
Shows s spelling source n (outcomes.Limit which at) held new =
    IsShown s spelling source n (machines.Limit which at) held new
Shows s spelling source n outcomes.NoRoom held new =
    (s.sets ≡ true) × IsShown s spelling source n (read_fault s source n) held new
Shows s spelling source n outcomes.ReadFault held new = IsCut s spelling source n (read_fault s source n) held new
Shows s spelling source n outcomes.TooLong held new = IsCut s spelling source n machines.TooLong held new
Shows s spelling source n outcomes.WriteFault held new = IsPrefix s spelling source n held new

-- how an end is reported of a page whose characters did not all go out: that its input failed first
abbrev pub cut_short : PageEnd → PageEnd
cut_short outcomes.ReadFault = outcomes.ReadFault
cut_short outcomes.TooLong = outcomes.TooLong
cut_short outcome = outcomes.WriteFault

-- how an end is reported of a page whose characters went out, or the output failed
abbrev pub reported_shown : PageEnd → Bool → PageEnd
reported_shown outcome false = outcome
reported_shown outcome true = cut_short outcome

-- What a page is to print: the composition of the stages' definitions.
use Rattle.std.specs.Prelude.{◌≡◌, ◌≤◌, ℕ, suc, ◌+◌, ◌*◌, List, Option, Bool, true, false}
use Rattle.std.specs.Io.KnownBytes.{Appends}
use Rattle.nr_units.specs.Failures.{next_count}
use Rattle.nr_units.specs.Sink.{AppendsPrefix}
use Rattle.nr_units.specs.Source.{Supply}
use Rattle.preconv_characters.specs.declared.target.Target.{Target}
use Rattle.tbl_stage.specs.Text.{Bounds, set_text}
use Rattle.nr_options.specs.Limits as limits
use Rattle.nr_options.specs.declared.options.Options.{Options}
use Rattle.nr_machine.specs.Machine.{state_after}
use Rattle.nr_machine.specs.Printing.{text}
use Rattle.nr_machine.specs.Run.{Ends, Runs, moves_a_byte}
use Rattle.nr_machine.specs.State.{State, start}
use Rattle.nr_machine.specs.declared.outcome.Outcome as machine
use Rattle.nr_machine.specs.declared.outcome.Outcome.TheVariants as machines
use Rattle.document_stages.specs.Joined.{preceded}
use Rattle.document_stages.specs.Pulling.{broken_off}
use Rattle.document_printing.specs.declared.setup.PageEnd.{PageEnd}
use Rattle.document_printing.specs.declared.setup.PageEnd.TheVariants as outcomes
use Rattle.document_printing.specs.declared.setup.Setup.{Setup}
use Rattle.document_reader.specs.declared.page.Stages.{Stages}
use Rattle.document_reader.specs.Page.{plain_so_far, plain_supply}

-- ---- what the formatter reads of a page, after the macros

abbrev pub tables_of : Bool → Bounds → Supply → Supply
tables_of true b page = set_text b page
tables_of false b page = page

-- ---- the pages

-- how a page is set
pub record Setting : Type 0 where
  pub macros : List ℕ
  pub stages : Stages
  pub sets : Bool
  pub characters : Target
  pub tables : Bounds
  pub limits : limits.Bounds
  pub options : Options

-- what the machine reads where it reads this text of a page: the macros, and then that with its tables set
abbrev pub read_after : Setting → Supply → Supply
read_after s page = preceded s.macros (tables_of s.sets s.tables page)

-- WHAT THE MACHINE READS of a page, macros ++ tables (characters (mdoc page)): it fails where the page does
abbrev pub source_of : Setting → Supply → Supply
source_of s page = read_after s (plain_supply s.stages s.characters page)

-- the same of a page that breaks off after these bytes: but for what is half read
abbrev pub source_so_far : Setting → List ℕ → Supply
source_so_far s bytes = read_after s (broken_off (plain_so_far s.stages s.characters bytes))

-- the machine over what it reads, after so many moves
abbrev pub state_of : Setting → Supply → ℕ → State
state_of s source n = state_after n (start s.limits s.options source)

-- THE PAGES that it printed until then
abbrev pub pages_of : Setting → Supply → ℕ → List ℕ
pages_of s source n = text (state_of s source n).pages

-- ---- what goes out

-- The machine makes so many moves, as many as are allowed and as the bytes that it took allow at most, and
-- ends so.
pub record Ran (s : Setting) (source : Supply) (n : ℕ) (ended : machine.Outcome) : Type 0 where
  pub runs : Runs n (start s.limits s.options source)
  pub allowed : n ≤ s.limits.moves
  pub ends : Ends s.limits.moves n (state_of s source n) ended
  pub bound : n ≤ moves_a_byte s.limits * ((state_of s source n).coming.taken + 1)

-- and what it printed until then went out
pub record GoesOut (s : Setting) (source : Supply) (n : ℕ) (ended : machine.Outcome) (held new : Option (List ℕ))
    : Type 0 where
  pub ran : Ran s source n ended
  pub out : Appends held new (pages_of s source n)

-- the machine wants the next byte there, and its source may fail
abbrev pub read_fault : Setting → Supply → ℕ → machine.Outcome
read_fault s source n = machines.ReadFault (state_of s source n).coming.taken

-- the next move ends a page, and a prefix of the pages that stand then went out
pub record IsBrokenOff (s : Setting) (source : Supply) (n : ℕ) (held new : Option (List ℕ)) : Type 0 where
  pub ran : Ran s source n machines.WriteFault
  pub prefix : AppendsPrefix held new (pages_of s source (suc n))

-- HOW A DOCUMENT ENDS. Where the page breaks off, or tables have no room, that is where the machine wants the
-- next byte of a source that fails there.
abbrev pub Prints : Setting → Supply → ℕ → PageEnd → Option (List ℕ) → Option (List ℕ) → Type 0
Prints s source n outcomes.Done held new = GoesOut s source n machines.Done held new
Prints s source n (outcomes.Limit which at) held new = GoesOut s source n (machines.Limit which at) held new
Prints s source n outcomes.NoRoom held new = (s.sets ≡ true) × GoesOut s source n (read_fault s source n) held new
Prints s source n outcomes.ReadFault held new = GoesOut s source n (read_fault s source n) held new
Prints s source n outcomes.TooLong held new = GoesOut s source n machines.TooLong held new
Prints s source n outcomes.WriteFault held new = IsBrokenOff s source n held new

-- One put failed where that is reported, and none where all went out, by the counts of those that did.
abbrev pub TellsWrites : PageEnd → ℕ → ℕ → Type 0
TellsWrites outcomes.WriteFault before after = after ≡ next_count before
TellsWrites outcomes.ReadFault before after = Unit {0}
TellsWrites outcomes.TooLong before after = Unit {0}
TellsWrites outcome before after = after ≡ before

-- ---- what the program holds of this

abbrev pub setting_of : Setup → Bounds → limits.Bounds → Setting
setting_of setup tables limits = record {
  macros = setup.macros.now;
  stages = setup.stages;
  sets = setup.tables;
  characters = setup.characters;
  tables = tables;
  limits = limits;
  options = setup.options.now;
}

-- how the formatter's end is reported of a page whose tables have no room, or have
abbrev pub reported : machine.Outcome → Bool → PageEnd
reported machines.Done full = outcomes.Done
reported (machines.Limit which at) full = outcomes.Limit which at
reported (machines.ReadFault at) true = outcomes.NoRoom
reported (machines.ReadFault at) false = outcomes.ReadFault
reported machines.TooLong full = outcomes.TooLong
reported machines.WriteFault full = outcomes.WriteFault

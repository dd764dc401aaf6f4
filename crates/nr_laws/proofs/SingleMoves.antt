-- At which limit a single move is refused, from a state within all limits.
use Rattle.std.specs.Prelude.{◌≡◌, ◌≢◌, ℕ, ◌≤◌, Bool, true, false, if◌then◌else◌, List, sum_by, Option, None, Some}
use Rattle.nr_symbol_tables.specs.Table.{find}
use Rattle.nr_store.specs.Store.{Stored, Means, Shared, is_named, weight_of}
use Rattle.nr_reading.specs.declared.mode.PendingAct.{PendingAct}
use Rattle.nr_reading.specs.declared.mode.PendingAct.TheVariants as pending_acts
use Rattle.nr_input.specs.Acting.{name_in}
use Rattle.nr_formatter.specs.declared.tasks.Resume.{Resume}
use Rattle.nr_machine.specs.State.{State}
use Rattle.nr_machine.specs.Machine.{step}
use Rattle.nr_machine.specs.Measures.{IsWithin, passed}
use Rattle.nr_machine.specs.Run.{Passes}
use Rattle.nr_machine.specs.declared.outcome.Measure.{Measure}

-- A move is refused at a limit only where the state that it would lead to is above that limit, and above no limit that is asked before
-- it: also a move that reads. It sets out from a state within all limits, in which no splice was refused.
abbrev pub RefusedIsAbove : Type 0
RefusedIsAbove =
    (s : State) (which : Measure) → IsWithin s → s.formatter.reader.half.reading.pending_act ≢ pending_acts.Expanded
    → Passes s which → passed (step s) ≡ Some which

-- what is pending gives the text of a definition its name
abbrev pub names_text : PendingAct → Bool
names_text pending_acts.Define = true
names_text pending_acts.DefineAndCall = true
names_text d = false

-- what a name is charged, if anything has it
abbrev pub charge_under : Option Means → ℕ
charge_under None = 0
charge_under (Some m) = weight_of m

-- what levels that read the text of a name are charged for it once another text has the name
abbrev pub charge_after : List ℕ → List Shared → ℕ
charge_after name texts = sum_by (λ (t : Shared). if is_named name t.name then t.share else 0) texts

-- a text that gives way to another under its name is charged no more then than it was with the name
abbrev pub IsChargedOnce : List ℕ → Stored Resume → Type 0
IsChargedOnce name v = charge_after name v.texts ≤ charge_under (find name v.names)

-- And it is refused wherever that state is above a limit, at the first that it is above. A move that gives a definition its name asks for
-- nothing, since its text was charged while it was built: there the text that gives way has to be charged once.
abbrev pub AboveIsRefused : Type 0
AboveIsRefused =
    (s : State) (which : Measure) → IsWithin s → s.formatter.reader.half.reading.pending_act ≢ pending_acts.Expanded
    → (names_text s.formatter.reader.half.reading.pending_act ≡ true
    → IsChargedOnce (name_in s.formatter.reader) s.formatter.store) → passed (step s) ≡ Some which
    → Passes s which

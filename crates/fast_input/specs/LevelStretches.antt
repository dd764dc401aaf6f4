-- Stretches of the newest level, in which the names of control lines are looked up.
use Rattle.std.specs.Prelude.{Bool, true, false}
use Rattle.nr_store.specs.Store.{Stored, ungathered}
use Rattle.nr_store.specs.declared.named.Meaning.{Meaning}
use Rattle.nr_store.specs.declared.named.Meaning.TheVariants as meanings

-- a text has the name
abbrev pub is_text : Meaning → Bool
is_text meanings.Text = true
is_text m = false

-- with no arguments read yet, where those of a macro begin
abbrev pub begun_by : {K : Type 0} → Bool → Stored K → Stored K
begun_by true v = ungathered v
begun_by false v = v

-- What bytes are added to that stand for themselves in copy mode.
use Rattle.std.specs.Prelude.{ℕ, Bool, List, map, Option, None, Some, if◌then◌else◌}
use Rattle.nr_store.specs.Store.{Stored, added, gathering_all}
use Rattle.nr_store.specs.declared.element.Element.TheVariants as elements
use Rattle.nr_reading.specs.declared.half.Half.{Half}
use Rattle.nr_reading.specs.declared.mode.PendingAct.{PendingAct}
use Rattle.nr_reading.specs.declared.mode.PendingAct.TheVariants as pending_acts
use Rattle.nr_reading.specs.Many.InArgument.{is_in_argument}
use Rattle.nr_reading.specs.Many.InDefinition.{is_in_definition}
use Rattle.fast_input.specs.declared.target.Target.{Target}
use Rattle.fast_input.specs.declared.target.Target.TheVariants.{Argument, Text}

-- the next item is read for it, and in its midst
abbrev pub is_read_for : Target → Half → Bool
is_read_for Argument h = is_in_argument h
is_read_for Text h = is_in_definition h

-- what the next item is read for
abbrev pub target_of : Half → Option Target
target_of h = if is_in_argument h then Some Argument else (if is_in_definition h then Some Text else None)

-- what is pending where a byte is to be added to it
abbrev pub pending_for : Target → ℕ → PendingAct
pending_for Argument b = pending_acts.Put b
pending_for Text b = pending_acts.Add b

-- with these bytes more in it
abbrev pub with_more : {K : Type 0} → Target → List ℕ → Stored K → Stored K
with_more Argument bs v = gathering_all bs v
with_more Text bs v = added (map elements.Byte bs) v

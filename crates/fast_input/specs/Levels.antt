-- What levels bring: what is pending there, as far as it is done at once.
use Rattle.std.specs.Prelude.{◌&&◌, nat_lt, Bool, true, false}
use Rattle.nr_reading.specs.declared.mode.PendingAct.{PendingAct}
use Rattle.nr_reading.specs.declared.mode.PendingAct.TheVariants as pending_acts
use Rattle.nr_input.specs.declared.reader.Reader.{Reader}

-- something is pending, and it tells no blank of a line's beginning; a refused splice is refused again
abbrev pub acts_by : PendingAct → Bool
acts_by pending_acts.Look = false
acts_by (pending_acts.Lead n) = false
acts_by pending_acts.Expanded = false
acts_by d = true

-- and there may be a splice more
abbrev pub may_act : Reader → Bool
may_act r = acts_by r.half.reading.pending_act && nat_lt r.burst r.most

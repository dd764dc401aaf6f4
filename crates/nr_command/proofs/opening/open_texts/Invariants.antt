use Rattle.std.proofs.Common.{ℕ, ◌≤◌, ◌-◌, map, take, length, vec_len, vec_capacity}
use Rattle.nr_command_options.specs.Inputs.{Reading, readings}
use Rattle.nr_command_options.specs.Job.{asked_of}
use Rattle.nr_command.specs.Opening.{AreOpen, Asks, Opening}
use Rattle.nr_command.proofs.opening.open_texts.Given as goal

-- as many texts were opened as there are, each its own, no other was asked for, and there is room for all
abbrev pub invariant-loop-input : goal.invariant-loop-input
invariant-loop-input g l = record {
  within : vec_len l.texts ≤ length (readings (asked_of l.job));
  room : length (readings (asked_of l.job)) ≤ vec_capacity l.texts;
  opened : AreOpen (g.O.Opener.may_come l.fn.opener) (take (vec_len l.texts) (readings (asked_of l.job))) (map g.O.Text.Source.supply l.texts.items);
  stays : (reading : Reading) → (opening : Opening) → g.O.Opener.may_come l.opener reading opening → g.O.Opener.may_come l.fn.opener reading opening;
  asked : Asks (g.O.Opener.asked l.fn.opener) (g.O.Opener.asked l.opener) (take (vec_len l.texts) (readings (asked_of l.job)));
}

abbrev pub decreases-loop-input : goal.decreases-loop-input
decreases-loop-input g l = length (readings (asked_of l.job)) - vec_len l.texts

use Rattle.std.proofs.Common.{◌≡◌, ◌-◌, ◌*◌, ◌≤◌, true, length}
use Rattle.nr_formatter.specs.Many.Runs.{is_in_line}
use Rattle.fast_machine.proofs.LinesAtHand.{GoesOn}
use Rattle.fast_machine.proofs.plain_text.put_words.Given as goal

abbrev pub invariant-loop-taken : goal.invariant-loop-taken
invariant-loop-taken l = record {
  line : is_in_line l.formatter ≡ true;
  prefix : l.taken ≤ length l.bytes;
  few : l.moves ≤ 5 * l.taken;
  goes_on : GoesOn l.bytes l.taken l.moves l.fn.formatter l.formatter;
}

abbrev pub decreases-loop-taken : goal.decreases-loop-taken
decreases-loop-taken l = length l.bytes - l.taken

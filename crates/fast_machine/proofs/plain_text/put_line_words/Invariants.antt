use Rattle.std.proofs.Common.{◌≡◌, ◌-◌, true, length}
use Rattle.nr_formatter.specs.Many.Runs.{is_in_line, manner_of}
use Rattle.fast_machine.specs.Running.{PutsOfFlow, PutsText}
use Rattle.fast_machine.proofs.plain_text.put_line_words.Given as goal

abbrev pub invariant-loop-formatter : goal.invariant-loop-formatter
invariant-loop-formatter l = record {
  line : is_in_line l.formatter ≡ true;
  manner : l.manner ≡ manner_of l.formatter;
  puts : PutsText l.bytes l.taken l.moves l.fn.formatter l.formatter;
  flow : PutsOfFlow l.bytes l.taken l.moves l.fn.formatter l.formatter;
}

abbrev pub decreases-loop-formatter : goal.decreases-loop-formatter
decreases-loop-formatter l = length l.bytes - l.taken

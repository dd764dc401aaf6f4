-- The words before `place` are options, of which the last says what is in force.
use Rattle.std.proofs.Common.{◌≡◌, drop}
use Rattle.filters.specs.Arguments.{texts}
use Rattle.preconv_command.specs.Arguments.{asked, asked_from}
use Rattle.preconv_command.proofs.arguments.read_words.Given as goal

abbrev pub invariant-loop-place : goal.invariant-loop-place
invariant-loop-place l = asked (texts l.words) ≡ asked_from l.awaits l.table l.place (texts (drop l.place l.words))

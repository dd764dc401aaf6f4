use Rattle.std.proofs.Common.{◌<◌, length}
use Rattle.utf8_own_characters.proofs.index.guess.Given as goal

abbrev pub invariant-loop : goal.invariant-loop
invariant-loop l = l.slot < length l.slots

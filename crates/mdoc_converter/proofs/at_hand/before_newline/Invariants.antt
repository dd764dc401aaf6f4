use Rattle.std.proofs.Common.{◌≡◌, ◌+◌, drop}
use Rattle.mdoc_converter.specs.AtHand.{before_newline}
use Rattle.mdoc_converter.proofs.at_hand.before_newline.Given as goal

abbrev pub invariant-loop-i : goal.invariant-loop-i
invariant-loop-i l = l.i + before_newline (drop l.i l.bytes) ≡ before_newline l.bytes

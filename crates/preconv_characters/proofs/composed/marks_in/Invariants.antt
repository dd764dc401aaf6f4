use Rattle.std.proofs.Common.{◌≡◌, drop}
use Rattle.preconv_characters.specs.Composed.{marks_in}
use Rattle.preconv_characters.proofs.composed.marks_in.Given as goal

abbrev pub invariant-loop-i : goal.invariant-loop-i
invariant-loop-i l = marks_in (drop l.i l.name) ≡ marks_in l.name

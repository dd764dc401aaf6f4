-- The name that was begun, and what is left, give the same.
use Rattle.std.proofs.Common.{◌≡◌, ◌-◌, ◌≤◌, [], drop, take}
use Rattle.preconv_characters.specs.Composed.{unmarked, with_marks}
use Rattle.preconv_characters.proofs.composed.with_marks.Given as goal

abbrev pub invariant-loop-i : goal.invariant-loop-i
invariant-loop-i l =
    (l.start ≤ l.i)
    × (with_marks l.marked (take (l.i - l.start) (drop l.start l.marks)) (drop l.i l.marks) ≡ with_marks (unmarked l.letter) [] l.marks)

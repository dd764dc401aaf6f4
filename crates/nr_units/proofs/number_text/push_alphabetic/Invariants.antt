use Rattle.std.proofs.Common.{◌≡◌, ◌^◌, ◌<◌, ◌≤◌, length, drop}
use Rattle.nr_units.specs.NumberText.{AreLetters, letters_value_after, letters_before, letters}
use Rattle.nr_units.proofs.number_text.push_alphabetic.Given as goal

-- The letters written so far stand after what is left.
abbrev pub invariant-loop-rest : goal.invariant-loop-rest
invariant-loop-rest l =
    (length l.letters ≡ 14) × (l.start ≤ 14) × (l.rest < 26 ^ l.start)
    × AreLetters l.before (drop l.start l.letters)
    × (letters_value_after l.before l.rest (drop l.start l.letters) ≡ l.n)
    × (letters_before l.start l.before l.rest (drop l.start l.letters) ≡ letters l.before l.n)

abbrev pub decreases-loop-rest : goal.decreases-loop-rest
decreases-loop-rest l = l.rest

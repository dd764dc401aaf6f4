-- What came has no bracket.
use Rattle.std.proofs.Common.{◌≡◌, ◌++◌, drop, take}
use Rattle.utf8_own_page.specs.Needing.{before_bracket}
use Rattle.utf8_own_page.proofs.needing.before_bracket.Given as goal

abbrev pub invariant-loop-i : goal.invariant-loop-i
invariant-loop-i l = take l.i l.text ++ before_bracket (drop l.i l.text) ≡ before_bracket l.text

-- Those that came were taken that a table lacks.
use Rattle.std.proofs.Common.{◌≡◌, ◌++◌, drop}
use Rattle.utf8_own_characters.specs.Choosing.{choice}
use Rattle.utf8_own_page.specs.Lacking.{lacking}
use Rattle.utf8_own_page.proofs.lacking.lacking.Given as goal

abbrev pub invariant-loop-count : goal.invariant-loop-count
invariant-loop-count l =
    l.made.items ++ lacking (choice l.narrow l.wide) (drop l.count-index l.counts) ≡ lacking (choice l.narrow l.wide) l.counts

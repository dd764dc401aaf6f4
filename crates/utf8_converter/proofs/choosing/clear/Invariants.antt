-- Those before the slot are 0.
use Rattle.std.proofs.Common.{◌≡◌, ℕ, ◌<◌, get_or}
use Rattle.utf8_converter.proofs.choosing.clear.Given as goal

abbrev pub invariant-loop-count : goal.invariant-loop-count
invariant-loop-count l = (k : ℕ) → k < l.count-index → get_or l.count-items k 0 ≡ 0

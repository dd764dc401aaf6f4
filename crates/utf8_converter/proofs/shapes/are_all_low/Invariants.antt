use Rattle.std.proofs.Common.{◌≡◌, ℕ, ◌<◌, get_or, nat_lt, true}
use Rattle.utf8_converter.proofs.shapes.are_all_low.Given as goal

abbrev pub invariant-loop-byte : goal.invariant-loop-byte
invariant-loop-byte l = l.all ≡ true → (k : ℕ) → k < l.byte-index → nat_lt (get_or l.bytes k 0) 127 ≡ true

use Rattle.std.proofs.Common.{◌≡◌, ℕ, ◌<◌, get_or}
use Rattle.nr_vectors.specs.Cell.{blank}
use Rattle.nr_vectors.proofs.slice_vec.set_bytes.Given as goal

abbrev pub invariant-loop-i : goal.invariant-loop-i
invariant-loop-i l = (k : ℕ) → k < l.i → get_or l.bytes k 0 ≡ (get_or l.cells k blank).byte

use Rattle.std.proofs.Common.{ℕ, ◌<◌, slice_get, IfSome, take}
use Rattle.fast_input.specs.declared.splices.Splice.{Splice}
use Rattle.fast_input.proofs.splices.Splices.begun.Given as goal

abbrev pub invariant-loop-n : goal.invariant-loop-n
invariant-loop-n l = (k : ℕ) → k < l.n → IfSome (slice_get (take l.self-inside.len l.self-inside.all) k) (λ (splice : Splice). splice.before < l.bytes)

use Rattle.std.proofs.Common.{◌≡◌, ◌+◌, ◌*◌, ◌/◌, ◌≤◌, min, sym, subst, ap, ◌∙◌, arith}
use Rattle.std.proofs.Math.Nat.{min-le_right}
use Rattle.nr_options.specs.Limits.{Bounds}
use Rattle.nr_machine.specs.Lengths.{sizes_of, sum_of}
use Rattle.nr_machine.specs.declared.lengths.Sizes.{Sizes}
use Rattle.nr_engine.proofs.desk.Desk.memory.Goals as goal

-- what limits ask for is not more than this
few : (b : Bounds) → sum_of (sizes_of b) ≤ 4 * b.stored + 4 * b.depth + 6 * b.cells + 8192
few b =
    let least : min b.depth (b.stored / 16) ≤ b.stored / 16 = min-le_right b.depth (b.stored / 16) in
    omega arith

few_of : (b : Bounds) (s : Sizes) → s ≡ sizes_of b → sum_of s ≤ 4 * b.stored + 4 * b.depth + 6 * b.cells + 8192
few_of b s is = subst (λ (t : Sizes). sum_of t ≤ 4 * b.stored + 4 * b.depth + 6 * b.cells + 8192) (sym is) (few b)

pub returns-clause-bound : goal.returns-clause-bound
returns-clause-bound c = few_of c.args.self.now c.memory.result (c.memory.ensures c.self.inside.limits c.self.invariant.0 ∙ ap sizes_of c.self.view_is)

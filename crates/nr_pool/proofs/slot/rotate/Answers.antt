use Rattle.std.proofs.Common.{◌≡◌, ℕ, suc, ◌+◌, ◌<◌, ◌++◌, List, length, take, drop, ap, ◌∙◌, arith}
use Rattle.nr_pool.proofs.Rotating.{rotated_next}
use Rattle.nr_pool.proofs.slot.rotate.Goals as goal

pub loop-preserved : goal.loop-preserved
loop-preserved g c =
    let part = c.args.part.now in
    let less : c.loop.counter < length part = omega (arith, c.loop-test.true, c.requires) in
    let next : suc c.loop.counter ≡ c.loop.counter + 1 = omega arith in
    record {
      rotated = c.rotate_left-in-loop.ensures.after ∙ ap (λ (xs : List _). drop 1 xs ++ take 1 xs) c.loop.invariant.rotated ∙ rotated_next c.loop.counter part less
          ∙ ap (λ (n : ℕ). drop n part ++ take n part) next;
    }

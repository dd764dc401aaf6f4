use Rattle.std.proofs.Common.{sym, ◌∙◌, arith}
use Rattle.nr_pool.proofs.Rotation.{all_shifted, shift_step_moves, shift_step_keeps}
use Rattle.nr_pool.proofs.slot.shift_after.Goals as goal
use Rattle.nr_pool.proofs.slot.shift_after.Goals.{then-is_after, else-is_after}

pub loop-i-preserved : goal.loop-i-preserved
loop-i-preserved c =
    let below = c.loop-i-test.true in
    elim c.if-is_after.branch [
      | then-is_after w ↦
          shift_step_moves _ _ _ _ c.loop-i.slots _ (omega arith) c.loop-i.auto.slots c.loop-i.invariant (sym c.is_after.ensures ∙ w.if-is_after.true) w.slots-is
      | else-is_after w ↦
          shift_step_keeps _ _ _ _ c.loop-i.slots _ (omega arith) c.loop-i.auto.slots c.loop-i.invariant (sym c.is_after.ensures ∙ w.if-is_after.false) w.slots-is
    ]

pub returns : goal.returns
returns c = all_shifted _ _ c.loop-i.i c.args.slots.now _ c.loop-i.invariant (omega (arith, c.loop-i-test.false))

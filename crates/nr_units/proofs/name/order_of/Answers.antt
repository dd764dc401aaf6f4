use Rattle.std.proofs.Common.{◌≡◌, min, length, ◌∙◌, sym, arith}
use Rattle.nr_units.proofs.BytesInOrder.{order-same, order-other, order-ends}
use Rattle.nr_units.proofs.name.order_of.Goals as goal

pub loop-i-preserved : goal.loop-i-preserved
loop-i-preserved c =
    c.loop-i.invariant ∙ order-same c.args.a.now c.args.b.now c.loop-i.i (omega arith) (omega arith) c.if-a-i.false

pub returns-then-a-i : goal.returns-then-a-i
returns-then-a-i c =
    c.cmp.ensures ∙ sym (c.loop-i.invariant ∙ order-other c.args.a.now c.args.b.now c.loop-i.i (omega arith) (omega arith) c.if-a-i.true)

pub returns : goal.returns
returns c =
    let ended : c.loop-i.i ≡ min (length c.args.a.now) (length c.args.b.now) = omega arith in
    c.cmp-2.ensures ∙ sym (c.loop-i.invariant ∙ order-ends c.args.a.now c.args.b.now c.loop-i.i ended)

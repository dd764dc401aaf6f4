use Rattle.utf8_converter.proofs.Shaped.{Shapes-next}
use Rattle.utf8_converter.proofs.shapes.are_shaped.Goals as goal

pub loop-place-preserved : goal.loop-place-preserved
loop-place-preserved c =
    Shapes-next c.loop-place.all c.is_shaped-all.result c.args.bytes.now c.loop-place.place c.is_shaped-all.ensures c.loop-place.invariant

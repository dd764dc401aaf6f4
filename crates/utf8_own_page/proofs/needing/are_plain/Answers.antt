use Rattle.utf8_own_page.proofs.Plain.{plain-more}
use Rattle.utf8_own_page.proofs.needing.are_plain.Goals as goal

pub loop-place-preserved : goal.loop-place-preserved
loop-place-preserved c =
    plain-more c.loop-place.all c.is_plain-all.result c.args.bytes.now c.loop-place.place c.is_plain-all.ensures c.loop-place.invariant

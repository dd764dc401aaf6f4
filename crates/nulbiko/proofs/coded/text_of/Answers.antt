use Rattle.std.proofs.Common.{refl, ap}
use Rattle.nulbiko.proofs.CodedRun.{bytes_of, came, ended, fewer}
use Rattle.nulbiko.proofs.coded.text_of.Goals as goal

pub loop-byte-preserved : goal.loop-byte-preserved
loop-byte-preserved c =
    let gives = rw c.in-Ok-Some.field-0-is at c.in-Ok-Some.ensures.gives in
    came _ _ _ _ _ _ _ _ _ _ c.loop-byte.invariant gives.0 c.in_ok-push-in-Ok-Some.ensures.items c.window-window.ensures.offers.0 c.in_ok-extend_from_slice.ensures.items refl (ap bytes_of c.skip.ensures.skips)

pub loop-byte-smaller : goal.loop-byte-smaller
loop-byte-smaller c =
    let gives = rw c.in-Ok-Some.field-0-is at c.in-Ok-Some.ensures.gives in
    fewer _ _ _ _ _ gives.0 (ap bytes_of c.skip.ensures.skips)

pub returns-in-Ok-None : goal.returns-in-Ok-None
returns-in-Ok-None c =
    let gives = rw c.in-Ok-None.field-0-is at c.in-Ok-None.ensures.gives in
    ended _ _ _ c.loop-byte.invariant gives.0

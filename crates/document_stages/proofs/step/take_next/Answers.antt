use Rattle.std.proofs.Common.{arith}
use Rattle.document_stages.proofs.Stepping.{Turned-byte}
use Rattle.document_stages.proofs.step.take_next.Goals as goal

pub returns-in-Ok-Some-clause-steps : goal.returns-in-Ok-Some-clause-steps
returns-in-Ok-Some-clause-steps g c =
    let gives = rw c.in-Ok-Some.field-0-is at c.in-Ok-Some.ensures.gives in
    let some = c.turn-count.ensures.some (omega arith) in (
      Turned-byte _ _ c.in-Ok-Some.byte c.turn-count.result _ _ _ _ some c.turn-count.ensures.within gives
          c.turn-count.ensures.says c.turn-count.ensures.fits c.turn-count.ensures.counts,
      some,
      c.turn-count.ensures.within,
    )

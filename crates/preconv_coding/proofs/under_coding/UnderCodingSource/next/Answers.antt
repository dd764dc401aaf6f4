use Rattle.std.proofs.lemmas.Grind.{common_steps}
use Rattle.std.proofs.Common.{sym, ◌∙◌, arith}
use Rattle.preconv_coding.proofs.Giving.{step_stays, step_nearer, end_nearer}
use Rattle.preconv_coding.proofs.under_coding.UnderCodingSource.next.Goals as goal

pub loop-self-smaller-in-Ok-Some : goal.loop-self-smaller-in-Ok-Some
loop-self-smaller-in-Ok-Some g c =
    step_nearer c.in-Ok-Some.byte c.loop-self.self.part c.loop-self.self.ready c.takes-step.result c.takes-step.ensures (sym c.is_empty.ensures ∙ c.loop-self-test.true)

pub loop-self-preserved-in-Ok-Some : goal.loop-self-preserved-in-Ok-Some
loop-self-preserved-in-Ok-Some g c =
    let gives = rw c.in-Ok-Some.field-0-is at c.in-Ok-Some.ensures.gives in
    record {
      stays = step_stays _ c.loop-self.self.part c.in-Ok-Some.byte c.loop-self.self.ready (g.S.Source.supply c.loop-self.self.source) (g.S.Source.supply c.next.new.self)
          c.takes-step.result c.takes-step.ensures (sym c.is_empty.ensures ∙ c.loop-self-test.true) c.loop-self.invariant.stays gives;
      failures = c.in-Ok-Some.ensures.failures ∙ c.loop-self.invariant.failures;
    }

pub loop-self-smaller : goal.loop-self-smaller
loop-self-smaller g c =
    end_nearer c.loop-self.self.part c.loop-self.self.ready c.ends-text.result (sym c.is_empty.ensures ∙ c.loop-self-test.true)
    (sym c.is_empty-in-Ok-None.ensures ∙ c.if-is_empty.false)

pub returns-then-is_empty-clause-gives : goal.returns-then-is_empty-clause-gives
returns-then-is_empty-clause-gives g c = grind (arith, common_steps)

pub loop-self-preserved : goal.loop-self-preserved
loop-self-preserved g c = grind (arith, common_steps)

pub returns-clause-gives : goal.returns-clause-gives
returns-clause-gives g c = grind (arith, common_steps)

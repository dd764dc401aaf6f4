use Rattle.std.proofs.Common.{◌∙◌}
use Rattle.utf8_own_page.proofs.Looks.{goes-on, looks-within, none-left, whole-counts, whole-listener}
use Rattle.utf8_own_page.proofs.looking.look_through.Goals as goal

pub loop-calls-preserved : goal.loop-calls-preserved
loop-calls-preserved g c = record {
  room = c.look_on.ensures.room ∙ c.loop-calls.invariant.room;
  once = c.look_on.ensures.once;
  left = goes-on _ _ _ _ _ _ _ _ _ _ _ c.loop-calls.invariant.left
      (looks-within _ _ _ _ _ _ _ _ _ _ c.loop-calls.invariant.room c.if-not-look_on.false c.look_on.ensures.looked);
}

pub returns-then-not-look_on-clause-items : goal.returns-then-not-look_on-clause-items
returns-then-not-look_on-clause-items g c q is never short =
    whole-counts _ _ _ _ _ _ _ _ _ _ _ c.loop-calls.invariant.left
    (looks-within _ _ _ _ _ _ _ _ _ _ c.loop-calls.invariant.room c.if-not-look_on.true c.look_on.ensures.looked) q is never

pub returns-then-not-look_on-clause-listener : goal.returns-then-not-look_on-clause-listener
returns-then-not-look_on-clause-listener g c q is never short =
    whole-listener _ _ _ _ _ _ _ _ _ _ _ c.loop-calls.invariant.left
    (looks-within _ _ _ _ _ _ _ _ _ _ c.loop-calls.invariant.room c.if-not-look_on.true c.look_on.ensures.looked) q is never

pub returns-clause-items : goal.returns-clause-items
returns-clause-items g c q is never short =
    absurd (none-left _ _ _ _ _ _ _ _ _ c.loop-calls.invariant.left c.loop-calls-test.false q is never short)

pub returns-clause-listener : goal.returns-clause-listener
returns-clause-listener g c q is never short =
    absurd (none-left _ _ _ _ _ _ _ _ _ c.loop-calls.invariant.left c.loop-calls-test.false q is never short)

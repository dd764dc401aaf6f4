use Rattle.std.proofs.Common.{◌≡◌, ◌+◌, ◌*◌, ◌≤◌, length, refl, ◌∙◌, subst, arith}
use Rattle.document_stages.proofs.Runs.{Came-nil, Ran-broken, Ran-done, Ran-failed, Ran-long, Stands-first, Stands-flushed, Stands-turned}
use Rattle.document_stages.proofs.running.run.Goals as goal

pub loop-taken-init : goal.loop-taken-init
loop-taken-init g c = record {
  stands = Stands-first _ _ _ _ _ c.over-out.ensures.empty;
  wants = refl;
  source = refl;
  sink = refl;
  room = refl;
  taken = omega arith;
}

pub returns-in-Err-clause-ran : goal.returns-in-Err-clause-ran
returns-in-Err-clause-ran g c =
    Ran-broken _ _ _ _ _ _ _ _ _ _ _ c.loop-taken.invariant.taken c.loop-taken.invariant.stands (Came-nil _) c.in-Err.ensures.err

pub loop-taken-preserved : goal.loop-taken-preserved
loop-taken-preserved g c =
    let flushed = Stands-flushed _ _ _ _ _ _ _ _ _ _ _ c.loop-taken.invariant.stands c.in-Ok.ensures.ok in
    let turned = rw c.in-Ok-Took.field-0-is at c.in-Ok-Took.ensures.steps in
    let measured = rw c.in-Ok-Took.field-0-is at c.in-Ok-Took.ensures.measured in
    let few : length c.make_step.new.out.items ≤ length c.make_room.new.out.items + g.T.Stage.wants c.args.stage.now * c.in-Ok-Took.count =
    subst (λ w. length c.make_step.new.out.items ≤ length c.make_room.new.out.items + w * c.in-Ok-Took.count) c.loop-taken.invariant.wants measured in
    record {
      stands = Stands-turned _ _ _ _ _ _ _ _ _ _ _ _ _ flushed turned.0 few;
      wants = c.in-Ok-Took.ensures.wants ∙ c.loop-taken.invariant.wants;
      source = (rw c.in-Ok-Took.field-0-is at c.in-Ok-Took.ensures.failures) ∙ c.loop-taken.invariant.source;
      sink = c.in-Ok.ensures.failures ∙ c.loop-taken.invariant.sink;
      room = c.in-Ok-Took.ensures.room ∙ c.in-Ok.ensures.room ∙ c.loop-taken.invariant.room;
      taken = (let few = turned.2 in omega (arith, few));
    }

pub returns-in-Ok-End-clause-ran : goal.returns-in-Ok-End-clause-ran
returns-in-Ok-End-clause-ran g c =
    let flushed = Stands-flushed _ _ _ _ _ _ _ _ _ _ _ c.loop-taken.invariant.stands c.in-Ok.ensures.ok in
    let ended = rw c.in-Ok-End.field-0-is at c.in-Ok-End.ensures.steps in
    let measured = rw c.in-Ok-End.field-0-is at c.in-Ok-End.ensures.measured in
    let few : length c.make_step.new.out.items ≤ length c.make_room.new.out.items + g.T.Stage.wants c.args.stage.now =
    subst (λ w. length c.make_step.new.out.items ≤ length c.make_room.new.out.items + w) c.loop-taken.invariant.wants measured in
    Ran-done _ _ _ _ _ _ _ _ _ _ _ _ _ _ c.loop-taken.invariant.taken flushed ended few c.ended.result c.ended.ensures.ends

pub returns-in-Err-make_step-clause-ran : goal.returns-in-Err-make_step-clause-ran
returns-in-Err-make_step-clause-ran g c =
    let flushed = Stands-flushed _ _ _ _ _ _ _ _ _ _ _ c.loop-taken.invariant.stands c.in-Ok.ensures.ok in
    Ran-failed _ _ _ _ _ _ _ _ _ _ _ _ _ _ c.loop-taken.invariant.taken flushed c.in-Err-make_step.ensures.steps (g.T.Stage.waits c.make_step.new.stage)
    c.ended-in-Err-make_step.result c.ended-in-Err-make_step.ensures.ends

pub returns-clause-ran : goal.returns-clause-ran
returns-clause-ran g c =
    let all : c.loop-taken.taken ≡ 1099511627776 =
    (let most = c.loop-taken.invariant.taken in let least = c.loop-taken-test.false in omega (arith, most, least)) in
    Ran-long _ _ _ _ _ _ _ _ _ _ all c.loop-taken.invariant.stands (g.T.Stage.waits c.loop-taken.stage) c.ended-2.result c.ended-2.ensures.ends

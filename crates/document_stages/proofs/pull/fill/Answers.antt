use Rattle.std.proofs.Common.{◌≡◌, [], length, true, false, refl, ap, rules, arith}
use Rattle.document_stages.specs.Pulling.{pulled}
use Rattle.document_stages.proofs.Steps.{Stays-same, Stays-trans, Stays-took, Took-none, Full-breaks, none-of-length}
use Rattle.document_stages.proofs.Stepping.{took-of}
use Rattle.document_stages.proofs.pull.fill.Goals as goal

pub loop-count-init : goal.loop-count-init
loop-count-init g c = record {
  stays = Stays-same _;
  empty = c.clear.ensures.items;
  wants = refl;
  room = c.clear.ensures.room;
}

-- bytes came, and something waits
pub returns-then-len-gt0-clause-stays : goal.returns-then-len-gt0-clause-stays
returns-then-len-gt0-clause-stays g c =
    let turned = rw c.in-Ok-Took.field-0-is at c.in-Ok-Took.ensures.steps in
    let w = took-of _ _ _ _ _ _ _ c.loop-count.invariant.empty turned.0 in
    Stays-trans _ _ _ c.loop-count.invariant.stays (Stays-took _ _ _ _ _ _ _ _ _ w)

pub returns-then-len-gt0-clause-filled : goal.returns-then-len-gt0-clause-filled
returns-then-len-gt0-clause-filled g c = λ none.
    (let some = c.if-len-gt0.true in let is = c.len.ensures.value in let zero = ap length none in omega (arith, some, is, zero))

-- bytes came, nothing waits, and the stage is full
pub returns-then-is_full-clause-stays : goal.returns-then-is_full-clause-stays
returns-then-is_full-clause-stays g c =
    let turned = rw c.in-Ok-Took.field-0-is at c.in-Ok-Took.ensures.steps in
    let w = took-of _ _ _ _ _ _ _ c.loop-count.invariant.empty turned.0 in
    Stays-trans _ _ _ c.loop-count.invariant.stays (Stays-took _ _ _ _ _ _ _ _ _ w)

pub returns-then-is_full-clause-filled : goal.returns-then-is_full-clause-filled
returns-then-is_full-clause-filled g c =
    let turned = rw c.in-Ok-Took.field-0-is at c.in-Ok-Took.ensures.steps in
    let w = took-of _ _ _ _ _ _ _ c.loop-count.invariant.empty turned.0 in
    let none : c.make_step.new.out.items ≡ [] = none-of-length c.make_step.new.out.items (let few = c.if-len-gt0.false in let is = c.len.ensures.value in omega (arith, few, is)) in (
      none,
      Full-breaks
          (pulled (g.R.Source.supply c.args.input.now) true (g.T.Stage.says c.args.stage.now) (g.T.Stage.fits c.args.stage.now) [] c.args.taken.now false)
          (g.R.Source.supply c.loop-count.input) (g.R.Source.supply c.make_step.new.input)
          (g.T.Stage.says c.loop-count.stage) (g.T.Stage.says c.make_step.new.stage) (g.T.Stage.fits c.loop-count.stage) (g.T.Stage.fits c.make_step.new.stage)
          c.make_step.new.out.items c.loop-count.count c.in-Ok-Took.more c.loop-count.invariant.stays w none (c.is_full.ensures c.if-is_full.true),
    )

-- bytes came, and nothing waits
pub loop-count-preserved : goal.loop-count-preserved
loop-count-preserved g c =
    let turned = rw c.in-Ok-Took.field-0-is at c.in-Ok-Took.ensures.steps in
    let w = took-of _ _ _ _ _ _ _ c.loop-count.invariant.empty turned.0 in
    let none : c.make_step.new.out.items ≡ [] = none-of-length c.make_step.new.out.items (let few = c.if-len-gt0.false in let is = c.len.ensures.value in omega (arith, few, is)) in
    record {
      stays = Took-none
          (pulled (g.R.Source.supply c.args.input.now) true (g.T.Stage.says c.args.stage.now) (g.T.Stage.fits c.args.stage.now) [] c.args.taken.now false)
          (g.R.Source.supply c.loop-count.input) (g.R.Source.supply c.make_step.new.input)
          (g.T.Stage.says c.loop-count.stage) (g.T.Stage.says c.make_step.new.stage) (g.T.Stage.fits c.loop-count.stage) (g.T.Stage.fits c.make_step.new.stage)
          c.make_step.new.out.items c.loop-count.count c.in-Ok-Took.more c.loop-count.invariant.stays w none;
      empty = none;
      wants = search rules;
      room = search rules;
    }

use Rattle.std.proofs.Common.{◌≡◌, ℕ, ◌+◌, ◌-◌, ◌*◌, ◌≤◌, [], Some, ◌∙◌, refl, sym, subst, arith}
use Rattle.nr_units.specs.Source.{Supply}
use Rattle.nr_machine.specs.FirstBytes.{broken_off}
use Rattle.nr_machine.specs.Holding.{Shape, Made, shape, weight, worth}
use Rattle.nr_machine.proofs.Standing.{made_none}
use Rattle.fast_machine.proofs.Running.{worth_same}
use Rattle.nr_engine.proofs.Travelling.{made_more, spent_one}
use Rattle.nr_engine.proofs.GoingOn.{read_through}
use Rattle.nr_engine.proofs.keeping.read_all.Goals as goal

pub returns-then-is_unseen-clause-reads : goal.returns-then-is_unseen-clause-reads
returns-then-is_unseen-clause-reads c =
    let now = c.loop-engine.invariant in
    read_through c.args.most (shape c.args.engine.now) (shape c.loop-engine.engine) c.args.first.now c.args.before c.loop-engine.left c.from.result (Some (broken_off c.loop-engine.input.rest.now))
    now.limit now.most now.within now.bound (omega (arith, c.from.ensures)) (sym c.is_unseen.ensures ∙ c.if-is_unseen.true) (c.is_over.ensures c.if-is_over.true) now.made

pub loop-engine-preserved : goal.loop-engine-preserved
loop-engine-preserved c =
    let now = c.loop-engine.invariant in
    let made = c.in-Ok.ensures in
    let first : Shape = shape c.args.engine.now in
    record {
      limit = made.moves.spends.limit ∙ now.limit;
      most = made.moves.spends.most ∙ now.most;
      limits = c.advance.ensures.limits ∙ now.limits;
      within = omega (arith, now.within);
      bound = spent_one first (shape c.loop-engine.engine) (shape c.advance.new.self) c.args.most c.loop-engine.left now.limit now.most now.within (omega (arith, c.if-left-eq0.false)) now.bound made.moves.spends;
      unfailed = made.tells.unfailed now.unfailed;
      made = λ s h.
          let t = now.made s h in (
            t.0 + 1,
            omega (arith, t.1, c.if-left-eq0.false),
            made_more s t.0 (shape c.loop-engine.engine) (shape c.advance.new.self) _ _ _ _ _ t.2 made.moves.advances,
          );
    }

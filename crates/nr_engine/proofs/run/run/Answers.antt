use Rattle.std.proofs.Common.{◌≡◌, ◌+◌, ◌-◌, ◌≤◌, ◌∙◌, sym, subst, arith}
use Rattle.nr_machine.specs.Machine.{state_after}
use Rattle.nr_machine.specs.Holding.{Shape, Finishes, shape, weight, worth}
use Rattle.nr_machine.proofs.Standing.{none_spent}
use Rattle.fast_machine.proofs.Running.{made_run}
use Rattle.nr_engine.proofs.Travelling.{made_more, halted, spent_left, spent_one, bound_left, finished_spent}
use Rattle.nr_engine.proofs.run.run.Goals as goal

pub loop-engine-preserved-then-reads_on : goal.loop-engine-preserved-then-reads_on
loop-engine-preserved-then-reads_on g c =
    let now = c.loop-engine.invariant in
    let some = c.put_at_hand-many.ensures.few in
    let run = c.put_at_hand-many.ensures.reads.makes in
    record {
      limit = run.limit ∙ now.limit;
      most = run.most ∙ now.most;
      limits = run.limits ∙ now.limits;
      within = omega (arith, now.within);
      bound = spent_left (shape c.args.engine.now) (shape c.loop-engine.engine) (shape c.put_at_hand-many.new.engine) _ _ c.args.most c.loop-engine.left c.put_at_hand-many.result now.limit now.most now.within some now.bound run;
      unfailed = c.put_at_hand-many.ensures.reads.unfailed now.unfailed;
      reads = c.put_at_hand-many.ensures.reads.failures ∙ now.reads;
      writes = now.writes;
      made = λ s h.
          let t = now.made s h in
          (t.0 + c.put_at_hand-many.result, omega (arith, t.1, some), made_run s t.0 c.put_at_hand-many.result (shape c.loop-engine.engine) (shape c.put_at_hand-many.new.engine) _ _ _ _ t.2 run);
    }

pub loop-engine-preserved : goal.loop-engine-preserved
loop-engine-preserved g c =
    let now = c.loop-engine.invariant in
    let some = c.put_at_hand-many.ensures.few in
    let run = c.put_at_hand-many.ensures.reads.makes in
    let made = c.in-Ok.ensures in
    let first : Shape = shape c.args.engine.now in
    let left = c.loop-engine.left - c.put_at_hand-many.result in
    let limit = run.limit ∙ now.limit in
    let most = run.most ∙ now.most in
    let unfailed = c.put_at_hand-many.ensures.reads.unfailed now.unfailed in
    let bound = spent_left first (shape c.loop-engine.engine) (shape c.put_at_hand-many.new.engine) _ _ c.args.most c.loop-engine.left c.put_at_hand-many.result now.limit now.most now.within some now.bound run in
    record {
      limit = made.moves.spends.limit ∙ limit;
      most = made.moves.spends.most ∙ most;
      limits = c.advance.ensures.limits ∙ (run.limits ∙ now.limits);
      within = omega (arith, now.within);
      bound = spent_one first (shape c.put_at_hand-many.new.engine) (shape c.advance.new.self) c.args.most left limit most (omega (arith, now.within)) (omega (arith, c.if-left-eq0.false)) bound made.moves.spends;
      unfailed = made.tells.unfailed unfailed;
      reads = made.tells.counts unfailed ∙ c.put_at_hand-many.ensures.reads.failures ∙ now.reads;
      writes = made.write_failures ∙ now.writes;
      made = λ s h.
          let t = now.made s h in
          let glided = made_run s t.0 c.put_at_hand-many.result (shape c.loop-engine.engine) (shape c.put_at_hand-many.new.engine) _ _ _ _ t.2 run in (
            t.0 + c.put_at_hand-many.result + 1,
            omega (arith, t.1, some, c.if-left-eq0.false),
            made_more s (t.0 + c.put_at_hand-many.result) (shape c.put_at_hand-many.new.engine) (shape c.advance.new.self) _ _ _ _ _ glided made.moves.advances,
          );
    }

pub returns-then-left-eq0-clause-travels : goal.returns-then-left-eq0-clause-travels
returns-then-left-eq0-clause-travels g c = λ s h.
    let now = c.loop-engine.invariant in
    let some = c.put_at_hand-many.ensures.few in
    let run = c.put_at_hand-many.ensures.reads.makes in
    let first : Shape = shape c.args.engine.now in
    let t = now.made s h in
    let glided = made_run s t.0 c.put_at_hand-many.result (shape c.loop-engine.engine) (shape c.put_at_hand-many.new.engine) _ _ _ _ t.2 run in
    let bound = spent_left first (shape c.loop-engine.engine) (shape c.put_at_hand-many.new.engine) _ _ c.args.most c.loop-engine.left c.put_at_hand-many.result now.limit now.most now.within some now.bound run in
    let left = c.loop-engine.left - c.put_at_hand-many.result in
    let none : left ≡ 0 = omega (arith, c.if-left-eq0.true) in
    let f : Shape = shape c.put_at_hand-many.new.engine in
    let made : c.args.moves.now + (t.0 + c.put_at_hand-many.result) ≡ c.args.most = omega (arith, t.1, some, none) in
    record {
      count = t.0 + c.put_at_hand-many.result;
      counted = omega (arith, made, c.from.ensures);
      finishes = subst (λ o. Finishes c.args.most c.from.result s (t.0 + c.put_at_hand-many.result) o (g.W.Sink.held c.args.output.now) (g.W.Sink.held c.loop-engine.output)) (sym c.outcome_when_spent.ensures)
          (finished_spent c.args.most c.from.result s (t.0 + c.put_at_hand-many.result) f _ _ _ c.from.ensures glided);
      bound = (let most_moves = bound_left (worth first) c.args.most left (weight f) _ _ (omega (arith, now.within)) glided.holds.stands.coming.taken bound in omega (arith, most_moves, none, c.from.ensures));
    }

pub returns-in-Err-clause-travels : goal.returns-in-Err-clause-travels
returns-in-Err-clause-travels g c = λ s h.
    let now = c.loop-engine.invariant in
    let some = c.put_at_hand-many.ensures.few in
    let run = c.put_at_hand-many.ensures.reads.makes in
    let first : Shape = shape c.args.engine.now in
    let left = c.loop-engine.left - c.put_at_hand-many.result in
    let t = now.made s h in
    let glided = made_run s t.0 c.put_at_hand-many.result (shape c.loop-engine.engine) (shape c.put_at_hand-many.new.engine) _ _ _ _ t.2 run in
    let bound = spent_left first (shape c.loop-engine.engine) (shape c.put_at_hand-many.new.engine) _ _ c.args.most c.loop-engine.left c.put_at_hand-many.result now.limit now.most now.within some now.bound run in
    let f : Shape = shape c.put_at_hand-many.new.engine in
    let count = t.0 + c.put_at_hand-many.result in
    let less : c.from-in-Err.result + left ≡ c.args.most = omega (arith, c.from-in-Err.ensures, now.within) in
    let spare : 1 ≤ left = omega (arith, c.if-left-eq0.false) in
    record {
      count = count;
      counted = omega (arith, t.1, some, less);
      finishes = halted c.args.most c.from-in-Err.result s count f (shape c.advance.new.self) (g.R.Source.supply c.put_at_hand-many.new.input) (g.R.Source.supply c.advance.new.input) c.in-Err.outcome _ _ _
          (omega (arith, less)) (none_spent c.args.most c.from-in-Err.result (state_after count s) (omega (arith, less, spare))) glided c.in-Err.ensures.moves.advances;
      bound = (let most_moves = bound_left (worth first) c.args.most left (weight f) _ _ (omega (arith, now.within)) glided.holds.stands.coming.taken bound in omega (arith, most_moves, less));
    }

pub returns-in-Err-clause-limits : goal.returns-in-Err-clause-limits
returns-in-Err-clause-limits g c = c.advance.ensures.limits ∙ (c.put_at_hand-many.ensures.reads.makes.limits ∙ c.loop-engine.invariant.limits)

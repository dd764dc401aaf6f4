use Rattle.std.proofs.Common.{[], Some, refl, sym, ap, subst, arith}
use Rattle.nr_units.specs.Failures.{counted_if, put_counted_if}
use Rattle.nr_machine.specs.State.{start}
use Rattle.nr_machine.specs.Machine.{state_after}
use Rattle.nr_machine.specs.Holding.{Holds, shape, worth}
use Rattle.nr_engine.specs.Travelling.{Travelled}
use Rattle.nr_engine.proofs.Starting.{starts, chosen_bound, halted_early, answered}
use Rattle.nr_engine.proofs.run.run_in.Goals as goal

pub run-requires-clause-bound : goal.run-requires-clause-bound
run-requires-clause-bound g c =
    let new = c.clear.ensures in
    chosen_bound c.args.limits (shape c.clear.new.self) (shape c.choose.new.self) c.choose.new.moves new.is_new.formatter new.is_new.place c.in-Ok.ensures.chooses.stays c.in-Ok.ensures.bound

pub returns-in-Err-clause-answers : goal.returns-in-Err-clause-answers
returns-in-Err-clause-answers g c = λ supply q.
    let new = c.clear.ensures in
    let s = start c.args.limits c.args.options.now supply in
    let h = starts c.args.limits c.args.options.now supply (shape c.clear.new.self) new.is_new in
    halted_early c.args.limits s c.choose.new.moves c.in-Err.outcome _ _ refl (omega (arith, c.moves-most.ensures.least, c.moves-most.ensures.value)) c.in-Err.ensures.bound
    (c.in-Err.ensures.chooses.chooses (Some supply) (g.W.Sink.held c.args.output.now) s h)

pub returns-in-Err-clause-faults : goal.returns-in-Err-clause-faults
returns-in-Err-clause-faults g c = record {
  read_failures = ap (λ b. counted_if b (g.R.Source.failures c.args.input.now)) (sym c.in-Err.ensures.chooses.reads);
  write_failures = ap (λ b. put_counted_if b (g.W.Sink.failures c.args.output.now)) (sym c.in-Err.ensures.chooses.writes);
}

pub returns-in-Ok-clause-answers : goal.returns-in-Ok-clause-answers
returns-in-Ok-clause-answers g c = λ supply q.
    let new = c.clear.ensures in
    let s = start c.args.limits c.args.options.now supply in
    let h = starts c.args.limits c.args.options.now supply (shape c.clear.new.self) new.is_new in
    let made = c.in-Ok.ensures.chooses.chooses (Some supply) (g.W.Sink.held c.args.output.now) s h in
    let t = state_after c.choose.new.moves s in
    let u = subst (λ k. Travelled k t c.choose.new.moves c.run.new.moves (worth (shape c.choose.new.self)) c.run.result (g.W.Sink.held c.args.output.now) (g.W.Sink.held c.run.new.output)) c.moves-most.ensures.value
    (c.run.ensures.travels t (subst (λ x. Holds [] x t (shape c.choose.new.self)) (sym q) made.holds)) in
    answered c.args.limits s c.choose.new.moves c.run.new.moves (shape c.clear.new.self) (shape c.choose.new.self) (Some supply) c.run.result _ _ refl new.is_new.formatter c.in-Ok.ensures.chooses.stays made u

pub run-requires-clause-allowed : goal.run-requires-clause-allowed
run-requires-clause-allowed g c = omega (arith, c.in-Ok.ensures.bound, c.moves-most.ensures.least)

use Rattle.std.proofs.Common.{◌≡◌, subst}
use Rattle.nr_options.specs.Limits.{Bounds}
use Rattle.nr_machine.specs.State.{start}
use Rattle.nr_machine.specs.Run.{Answers}
use Rattle.nr_engine.proofs.run.format.Goals as goal

pub returns-clause-answers : goal.returns-clause-answers
returns-clause-answers g c = λ supply q.
    let is : c.desk.inside.limits ≡ c.args.work.desk.now = cc in
    subst (λ (b : Bounds). Answers b (start b c.args.options.now supply) c.run_in.new.moves c.run_in.result (g.W.Sink.held c.args.output.now) (g.W.Sink.held c.run_in.new.output)) is
    (c.run_in.ensures.answers supply q)

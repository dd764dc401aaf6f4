use Rattle.std.proofs.Common.{◌≡◌, ◌+◌, ◌*◌, ◌≤◌, sym, ap, ◌∙◌, subst}
use Rattle.nr_input.specs.Place.{has_failed}
use Rattle.nr_machine.specs.State.{start}
use Rattle.nr_machine.specs.FirstBytes.{preceded, broken_off}
use Rattle.nr_machine.specs.Holding.{Shape, shape, weight, worth}
use Rattle.nr_machine.specs.Run.{Answers}
use Rattle.nr_machine.specs.Limits.{limits_of}
use Rattle.nr_engine.specs.Keeping.{Keeping, Reaches}
use Rattle.nr_engine.proofs.GoingOn.{answers_after}
use Rattle.nr_engine.proofs.keeping.go_on.Goals as goal

pub run-requires-clause-unfailed : goal.run-requires-clause-unfailed
run-requires-clause-unfailed g c = ap (λ (e : Shape). has_failed e.place.ahead) c.copy_from.ensures ∙ c.kept.invariant.unfailed

pub run-requires-clause-bound : goal.run-requires-clause-bound
run-requires-clause-bound g c =
    subst (λ (e : Shape). c.kept.inside.moves + weight e ≤ worth e * (e.place.taken + 1)) (sym c.copy_from.ensures) c.kept.invariant.bound

pub run-requires-clause-allowed : goal.run-requires-clause-allowed
run-requires-clause-allowed g c = subst (λ n. c.kept.inside.moves ≤ n) (sym c.moves.ensures.value) c.kept.invariant.allowed

pub returns-clause-answers : goal.returns-clause-answers
returns-clause-answers g c = λ rest q.
    let k = c.kept.inside in
    subst (λ (x : Keeping). Answers x.limits (start x.limits x.options (preceded x.first rest)) c.run.new.moves c.run.result (g.W.Sink.held c.args.output.now) (g.W.Sink.held c.run.new.output)) c.kept.view_is
    (answers_after k.limits k.options k.first.items rest (shape c.copy_from.new.self) c.moves.result k.moves c.run.new.moves (g.R.Source.supply c.args.input.now) c.run.result
    (g.W.Sink.held c.args.output.now) (g.W.Sink.held c.run.new.output) c.moves.ensures.value q (ap limits_of c.copy_from.ensures ∙ c.kept.invariant.limits)
    (subst (λ (e : Shape). Reaches (start k.limits k.options (broken_off k.first.items)) k.moves e) (sym c.copy_from.ensures) c.kept.invariant.read) c.run.ensures.travels)

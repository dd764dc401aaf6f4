use Rattle.std.proofs.Common.{◌≡◌, ◌∙◌, Option, IfSome, subst}
use Rattle.nr_engine.specs.Keeping.{Keeping}
use Rattle.nr_engine.proofs.GoingOn.{answers_of}
use Rattle.nr_engine.proofs.run.format_after.Goals as goal

pub returns-clause-answers : goal.returns-clause-answers
returns-clause-answers g c rest q =
    let desk_is : c.desk.inside.limits ≡ c.args.work.desk.now = cc in
    let kept_is = subst (λ (x : Option Keeping). IfSome x (λ kept. kept.limits ≡ c.desk.inside.limits)) c.in-Some.is c.desk.invariant.1 in
    answers_of c.in-Some.kept _ _ _ rest _ _ _ _ (kept_is ∙ desk_is) (c.has_read.ensures.options c.if-not-has_read.false) (c.has_read.ensures.first c.if-not-has_read.false)
    (c.go_on.ensures.answers rest q)

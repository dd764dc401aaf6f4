use Rattle.std.proofs.Common.{ap, sym, ◌∙◌, rules}
use Rattle.nr_formatter.specs.Limits.{judged}
use Rattle.nr_formatter.specs.Moves.{heard_beside}
use Rattle.nr_formatter.specs.Passed.{splice_answer}
use Rattle.nr_formatter.proofs.Hearing.{judged-given_register}
use Rattle.nr_formatter.specs.Moves.{control}
use Rattle.nr_formatter.proofs.Falling.{falls-is}
use Rattle.nr_formatter.proofs.HearingFalls.{falls-control, ok_splice}
use Rattle.nr_formatter.proofs.formatter.Formatter.hear_beside.Goals as goal

-- what refuses the splice is what has no room
pub returns-in-Given-clause-result : goal.returns-in-Given-clause-result
returns-in-Given-clause-result c = λ within.
    c.of_splice.ensures ∙ ap splice_answer (c.give_register.ensures.result within) ∙ judged-given_register c.args.self.now within
    ∙ ap (λ event. judged (heard_beside event c.args.self.now)) (sym c.in-Given.is)

pub returns-in-Given-clause-falls : goal.returns-in-Given-clause-falls
returns-in-Given-clause-falls c = λ is some. ok_splice c.give_register.result c.of_splice.result _ c.of_splice.ensures (c.give_register.ensures.falls (is ∙ c.in-Given.is))

pub returns-in-Width-clause-falls : goal.returns-in-Width-clause-falls
returns-in-Width-clause-falls c = λ is some. ok_splice c.give_width.result c.of_splice-in-Width.result _ c.of_splice-in-Width.ensures c.give_width.ensures.falls

pub returns-in_default-clause-falls : goal.returns-in_default-clause-falls
returns-in_default-clause-falls c = λ is some. let f = c.args.self.now in
    falls-is 1 0 f _ (control c.args.event f) (search rules) (falls-control c.args.event f is some)

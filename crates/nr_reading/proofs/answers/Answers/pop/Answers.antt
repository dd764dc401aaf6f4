use Rattle.std.proofs.lemmas.Grind.{common_steps}
use Rattle.std.proofs.Common.{◌-◌, Bool, List, take, drop, ap, ◌∙◌, arith}
use Rattle.nr_reading.proofs.NextItems.{forgotten}
use Rattle.nr_reading.proofs.answers.Answers.pop.Goals as goal

pub returns-clause-rest : goal.returns-clause-rest
returns-clause-rest c =
    let s = c.self.inside in
    ap (take (s.len - 1)) c.copy_within.ensures.after ∙ forgotten s.answers s.len c.self.invariant.1 c.self.invariant.0 ∙ ap (λ (ys : List Bool). drop 1 ys) c.self.view_is

pub returns-clause-value : goal.returns-clause-value
returns-clause-value c = grind (arith, common_steps)

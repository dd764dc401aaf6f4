use Rattle.std.proofs.Common.{◌∙◌, arith, refl}
use Rattle.nulbiko.proofs.OwnRun.{ranged}
use Rattle.nulbiko.proofs.document.nulbiko_document_lent.Goals as goal

pub returns-in_default-clause-printed : goal.returns-in_default-clause-printed
returns-in_default-clause-printed c = λ one two. absurd (one refl)

pub returns-in_default-new-clause-ranges : goal.returns-in_default-new-clause-ranges
returns-in_default-new-clause-ranges c = ranged 5 _ (λ is. omega (arith, is)) (c.in-Some.ensures.ranges.0 refl)

pub returns-in_default-new-clause-printed : goal.returns-in_default-new-clause-printed
returns-in_default-new-clause-printed c = λ one two. absurd (two refl)

pub returns-clause-ranges : goal.returns-clause-ranges
returns-clause-ranges c = ranged _ _ c.print_in.ensures.not_range (c.in-Some.ensures.ranges.0 refl)

pub returns-clause-printed : goal.returns-clause-printed
returns-clause-printed c = λ one two short. c.print_in.ensures.printed (c.in-Ok.ensures.limits ∙ c.in-Some.ensures.value) two short

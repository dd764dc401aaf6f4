use Rattle.std.proofs.lemmas.Grind.{common_steps}
use Rattle.std.proofs.Common.{◌∙◌, arith}
use Rattle.nr_fill.proofs.Pendings.{are_small}
use Rattle.nr_fill.proofs.line.Line.word_wide.Goals as goal

pub overflow_add-result : goal.overflow_add-result
overflow_add-result c =
    let h = rw c.in-Some.is at c.self.invariant in
    let small = are_small h in
    let join = c.from-in-Some.ensures ∙ c.width.ensures in
    omega (arith, small.widths, small.join)

pub overflow_add-result-in-Some : goal.overflow_add-result-in-Some
overflow_add-result-in-Some c =
    let h = rw c.in-Some.is at c.self.invariant in
    let small = are_small h in
    let join = c.from-in-Some.ensures ∙ c.width.ensures in
    omega (arith, small.widths, small.join, c.last_len.ensures, small.parted, small.text, small.small)

pub returns-in-Some-clause-small : goal.returns-in-Some-clause-small
returns-in-Some-clause-small c =
    let h = rw c.in-Some.is at c.self.invariant in
    let small = are_small h in
    let join = c.from-in-Some.ensures ∙ c.width.ensures in
    omega (arith, small.widths, small.join, c.last_len.ensures, small.parted, small.text, small.small)

pub returns-in-Some-clause-value : goal.returns-in-Some-clause-value
returns-in-Some-clause-value c = grind (arith, common_steps)

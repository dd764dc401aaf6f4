use Rattle.std.proofs.lemmas.Grind.{common_steps}
use Rattle.std.proofs.Common.{ap, arith}
use Rattle.nr_fill.specs.Line.{Lined}
use Rattle.nr_fill.proofs.line.Line.put_cells.Goals as goal

pub overflow_sub-self-inside : goal.overflow_sub-self-inside
overflow_sub-self-inside c = let own = ap (λ (v : Lined). v.limit) c.self.view_is in omega (arith, c.text_measure.ensures.within)

pub returns-then-n-self-clause-result : goal.returns-then-n-self-clause-result
returns-then-n-self-clause-result c = grind (arith, common_steps)

pub push_cells-requires-clause-room : goal.push_cells-requires-clause-room
push_cells-requires-clause-room c = grind (arith, common_steps)

pub returns-clause-result : goal.returns-clause-result
returns-clause-result c = grind (arith, common_steps)

use Rattle.std.proofs.Common.{ap, arith}
use Rattle.nr_machine.proofs.engine.Engine.new.Goals as goal

pub invariant_of-result : goal.invariant_of-result
invariant_of-result c = record {
  has_row = omega (arith, ap (λ r. r.capacity) c.in_ok-row.ensures.made, ap (λ r. r.row) c.room.ensures, c.in_ok-page.ensures.limit, c.cells.ensures.value, c.cells-2.ensures.value);
}

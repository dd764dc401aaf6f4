use Rattle.std.proofs.Common.{sym, ◌∙◌}
use Rattle.nr_reading.proofs.many.control_names.name_ends.Goals as goal

pub returns-in-Some : goal.returns-in-Some
returns-in-Some g c = λ is. record { byte = c.in-Some.byte; within = c.in-Some.ensures.within; stands = c.in-Some.ensures.value; ends = sym c.ends_name.ensures ∙ is }

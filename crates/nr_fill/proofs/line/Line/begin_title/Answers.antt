use Rattle.std.proofs.Common.{arith}
use Rattle.nr_fill.proofs.Lines.{is_line_untitled, is_line_titled}
use Rattle.nr_fill.specs.declared.title.TitleState.TheVariants as states
use Rattle.nr_fill.proofs.line.Line.begin_title.Goals as goal

pub invariant_of-self : goal.invariant_of-self
invariant_of-self c = rw c.clear_title.ensures (is_line_titled states.Left (is_line_untitled c.self.invariant) (omega arith))

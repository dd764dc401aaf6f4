use Rattle.man_lint.proofs.PageLines.{have-lines}
use Rattle.man_lint.proofs.laws.complaints_have_lines.Goals as goal

pub returns : goal.returns
returns c = have-lines

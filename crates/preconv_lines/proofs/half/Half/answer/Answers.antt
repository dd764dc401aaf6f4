use Rattle.std.proofs.Common.{rules}
use Rattle.preconv_lines.proofs.half.Half.answer.Goals as goal

pub returns-then-holds : goal.returns-then-holds
returns-then-holds c = search rules

use Rattle.std.proofs.Common.{rules}
use Rattle.preconv_lines.proofs.half.Half.dropped.Goals as goal

pub returns : goal.returns
returns c = search rules

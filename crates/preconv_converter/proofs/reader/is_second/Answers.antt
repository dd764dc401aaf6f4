use Rattle.std.proofs.Common.{rules}
use Rattle.preconv_converter.proofs.reader.is_second.Goals as goal

pub returns-in_default : goal.returns-in_default
returns-in_default c = search rules

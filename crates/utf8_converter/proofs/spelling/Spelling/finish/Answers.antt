use Rattle.std.proofs.Common.{rules}
use Rattle.utf8_converter.proofs.spelling.Spelling.finish.Goals as goal

pub returns-clause-fills : goal.returns-clause-fills
returns-clause-fills c = search rules

use Rattle.std.proofs.Common.{rules}
use Rattle.nr_input.proofs.reader.Reader.expand.Goals as goal

pub returns-clause-reader : goal.returns-clause-reader
returns-clause-reader c = search rules

use Rattle.std.proofs.Common.{rules}
use Rattle.utf8_own_sink.proofs.pending.put_waiting.Goals as goal

pub returns-clause-empty : goal.returns-clause-empty
returns-clause-empty g c = search rules

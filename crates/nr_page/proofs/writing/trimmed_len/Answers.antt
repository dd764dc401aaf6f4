use Rattle.std.proofs.Common.{rules}
use Rattle.nr_page.proofs.writing.trimmed_len.Goals as goal

pub returns-after-loop-len-clause-trimmed : goal.returns-after-loop-len-clause-trimmed
returns-after-loop-len-clause-trimmed c = search rules

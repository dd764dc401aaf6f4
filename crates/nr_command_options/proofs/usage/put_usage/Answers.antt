use Rattle.std.proofs.Common.{rules}
use Rattle.nr_command_options.proofs.usage.put_usage.Goals as goal

pub returns-in-BadValue-clause-ok : goal.returns-in-BadValue-clause-ok
returns-in-BadValue-clause-ok g c = search rules

pub returns-in-BadValue-clause-err : goal.returns-in-BadValue-clause-err
returns-in-BadValue-clause-err g c = search rules

use Rattle.std.proofs.Common.{rules}
use Rattle.nr_command.proofs.disk.Disk.text.Goals as goal

pub returns-in-File-clause-text : goal.returns-in-File-clause-text
returns-in-File-clause-text g c = search rules

pub returns-in-File-clause-asked : goal.returns-in-File-clause-asked
returns-in-File-clause-asked g c = search rules

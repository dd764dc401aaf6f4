use Rattle.program_command.proofs.Telling.{Tells-unopened}
use Rattle.program_command.proofs.endings.put_unopened.Goals as goal

pub returns-in-Macros : goal.returns-in-Macros
returns-in-Macros g c = Tells-unopened _ _ _ _ _ _ c.in-Macros.is c.put_path.ensures

pub returns-in-File : goal.returns-in-File
returns-in-File g c = Tells-unopened _ _ _ _ _ _ c.in-File.is c.put_line.ensures

pub returns-in-Standard : goal.returns-in-Standard
returns-in-Standard g c = Tells-unopened _ _ _ _ _ _ c.in-Standard.is c.put_line-in-Standard.ensures

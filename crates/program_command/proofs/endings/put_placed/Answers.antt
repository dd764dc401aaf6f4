use Rattle.program_command.proofs.endings.put_placed.Goals as goal

pub returns : goal.returns
returns g c = rw c.format.ensures.text at c.put_at.ensures

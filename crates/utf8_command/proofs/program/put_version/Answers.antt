use Rattle.utf8_command.proofs.program.put_version.Goals as goal

pub returns : goal.returns
returns g c = rw c.as_bytes.ensures.value at c.put_out.ensures

use Rattle.program_command.proofs.program.run_words.Goals as goal

pub returns : goal.returns
returns g c = (c.ending_of-ending.result.0, c.tell.ensures.status, c.ending_of-ending.new.errors, c.ending_of-ending.ensures.silent, c.tell.ensures.reported, c.ending_of-ending.ensures.comes)

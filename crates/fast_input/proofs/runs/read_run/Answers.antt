use Rattle.fast_input.proofs.runs.read_run.Goals as goal

pub returns-then-is_reading-clause-read : goal.returns-then-is_reading-clause-read
returns-then-is_reading-clause-read g c = λ k holds. c.read_run_of_level.ensures.read k c.args.place.now _ holds

pub returns-then-is_reading-clause-pays : goal.returns-then-is_reading-clause-pays
returns-then-is_reading-clause-pays g c = c.read_run_of_level.ensures.pays c.args.place.now

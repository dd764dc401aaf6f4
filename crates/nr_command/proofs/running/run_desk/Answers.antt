use Rattle.std.proofs.Common.{◌≡◌, true, false, refl, rules}
use Rattle.nr_command.proofs.running.run_desk.Goals as goal

pub returns-in-Ok-clause-ran : goal.returns-in-Ok-clause-ran
returns-in-Ok-clause-ran g c =
    record {
      formatted = c.format-outcome.result;
      moves = c.format-outcome.new.moves;
      held = g.W.Sink.held c.format-outcome.new.output;
      flush_failed = false;
      answers = λ known e. rw c.lend.ensures.limits at (c.format-outcome.ensures.answers known e);
      flushed = c.flush.ensures.held;
      passed = λ sound. rw c.in-Ok.ensures.passed_on refl;
      outcome_is = refl;
      read_failures = c.format-outcome.ensures.faults.read_failures;
      write_failures = rw c.format-outcome.ensures.faults.write_failures at c.in-Ok.ensures.failures;
    }

pub returns-in-Err-clause-ran : goal.returns-in-Err-clause-ran
returns-in-Err-clause-ran g c =
    record {
      formatted = c.format-outcome.result;
      moves = c.format-outcome.new.moves;
      held = g.W.Sink.held c.format-outcome.new.output;
      flush_failed = true;
      answers = λ known e. rw c.lend.ensures.limits at (c.format-outcome.ensures.answers known e);
      flushed = c.flush.ensures.held;
      passed = λ failed. (let no : true ≡ false = failed in cc);
      outcome_is = refl;
      read_failures = c.format-outcome.ensures.faults.read_failures;
      write_failures = rw c.format-outcome.ensures.faults.write_failures at c.in-Err.ensures.failures;
    }

pub returns-in-Err-clause-passed_on : goal.returns-in-Err-clause-passed_on
returns-in-Err-clause-passed_on g c = search rules

use Rattle.std.proofs.Common.{◌≡◌, true, false, refl, rules}
use Rattle.filters.proofs.turning.turn_all.Goals as goal

pub returns-in-Ok-clause-ran : goal.returns-in-Ok-clause-ran
returns-in-Ok-clause-ran g c =
    record {
      turned = c.turn_each-output.result.0;
      between = g.W.Sink.held c.turn_each-output.result.1;
      all = c.turn_each-output.ensures.turned;
      flush_failed = false;
      flushed = c.flush.ensures.held;
      passed = λ sound. rw c.in-Ok.ensures.passed_on refl;
      ending_is = refl;
      failures = rw c.turn_each-output.ensures.failures at c.in-Ok.ensures.failures;
    }

pub returns-in-Err-clause-ran : goal.returns-in-Err-clause-ran
returns-in-Err-clause-ran g c =
    record {
      turned = c.turn_each-output.result.0;
      between = g.W.Sink.held c.turn_each-output.result.1;
      all = c.turn_each-output.ensures.turned;
      flush_failed = true;
      flushed = c.flush.ensures.held;
      passed = λ failed. (let no : true ≡ false = failed in cc);
      ending_is = refl;
      failures = rw c.turn_each-output.ensures.failures at c.in-Err.ensures.failures;
    }

pub returns-in-Err-clause-passed_on : goal.returns-in-Err-clause-passed_on
returns-in-Err-clause-passed_on g c = search rules

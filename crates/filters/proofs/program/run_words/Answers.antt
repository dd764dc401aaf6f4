use Rattle.std.proofs.Common.{ap}
use Rattle.filters.proofs.program.run_words.Goals as goal

pub returns-clause-ends : goal.returns-clause-ends
returns-clause-ends g c = record {
  ending = c.run-output.result.0;
  run = c.run-output.ensures.run;
  about_texts = g.E.Sink.held c.run-output.new.errors;
  untold_before = g.E.Sink.failures c.run-output.new.errors;
  quiet = λ unread. (ap g.E.Sink.held (c.run-output.ensures.quiet unread), ap g.E.Sink.failures (c.run-output.ensures.quiet unread));
  status_is = c.tell.ensures.status;
  line = rw c.name.ensures at c.tell.ensures.reported;
}

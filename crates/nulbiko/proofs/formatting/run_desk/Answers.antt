use Rattle.std.proofs.Common.{rules}
use Rattle.nulbiko.proofs.FormattingRun.{carried, unread}
use Rattle.nulbiko.proofs.formatting.run_desk.Goals as goal

pub returns-clause-formatted : goal.returns-clause-formatted
returns-clause-formatted c = record {
  options = c.options_of-options.result;
  asked = search rules;
  moves = c.format-outcome.new.moves;
  outcome = c.format-outcome.result;
  bytes = c.as_slice-bytes.result.now;
  answers = carried _ _ _ _ _ _ _ _ _ _ (c.format-outcome.ensures.answers _ c.over-text.ensures.supply) c.lend.ensures.limits c.in_ok-pages.ensures.held c.as_slice-bytes.ensures;
  handed = search rules;
  code_is = search rules;
  moves_reported = search rules;
  limit = search rules;
  place = search rules;
  none_dropped = search rules;
  no_line = search rules;
  readable = unread _ c.format-outcome.ensures.faults.read_failures;
}

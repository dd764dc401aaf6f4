use Rattle.std.proofs.Common.{◌∙◌, ap, rules}
use Rattle.preconv_coding.specs.UnderCoding.{text_supply}
use Rattle.nulbiko.proofs.PreconvRun.{carried, unread}
use Rattle.nulbiko.proofs.preconv.turn_text.Goals as goal

pub returns-clause-turned : goal.returns-clause-turned
returns-clause-turned c = record {
  outcome = c.convert-outcome.result;
  left = _;
  bytes = c.as_slice-bytes.result.now;
  ran = carried _ _ _ _ _ _ _ _ _ _ _ c.convert-outcome.ensures.ran c.of-target.ensures (c.over-text.ensures.supply ∙ ap text_supply c.over.ensures.supply) c.in_ok-pages.ensures.held c.as_slice-bytes.ensures;
  handed = search rules;
  code_is = search rules;
  no_limit = search rules;
  no_place = search rules;
  none_dropped = search rules;
  no_line = search rules;
  readable = unread _ c.convert-outcome.ensures.read_faults;
}

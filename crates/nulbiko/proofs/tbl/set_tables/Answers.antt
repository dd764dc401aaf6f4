use Rattle.std.proofs.Common.{rules}
use Rattle.nulbiko.proofs.TblRun.{bounds_made, carried, unread}
use Rattle.nulbiko.proofs.tbl.set_tables.Goals as goal

pub returns-clause-set : goal.returns-clause-set
returns-clause-set c = record {
  outcome = c.convert-pages.result.0.outcome;
  left = _;
  bytes = c.as_slice-bytes.result.now;
  kept = _;
  missed = c.convert-pages.result.0.missed;
  uneven = c.convert-pages.result.0.uneven;
  ran = carried _ _ _ _ _ _ _ _ _ _ _ _ _ c.convert-pages.ensures.ran (search (rules, bounds_made)) c.over-text.ensures.supply c.in_ok-pages.ensures.held c.as_slice-bytes.ensures;
  room = search rules;
  handed = search rules;
  code_is = search rules;
  no_moves = search rules;
  wrong = search rules;
  place = search rules;
  none_dropped = search rules;
  no_line = search rules;
  readable = unread _ c.convert-pages.ensures.read_faults;
}

use Rattle.nr_laws.proofs.laws.filled_text_is_rows.Goals as goal
use Rattle.nr_laws.proofs.LongestCut.{cut_is_longest, cut_fits}
use Rattle.nr_laws.proofs.PlainLaw.{filled_text_is_rows}

pub returns-clause-rows : goal.returns-clause-rows
returns-clause-rows c = filled_text_is_rows

pub returns-clause-longest : goal.returns-clause-longest
returns-clause-longest c = cut_is_longest

pub returns-clause-fits : goal.returns-clause-fits
returns-clause-fits c = cut_fits

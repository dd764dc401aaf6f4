use Rattle.tbl_blocks.proofs.Longest.{longest_fits, words_fit}
use Rattle.tbl_blocks.proofs.laws.longest_fits.Goals as goal

pub returns-clause-runs : goal.returns-clause-runs
returns-clause-runs c = longest_fits

pub returns-clause-words : goal.returns-clause-words
returns-clause-words c = words_fit

use Rattle.tbl_blocks.proofs.Once.{words_are_read}
use Rattle.tbl_blocks.proofs.laws.words_are_read.Goals as goal

pub returns : goal.returns
returns c = words_are_read

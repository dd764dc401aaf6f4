use Rattle.tbl_blocks.proofs.Stays.{lines_stay}
use Rattle.tbl_blocks.proofs.laws.lines_stay.Goals as goal

pub returns : goal.returns
returns c = lines_stay

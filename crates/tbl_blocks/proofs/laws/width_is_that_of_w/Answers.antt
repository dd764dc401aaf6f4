use Rattle.tbl_blocks.proofs.Widths.{width_is_that_of_w}
use Rattle.tbl_blocks.proofs.laws.width_is_that_of_w.Goals as goal

pub returns : goal.returns
returns c = width_is_that_of_w

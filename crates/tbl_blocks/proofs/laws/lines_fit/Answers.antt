use Rattle.tbl_blocks.proofs.Fits.{lines_fit}
use Rattle.tbl_blocks.proofs.laws.lines_fit.Goals as goal

pub returns : goal.returns
returns c = lines_fit

use Rattle.tbl_blocks.proofs.Follows.{parts_stand_once}
use Rattle.tbl_blocks.proofs.laws.parts_stand_once.Goals as goal

pub returns : goal.returns
returns c = parts_stand_once

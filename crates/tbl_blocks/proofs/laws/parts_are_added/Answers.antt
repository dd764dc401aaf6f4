use Rattle.tbl_blocks.proofs.PartsAdded.{blocks_are_added, fields_are_added}
use Rattle.tbl_blocks.proofs.laws.parts_are_added.Goals as goal

pub returns-clause-blocks : goal.returns-clause-blocks
returns-clause-blocks c = blocks_are_added

pub returns-clause-fields : goal.returns-clause-fields
returns-clause-fields c = fields_are_added

use Rattle.std.proofs.Common.{ap, ◌∙◌}
use Rattle.tbl_blocks.specs.Blocks.{block_read}
use Rattle.tbl_columns.specs.Held.{emptied}
use Rattle.tbl_table.specs.Held.{text_of}
use Rattle.tbl_columns.proofs.Parts.{part_within}
use Rattle.tbl_columns.proofs.TextsRead.{block_is}
use Rattle.tbl_columns.proofs.grid.Grid.read_block.Goals as goal

pub returns-clause-room : goal.returns-clause-room
returns-clause-room c =
    c.add_text.ensures.room ∙ ap (λ blocks. record (emptied c.args.self.now) { blocks = blocks }) c.read_block-seen.ensures.room

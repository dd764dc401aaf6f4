use Rattle.std.proofs.Common.{arith}
use Rattle.utf8_own_characters.proofs.ChoiceLaws.{wide_len, table_is_good}
use Rattle.utf8_own_characters.proofs.table.OwnTable.chosen.Goals as goal

pub halves_for-halves-requires : goal.halves_for-halves-requires
halves_for-halves-requires c = omega (arith, wide_len c.args.counts.now c.args.narrow.now c.args.wide.now c.requires.cells c.requires.once)

pub returns-clause-good : goal.returns-clause-good
returns-clause-good c =
    table_is_good c.args.counts.now c.args.narrow.now c.args.wide.now c.halves_for-halves.result c.over.result
    c.requires.cells c.requires.once c.halves_for-halves.ensures.fewest c.over.ensures

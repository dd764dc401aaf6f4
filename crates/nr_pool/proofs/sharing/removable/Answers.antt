use Rattle.std.proofs.Common.{sym, ◌∙◌}
use Rattle.nr_pool.proofs.Shared.{part_closed, parted_closed, parted_removed_may, parted_holders}
use Rattle.nr_pool.proofs.sharing.removable.Goals as goal

pub returns-then-is_part-clause-removed : goal.returns-then-is_part-clause-removed
returns-then-is_part-clause-removed g c = part_closed c.args.texts.now c.args.share c.args.id (sym c.is_part.ensures ∙ c.if-is_part.true)

pub returns-clause-removed : goal.returns-clause-removed
returns-clause-removed g c = parted_closed c.args.texts.now _ c.args.share _ c.args.id c.is_shared-wanted.result c.is_shared-wanted.ensures c.requires.may c.part_if.ensures.parted c.part_if.ensures.same

pub returns-clause-may : goal.returns-clause-may
returns-clause-may g c = parted_removed_may c.args.texts.now _ c.args.share _ c.args.id c.is_shared-wanted.result c.is_shared-wanted.ensures c.requires.may c.requires.is_open c.part_if.ensures.parted c.part_if.ensures.same

pub returns-clause-holders : goal.returns-clause-holders
returns-clause-holders g c = parted_holders c.args.texts.now _ c.args.share _ c.args.id c.is_shared-wanted.result c.part_if.ensures.parted c.part_if.ensures.same

use Rattle.nr_pool.proofs.Shared.{none_parted, fewer_parts, parted_seen, parted_may}
use Rattle.nr_pool.proofs.sharing.whole_only.Goals as goal

pub returns-clause-seen : goal.returns-clause-seen
returns-clause-seen g c = parted_seen c.args.texts.now _ c.args.share _ c.is_part-wanted.result c.part_if.ensures.parted c.part_if.ensures.same

pub returns-clause-may : goal.returns-clause-may
returns-clause-may g c = parted_may c.args.texts.now _ c.args.share _ c.is_part-wanted.result c.requires c.part_if.ensures.parted c.part_if.ensures.same

pub returns-clause-whole : goal.returns-clause-whole
returns-clause-whole g c = none_parted c.args.share _ c.args.id c.is_part-wanted.result c.is_part-wanted.ensures (λ e. (c.part_if.ensures.parted e).0) (λ e. (c.part_if.ensures.same e).0)

pub returns-clause-fewer : goal.returns-clause-fewer
returns-clause-fewer g c = fewer_parts c.args.share _ c.is_part-wanted.result (λ e. (c.part_if.ensures.parted e).0) (λ e. (c.part_if.ensures.same e).0)

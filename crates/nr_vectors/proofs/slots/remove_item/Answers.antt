use Rattle.std.proofs.Common.{◌-◌, List, take, ap, ◌∙◌}
use Rattle.nr_vectors.proofs.Edits.{take_removed}
use Rattle.nr_vectors.proofs.slots.remove_item.Goals as goal

pub returns-clause-items : goal.returns-clause-items
returns-clause-items g c =
    ap (λ (ys : List _). take (c.args.len - 1) ys) c.copy_within.ensures.after
    ∙ take_removed c.args.slots.now c.args.len c.args.place c.requires.within c.requires.number

use Rattle.std.proofs.Common.{◌+◌, List, take, set, ap, ◌∙◌}
use Rattle.nr_vectors.proofs.Edits.{take_inserted}
use Rattle.nr_vectors.proofs.slots.insert_item.Goals as goal

pub returns-clause-items : goal.returns-clause-items
returns-clause-items g c =
    ap (λ (ys : List _). take (c.args.len + 1) (set ys c.args.place c.args.item)) c.copy_within.ensures.after
    ∙ take_inserted c.args.slots.now c.args.len c.args.place c.args.item c.requires.within c.requires.room

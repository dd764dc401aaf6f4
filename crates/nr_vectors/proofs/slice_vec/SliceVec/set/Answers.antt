use Rattle.std.proofs.Common.{set, ap, ◌∙◌}
use Rattle.nr_vectors.specs.Items.{Items}
use Rattle.nr_vectors.proofs.Edits.{take_set}
use Rattle.nr_vectors.proofs.slice_vec.SliceVec.set.Goals as goal

pub returns-clause-items : goal.returns-clause-items
returns-clause-items g c =
    let s = c.self.inside in
    take_set s.slots.now s.len c.args.place c.args.item ∙ ap (λ (v : Items _). set v.items c.args.place c.args.item) c.self.view_is

use Rattle.std.proofs.Common.{length-take, arith}
use Rattle.nr_vectors.proofs.Copying.{moved_prefix}
use Rattle.nr_vectors.proofs.slice_vec.SliceVec.remove_prefix.Goals as goal

pub returns-clause-items : goal.returns-clause-items
returns-clause-items g c =
    let xs = c.self.inside.slots.now in
    let h = rw (← c.self.view_is) at c.requires in
    rw (c.copy_within.ensures.after, ← c.self.view_is) (moved_prefix xs c.args.n c.self.inside.len (omega (arith, length-take c.self.inside.len xs)) c.self.invariant)

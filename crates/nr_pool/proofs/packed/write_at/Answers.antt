use Rattle.std.proofs.lemmas.Grind.{common_steps}
use Rattle.std.proofs.Common.{length, refl, arith}
use Rattle.nr_pool.proofs.Rooms.{is_written}
use Rattle.nr_pool.proofs.packed.write_at.Goals as goal

pub returns-clause-items : goal.returns-clause-items
returns-clause-items g c =
    let v = c.args.elements.now in
    is_written v.items _ c.args.more.now _ c.args.place _ (length v.items) c.as_mut_slice-places.ensures.value refl (omega (arith, c.requires)) c.copy_from_slice.ensures.after (omega arith)

pub returns-clause-len : goal.returns-clause-len
returns-clause-len g c = grind (arith, common_steps)

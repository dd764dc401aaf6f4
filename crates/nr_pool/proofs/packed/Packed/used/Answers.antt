use Rattle.std.proofs.Common.{◌≡◌, refl, sym, ap, ◌∙◌, arith}
use Rattle.nr_pool.specs.Texts.{Texts}
use Rattle.nr_pool.specs.Slot.{texts_of}
use Rattle.nr_pool.proofs.Places.{used_is}
use Rattle.nr_pool.proofs.Rooms.{same_used}
use Rattle.nr_pool.proofs.packed.Packed.used.Goals as goal

pub returns-clause-value : goal.returns-clause-value
returns-clause-value g c = sym (same_used c.self.inside.capacity c.self.inside.most _ (texts_of c.self.inside.elements.items c.self.inside.slots.items) c.self.view_is ∙ used_is _ _ _ _ c.self.invariant.0.packed refl)

pub returns-clause-within : goal.returns-clause-within
returns-clause-within g c =
    let within = c.self.invariant.0.packed.room in
    let held = c.self.invariant.0.elements_within in
    let room : c.self.inside.capacity ≡ c.args.self.now.capacity = ap (λ (p : Texts g.row.T.Denot). p.capacity) c.self.view_is in
    omega arith

use Rattle.std.proofs.Common.{ap, ◌∙◌, arith}
use Rattle.nr_pool.specs.Texts.{IsOpen, no_text, without_text}
use Rattle.nr_pool.specs.Laws.{open_after_removal, within_of_open}
use Rattle.nr_pool.specs.Slot.{texts_of}
use Rattle.nr_pool.proofs.Rooms.{open_in, lifted}
use Rattle.nr_pool.proofs.packed.Packed.close.Goals as goal

pub invariant_of-self : goal.invariant_of-self
invariant_of-self g c =
    let gone = c.remove_text-len.ensures in
    let kept = c.self.invariant.0 in (
      record {
        packed = rw gone.len gone.removed.packed;
        spares = gone.removed.spares _ kept.spares;
        elements_within = omega (arith, gone.elements, kept.elements_within);
        slots_within = omega (arith, gone.slots, kept.slots_within);
        elements_fit = kept.elements_fit;
        slots_fit = kept.slots_fit;
      },
      (omega (arith, gone.elements_room, c.self.invariant.1.0), omega (arith, gone.slots_room, c.self.invariant.1.1)),
    )

pub returns-clause-closed : goal.returns-clause-closed
returns-clause-closed g c =
    let s = c.self.inside in
    let texts = texts_of s.elements.items s.slots.items in
    let one : IsOpen c.args.self.now c.args.id = omega arith in
    let is_open = open_in s.capacity s.most _ texts c.self.view_is _ one in
    lifted s.capacity s.most _ texts c.self.view_is _ _ no_text (within_of_open texts _ is_open) (c.remove_text-len.ensures.removed.texts ∙ ap (without_text texts) c.id.view_is)

pub returns-clause-keeps : goal.returns-clause-keeps
returns-clause-keeps g c = λ other apart is_open. open_after_removal c.args.self.now _ _ other (returns-clause-closed g c) apart is_open

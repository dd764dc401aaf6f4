use Rattle.std.proofs.lemmas.Grind.{common_steps}
use Rattle.std.proofs.Common.{refl, arith}
use Rattle.nr_pool.proofs.Places.{emptied}
use Rattle.nr_pool.proofs.Spares.{spares_set}
use Rattle.nr_pool.proofs.Rotation.{brought_last}
use Rattle.nr_pool.proofs.slot.rotate_last.Goals as goal

pub returns-then-len-eq0-clause-spares : goal.returns-then-len-eq0-clause-spares
returns-then-len-eq0-clause-spares g c = λ count first. spares_set _ _ _ count first c.requires.within c.requires.held c.requires.held

pub returns-then-len-eq0-clause-same : goal.returns-then-len-eq0-clause-same
returns-then-len-eq0-clause-same g c = emptied c.args.elements.now c.args.slots.now c.args.index _ c.requires.within c.if-len-eq0.true c.if-len-eq0.true refl

pub returns-clause-packed : goal.returns-clause-packed
returns-clause-packed g c =
    (brought_last _ _ _ _ _ _ _ _ _ _ c.requires.packed c.requires.within c.requires.held refl refl (omega arith) refl c.rotate.ensures.after c.shift_after.ensures refl).packed

pub returns-clause-same : goal.returns-clause-same
returns-clause-same g c =
    (brought_last _ _ _ _ _ _ _ _ _ _ c.requires.packed c.requires.within c.requires.held refl refl (omega arith) refl c.rotate.ensures.after c.shift_after.ensures refl).same

pub returns-clause-spares : goal.returns-clause-spares
returns-clause-spares g c =
    (brought_last _ _ _ _ _ _ _ _ _ _ c.requires.packed c.requires.within c.requires.held refl refl (omega arith) refl c.rotate.ensures.after c.shift_after.ensures refl).spares

pub returns-then-len-eq0-clause-packed : goal.returns-then-len-eq0-clause-packed
returns-then-len-eq0-clause-packed g c = grind (arith, common_steps)

pub returns-clause-last : goal.returns-clause-last
returns-clause-last g c = grind (arith, common_steps)

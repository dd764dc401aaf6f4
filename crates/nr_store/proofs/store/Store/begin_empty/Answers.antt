use Rattle.std.proofs.lemmas.Grind.{common_steps}
use Rattle.std.proofs.Common.{[], ap, ◌∙◌, refl, arith}
use Rattle.nr_store.specs.Holders.{beside_of}
use Rattle.nr_store.specs.Store.{begun}
use Rattle.nr_store.proofs.Keeping.{room_for_a_text}
use Rattle.nr_store.proofs.Building.{begun_is, begun_stands, room_for_a_draft}
use Rattle.nr_store.proofs.store.Store.begin_empty.Goals as goal

pub returns-in_default-clause-answer : goal.returns-in_default-clause-answer
returns-in_default-clause-answer g c =
    let s = c.self.inside in
    let below = c.self.invariant.within in
    absurd (room_for_a_text s.pool s.names s.drafts s.levels (beside_of s.gathering s.registers s.traps s.words) s.charge s.stored c.self.invariant (omega arith) (c.in_default.ensures.full.0 refl))

pub push-requires : goal.push-requires
push-requires g c =
    let s = c.self.inside in
    let below = c.self.invariant.within in
    room_for_a_draft s.pool s.names s.drafts s.levels (beside_of s.gathering s.registers s.traps s.words) s.charge s.stored c.self.invariant (omega arith)

pub invariant_of-self-2 : goal.invariant_of-self-2
invariant_of-self-2 g c =
    let s = c.self.inside in
    let below = c.self.invariant.within in
    rw (c.in-Ok.ensures.ok, c.push.ensures) (begun_stands s.pool s.names s.drafts s.levels (beside_of s.gathering s.registers s.traps s.words) s.charge s.stored c.in-Ok.id c.args.diversion c.self.invariant c.in-Ok.ensures.unused (omega arith))

pub returns-clause-ok : goal.returns-clause-ok
returns-clause-ok g c =
    let s = c.self.inside in
    rw (c.in-Ok.ensures.ok, c.push.ensures) (begun_is s.pool s.names s.drafts s.levels (beside_of s.gathering s.registers s.traps s.words) s.charge s.stored c.in-Ok.id c.args.diversion c.self.invariant c.in-Ok.ensures.unused ∙ ap (begun [] c.args.diversion) c.self.view_is)

pub returns-then-self-lt48-clause-answer : goal.returns-then-self-lt48-clause-answer
returns-then-self-lt48-clause-answer g c = grind (arith, common_steps)

pub returns-clause-answer : goal.returns-clause-answer
returns-clause-answer g c = grind (arith, common_steps)

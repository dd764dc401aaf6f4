use Rattle.std.proofs.lemmas.Grind.{common_steps}
use Rattle.std.proofs.Common.{set, ap, ◌∙◌, arith}
use Rattle.nr_vectors.specs.Items.{Items}
use Rattle.nr_page.proofs.Gapped.{gapped-set_prefix, gapped-set_back}
use Rattle.nr_page.proofs.gap_vec.GapVec.set.Goals as goal

pub returns-then-place-self-clause-items : goal.returns-then-place-self-clause-items
returns-then-place-self-clause-items g c =
    let s = c.self.inside in
    gapped-set_prefix s.slots.items s.prefix s.gap c.args.place c.args.item (omega (arith, c.self.invariant.0)) c.if-place-self.true
    ∙ ap (λ (v : Items _). set v.items c.args.place c.args.item) c.self.view_is

pub returns-else-place-self-clause-items : goal.returns-else-place-self-clause-items
returns-else-place-self-clause-items g c =
    let s = c.self.inside in
    gapped-set_back s.slots.items s.prefix s.gap c.args.place c.args.item (omega (arith, c.self.invariant.0)) c.if-place-self.false
    ∙ ap (λ (v : Items _). set v.items c.args.place c.args.item) c.self.view_is

pub overflow_add-self-inside : goal.overflow_add-self-inside
overflow_add-self-inside g c = grind (arith, common_steps)

pub index_mut-requires-else-place-self : goal.index_mut-requires-else-place-self
index_mut-requires-else-place-self g c = grind (arith, common_steps)

use Rattle.std.proofs.lemmas.Grind.{common_steps}
use Rattle.std.proofs.Common.{◌≡◌, length, take, ap, sym, ◌∙◌, arith}
use Rattle.nr_vectors.specs.Items.{Items}
use Rattle.nr_fill.proofs.Queues.{take_after, length_between}
use Rattle.nr_fill.proofs.queue.Queue.truncate.Goals as goal

pub returns-clause-items : goal.returns-clause-items
returns-clause-items g c =
    let s = c.self.inside in
    let long : length c.args.self.now.items ≡ _ = ap (λ (v : Items _). length v.items) (sym c.self.view_is) ∙ length_between s.slots.items s.start s.end (omega (arith, c.self.invariant.1.0)) in
    let within = c.requires in
    sym (take_after s.slots.items s.start c.args.n s.end (omega (arith, c.self.invariant.0))) ∙ ap (λ (v : Items _). take c.args.n v.items) c.self.view_is

pub overflow_add-self : goal.overflow_add-self
overflow_add-self g c = grind (arith, common_steps)

pub invariant_of-self : goal.invariant_of-self
invariant_of-self g c = grind (arith, common_steps)

use Rattle.std.proofs.Common.{◌≡◌, ◌+◌, ◌-◌, length, take, drop, ap, sym, ◌∙◌, arith}
use Rattle.std.proofs.lemmas.List.{drop-drop}
use Rattle.nr_vectors.specs.Items.{Items}
use Rattle.nr_fill.proofs.Queues.{moved_to_start, length_between}
use Rattle.nr_fill.proofs.queue.Queue.remove_prefix.Goals as goal

pub overflow_add-start : goal.overflow_add-start
overflow_add-start g c =
    let s = c.self.inside in
    let long = length_between s.slots.items s.start s.end c.self.invariant.1.0 in
    let own = ap (λ (v : Items _). length v.items) c.self.view_is in
    omega (arith, c.requires, c.self.invariant.0)

pub overflow_sub-left : goal.overflow_sub-left
overflow_sub-left g c =
    let s = c.self.inside in
    let long = length_between s.slots.items s.start s.end c.self.invariant.1.0 in
    let own = ap (λ (v : Items _). length v.items) c.self.view_is in
    omega (arith, c.requires, c.self.invariant.0)

pub copy_within-requires-clause-start_le_end : goal.copy_within-requires-clause-start_le_end
copy_within-requires-clause-start_le_end g c =
    let s = c.self.inside in
    let long = length_between s.slots.items s.start s.end c.self.invariant.1.0 in
    let own = ap (λ (v : Items _). length v.items) c.self.view_is in
    omega (arith, c.requires, c.self.invariant.0)

pub returns-then-start-left-clause-items : goal.returns-then-start-left-clause-items
returns-then-start-left-clause-items g c =
    let s = c.self.inside in
    sym (drop-drop c.args.n s.start (take s.end s.slots.items)) ∙ ap (λ (v : Items _). drop c.args.n v.items) c.self.view_is

pub returns-clause-items : goal.returns-clause-items
returns-clause-items g c =
    let s = c.self.inside in
    let start = s.start + c.args.n in
    let long : length c.args.self.now.items ≡ s.end - s.start = ap (λ (v : Items _). length v.items) (sym c.self.view_is) ∙ length_between s.slots.items s.start s.end (omega (arith, c.self.invariant.1.0)) in
    let within = c.requires in
    ap (take (s.end - start)) c.copy_within.ensures.items
    ∙ moved_to_start s.slots.items start s.end (omega (arith, c.self.invariant.0)) (omega (arith, c.self.invariant.1.0))
    ∙ sym (drop-drop c.args.n s.start (take s.end s.slots.items))
    ∙ ap (λ (v : Items _). drop c.args.n v.items) c.self.view_is

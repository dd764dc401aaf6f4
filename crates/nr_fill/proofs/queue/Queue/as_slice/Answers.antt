use Rattle.std.proofs.Common.{take, drop, ◌∙◌, ap}
use Rattle.std.proofs.lemmas.Slice.{between_is}
use Rattle.nr_vectors.specs.Items.{Items}
use Rattle.nr_fill.proofs.queue.Queue.as_slice.Goals as goal

pub returns-clause-value : goal.returns-clause-value
returns-clause-value g c =
    let s = c.self.inside in
    between_is c.as_slice-slots.result.now s.start s.end ∙ ap (λ (xs : _). drop s.start (take s.end xs)) c.as_slice-slots.ensures.value ∙ ap (λ (v : Items _). v.items) c.self.view_is

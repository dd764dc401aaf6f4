use Rattle.std.proofs.Common.{ap, ◌∙◌}
use Rattle.nr_levels.specs.Gathering.{Gathering, gathered_len}
use Rattle.nr_levels.proofs.Cutting.{all_len}
use Rattle.nr_levels.proofs.gathering.Gathering.len.Goals as goal

pub returns : goal.returns
returns c =
    let s = c.self.inside in
    c.len.ensures.value ∙ all_len s.lens s.bytes.items s.count s.start s.bytes.capacity c.self.invariant ∙ ap (λ (v : Gathering). gathered_len v.gathered) c.self.view_is

use Rattle.std.proofs.Common.{take, ap, ◌∙◌}
use Rattle.nr_levels.specs.Gathering.{Gathering, joined}
use Rattle.nr_levels.proofs.Cutting.{kept_bytes}
use Rattle.nr_levels.proofs.gathering.Gathering.kept_bytes.Goals as goal

pub returns : goal.returns
returns c =
    let s = c.self.inside in
    ap (take s.start) c.as_slice.ensures.value ∙ kept_bytes s.lens s.bytes.items s.count s.start s.bytes.capacity c.self.invariant ∙ ap (λ (v : Gathering). joined v.gathered.kept) c.self.view_is

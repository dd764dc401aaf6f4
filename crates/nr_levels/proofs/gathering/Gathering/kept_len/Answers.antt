use Rattle.std.proofs.Common.{length, ap, ◌∙◌}
use Rattle.nr_levels.specs.Gathering.{Gathering, joined}
use Rattle.nr_levels.proofs.Cutting.{kept_len}
use Rattle.nr_levels.proofs.gathering.Gathering.kept_len.Goals as goal

pub returns : goal.returns
returns c =
    let s = c.self.inside in
    kept_len s.lens s.bytes.items s.count s.start s.bytes.capacity c.self.invariant ∙ ap (λ (v : Gathering). length (joined v.gathered.kept)) c.self.view_is

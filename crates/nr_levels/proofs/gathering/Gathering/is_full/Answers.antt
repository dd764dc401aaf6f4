use Rattle.std.proofs.Common.{eqb, length, ap, ◌∙◌}
use Rattle.nr_levels.specs.Gathering.{Gathering}
use Rattle.nr_levels.proofs.Cutting.{full_is}
use Rattle.nr_levels.proofs.gathering.Gathering.is_full.Goals as goal

pub returns : goal.returns
returns c =
    let s = c.self.inside in
    full_is s.lens s.bytes.items s.count s.start s.bytes.capacity c.self.invariant ∙ ap (λ (v : Gathering). eqb (length v.gathered.kept) 9) c.self.view_is

use Rattle.std.proofs.Common.{ℕ, List, length, map, ap, ◌∙◌}
use Rattle.nr_levels.specs.Gathering.{Gathering}
use Rattle.nr_levels.proofs.Cutting.{lens_kept}
use Rattle.nr_levels.proofs.gathering.Gathering.kept_lens.Goals as goal

pub returns-clause-lens : goal.returns-clause-lens
returns-clause-lens c =
    let s = c.self.inside in
    lens_kept s.lens s.bytes.items s.count s.start s.bytes.capacity c.self.invariant ∙ ap (λ (v : Gathering). map (λ (b : List ℕ). length b) v.gathered.kept) c.self.view_is

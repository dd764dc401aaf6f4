use Rattle.std.proofs.Common.{ap, ◌∙◌}
use Rattle.nr_levels.specs.Gathering.{Gathering, with_end}
use Rattle.nr_levels.proofs.Cutting.{ended_is}
use Rattle.nr_levels.proofs.gathering.Gathering.end.Goals as goal

pub returns : goal.returns
returns c =
    let s = c.self.inside in
    rw c.len-len.ensures.value
    (ap (λ g. record { gathered = g; capacity = s.bytes.capacity }) (ended_is s.lens s.bytes.items s.count s.start s.bytes.capacity c.self.invariant c.if-self-eq-MOST.false) ∙ ap (λ (v : Gathering). record v { gathered = with_end v.gathered }) c.self.view_is)

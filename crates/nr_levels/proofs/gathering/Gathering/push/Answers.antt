use Rattle.std.proofs.Common.{◌≡◌, ap, ◌∙◌, arith}
use Rattle.nr_levels.specs.Gathering.{Gathering, gathered_len, with_byte}
use Rattle.nr_levels.proofs.Cutting.{all_len, pushed_byte}
use Rattle.nr_levels.proofs.gathering.Gathering.push.Goals as goal

pub push-requires : goal.push-requires
push-requires c =
    let s = c.self.inside in
    let is = all_len s.lens s.bytes.items s.count s.start s.bytes.capacity c.self.invariant ∙ ap (λ (v : Gathering). gathered_len v.gathered) c.self.view_is in
    let room : s.bytes.capacity ≡ c.args.self.now.capacity = ap (λ (v : Gathering). v.capacity) c.self.view_is in
    let below = c.requires in
    omega arith

pub returns : goal.returns
returns c =
    let s = c.self.inside in
    rw (c.push.ensures.items, c.push.ensures.room) (ap (λ g. record { gathered = g; capacity = s.bytes.capacity }) (pushed_byte s.lens s.bytes.items s.count s.start s.bytes.capacity c.self.invariant c.if-self-eq-MOST.false c.args.byte) ∙ ap (λ (v : Gathering). record v { gathered = with_byte c.args.byte v.gathered }) c.self.view_is)

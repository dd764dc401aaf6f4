use Rattle.std.proofs.Common.{◌≡◌, ap, sym, ◌∙◌, arith}
use Rattle.nr_levels.specs.Gathering.{Gathering, gathered_len, with_bytes}
use Rattle.nr_levels.proofs.Cutting.{all_len, unchanged_bytes, extended_bytes}
use Rattle.nr_levels.proofs.gathering.Gathering.extend.Goals as goal

pub extend-requires : goal.extend-requires
extend-requires c =
    let s = c.self.inside in
    let is = all_len s.lens s.bytes.items s.count s.start s.bytes.capacity c.self.invariant ∙ ap (λ (v : Gathering). gathered_len v.gathered) c.self.view_is in
    let room : s.bytes.capacity ≡ c.args.self.now.capacity = ap (λ (v : Gathering). v.capacity) c.self.view_is in
    let below = c.requires in
    omega arith

pub returns-then-self-eq-MOST : goal.returns-then-self-eq-MOST
returns-then-self-eq-MOST c =
    let s = c.self.inside in
    sym c.self.view_is ∙ ap (λ g. record { gathered = g; capacity = s.bytes.capacity }) (unchanged_bytes s.lens s.bytes.items s.count s.start s.bytes.capacity c.self.invariant c.if-self-eq-MOST.true c.args.bytes.now) ∙ ap (λ (v : Gathering). record v { gathered = with_bytes c.args.bytes.now v.gathered }) c.self.view_is

pub returns : goal.returns
returns c =
    let s = c.self.inside in
    rw (c.extend.ensures.items, c.extend.ensures.room) (ap (λ g. record { gathered = g; capacity = s.bytes.capacity }) (extended_bytes s.lens s.bytes.items s.count s.start s.bytes.capacity c.self.invariant c.if-self-eq-MOST.false c.args.bytes.now) ∙ ap (λ (v : Gathering). record v { gathered = with_bytes c.args.bytes.now v.gathered }) c.self.view_is)

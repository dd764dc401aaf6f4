use Rattle.std.proofs.Common.{◌≡◌, ◌*◌, ◌≤◌, ℕ, List, length, ap, subst, ◌∙◌, arith}
use Rattle.preconv_command.proofs.TwoStages.{few_of}
use Rattle.preconv_command.proofs.through.ThroughStage.turn.Goals as goal

pub returns-clause-few : goal.returns-clause-few
returns-clause-few g c =
    let self = c.args.self.now in
    let made = c.as_slice.result.now in
    let n = c.turn-count.result in
    let first = g.S.Stage.wants self.first in
    let same : made ≡ c.turn-count.new.out.items = c.as_slice.ensures.value in
    let capacity : c.turn-count.new.out.capacity ≡ self.made.capacity = c.turn-count.ensures.room ∙ c.clear.ensures.room in
    let within : length made ≤ self.made.capacity = subst (λ (k : ℕ). length made ≤ k) capacity c.as_slice.ensures.within in
    let none : length c.clear.new.self.items ≡ 0 = ap (λ (l : List ℕ). length l) c.clear.ensures.items in
    let long : length made ≡ length c.turn-count.new.out.items = ap (λ (l : List ℕ). length l) same in
    let few = c.turn-count.ensures.few in
    let measured : length made ≤ first * n = omega (arith, none, long, few) in
    few_of first (g.T.Stage.wants self.second) (length made) self.made.capacity self.room n (length c.args.out.now.items) (length c.turn_all.new.out.items) within measured
    self.second_fits c.turn_all.ensures.few

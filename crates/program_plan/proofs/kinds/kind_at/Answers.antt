use Rattle.std.proofs.Common.{◌≡◌, ℕ, ◌-◌, List, length, length-drop, take, drop, subst, arith}
use Rattle.std.proofs.Math.Seq.{take_all}
use Rattle.program_plan.specs.Kinds.{line_kind}
use Rattle.program_plan.proofs.kinds.kind_at.Goals as goal

pub returns-then-begins : goal.returns-then-begins
returns-then-begins c =
    let text = c.args.text.now in
    let at = c.args.at in
    let rest : take (length text - at) (drop at text) ≡ drop at text = take_all (length text - at) (drop at text) (omega (arith, length-drop at text)) in
    let reported : c.line_kind.result ≡ line_kind (take (length text - at) (drop at text)) = c.line_kind.ensures in
    let kind : c.line_kind.result ≡ line_kind (drop at text) = subst (λ (t : List ℕ). c.line_kind.result ≡ line_kind t) rest reported in
    rw c.if-begins.true kind

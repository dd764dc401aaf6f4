use Rattle.std.proofs.Common.{◌≡◌, ℕ, ◌-◌, List, false, length, length-drop, take, drop, sym, subst, ◌∙◌, arith}
use Rattle.std.proofs.Math.Seq.{take_all}
use Rattle.program_options.specs.Locale.{begins_utf8}
use Rattle.program_options.proofs.Parting.{has_utf8_next}
use Rattle.program_options.proofs.locale.has_utf8.Goals as goal

pub loop-at-preserved : goal.loop-at-preserved
loop-at-preserved c =
    let text = c.args.locale.now in
    let at = c.loop-at.at in
    let rest : take (length text - at) (drop at text) ≡ drop at text = take_all (length text - at) (drop at text) (omega (arith, length-drop at text)) in
    let reported : false ≡ begins_utf8 (take (length text - at) (drop at text)) = c.if-begins_utf8.ensures in
    let none : false ≡ begins_utf8 (drop at text) = subst (λ (t : List ℕ). false ≡ begins_utf8 t) rest reported in
    c.loop-at.invariant ∙ has_utf8_next text at (omega arith) (sym none)

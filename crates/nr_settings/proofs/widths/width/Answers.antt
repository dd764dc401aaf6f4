use Rattle.std.proofs.Common.{◌≡◌, ◌+◌, ◌-◌, ◌<◌, ◌∙◌, suc, length, drop, ap, arith}
use Rattle.std.proofs.Math.Seq.{drop-cons}
use Rattle.nr_settings.specs.Widths.{widths}
use Rattle.nr_settings.proofs.widths.width.Goals as goal

pub loop-at-preserved-then-more-gt0 : goal.loop-at-preserved-then-more-gt0
loop-at-preserved-then-more-gt0 c =
    let text = c.args.text.now in
    let at = c.loop-at.at in
    let left = c.loop-at.more - 1 in
    let inside : at < length text = omega arith in
    let one : c.loop-at.more ≡ suc left = omega arith in
    let next : suc at ≡ at + 1 = omega arith in
    let over =
    ap (λ n. widths c.args.long c.args.v n (drop at text)) one
    ∙ ap (widths c.args.long c.args.v (suc left)) (drop-cons text at 0 inside)
    ∙ ap (λ n. widths c.args.long c.args.v left (drop n text)) next in
    (c.loop-at.invariant.0 ∙ ap (λ n. c.loop-at.width + n) over, omega arith)

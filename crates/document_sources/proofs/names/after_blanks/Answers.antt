use Rattle.std.proofs.Common.{◌≡◌, ℕ, ◌-◌, length, length-drop, take, drop, ap, ◌∙◌, arith}
use Rattle.std.proofs.Math.Seq.{take_all}
use Rattle.document_sources.proofs.names.after_blanks.Goals as goal

pub returns : goal.returns
returns c =
    let text = c.args.text.now in
    let n = c.blanks.result in
    let rest : take (length text - n) (drop n text) ≡ drop n text = take_all (length text - n) (drop n text) (omega (arith, length-drop n text)) in
    rest ∙ ap (λ (k : ℕ). drop k text) c.blanks.ensures.count

use Rattle.std.proofs.Common.{◌≡◌, ℕ, ap, ◌∙◌, arith, drop, get_or}
use Rattle.tbl_setting.proofs.RequestLines.{none_held, request_heard_so}
use Rattle.tbl_setting.proofs.Texts.{one_heard, text_heard}
use Rattle.tbl_setting.specs.Watching.{byte_heard, heard, held, watching}
use Rattle.tbl_setting.specs.declared.watching.Watch.{Watch}
use Rattle.tbl_setting.proofs.watching.Watch.hear_some.Goals as goal

pub returns-then-len-gt0-clause-value : goal.returns-then-len-gt0-clause-value
returns-then-len-gt0-clause-value c =
    text_heard c.args.text.now (watching c.args.self.now c.args.grid.now) c.text_len-len.result c.text_len-len.ensures.value c.if-len-gt0.true

pub returns-then-held-gt0-clause-value : goal.returns-then-held-gt0-clause-value
returns-then-held-gt0-clause-value c =
    ap (λ (w : Watch). heard (drop c.hold-held.result c.args.text.now) (watching w c.args.grid.now)) c.hold-held.ensures.value
    ∙ request_heard_so c.args.text.now (watching c.args.self.now c.args.grid.now) c.hold-held.result c.hold-held.ensures.count c.if-held-gt0.true

pub returns-clause-value : goal.returns-clause-value
returns-clause-value c =
    let none : c.hold-held.result ≡ 0 = omega (arith, c.if-held-gt0.false) in
    let same : c.hold-held.new.self ≡ c.args.self.now =
    c.hold-held.ensures.value
    ∙ ap (λ (n : ℕ). held n c.args.text.now c.args.self.now) none
    ∙ none_held c.args.text.now c.args.self.now in
    one_heard c.args.text.now _ _ c.requires
    (c.hear_byte.ensures.value ∙ ap (λ (w : Watch). byte_heard (get_or c.args.text.now 0 0) (watching w c.args.grid.now)) same)

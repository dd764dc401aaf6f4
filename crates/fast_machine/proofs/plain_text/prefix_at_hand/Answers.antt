use Rattle.std.proofs.Common.{◌≡◌, ◌<◌, length, take, sym, ap, ◌∙◌, subst, arith}
use Rattle.std.proofs.lemmas.List.{length-take, take_min}
use Rattle.nr_formatter.specs.Many.LineBeginnings.{BeginsText}
use Rattle.nr_machine.specs.Holding.{shape}
use Rattle.fast_machine.specs.Running.{HasNext}
use Rattle.fast_machine.proofs.PrefixAtHand.{prefix_of, prefix_next, prefix_begins}
use Rattle.fast_machine.proofs.plain_text.prefix_at_hand.Given.{Over}
use Rattle.fast_machine.proofs.plain_text.prefix_at_hand.Goals.{After-min}
use Rattle.fast_machine.proofs.plain_text.prefix_at_hand.Goals as goal

-- the first 65,536 of them
prefix : (g : Over) (c : After-min g) → take c.min.result c.window-bytes.result.now ≡ take 65536 c.window-bytes.result.now
prefix g c = ap (λ k. take k c.window-bytes.result.now) c.min.ensures ∙ take_min 65536 c.window-bytes.result.now

pub returns-clause-prefix : goal.returns-clause-prefix
returns-clause-prefix g c =
    let all = g.R.Source.at_hand c.args.input.now in
    subst (λ xs. take (length xs) all ≡ xs) (sym (prefix g c)) (prefix_of 65536 c.window-bytes.result.now all c.window-bytes.ensures.prefix)

pub returns-clause-next : goal.returns-clause-next
returns-clause-next g c = λ some.
    let bytes = c.window-bytes.result.now in
    let count = length-take c.min.result bytes in
    let any : 0 < length bytes = omega (arith, some, count) in
    subst (λ xs. HasNext xs (shape c.args.engine.now) (g.R.Source.supply c.args.input.now)) (sym (prefix g c))
    (prefix_next 65536 bytes (shape c.args.engine.now) (g.R.Source.supply c.args.input.now)
    (record { levels = c.window-bytes.ensures.levels any; unseen = c.window-bytes.ensures.unseen any; next = c.window-bytes.ensures.next any }))

pub returns-clause-whole : goal.returns-clause-whole
returns-clause-whole g c = λ levels unseen few. prefix g c ∙ ap (take 65536) (c.window-bytes.ensures.whole unseen levels few)

pub returns-clause-begins : goal.returns-clause-begins
returns-clause-begins g c = λ levels unseen begins.
    let f = c.args.engine.now.formatter in
    subst (λ xs. BeginsText xs f) (sym (prefix g c))
    (prefix_begins 65536 c.window-bytes.result.now f (omega arith) (subst (λ xs. BeginsText xs f) (sym (c.window-bytes.ensures.all unseen levels)) begins))

use Rattle.std.proofs.Common.{◌≡◌, ◌+◌, ◌-◌, length, take, drop, ap, ◌∙◌, arith}
use Rattle.std.proofs.lemmas.List.{length-drop, length-take}
use Rattle.nr_store.specs.Store.{reading_bytes}
use Rattle.fast_input.proofs.Interpolated.{entered_bytes}
use Rattle.fast_input.proofs.TextOpened.{entered_text}
use Rattle.fast_input.proofs.gathering.open_splice.Goals as goal

pub returns-then-splice : goal.returns-then-splice
returns-then-splice g c =
    let s = c.args.splice.now in
    let own = take s.count (drop s.before c.args.bytes.now) in
    let within = c.requires.within in
    let charge = c.requires.charge in
    let long : length own ≡ s.count = omega (arith, within, length-take s.count (drop s.before c.args.bytes.now), length-drop s.before c.args.bytes.now) in
    rw c.if-splice.true
    (entered_text own s.asked c.args.store.now c.enter.new.self c.enter.result (omega (arith, charge, long)) c.requires.depth (c.requires.text c.if-splice.true) c.enter.ensures.answer c.enter.ensures.ok)

pub returns : goal.returns
returns g c =
    let s = c.args.splice.now in
    let own = take ((s.before + s.count) - s.before) (drop s.before c.args.bytes.now) in
    let within = c.requires.within in
    let charge = c.requires.charge in
    let count : (s.before + s.count) - s.before ≡ s.count = omega arith in
    let long : length own ≡ s.count = omega (arith, within, length-take ((s.before + s.count) - s.before) (drop s.before c.args.bytes.now), length-drop s.before c.args.bytes.now) in
    rw c.if-splice.false
    (entered_bytes own c.args.store.now c.enter_bytes.new.self c.enter_bytes.result (omega (arith, charge, long)) c.requires.depth c.enter_bytes.ensures.answer c.enter_bytes.ensures.ok
    ∙ ap (λ k. reading_bytes (take k (drop s.before c.args.bytes.now)) c.args.store.now) count)

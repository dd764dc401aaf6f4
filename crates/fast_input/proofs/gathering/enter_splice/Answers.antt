use Rattle.std.proofs.Common.{◌≡◌, ◌-◌, length, take, drop, ap, ◌∙◌, arith}
use Rattle.std.proofs.lemmas.List.{length-drop, length-map, length-take}
use Rattle.nr_store.specs.Store.{Stored}
use Rattle.nr_store.specs.Windows.{left_times}
use Rattle.nr_store.specs.declared.element.Element.TheVariants as elements
use Rattle.fast_input.proofs.TextOpened.{rest-opened}
use Rattle.fast_input.proofs.gathering.enter_splice.Goals as goal

pub skip-requires : goal.skip-requires
skip-requires g c =
    let s = c.args.splice.now in
    let own = take s.count (drop s.before c.args.bytes.now) in
    let within = c.requires.within in
    let part = c.requires.part in
    let begun = c.requires.begun in
    let long : length own ≡ s.count = omega (arith, within, length-take s.count (drop s.before c.args.bytes.now), length-drop s.before c.args.bytes.now) in
    rw c.open_splice.ensures
    (omega (arith, part, begun, long, ap length (rest-opened s.named own s.asked c.args.store.now), length-map own elements.Byte))

pub returns : goal.returns
returns g c = c.skip.ensures ∙ ap (λ (w : Stored _). left_times (c.args.taken - c.args.splice.now.before) w) c.open_splice.ensures

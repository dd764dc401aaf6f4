use Prim.Native.Char.{code}
use Rattle.std.proofs.Common.{◌+◌, Some, ap, ◌∙◌}
use Rattle.nr_reading.specs.declared.next_item.NextItem.TheVariants as next_items
use Rattle.nr_reading.specs.declared.half.Half.{Half}
use Rattle.nr_reading.proofs.ConditionStretches.{take_in-negation}
use Rattle.nr_reading.proofs.Stretches.{taken_more, rest_after, looks}
use Rattle.nr_reading.proofs.half.Half.take_in_condition.Goals as goal

pub returns-in-Some-eq33 : goal.returns-in-Some-eq33
returns-in-Some-eq33 g c =
    let fs = g.I.Items.next_items c.args.items.now in
    let h = c.args.self.now in
    let place = c.pass_first_blanks-place.result in
    let new : Half = record h { notes = c.note.new.self } in
    rest_after fs 0 0 (place + 1) (place + 1) h new c.take_in_question-in-Some-eq33.new.self c.take_in_question-in-Some-eq33.new.run
    (taken_more fs 0 0 place place (code "!") h h new c.pass_first_blanks-place.ensures.leads c.in-Some-eq33.ensures.within (looks h c.requires.next)
    (c.in-Some-eq33.ensures.value ∙ ap (λ b. Some (next_items.Byte b)) c.in-Some-eq33.field-0-test)
    (take_in-negation c.note.new.self h c.requires.mode c.requires.next c.if-self.false c.note.ensures))
    c.take_in_question-in-Some-eq33.ensures

pub returns : goal.returns
returns g c =
    let fs = g.I.Items.next_items c.args.items.now in
    let h = c.args.self.now in
    let place = c.pass_first_blanks-place.result in
    rest_after fs 0 0 place place h h c.take_in_question-2.new.self c.take_in_question-2.new.run c.pass_first_blanks-place.ensures.leads c.take_in_question-2.ensures

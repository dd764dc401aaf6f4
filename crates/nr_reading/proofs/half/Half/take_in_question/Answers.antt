use Rattle.std.proofs.Common.{◌+◌, sym, ◌∙◌}
use Rattle.nr_reading.specs.declared.half.Half.{Half}
use Rattle.nr_reading.specs.declared.mode.Mode.TheVariants as modes
use Rattle.nr_reading.proofs.ConditionStretches.{take_in-number_begins, take_in-delimiter}
use Rattle.nr_reading.proofs.Stretches.{stays, taken_more, left_more, rest_after, looks}
use Rattle.nr_reading.proofs.half.Half.take_in_question.Goals as goal

pub returns-then-begins_number : goal.returns-then-begins_number
returns-then-begins_number g c =
    let fs = g.I.Items.next_items c.args.items.now in
    let h = c.args.self.now in
    let new : Half = record h { reading = record h.reading { mode = modes.Number 0 }; notes = c.note.new.self } in
    rest_after fs c.args.from c.args.made c.args.from (c.args.made + 1) h new c.take_in_tested.new.self c.take_in_tested.new.run
    (left_more fs c.args.from c.args.made c.args.from c.args.made c.in-Some.byte h h new (stays fs c.args.from c.args.made h) c.in-Some.ensures.within (looks h c.requires.next) c.in-Some.ensures.value
    (take_in-number_begins c.in-Some.byte c.note.new.self h c.requires.mode c.requires.next (sym c.begins_number.ensures ∙ c.if-begins_number.true) c.note.ensures))
    c.take_in_tested.ensures

pub returns : goal.returns
returns g c =
    let fs = g.I.Items.next_items c.args.items.now in
    let h = c.args.self.now in
    let new : Half = record h { reading = record h.reading { mode = modes.First c.in-Some.byte }; notes = c.note-2.new.self } in
    rest_after fs c.args.from c.args.made (c.args.from + 1) (c.args.made + 1) h new c.take_in_first_string.new.self c.take_in_first_string.new.run
    (taken_more fs c.args.from c.args.made c.args.from c.args.made c.in-Some.byte h h new (stays fs c.args.from c.args.made h) c.in-Some.ensures.within (looks h c.requires.next) c.in-Some.ensures.value
    (take_in-delimiter c.in-Some.byte c.note-2.new.self h c.requires.mode c.requires.next (sym c.begins_number.ensures ∙ c.if-begins_number.false) (sym c.delimits.ensures ∙ c.if-not-delimits.false) c.note-2.ensures))
    c.take_in_first_string.ensures

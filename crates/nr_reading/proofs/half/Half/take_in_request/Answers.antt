use Prim.Native.Char.{code}
use Rattle.std.proofs.Common.{◌+◌, sym, ◌∙◌}
use Rattle.std.proofs.lemmas.Bool.{ne_eqb}
use Rattle.nr_reading.specs.declared.half.Half.{Half}
use Rattle.nr_reading.specs.declared.mode.Mode.TheVariants as modes
use Rattle.nr_reading.proofs.RequestStretches.{take_in-line_begins}
use Rattle.nr_reading.proofs.Stretches.{left_more, rest_after, looks}
use Rattle.nr_reading.proofs.half.Half.take_in_request.Goals as goal

pub returns : goal.returns
returns g c =
    let fs = g.I.Items.next_items c.args.items.now in
    let h = c.args.self.now in
    let place = c.pass_first_blanks-place.result in
    let new : Half = record h { reading = record h.reading { mode = modes.RequestLine }; notes = c.note.new.self } in
    rest_after fs 0 0 place (place + 1) h new c.take_in_arguments.new.self c.take_in_arguments.new.run
    (left_more fs 0 0 place place c.in-Some.byte h h new c.pass_first_blanks-place.ensures.leads c.in-Some.ensures.within (looks h c.requires.next) c.in-Some.ensures.value
    (take_in-line_begins c.in-Some.byte c.note.new.self h c.requires.mode c.requires.next (ne_eqb c.in-Some.byte (code "\\") c.if-byte-eq92.false) (sym c.is_blank.ensures ∙ c.if-is_blank.false) c.note.ensures))
    c.take_in_arguments.ensures

use Rattle.std.proofs.Common.{◌+◌, sym, ◌∙◌}
use Rattle.nr_reading.specs.declared.half.Half.{Half}
use Rattle.nr_reading.specs.declared.mode.Mode.TheVariants as modes
use Rattle.nr_reading.proofs.PartStretches.{opened, brace_stands}
use Rattle.nr_reading.proofs.Stretches.{rest_after}
use Rattle.nr_reading.proofs.half.Half.take_in_opened.Goals as goal

pub returns : goal.returns
returns g c =
    let fs = g.I.Items.next_items c.args.items.now in
    let h = c.args.self.now in
    let place = c.args.place in
    let new : Half = record h { reading = record h.reading { mode = modes.Start } } in
    let brace = brace_stands place fs (sym c.opens.ensures ∙ c.if-not-opens.false) in
    rest_after fs place place (place + 2) (place + 3) h new c.take_in_beginning.new.self c.take_in_beginning.new.run
    (opened fs place c.in-Some.byte h c.requires.mode c.requires.next c.in-Some.ensures.within brace.0 brace.1 c.in-Some.ensures.value
    (sym c.is_plain.ensures ∙ c.if-not-is_plain.false) (sym c.is_blank.ensures ∙ c.if-is_blank.false))
    c.take_in_beginning.ensures

use Prim.Native.Char.{code}
use Rattle.std.proofs.Common.{◌+◌, ◌-◌, Some, ap, sym, ◌∙◌, arith}
use Rattle.std.proofs.lemmas.Bool.{ne_eqb}
use Rattle.nr_reading.specs.declared.event.Event.TheVariants as events
use Rattle.nr_reading.specs.declared.next_item.NextItem.TheVariants as next_items
use Rattle.nr_reading.proofs.Stretches.{taken_last, left_last, rest_after, looks}
use Rattle.nr_reading.proofs.StringStretches.{begun_text, take_in-quote, take_in-text_begins}
use Rattle.nr_reading.proofs.half.Half.take_in_string_blanks.Goals as goal

pub returns-then-byte-eq34 : goal.returns-then-byte-eq34
returns-then-byte-eq34 g c =
    let fs = g.I.Items.next_items c.args.items.now in
    let h = c.args.self.now in
    let place = c.pass_blanks-place.result in
    taken_last fs c.args.from c.args.made place (c.args.made + (place - c.args.from)) (code "\"") h h (begun_text h) events.Nothing (c.pass_blanks-place.ensures.leads c.args.made) c.in-Some.ensures.within (looks h c.requires.next)
    (c.in-Some.ensures.value ∙ ap (λ b. Some (next_items.Byte b)) c.if-byte-eq34.true) (take_in-quote h c.requires.mode c.requires.next) (omega arith) (λ silent pending_act. let wrong : ⊥ = cc in wrong)

pub returns : goal.returns
returns g c =
    let fs = g.I.Items.next_items c.args.items.now in
    let h = c.args.self.now in
    let place = c.pass_blanks-place.result in
    left_last fs c.args.from c.args.made place (c.args.made + (place - c.args.from)) c.in-Some.byte h h (begun_text h) events.Nothing (c.pass_blanks-place.ensures.leads c.args.made) c.in-Some.ensures.within (looks h c.requires.next) c.in-Some.ensures.value
    (take_in-text_begins c.in-Some.byte h c.requires.mode c.requires.next (ne_eqb c.in-Some.byte (code "\\") c.if-byte-eq92.false) (sym c.is_blank.ensures ∙ c.if-is_blank.false) (ne_eqb c.in-Some.byte (code "\"") c.if-byte-eq34.false)) (omega arith) (λ silent pending_act. let wrong : ⊥ = cc in wrong)

pub returns-in_default : goal.returns-in_default
returns-in_default g c =
    let fs = g.I.Items.next_items c.args.items.now in
    let h = c.args.self.now in
    let place = c.pass_blanks-place.result in
    rest_after fs c.args.from c.args.made place (c.args.made + (place - c.args.from)) h h c.take_in_rest.new.self c.take_in_rest.new.run (c.pass_blanks-place.ensures.leads c.args.made) c.take_in_rest.ensures

pub returns-then-byte-eq92 : goal.returns-then-byte-eq92
returns-then-byte-eq92 g c =
    let fs = g.I.Items.next_items c.args.items.now in
    let h = c.args.self.now in
    let place = c.pass_blanks-place.result in
    rest_after fs c.args.from c.args.made place (c.args.made + (place - c.args.from)) h h c.take_in_escape.new.self c.take_in_escape.new.run (c.pass_blanks-place.ensures.leads c.args.made) c.take_in_escape.ensures

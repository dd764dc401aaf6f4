use Prim.Native.Char.{code}
use Rattle.std.proofs.Common.{◌+◌, Some, ap, sym, ◌∙◌, arith}
use Rattle.std.proofs.lemmas.Bool.{ne_eqb}
use Rattle.nr_reading.specs.declared.event.Event.TheVariants as events
use Rattle.nr_reading.specs.declared.next_item.NextItem.TheVariants as next_items
use Rattle.nr_reading.specs.declared.half.Half.{Half}
use Rattle.nr_reading.specs.declared.mode.PendingAct.TheVariants as pending_acts
use Rattle.nr_reading.specs.declared.mode.Mode.TheVariants as modes
use Rattle.nr_reading.proofs.ArgumentStretches.{in_mode, take_in-closing_quote, take_in-quoted_byte}
use Rattle.nr_reading.proofs.Stretches.{stays, taken_more, taken_last, rest_after, looks}
use Rattle.nr_reading.proofs.half.Half.take_in_quoted.Goals as goal

pub returns-then-byte-eq34 : goal.returns-then-byte-eq34
returns-then-byte-eq34 g c =
    let fs = g.I.Items.next_items c.args.items.now in
    let h = c.args.self.now in
    rest_after fs c.args.from c.args.made (c.args.from + 1) (c.args.made + 1) h (in_mode modes.Quote h) c.take_in_quote.new.self c.take_in_quote.new.run
    (taken_more fs c.args.from c.args.made c.args.from c.args.made (code "\"") h h (in_mode modes.Quote h) (stays fs c.args.from c.args.made h) c.in-Some.ensures.within (looks h c.requires.next)
    (c.in-Some.ensures.value ∙ ap (λ b. Some (next_items.Byte b)) c.if-byte-eq34.true) (take_in-closing_quote h c.requires.mode c.requires.next))
    c.take_in_quote.ensures

pub returns : goal.returns
returns g c =
    let fs = g.I.Items.next_items c.args.items.now in
    let h = c.args.self.now in
    let new : Half = record h { reading = record h.reading { pending_act = pending_acts.Put c.in-Some.byte } } in
    taken_last fs c.args.from c.args.made c.args.from c.args.made c.in-Some.byte h h new events.Nothing (stays fs c.args.from c.args.made h) c.in-Some.ensures.within (looks h c.requires.next) c.in-Some.ensures.value
    (take_in-quoted_byte c.in-Some.byte h c.requires.mode c.requires.next (sym c.is_plain.ensures ∙ c.if-not-is_plain.false) (ne_eqb c.in-Some.byte (code "\"") c.if-byte-eq34.false)) (omega arith) (λ silent pending_act. let wrong : ⊥ = cc in wrong)

use Prim.Native.Char.{code}
use Rattle.std.proofs.Common.{◌+◌, Some, ap, ◌∙◌, arith}
use Rattle.std.proofs.lemmas.Bool.{ne_eqb}
use Rattle.nr_reading.specs.declared.event.Event.TheVariants as events
use Rattle.nr_reading.specs.declared.next_item.NextItem.TheVariants as next_items
use Rattle.nr_reading.specs.declared.mode.PendingAct.TheVariants as pending_acts
use Rattle.nr_reading.specs.declared.mode.Mode.TheVariants as modes
use Rattle.nr_reading.proofs.ArgumentStretches.{in_mode, with_pending, take_in-opening_quote, take_in-line_end, take_in-first_byte}
use Rattle.nr_reading.proofs.Stretches.{stays, taken_more, taken_last, rest_after, looks}
use Rattle.nr_reading.proofs.half.Half.take_in_argument.Goals as goal

pub returns-then-byte-eq34 : goal.returns-then-byte-eq34
returns-then-byte-eq34 g c =
    let fs = g.I.Items.next_items c.args.items.now in
    let h = c.args.self.now in
    rest_after fs c.args.from c.args.made (c.args.from + 1) (c.args.made + 1) h (in_mode modes.Quoted h) c.take_in_quoted.new.self c.take_in_quoted.new.run
    (taken_more fs c.args.from c.args.made c.args.from c.args.made (code "\"") h h (in_mode modes.Quoted h) (stays fs c.args.from c.args.made h) c.in-Some.ensures.within (looks h c.requires.next)
    (c.in-Some.ensures.value ∙ ap (λ b. Some (next_items.Byte b)) c.if-byte-eq34.true) (take_in-opening_quote h c.requires.mode c.requires.next))
    c.take_in_quoted.ensures

pub returns-then-byte-eq10 : goal.returns-then-byte-eq10
returns-then-byte-eq10 g c =
    let fs = g.I.Items.next_items c.args.items.now in
    let h = c.args.self.now in
    taken_last fs c.args.from c.args.made c.args.from c.args.made (code "\n") h h (with_pending modes.Start pending_acts.Call h) events.Nothing (stays fs c.args.from c.args.made h) c.in-Some.ensures.within (looks h c.requires.next)
    (c.in-Some.ensures.value ∙ ap (λ b. Some (next_items.Byte b)) c.if-byte-eq10.true) (take_in-line_end h c.requires.mode c.requires.next) (omega arith) (λ silent pending_act. let wrong : ⊥ = cc in wrong)

pub returns : goal.returns
returns g c =
    let fs = g.I.Items.next_items c.args.items.now in
    let h = c.args.self.now in
    let b = c.in-Some.byte in
    taken_last fs c.args.from c.args.made c.args.from c.args.made b h h (with_pending modes.Word (pending_acts.Put b) h) events.Nothing (stays fs c.args.from c.args.made h) c.in-Some.ensures.within (looks h c.requires.next) c.in-Some.ensures.value
    (take_in-first_byte b h c.requires.mode c.requires.next (ne_eqb b (code "\\") c.if-byte-eq92.false) (ne_eqb b (code " ") c.if-byte-eq32.false) (ne_eqb b (code "\"") c.if-byte-eq34.false) (ne_eqb b (code "\n") c.if-byte-eq10.false)) (omega arith) (λ silent pending_act. let wrong : ⊥ = cc in wrong)

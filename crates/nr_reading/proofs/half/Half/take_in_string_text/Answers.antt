use Prim.Native.Char.{code}
use Rattle.std.proofs.Common.{Some, ap, ◌∙◌, arith}
use Rattle.std.proofs.lemmas.Bool.{ne_eqb}
use Rattle.nr_reading.specs.declared.event.Event.TheVariants as events
use Rattle.nr_reading.specs.declared.next_item.NextItem.TheVariants as next_items
use Rattle.nr_reading.specs.declared.half.Half.{Half}
use Rattle.nr_reading.specs.declared.mode.PendingAct.TheVariants as pending_acts
use Rattle.nr_reading.specs.declared.mode.Mode.TheVariants as modes
use Rattle.nr_reading.proofs.Stretches.{stays, taken_last, looks}
use Rattle.nr_reading.proofs.StringStretches.{take_in-text_byte, take_in-text_end}
use Rattle.nr_reading.proofs.half.Half.take_in_string_text.Goals as goal

pub returns-then-byte-eq10 : goal.returns-then-byte-eq10
returns-then-byte-eq10 g c =
    let fs = g.I.Items.next_items c.args.items.now in
    let h = c.args.self.now in
    let new : Half = record h { reading = record h.reading { mode = modes.Start; pending_act = pending_acts.Define } } in
    taken_last fs 0 0 0 0 (code "\n") h h new events.Nothing (stays fs 0 0 h) c.in-Some.ensures.within (looks h c.requires.next) (c.in-Some.ensures.value ∙ ap (λ b. Some (next_items.Byte b)) c.if-byte-eq10.true)
    (take_in-text_end h c.requires.mode c.requires.next) (omega arith) (λ silent pending_act. let wrong : ⊥ = cc in wrong)

pub returns : goal.returns
returns g c =
    let fs = g.I.Items.next_items c.args.items.now in
    let h = c.args.self.now in
    let new : Half = record h { reading = record h.reading { pending_act = pending_acts.Add c.in-Some.byte } } in
    taken_last fs 0 0 0 0 c.in-Some.byte h h new events.Nothing (stays fs 0 0 h) c.in-Some.ensures.within (looks h c.requires.next) c.in-Some.ensures.value
    (take_in-text_byte c.in-Some.byte h c.requires.mode c.requires.next (ne_eqb c.in-Some.byte (code "\\") c.if-byte-eq92.false) (ne_eqb c.in-Some.byte (code "\n") c.if-byte-eq10.false)) (omega arith) (λ silent pending_act. let wrong : ⊥ = cc in wrong)

use Prim.Native.Char.{code}
use Rattle.std.proofs.Common.{Some, ap, ◌∙◌, arith}
use Rattle.nr_reading.specs.declared.event.Event.TheVariants as events
use Rattle.nr_reading.specs.declared.next_item.NextItem.TheVariants as next_items
use Rattle.nr_reading.specs.declared.mode.PendingAct.TheVariants as pending_acts
use Rattle.nr_reading.specs.declared.mode.Mode.TheVariants as modes
use Rattle.nr_reading.proofs.ArgumentStretches.{with_pending, take_in-word_end, take_in-word_space}
use Rattle.nr_reading.proofs.Stretches.{stays, taken_last, left_last, looks}
use Rattle.nr_reading.proofs.half.Half.take_in_word.Goals as goal

pub returns-in-Some-eq10 : goal.returns-in-Some-eq10
returns-in-Some-eq10 g c =
    let fs = g.I.Items.next_items c.args.items.now in
    let h = c.args.self.now in
    left_last fs 0 0 0 0 (code "\n") h h (with_pending modes.MacroGap pending_acts.EndArgument h) events.Nothing (stays fs 0 0 h) c.in-Some-eq10.ensures.within (looks h c.requires.next) (c.in-Some-eq10.ensures.value ∙ ap (λ b. Some (next_items.Byte b)) c.in-Some-eq10.field-0-test)
    (take_in-word_end h c.requires.mode c.requires.next) (omega arith) (λ silent pending_act. let wrong : ⊥ = cc in wrong)

pub returns-in-Some-eq32 : goal.returns-in-Some-eq32
returns-in-Some-eq32 g c =
    let fs = g.I.Items.next_items c.args.items.now in
    let h = c.args.self.now in
    taken_last fs 0 0 0 0 (code " ") h h (with_pending modes.MacroGap pending_acts.EndArgument h) events.Nothing (stays fs 0 0 h) c.in-Some-eq32.ensures.within (looks h c.requires.next) (c.in-Some-eq32.ensures.value ∙ ap (λ b. Some (next_items.Byte b)) c.in-Some-eq32.field-0-test)
    (take_in-word_space h c.requires.mode c.requires.next) (omega arith) (λ silent pending_act. let wrong : ⊥ = cc in wrong)

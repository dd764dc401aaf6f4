use Prim.Native.Char.{code}
use Rattle.std.proofs.Common.{arith}
use Rattle.std.proofs.lemmas.Bool.{ne_eqb}
use Rattle.nr_reading.specs.declared.event.Event.TheVariants as events
use Rattle.nr_reading.specs.declared.mode.PendingAct.TheVariants as pending_acts
use Rattle.nr_reading.specs.declared.mode.Mode.TheVariants as modes
use Rattle.nr_reading.proofs.ArgumentStretches.{with_pending, take_in-after_quote}
use Rattle.nr_reading.proofs.Stretches.{stays, left_last, looks}
use Rattle.nr_reading.proofs.half.Half.take_in_quote.Goals as goal

pub returns : goal.returns
returns g c =
    let fs = g.I.Items.next_items c.args.items.now in
    let h = c.args.self.now in
    left_last fs c.args.from c.args.made c.args.from c.args.made c.in-Some.byte h h (with_pending modes.MacroGap pending_acts.EndArgument h) events.Nothing (stays fs c.args.from c.args.made h) c.in-Some.ensures.within (looks h c.requires.next) c.in-Some.ensures.value
    (take_in-after_quote c.in-Some.byte h c.requires.mode c.requires.next (ne_eqb c.in-Some.byte (code "\\") c.if-byte-eq92.false) (ne_eqb c.in-Some.byte (code "\"") c.if-byte-eq34.false)) (omega arith) (λ silent pending_act. let wrong : ⊥ = cc in wrong)

use Prim.Native.Char.{code}
use Rattle.std.proofs.Common.{Some, ap, ◌∙◌}
use Rattle.nr_reading.specs.declared.next_item.NextItem.TheVariants as next_items
use Rattle.nr_reading.proofs.ArgumentStretches.{take_in-space}
use Rattle.nr_reading.proofs.Stretches.{stays, taken_more, rest_after, looks}
use Rattle.nr_reading.proofs.half.Half.take_in_gap.Goals as goal

pub returns-in-Some-eq32 : goal.returns-in-Some-eq32
returns-in-Some-eq32 g c =
    let fs = g.I.Items.next_items c.args.items.now in
    let h = c.args.self.now in
    rest_after fs 0 0 1 1 h h c.take_in_argument.new.self c.take_in_argument.new.run
    (taken_more fs 0 0 0 0 (code " ") h h h (stays fs 0 0 h) c.in-Some-eq32.ensures.within (looks h c.requires.next) (c.in-Some-eq32.ensures.value ∙ ap (λ b. Some (next_items.Byte b)) c.in-Some-eq32.field-0-test) (take_in-space h c.requires.mode c.requires.next))
    c.take_in_argument.ensures

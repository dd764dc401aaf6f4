use Rattle.std.proofs.Common.{Some, ap, ◌∙◌}
use Rattle.std.proofs.lemmas.Option.{IfSome_then}
use Rattle.nr_reading.specs.declared.next_item.NextItem.TheVariants as next_items
use Rattle.nr_reading.proofs.Interpolated.{plus_taken_in, minus_taken_in}
use Rattle.nr_reading.proofs.half.Half.take_in_register.Goals as goal

pub returns-in-Some-eq43-clause-taken_in : goal.returns-in-Some-eq43-clause-taken_in
returns-in-Some-eq43-clause-taken_in g c =
    let next = c.in-Some-eq43.ensures.value ∙ ap (λ b. Some (next_items.Byte b)) c.in-Some-eq43.field-0-test in
    IfSome_then c.take_in_named.result c.take_in_named.ensures.taken_in
    (λ run taken_in h n has. taken_in h n (plus_taken_in (g.I.Items.next_items c.args.items.now) c.args.place c.args.self.now c.requires.plain c.requires.pending_act c.in-Some-eq43.ensures.within next h n has))

pub returns-in-Some-eq45-clause-taken_in : goal.returns-in-Some-eq45-clause-taken_in
returns-in-Some-eq45-clause-taken_in g c =
    let next = c.in-Some-eq45.ensures.value ∙ ap (λ b. Some (next_items.Byte b)) c.in-Some-eq45.field-0-test in
    IfSome_then c.take_in_named-in-Some-eq45.result c.take_in_named-in-Some-eq45.ensures.taken_in
    (λ run taken_in h n has. taken_in h n (minus_taken_in (g.I.Items.next_items c.args.items.now) c.args.place c.args.self.now c.requires.plain c.requires.pending_act c.in-Some-eq45.ensures.within next h n has))

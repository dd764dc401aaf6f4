use Rattle.std.proofs.Common.{Some, ap, sym, ◌∙◌}
use Rattle.std.proofs.lemmas.Option.{IfSome_then}
use Rattle.nr_reading.specs.declared.next_item.NextItem.TheVariants as next_items
use Rattle.nr_reading.proofs.Interpolated.{argument_taken_in, register_taken_in, string_taken_in}
use Rattle.nr_reading.proofs.half.Half.take_in_interpolation.Goals as goal

pub returns-in-Some-eq36-clause-taken_in : goal.returns-in-Some-eq36-clause-taken_in
returns-in-Some-eq36-clause-taken_in g c =
    let is = sym c.interpolates.ensures ∙ c.if-not-interpolates.false in
    let next = c.in-Some-eq36.ensures.value ∙ ap (λ b. Some (next_items.Byte b)) c.in-Some-eq36.field-0-test in
    IfSome_then c.take_in_number.result c.take_in_number.ensures.taken_in
    (λ run taken_in h n has. taken_in h n (argument_taken_in (g.I.Items.next_items c.args.items.now) c.args.place c.args.self.now is c.requires.pending_act c.in-Some-eq36.ensures.within c.requires.backslash next h n has))

pub returns-in-Some-eq110-clause-taken_in : goal.returns-in-Some-eq110-clause-taken_in
returns-in-Some-eq110-clause-taken_in g c =
    let is = sym c.interpolates.ensures ∙ c.if-not-interpolates.false in
    let next = c.in-Some-eq110.ensures.value ∙ ap (λ b. Some (next_items.Byte b)) c.in-Some-eq110.field-0-test in
    IfSome_then c.take_in_register.result c.take_in_register.ensures.taken_in
    (λ run taken_in h n has. taken_in h n (register_taken_in (g.I.Items.next_items c.args.items.now) c.args.place c.args.self.now is c.requires.pending_act c.in-Some-eq110.ensures.within c.requires.backslash next h n has))

pub returns-in-Some-eq42-clause-taken_in : goal.returns-in-Some-eq42-clause-taken_in
returns-in-Some-eq42-clause-taken_in g c =
    let is = sym c.interpolates.ensures ∙ c.if-not-interpolates.false in
    let next = c.in-Some-eq42.ensures.value ∙ ap (λ b. Some (next_items.Byte b)) c.in-Some-eq42.field-0-test in
    IfSome_then c.take_in_named.result c.take_in_named.ensures.taken_in
    (λ run taken_in h n has. taken_in h n (string_taken_in (g.I.Items.next_items c.args.items.now) c.args.place c.args.self.now is c.requires.pending_act c.in-Some-eq42.ensures.within c.requires.backslash next h n has))

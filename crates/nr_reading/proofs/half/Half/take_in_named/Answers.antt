use Rattle.std.proofs.Common.{Some, ap, sym, ◌∙◌}
use Rattle.nr_reading.specs.declared.next_item.NextItem.TheVariants as next_items
use Rattle.nr_reading.specs.Many.InText.{is_in_text}
use Rattle.nr_reading.proofs.Interpolated.{lone, apart, font_after, lone_taken_in, pair_taken_in}
use Rattle.nr_reading.proofs.half.Half.take_in_named.Goals as goal

pub returns-then-is_lone_name-clause-taken_in : goal.returns-then-is_lone_name-clause-taken_in
returns-then-is_lone_name-clause-taken_in g c =
    let taken_in = lone_taken_in (g.I.Items.next_items c.args.items.now) c.args.place c.args.self.now c.requires.plain c.requires.pending_act c.args.kind c.args.before c.requires.kind c.in-Some.first c.in-Some.ensures.within c.in-Some.ensures.value
    (lone c.in-Some.first (sym c.is_lone_name.ensures ∙ c.if-is_lone_name.true)) in
    rw (c.end_named.ensures.half, c.end_named.ensures.run, c.of.ensures) taken_in

pub returns-clause-taken_in : goal.returns-clause-taken_in
returns-clause-taken_in g c =
    let first = c.in-Some.ensures.value ∙ ap (λ b. Some (next_items.Byte b)) c.if-first-ne40.false in
    let taken_in = pair_taken_in (g.I.Items.next_items c.args.items.now) c.args.place c.args.self.now c.requires.plain c.requires.pending_act c.args.kind c.args.before c.requires.kind c.in-Some-byte_at.one c.in-Some-byte_at-2.two
    c.in-Some-byte_at-2.ensures.within first c.in-Some-byte_at.ensures.value c.in-Some-byte_at-2.ensures.value
    (apart c.in-Some-byte_at.one (sym c.is_plain.ensures ∙ c.if-not-is_plain.false)) (apart c.in-Some-byte_at-2.two (sym c.is_plain-else-not-is_plain.ensures ∙ c.if-not-is_plain-2.false)) in
    rw (c.end_named-2.ensures.half, c.end_named-2.ensures.run, c.of-2.ensures) taken_in

pub returns-then-is_lone_name-clause-afterwards : goal.returns-then-is_lone_name-clause-afterwards
returns-then-is_lone_name-clause-afterwards g c = λ font text.
    ap is_in_text c.end_named.ensures.half ∙ font_after c.args.kind c.of.result c.args.self.now c.requires.plain font text

pub returns-clause-afterwards : goal.returns-clause-afterwards
returns-clause-afterwards g c = λ font text.
    ap is_in_text c.end_named-2.ensures.half ∙ font_after c.args.kind c.of-2.result c.args.self.now c.requires.plain font text

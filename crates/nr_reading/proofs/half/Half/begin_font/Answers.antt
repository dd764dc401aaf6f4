use Rattle.std.proofs.Common.{ap, sym, ◌∙◌}
use Rattle.nr_reading.specs.Many.InText.{is_in_text}
use Rattle.nr_reading.specs.Many.Interpolations.{named}
use Rattle.nr_reading.specs.declared.ask.Kind.TheVariants as kinds
use Rattle.nr_reading.specs.declared.half.Half.{Half}
use Rattle.nr_reading.proofs.Interpolated.{lone, font_begun, font_begun_after}
use Rattle.nr_reading.proofs.half.Half.begin_font.Goals as goal

pub returns-clause-taken_in : goal.returns-clause-taken_in
returns-clause-taken_in g c =
    let taken_in = font_begun (g.I.Items.next_items c.args.items.now) c.args.place c.args.self.now c.requires.plain c.requires.pending_act c.requires.start c.in-Some.name c.in-Some.ensures.within c.requires.backslash c.requires.font c.in-Some.ensures.value
    (lone c.in-Some.name (sym c.is_lone_name.ensures ∙ c.if-not-is_lone_name.false)) in
    rw (c.end_name-event.ensures.half, c.end_name-event.ensures.event, c.begin_text.ensures, c.of.ensures) taken_in

pub returns-clause-afterwards : goal.returns-clause-afterwards
returns-clause-afterwards g c =
    ap is_in_text (c.end_name-event.ensures.half ∙ ap (λ (h : Half). named kinds.Font c.of.result h) c.begin_text.ensures)
    ∙ font_begun_after c.of.result c.args.self.now c.requires.plain

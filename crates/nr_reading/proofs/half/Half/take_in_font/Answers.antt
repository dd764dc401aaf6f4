use Rattle.std.proofs.lemmas.Option.{IfSome_then}
use Rattle.nr_reading.proofs.Interpolated.{font_taken_in}
use Rattle.nr_reading.proofs.half.Half.take_in_font.Goals as goal

pub returns-in-Text-clause-taken_in : goal.returns-in-Text-clause-taken_in
returns-in-Text-clause-taken_in g c =
    IfSome_then c.take_in_named.result c.take_in_named.ensures.taken_in
    (λ run taken_in h n has. taken_in h n (font_taken_in (g.I.Items.next_items c.args.items.now) c.args.place c.args.self.now c.requires.plain c.requires.pending_act c.in-Text.is c.requires.within c.requires.backslash c.requires.font h n has))

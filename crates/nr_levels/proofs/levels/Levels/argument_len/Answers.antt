use Rattle.std.proofs.Common.{◌-◌, length, ap, sym, ◌∙◌}
use Rattle.nr_levels.specs.Levels.{Levels, argument}
use Rattle.nr_levels.specs.Frame.{part}
use Rattle.nr_levels.specs.declared.frame.Span.{Span}
use Rattle.nr_levels.proofs.Pushing.{argument_is, end_at, length_part}
use Rattle.nr_levels.proofs.levels.Levels.argument_len.Goals as goal

pub returns-clause-value : goal.returns-clause-value
returns-clause-value g c =
    let s = c.self.inside in
    let below = end_at _ (part s.places.items s.in_force) c.args.n c.self.invariant.0.now.below in
    c.saturating_sub.ensures ∙ ap (λ (t : Span). t.last - t.first) c.span_of-span.ensures ∙ sym (length_part s.bytes.items _ below)
    ∙ ap length (sym (argument_is s.bytes.items s.places.items s.in_force c.args.n)) ∙ ap (λ (v : Levels _). length (argument v.arguments c.args.n)) c.self.view_is

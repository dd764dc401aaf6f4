use Rattle.std.proofs.Common.{◌-◌, ap, sym, ◌∙◌, length, drop, take, arith}
use Rattle.std.proofs.lemmas.Slice.{between_is}
use Rattle.nr_levels.specs.Levels.{Levels, argument}
use Rattle.nr_levels.specs.Frame.{part}
use Rattle.nr_levels.specs.declared.frame.Span.{Span}
use Rattle.nr_levels.proofs.Pushing.{argument_is, end_at}
use Rattle.nr_levels.proofs.levels.Levels.argument_bytes.Goals as goal

pub slice_bounds-result-end-2 : goal.slice_bounds-result-end-2
slice_bounds-result-end-2 g c =
    let s = c.self.inside in
    let below = end_at _ (part s.places.items s.in_force) c.args.n c.self.invariant.0.now.below in
    omega (arith, below, ap (λ (t : Span). t.last) c.span_of-span.ensures, ap length c.as_slice.ensures.value)

pub returns : goal.returns
returns g c =
    let s = c.self.inside in
    let t = c.span_of-span.result in
    ap (λ bytes. take (t.last - t.first) (drop t.first bytes)) c.as_slice.ensures.value ∙ between_is _ t.first t.last ∙ ap (part s.bytes.items) c.span_of-span.ensures
    ∙ sym (argument_is s.bytes.items s.places.items s.in_force c.args.n) ∙ ap (λ (v : Levels _). argument v.arguments c.args.n) c.self.view_is

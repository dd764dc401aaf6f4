use Rattle.std.proofs.Common.{[], ◌∷◌, ◌++◌, map, take, ap, sym, ◌∙◌, arith}
use Rattle.std.proofs.lemmas.List.{map-append, take_more, take_more_set}
use Rattle.std.proofs.lemmas.List.Elements.{All-push}
use Rattle.nr_store.specs.declared.element.Element.{Element}
use Rattle.nr_store.specs.declared.element.Element.TheVariants as elements
use Rattle.nr_reading.specs.Many.InArgument.{IsPlain}
use Rattle.fast_input.proofs.adding.copy_plain.Goals as goal

pub loop-place-preserved : goal.loop-place-preserved
loop-place-preserved c =
    let i = c.loop-place.place in
    let xs = c.args.elements.now in
    let b = c.in-Byte.byte in
    let most = c.min-most.ensures in
    let long = c.loop-place.auto.chunk in
    let more = take_more_set c.loop-place.chunk i b (omega (arith, most, long, c.loop-place-test.true)) in
    record {
      copied =
          ap (map elements.Byte) more
          ∙ map-append elements.Byte (take i c.loop-place.chunk) (b ∷ [])
          ∙ ap (λ ys. ys ++ elements.Byte b ∷ []) c.loop-place.invariant.copied
          ∙ ap (λ (x : Element). take i xs ++ x ∷ []) (sym c.in-Byte.is)
          ∙ sym (take_more xs i c.result-1.given.0 (omega (arith, most, c.loop-place-test.true)));
      plain = rw more (All-push (IsPlain c.args.ending) (take i c.loop-place.chunk) b c.loop-place.invariant.plain (c.is_plain.ensures.plain c.if-not-is_plain.false));
    }

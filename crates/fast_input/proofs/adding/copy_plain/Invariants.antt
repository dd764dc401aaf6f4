use Rattle.std.proofs.Common.{◌≡◌, All, map, take}
use Rattle.nr_store.specs.declared.element.Element.TheVariants as elements
use Rattle.nr_reading.specs.Many.InArgument.{IsPlain}
use Rattle.fast_input.proofs.adding.copy_plain.Given as goal

abbrev pub invariant-loop-place : goal.invariant-loop-place
invariant-loop-place l = record {
  copied : map elements.Byte (take l.place l.chunk) ≡ take l.place l.elements;
  plain : All (IsPlain l.ending) (take l.place l.chunk);
}

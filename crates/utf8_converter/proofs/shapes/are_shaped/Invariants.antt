-- Each up to here may stand where it does.
use Rattle.std.proofs.Common.{◌≡◌, true}
use Rattle.utf8_converter.specs.Shapes.{Shapes}
use Rattle.utf8_converter.proofs.shapes.are_shaped.Given as goal

abbrev pub invariant-loop-place : goal.invariant-loop-place
invariant-loop-place l = l.all ≡ true → Shapes l.place l.bytes

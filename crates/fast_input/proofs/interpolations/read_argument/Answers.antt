use Rattle.std.proofs.Common.{arith}
use Rattle.std.proofs.lemmas.Grind.{common_steps}
use Rattle.fast_input.proofs.interpolations.read_argument.Goals as goal

pub slice_bounds-chunk-end-2 : goal.slice_bounds-chunk-end-2
slice_bounds-chunk-end-2 g c = grind (arith, common_steps)

pub slice_bounds-splice_on-end : goal.slice_bounds-splice_on-end
slice_bounds-splice_on-end g c = grind (arith, common_steps)

pub splice_on-requires : goal.splice_on-requires
splice_on-requires g c = grind (arith, common_steps)

use Rattle.mdoc_layout.specs.Lengths.{width_named}
use Rattle.mdoc_layout.proofs.lengths.width_named.Goals as goal

pub returns : goal.returns
unfolding width_named
returns c = c.named_in.ensures

use Rattle.mdoc_converter.specs.Strings.{string_named}
use Rattle.mdoc_converter.proofs.strings.string_named.Goals as goal

pub returns : goal.returns
unfolding string_named
returns c = c.looked_up.ensures

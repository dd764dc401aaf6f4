use Rattle.mdoc_words.specs.Options.{section_named}
use Rattle.mdoc_words.proofs.options.section_named.Goals as goal

pub returns : goal.returns
unfolding section_named
returns c = c.named_in.ensures

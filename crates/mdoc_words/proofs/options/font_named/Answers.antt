use Rattle.mdoc_words.specs.Options.{font_named}
use Rattle.mdoc_words.proofs.options.font_named.Goals as goal

pub returns : goal.returns
unfolding font_named
returns c = c.named_in.ensures

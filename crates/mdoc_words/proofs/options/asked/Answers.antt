use Rattle.mdoc_words.specs.Options.{asked}
use Rattle.mdoc_words.proofs.options.asked.Goals as goal

pub returns : goal.returns
unfolding asked
returns c = c.named_in.ensures

use Rattle.mdoc_words.specs.Macros.{letters_macro}
use Rattle.mdoc_words.proofs.macros.letters_macro.Goals as goal

pub returns : goal.returns
unfolding letters_macro
returns c = c.looked_up.ensures

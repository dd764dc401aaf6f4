use Rattle.preconv_characters.specs.Likeness.{word_text}
use Rattle.preconv_characters.proofs.likeness.word_text.Goals as goal

pub returns : goal.returns
unfolding word_text
returns c = c.text_in.ensures

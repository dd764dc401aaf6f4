use Rattle.preconv_characters.specs.Likeness.{sign_text}
use Rattle.preconv_characters.proofs.likeness.sign_text.Goals as goal

pub returns : goal.returns
unfolding sign_text
returns c = c.text_in.ensures

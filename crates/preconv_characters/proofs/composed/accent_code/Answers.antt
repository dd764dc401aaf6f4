use Rattle.preconv_characters.specs.Composed.{accent_code}
use Rattle.preconv_characters.proofs.composed.accent_code.Goals as goal

pub returns : goal.returns
unfolding accent_code
returns c = c.named_in.ensures

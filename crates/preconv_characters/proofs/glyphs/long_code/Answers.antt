use Rattle.preconv_characters.specs.Glyphs.{long_code}
use Rattle.preconv_characters.proofs.glyphs.long_code.Goals as goal

pub returns : goal.returns
unfolding long_code
returns c = c.named_in.ensures

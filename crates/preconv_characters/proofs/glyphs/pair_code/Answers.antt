use Rattle.preconv_characters.specs.Glyphs.{pair_code}
use Rattle.preconv_characters.proofs.glyphs.pair_code.Goals as goal

pub returns : goal.returns
unfolding pair_code
returns c = c.looked_up.ensures

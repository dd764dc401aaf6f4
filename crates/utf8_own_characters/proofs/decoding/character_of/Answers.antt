use Rattle.utf8_own_characters.proofs.Scalars.{character_is}
use Rattle.utf8_own_characters.proofs.decoding.character_of.Goals as goal

pub returns : goal.returns
returns c = character_is c.from_u32.result c.args.code c.from_u32.ensures.value

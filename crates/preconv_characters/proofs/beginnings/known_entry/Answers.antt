use Rattle.preconv_characters.specs.Beginnings.{known_entry}
use Rattle.preconv_characters.proofs.beginnings.known_entry.Goals as goal

pub returns : goal.returns
unfolding known_entry
returns c = c.entry.ensures

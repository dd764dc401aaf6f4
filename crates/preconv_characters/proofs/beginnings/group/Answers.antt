use Rattle.preconv_characters.proofs.OpeningTable.{group_entry}
use Rattle.preconv_characters.proofs.beginnings.group.Goals as goal

pub returns-clause-all : goal.returns-clause-all
returns-clause-all c = group_entry c.args.first c.ranges.first.fits

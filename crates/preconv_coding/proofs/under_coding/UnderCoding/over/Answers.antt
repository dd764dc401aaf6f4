use Rattle.preconv_coding.proofs.Named.{ascii_stays, others_stay, sets_are_read}
use Rattle.preconv_coding.proofs.Unchanged.{plain_stays}
use Rattle.preconv_coding.proofs.Units.{wide_is_read}
use Rattle.preconv_coding.proofs.under_coding.UnderCoding.over.Goals as goal

pub returns-clause-plain : goal.returns-clause-plain
returns-clause-plain g c = plain_stays

pub returns-clause-wide : goal.returns-clause-wide
returns-clause-wide g c = wide_is_read

pub returns-clause-named : goal.returns-clause-named
returns-clause-named g c = sets_are_read

pub returns-clause-others : goal.returns-clause-others
returns-clause-others g c = others_stay

pub returns-clause-ascii : goal.returns-clause-ascii
returns-clause-ascii g c = ascii_stays

use Rattle.nr_laws.proofs.laws.plain_text_stays.Goals as goal
use Rattle.nr_laws.proofs.PlainLaw.{plain_text_stays}

pub returns : goal.returns
returns c = plain_text_stays

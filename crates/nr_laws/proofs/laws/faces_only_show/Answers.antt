use Rattle.nr_laws.proofs.laws.faces_only_show.Goals as goal
use Rattle.nr_laws.proofs.FacesLaws.{faces_only_show, struck_out_is_same}
use Rattle.nr_laws.proofs.PrintedLaw.{letters_are_left}

pub returns-clause-states : goal.returns-clause-states
returns-clause-states c = faces_only_show

pub returns-clause-struck : goal.returns-clause-struck
returns-clause-struck c = struck_out_is_same

pub returns-clause-letters : goal.returns-clause-letters
returns-clause-letters c = letters_are_left

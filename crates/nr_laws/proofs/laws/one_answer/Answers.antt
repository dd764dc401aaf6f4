use Rattle.nr_laws.proofs.laws.one_answer.Goals as goal
use Rattle.nr_laws.proofs.OutputLaws.{one_answer}

pub returns : goal.returns
returns c = one_answer

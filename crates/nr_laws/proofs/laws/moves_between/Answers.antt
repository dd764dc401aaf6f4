use Rattle.nr_laws.proofs.laws.moves_between.Goals as goal
use Rattle.nr_laws.proofs.MoveLaws.{moves_are_few, moves_before_byte, moves_between}

pub returns-clause-few : goal.returns-clause-few
returns-clause-few c = moves_are_few

pub returns-clause-before : goal.returns-clause-before
returns-clause-before c = moves_before_byte

pub returns-clause-between : goal.returns-clause-between
returns-clause-between c = moves_between

use Rattle.nr_laws.proofs.laws.faults_are_of_the_source.Goals as goal
use Rattle.nr_laws.proofs.SourceFaults.{faults_are_of_the_source}

pub returns : goal.returns
returns c = faults_are_of_the_source

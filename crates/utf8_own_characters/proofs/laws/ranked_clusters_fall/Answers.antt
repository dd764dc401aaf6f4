use Rattle.utf8_own_characters.proofs.Ranked.{keeps_all, keeps_once, ranks_fall}
use Rattle.utf8_own_characters.proofs.laws.ranked_clusters_fall.Goals as goal

pub returns-clause-falls : goal.returns-clause-falls
returns-clause-falls c = ranks_fall

pub returns-clause-all : goal.returns-clause-all
returns-clause-all c = keeps_all

pub returns-clause-once : goal.returns-clause-once
returns-clause-once c = keeps_once

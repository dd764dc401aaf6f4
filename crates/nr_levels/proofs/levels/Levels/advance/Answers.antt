use Rattle.nr_levels.proofs.Going.{gone_once, may_go_once}
use Rattle.nr_levels.proofs.levels.Levels.advance.Goals as goal

pub go_on-requires : goal.go_on-requires
go_on-requires g c = may_go_once _ _ _ _ _ _ _ _ c.self.view_is c.requires

pub returns : goal.returns
returns g c = rw c.go_on.ensures (gone_once _ _ _ _ _ _ _ _ c.self.view_is)

use Rattle.std.proofs.Common.{◌<◌, length}
use Rattle.nr_levels.proofs.Going.{gone_further, some_of, may_go_further}
use Rattle.nr_levels.proofs.levels.Levels.skip.Goals as goal

pub go_on-requires : goal.go_on-requires
go_on-requires g c =
    let some : 0 < length c.self.inside.frames.items = some_of (length c.self.inside.frames.items) c.if-is_empty.ensures in
    may_go_further _ _ _ _ _ _ _ _ _ c.self.view_is c.self.invariant.0.stacked some c.requires

pub returns : goal.returns
returns g c = rw c.go_on.ensures (gone_further _ _ _ _ _ _ _ _ _ c.self.view_is)

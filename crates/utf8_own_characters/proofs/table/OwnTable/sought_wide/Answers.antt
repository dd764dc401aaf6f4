use Rattle.std.proofs.Common.{sym}
use Rattle.utf8_own_characters.proofs.Coding.{wide_fits}
use Rattle.utf8_own_characters.proofs.table.OwnTable.sought_wide.Goals as goal

pub pair-requires-clause-there : goal.pair-requires-clause-there
pair-requires-clause-there c = wide_fits _ c.args.cluster.now c.in-Some.place c.requires (sym c.in-Some.ensures)

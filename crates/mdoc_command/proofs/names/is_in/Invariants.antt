use Rattle.std.proofs.Common.{◌≡◌, drop}
use Rattle.mdoc_command.specs.Names.{is_in}
use Rattle.mdoc_command.proofs.names.is_in.Given as goal

abbrev pub invariant-loop-name : goal.invariant-loop-name
invariant-loop-name l = is_in (drop l.name-index l.table) l.first l.second ≡ is_in l.table l.first l.second

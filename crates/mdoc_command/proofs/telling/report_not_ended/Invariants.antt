use Rattle.std.proofs.Common.{◌≡◌, drop}
use Rattle.mdoc_command.specs.Telling.{not_ended}
use Rattle.mdoc_command.proofs.telling.report_not_ended.Given as goal

abbrev pub invariant-loop-block : goal.invariant-loop-block
invariant-loop-block l = not_ended (drop l.block-index l.blocks) l.complaints ≡ not_ended l.blocks l.initial.complaints

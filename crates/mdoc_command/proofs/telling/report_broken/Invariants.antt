use Rattle.std.proofs.Common.{◌≡◌, drop}
use Rattle.mdoc_command.specs.Telling.{broken}
use Rattle.mdoc_command.proofs.telling.report_broken.Given as goal

abbrev pub invariant-loop-block : goal.invariant-loop-block
invariant-loop-block l = broken l.by l.line (drop l.block-index l.blocks) l.complaints ≡ broken l.by l.line l.blocks l.initial.complaints

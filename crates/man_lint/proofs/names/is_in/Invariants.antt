use Rattle.std.proofs.Common.{◌≡◌, drop}
use Rattle.man_lint.specs.Names.{is_in}
use Rattle.man_lint.proofs.names.is_in.Given as goal

abbrev pub invariant-loop-other : goal.invariant-loop-other
invariant-loop-other l = is_in (drop l.other-index l.bytes) l.byte ≡ is_in l.bytes l.byte

use Rattle.std.proofs.Common.{◌≡◌, drop}
use Rattle.man_lint.specs.Watching.{all_heard}
use Rattle.man_lint.proofs.watching.Watch.hear_all.Given as goal

abbrev pub invariant-loop-byte : goal.invariant-loop-byte
invariant-loop-byte l = all_heard (drop l.byte-index l.bytes) l.self ≡ all_heard l.bytes l.initial.self

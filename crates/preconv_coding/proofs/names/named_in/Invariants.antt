use Rattle.std.proofs.Common.{◌≡◌, drop}
use Rattle.preconv_coding.specs.Names.{named_in}
use Rattle.preconv_coding.proofs.names.named_in.Given as goal

abbrev pub invariant-loop-entry : goal.invariant-loop-entry
invariant-loop-entry l = named_in (drop l.entry-index l.names) l.name ≡ named_in l.names l.name

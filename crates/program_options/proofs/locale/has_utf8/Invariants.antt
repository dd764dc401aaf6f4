-- The name stands nowhere before the place.
use Rattle.std.proofs.Common.{◌≡◌, drop}
use Rattle.program_options.specs.Locale.{has_utf8}
use Rattle.program_options.proofs.locale.has_utf8.Given as goal

abbrev pub invariant-loop-at : goal.invariant-loop-at
invariant-loop-at l = has_utf8 l.locale ≡ has_utf8 (drop l.at l.locale)

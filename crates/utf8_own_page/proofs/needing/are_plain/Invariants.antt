-- Each up to here is plain.
use Rattle.std.proofs.Common.{◌≡◌, true}
use Rattle.utf8_own_page.specs.Needing.{AllPlain}
use Rattle.utf8_own_page.proofs.needing.are_plain.Given as goal

abbrev pub invariant-loop-place : goal.invariant-loop-place
invariant-loop-place l = l.all ≡ true → AllPlain l.place l.bytes

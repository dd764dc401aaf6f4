-- Those that came are of ASCII, and no names of others.
use Rattle.std.proofs.Common.{◌≡◌, ◌≤◌, ◌-◌, drop, length}
use Rattle.utf8_own_page.specs.Needing.{is_beyond_ascii}
use Rattle.utf8_own_page.proofs.needing.is_beyond_ascii.Given as goal

abbrev pub invariant-loop-place : goal.invariant-loop-place
invariant-loop-place l = (is_beyond_ascii (drop l.place l.page) ≡ is_beyond_ascii l.page) × (l.place ≤ length l.page)

abbrev pub decreases-loop-place : goal.decreases-loop-place
decreases-loop-place l = length l.page - l.place

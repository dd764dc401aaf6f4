use Rattle.std.proofs.Common.{◌≡◌, ◌-◌, ◌*◌, ◌≤◌, length, unsigned_abs}
use Rattle.nr_settings.specs.Tabs.{numbers_in, with_stops, empty_ruler}
use Rattle.nr_settings.proofs.tabs.Tabs.ta.Given as goal

abbrev pub invariant-loop-at : goal.invariant-loop-at
invariant-loop-at l =
    (with_stops l.v (numbers_in (length l.line - l._at) l.arguments.rest.now) l.ruler ≡ with_stops l.v (numbers_in (length l.line) l.line) empty_ruler)
    × (unsigned_abs l.ruler.place ≤ 2147483660 * length l.ruler.stops)

use Rattle.std.proofs.Common.{◌≡◌, ◌≤◌, Option}
use Rattle.nr_units.specs.Source.{Supply}
use Rattle.nr_reading.specs.declared.event.Event.TheVariants as events
use Rattle.nr_input.specs.Place.{Coming, Reached, HoldsComing}
use Rattle.nr_input.specs.Limits.{limits_of}
use Rattle.nr_input.specs.Moving.{situation}
use Rattle.fast_input.specs.Runs.{HasRead, PaysMany}
use Rattle.fast_input.proofs.levels.read_lines.Given as goal

abbrev pub invariant-loop : goal.invariant-loop
invariant-loop g l = record {
  read : (c : Coming) (p : Reached) (supply : Option Supply) → HoldsComing c p supply → HasRead l.moves (situation l.fn.store c l.fn.reader) events.Nothing l.store l.reader p supply;
  pays : (p : Reached) → PaysMany l.moves l.fn.store p l.fn.reader events.Nothing l.store p l.reader;
  limits : limits_of l.store l.reader ≡ limits_of l.fn.store l.fn.reader;
  few : l.moves ≤ 65536;
  many : l.counter ≤ l.moves;
  first : l.moves ≡ 0 → (l.store ≡ l.fn.store) × (l.reader ≡ l.fn.reader);
}

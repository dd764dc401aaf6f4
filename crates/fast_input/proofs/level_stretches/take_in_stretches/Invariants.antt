use Rattle.std.proofs.Common.{◌≡◌, ℕ, ◌+◌, ◌*◌, ◌<◌, ◌≤◌, length, slice_get, Option, Some}
use Rattle.nr_units.specs.Source.{Supply}
use Rattle.nr_reading.specs.declared.mode.PendingAct.TheVariants as pending_acts
use Rattle.nr_store.specs.Windows.{rest_of, left_times}
use Rattle.nr_store.specs.declared.element.Element.TheVariants as elements
use Rattle.nr_input.specs.Place.{Coming, Reached, HoldsComing}
use Rattle.fast_input.specs.LevelStretches.{begun_by}
use Rattle.nr_input.specs.Limits.{limits_of}
use Rattle.nr_input.specs.Moving.{situation}
use Rattle.fast_input.specs.Runs.{HasRead, PaysAll, StopsInLevel}
use Rattle.fast_input.proofs.level_stretches.take_in_stretches.Given as goal

abbrev pub invariant-loop : goal.invariant-loop
invariant-loop g l = record {
  read : (c : Coming) (p : Reached) (supply : Option Supply) → HoldsComing c p supply
      → HasRead l.taken_in.run.moves (situation l.fn.store c l.fn.reader) l.taken_in.run.event (begun_by l.taken_in.calls (left_times l.taken_in.run.taken l.fn.store)) l.reader p supply;
  pays : (p : Reached) → PaysAll l.taken_in.run.moves l.fn.store p l.fn.reader l.taken_in.run.event (begun_by l.taken_in.calls (left_times l.taken_in.run.taken l.fn.store)) p l.reader;
  few : l.taken_in.run.moves ≤ 65536 + 65537 * l.counter;
  within : l.taken_in.run.taken ≤ length (rest_of l.fn.store.levels);
  short : l.taken_in.run.taken ≤ l.taken_in.run.moves;
  limits : limits_of l.fn.store l.reader ≡ limits_of l.fn.store l.fn.reader;
  some : (b : ℕ) → slice_get (rest_of l.fn.store.levels) 0 ≡ Some (elements.Byte b) → l.fn.reader.half.reading.pending_act ≡ pending_acts.Look → 0 < l.taken_in.run.moves;
  stops : l.taken_in.run.moves ≡ 0 → StopsInLevel 0 l.taken_in.run.event (begun_by l.taken_in.calls (left_times l.taken_in.run.taken l.fn.store)) l.reader;
}

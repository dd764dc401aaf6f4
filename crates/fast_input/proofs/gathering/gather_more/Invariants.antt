use Rattle.std.specs.Prelude.{map}
use Rattle.std.proofs.Common.{◌≡◌, ◌≤◌, true, drop, length, take}
use Rattle.nr_store.specs.Windows.{rest_of}
use Rattle.nr_reading.specs.Many.InText.{is_in_text}
use Rattle.nr_input.specs.Place.{element_item}
use Rattle.fast_input.specs.Gathering.{IsGathering, StopsGathering}
use Rattle.fast_input.proofs.gathering.gather_more.Given as goal

abbrev pub invariant-loop : goal.invariant-loop
invariant-loop g l = record {
  text : is_in_text l.reader.half ≡ true;
  stretch : g.I.Items.next_items l.rest ≡ drop l.gathered.items (map element_item (rest_of l.store.levels));
  count : l.gathered.count ≤ length l.chunk;
  holds : length l.chunk ≡ length l.fn.chunk;
  ends : l.gathered.ends ≡ l.fn.gathered.ends;
  gathered : IsGathering (take l.gathered.count l.chunk) l.store l.fn.reader l.reader l.gathered;
  stops : StopsGathering (rest_of l.store.levels) l.gathered.items l.gathered.count;
}

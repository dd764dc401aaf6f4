-- Those that are still to be counted.
use Rattle.std.proofs.Common.{◌≡◌, true, drop}
use Rattle.utf8_own_characters.specs.Counting.{is_once}
use Rattle.utf8_own_page.specs.Looking.{with_all}
use Rattle.utf8_own_page.proofs.looking.count_all.Given as goal

abbrev pub invariant-loop-character : goal.invariant-loop-character
invariant-loop-character l = record {
  room : l.counts.capacity ≡ l.initial.counts.capacity;
  once : is_once l.counts.items ≡ true;
  items : with_all l.initial.counts.capacity l.counts.items (drop l.character-index l.characters)
      ≡ with_all l.initial.counts.capacity l.initial.counts.items l.characters;
}

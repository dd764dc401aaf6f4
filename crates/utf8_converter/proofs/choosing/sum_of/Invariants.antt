use Rattle.std.proofs.Common.{◌≡◌, ℕ, ◌*◌, ◌≤◌, get_or, take}
use Rattle.std.specs.List.{sum_by}
use Rattle.utf8_converter.proofs.choosing.sum_of.Given as goal

abbrev pub invariant-loop-character : goal.invariant-loop-character
invariant-loop-character l = record {
  sum : l.sum ≡ sum_by (λ (c : ℕ). get_or l.counts c 0) (take l.character-index l.characters);
  small : l.sum ≤ 4294967295 * l.character-index;
}

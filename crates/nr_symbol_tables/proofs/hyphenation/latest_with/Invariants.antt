use Rattle.std.proofs.Common.{◌≡◌, ℕ, ◌-◌, ◌<◌, ◌≤◌, length}
use Rattle.nr_symbol_tables.specs.Word.{bytes_of}
use Rattle.nr_symbol_tables.specs.Hyphenation.{kind, kinds, words_in, word_at, number_at}
use Rattle.nr_symbol_tables.proofs.hyphenation.latest_with.Given as goal

abbrev pub invariant-loop-at : goal.invariant-loop-at
invariant-loop-at l =
    record {
      within : l.at ≤ length l.row;
      last : (k : ℕ) → l.at ≤ k → k < length l.row → (word_at (words_in l.row) k).letters ≡ bytes_of l.cells → ⊥;
      of_kind : 0 < l.at → number_at (kinds l.row) (l.at - 1) ≡ kind (bytes_of l.cells);
    }

abbrev pub decreases-loop-at : goal.decreases-loop-at
decreases-loop-at l = l.at

use Rattle.std.proofs.Common.{◌≡◌, ℕ, ◌-◌, ◌<◌, ◌≤◌, length, map}
use Rattle.nr_symbol_tables.specs.Rows.{named, names, kind, kinds, name_in, place_in}
use Rattle.nr_symbol_tables.proofs.table.place_of.Given as goal

abbrev pub invariant-loop-at : goal.invariant-loop-at
invariant-loop-at g l =
    record {
      within : l.at ≤ length l.row;
      last : (k : ℕ) → l.at ≤ k → k < length l.row → name_in (names (map named l.row)) k ≡ l.name → ⊥;
      of_kind : 0 < l.at → place_in (kinds (map named l.row)) (l.at - 1) ≡ kind l.name;
    }

abbrev pub decreases-loop-at : goal.decreases-loop-at
decreases-loop-at g l = l.at

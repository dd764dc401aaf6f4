use Rattle.std.proofs.Common.{◌≡◌, ◌-◌, ◌<◌, ◌≤◌, length, map}
use Rattle.nr_symbol_tables.specs.Rows.{named, kinds, earliers, place_in}
use Rattle.nr_symbol_tables.proofs.table.link_at.Given as goal

abbrev pub invariant-loop-to : goal.invariant-loop-to
invariant-loop-to g l =
    record {
      begins : l.over ≡ 0 → place_in l.latest l.kind ≡ l.to;
      passes : 0 < l.over → l.at < l.over;
      within : l.over ≤ length l.row;
      of_kind : 0 < l.over → place_in (kinds (map named l.row)) (l.over - 1) ≡ l.kind;
      goes : 0 < l.over → place_in (earliers l.row) (l.over - 1) ≡ l.to;
      to_within : l.to ≤ length l.row;
      to_kind : 0 < l.to → place_in (kinds (map named l.row)) (l.to - 1) ≡ l.kind;
    }

abbrev pub decreases-loop-to : goal.decreases-loop-to
decreases-loop-to g l = l.to

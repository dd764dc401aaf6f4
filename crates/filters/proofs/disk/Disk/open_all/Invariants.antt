-- The texts of the first names are open, no other path was asked for, and there is room for all.
use Rattle.std.proofs.Common.{◌≡◌, ℕ, ◌≤◌, List, map, take, length, vec_len, vec_capacity}
use Rattle.filters.specs.Disk.{AreOpened, Asks, MayCome, Opening, all_paths, opened_of}
use Rattle.filters.specs.Arguments.{texts}
use Rattle.filters.proofs.disk.Disk.open_all.Given as goal

abbrev pub invariant-loop-name : goal.invariant-loop-name
invariant-loop-name g l = record {
  count : vec_len l.opened ≡ l.name-index;
  room : length l.names ≤ vec_capacity l.opened;
  opened : AreOpened (MayCome (g.I.Read.remaining l.fn.self.standard) (g.P.Paths.may_open l.fn.self.paths)) (texts (take l.name-index l.names)) (map (opened_of g.P.File.Read.remaining g.I.Read.remaining) l.opened.items);
  asked : Asks (g.P.Paths.asked l.fn.self.paths) (g.P.Paths.asked l.self.paths) (all_paths (texts (take l.name-index l.names)));
  stays : (other : List ℕ) → (opening : Opening) → g.P.Paths.may_open l.self.paths other opening → g.P.Paths.may_open l.fn.self.paths other opening;
  same : l.self.standard ≡ l.fn.self.standard;
}

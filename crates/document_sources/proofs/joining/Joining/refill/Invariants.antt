-- What is to come stays as it was.
use Rattle.std.proofs.Common.{◌≡◌}
use Rattle.document_stages.specs.Pulling.{Stays}
use Rattle.document_sources.specs.Joining.{coming, joined_supply}
use Rattle.std.proofs.Common.{drop}
use Rattle.document_sources.proofs.joining.Joining.refill.Given as goal

abbrev pub invariant-loop : goal.invariant-loop
invariant-loop g l = record {
  stays : Stays
      (joined_supply (g.F.Folder.texts l.fn.self.folder) (coming (drop l.fn.self.ahead.taken l.fn.self.ahead.text.items) (g.R.Source.supply l.fn.self.input)) l.fn.self.line.capacity l.fn.self.standing l.fn.self.line.items)
      (joined_supply (g.F.Folder.texts l.self.folder) (coming (drop l.self.ahead.taken l.self.ahead.text.items) (g.R.Source.supply l.self.input)) l.self.line.capacity l.self.standing l.self.line.items);
  failures : l.self.failed ≡ l.fn.self.failed;
}

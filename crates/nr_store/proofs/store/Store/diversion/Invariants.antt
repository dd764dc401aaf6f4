use Rattle.std.proofs.Common.{◌≡◌, drop}
use Rattle.nr_store.proofs.Diverting.{open_in}
use Rattle.nr_store.proofs.store.Store.diversion.Given as goal

abbrev pub invariant-loop-n : goal.invariant-loop-n
invariant-loop-n g l = open_in (drop l.n l.self-inside.drafts.items) ≡ open_in l.self-inside.drafts.items

use Rattle.std.proofs.Common.{arith}
use Rattle.std.proofs.lemmas.Grind.{common_steps}
use Rattle.nr_store.specs.Holders.{beside_of}
use Rattle.nr_store.proofs.Keeping.{levels_within}
use Rattle.nr_store.proofs.store.Store.enter_bytes.Goals as goal

pub open_bytes-requires-clause-bytes : goal.open_bytes-requires-clause-bytes
open_bytes-requires-clause-bytes g c =
    let s = c.self.inside in
    let below = c.self.invariant.within in
    let fit = levels_within s.pool s.names s.drafts s.levels (beside_of s.gathering s.registers s.traps s.words) s.charge s.stored c.self.invariant in
    let suffice = c.self.invariant.bytes_suffice in
    omega arith

pub returns-then-self-charge-clause-answer : goal.returns-then-self-charge-clause-answer
returns-then-self-charge-clause-answer g c = grind (arith, common_steps)

pub returns-then-is_full-clause-answer : goal.returns-then-is_full-clause-answer
returns-then-is_full-clause-answer g c = grind (arith, common_steps)

pub overflow_add-self : goal.overflow_add-self
overflow_add-self g c = grind (arith, common_steps)

pub invariant_of-self : goal.invariant_of-self
invariant_of-self g c = grind (arith, common_steps)

pub returns-clause-answer : goal.returns-clause-answer
returns-clause-answer g c = grind (arith, common_steps)

pub returns-clause-ok : goal.returns-clause-ok
returns-clause-ok g c = grind (arith, common_steps)

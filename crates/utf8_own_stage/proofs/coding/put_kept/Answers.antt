use Rattle.std.proofs.Common.{length, ap, length-append, arith}
use Rattle.utf8_own_characters.specs.Table.{code}
use Rattle.utf8_own_stage.specs.Coding.{coded}
use Rattle.utf8_own_stage.proofs.Few.{coded_few}
use Rattle.utf8_own_stage.proofs.coding.put_kept.Goals as goal

pub returns-then-not-waits-clause-fewer : goal.returns-then-not-waits-clause-fewer
returns-then-not-waits-clause-fewer c = λ beyond.
    let k = c.args.cluster.now in
    let t = c.args.table.now in
    let few = coded_few (code t k) k.letter beyond in
    let all = ap length c.put_cluster.ensures.items in
    let parts = length-append c.args.out.now.items (coded t k) in
    omega (arith, few, all, parts)

use Rattle.std.proofs.Common.{arith}
use Rattle.document_sources.proofs.Steps.{Within-line}
use Rattle.document_sources.proofs.joining.JoiningSource.skip.Goals as goal

pub overflow_add-self : goal.overflow_add-self
overflow_add-self g c =
    let s = c.args.self.now in
    let some = c.if-self-count.true in
    let count = c.len-count.ensures.value in
    let few = Within-line s.standing.phase s.standing.at s.line.items c.args.n c.requires (omega (arith, some, count)) in
    let fits = c.len-count.type_inv in
    omega (arith, few, count, fits)

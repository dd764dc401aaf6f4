use Rattle.std.proofs.Common.{arith}
use Rattle.program_command.proofs.Bytewise.{within}
use Rattle.program_command.proofs.ahead.AheadSource.skip.Goals as goal

pub overflow_add-self : goal.overflow_add-self
overflow_add-self g c =
    let s = c.args.self.now in
    let few = within s.taken c.args.n s.first.items (g.S.Source.at_hand s.rest) (omega (arith, c.if-self-len.true, c.len.ensures)) c.requires in
    omega (arith, few, c.len.ensures, c.len.type_inv)

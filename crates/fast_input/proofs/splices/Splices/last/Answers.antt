use Rattle.std.proofs.Common.{arith, rules}
use Rattle.fast_input.proofs.SplicesLie.{last_asked-at}
use Rattle.fast_input.proofs.splices.Splices.last.Goals as goal

pub returns-clause-some : goal.returns-clause-some
returns-clause-some c = λ name.
    let within = c.self.invariant in
    let some = c.if-self-eq0.false in
    last_asked-at c.self.inside.all c.args.self.now c.self.inside.len c.index-self-self.result name c.self.view_is (search rules) (omega (arith, within.0, within.1))

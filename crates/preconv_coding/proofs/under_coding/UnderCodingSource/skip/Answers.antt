use Rattle.std.proofs.Common.{sym, subst, arith}
use Rattle.nr_units.specs.Source.{Skips}
use Rattle.preconv_coding.specs.UnderCoding.{supply_from}
use Rattle.preconv_coding.proofs.Giving.{hand_plain, plain_skips}
use Rattle.preconv_coding.proofs.under_coding.UnderCodingSource.skip.Goals as goal

pub returns-then-n-gt0-clause-skips : goal.returns-then-n-gt0-clause-skips
returns-then-n-gt0-clause-skips g c =
    let s = c.args.self.now in
    let known = g.S.Source.supply s.source in
    let new = g.S.Source.supply c.skip.new.self in
    let is = hand_plain s.part s.ready (g.S.Source.at_hand s.source) (omega (arith, c.requires, c.if-n-gt0.true)) in
    let plain = plain_skips s.part is.0 known new c.args.n c.skip.ensures.skips in
    subst (λ ready. Skips (supply_from s.part ready known) c.args.n (supply_from s.part ready new)) (sym is.1) plain

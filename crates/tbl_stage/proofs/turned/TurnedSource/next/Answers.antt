use Rattle.std.proofs.Common.{◌<◌, length, arith}
use Rattle.document_stages.proofs.Steps.{Gives-fault, some-left}
use Rattle.tbl_stage.proofs.turned.TurnedSource.next.Goals as goal

pub give-requires : goal.give-requires
give-requires g c =
    let s = c.args.self.now in
    let h : s.at < length s.out.now.items = (let t = c.if-self-len.true in let l = c.len.ensures.value in omega (arith, t, l)) in
    record { some = λ none. absurd (some-left s.out.now.items s.at h none) }

pub returns-in-Err-clause-gives : goal.returns-in-Err-clause-gives
returns-in-Err-clause-gives g c = Gives-fault _ _ _ c.in-Err.ensures.stays c.in-Err.ensures.fault

use Rattle.std.proofs.Common.{arith}
use Rattle.document_stages.proofs.Steps.{Stays-going, Stays-refilled, MayBreak-refilled, MayBreak-small}
use Rattle.tbl_stage.proofs.turned.Turned.refill.Goals as goal

-- there is too little room
pub returns-then-room-wants-clause-fault : goal.returns-then-room-wants-clause-fault
returns-then-room-wants-clause-fault g c =
    let s = c.args.self.now in
    MayBreak-small (g.R.Source.supply s.input) (g.T.Turning.wants s.stage) s.out.now.capacity (g.T.Turning.says s.stage) (g.T.Turning.fits s.stage) _ s.taken s.ended
    (let few = c.if-room-wants.true in let is = c.capacity-room.ensures.value in let wants = c.room-wants.ensures in omega (arith, few, is, wants))

pub returns-in-Ok-clause-stays : goal.returns-in-Ok-clause-stays
returns-in-Ok-clause-stays g c =
    let s = c.args.self.now in
    Stays-refilled (g.R.Source.supply s.input) _ (g.T.Turning.wants s.stage) _ s.out.now.capacity _ (g.T.Turning.says s.stage) _ (g.T.Turning.fits s.stage) _ _ _ s.taken _ s.ended _
    (let few = c.if-room-wants.false in let is = c.capacity-room.ensures.value in let wants = c.room-wants.ensures in omega (arith, few, is, wants))
    c.in-Ok.ensures.wants c.in-Ok.ensures.room c.requires.none c.requires.going c.in-Ok.ensures.stays

pub returns-in-Err-clause-stays : goal.returns-in-Err-clause-stays
returns-in-Err-clause-stays g c =
    let s = c.args.self.now in
    Stays-going _ (g.R.Source.supply c.fill.new.input) _ (g.T.Turning.says c.fill.new.stage) (g.T.Turning.fits c.fill.new.stage) c.fill.new.out.items c.fill.new.taken s.ended c.requires.going
    (Stays-refilled (g.R.Source.supply s.input) _ (g.T.Turning.wants s.stage) _ s.out.now.capacity _ (g.T.Turning.says s.stage) _ (g.T.Turning.fits s.stage) _ _ _ s.taken _ s.ended _
    (let few = c.if-room-wants.false in let is = c.capacity-room.ensures.value in let wants = c.room-wants.ensures in omega (arith, few, is, wants))
    c.in-Err.ensures.wants c.in-Err.ensures.room c.requires.none c.requires.going c.in-Err.ensures.stays)

pub returns-in-Err-clause-fault : goal.returns-in-Err-clause-fault
returns-in-Err-clause-fault g c =
    let s = c.args.self.now in
    MayBreak-refilled (g.R.Source.supply s.input) (g.T.Turning.wants s.stage) s.out.now.capacity (g.T.Turning.says s.stage) (g.T.Turning.fits s.stage) _ s.taken s.ended
    (let few = c.if-room-wants.false in let is = c.capacity-room.ensures.value in let wants = c.room-wants.ensures in omega (arith, few, is, wants))
    c.requires.none c.requires.going c.in-Err.ensures.filled.1

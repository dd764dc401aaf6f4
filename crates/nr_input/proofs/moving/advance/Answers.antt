use Rattle.std.proofs.Common.{◌≡◌, Ok, Err, ap, sym, true}
use Rattle.nr_reading.specs.declared.mode.PendingAct.TheVariants as pending_acts
use Rattle.nr_input.specs.Acting.{is_look}
use Rattle.nr_input.proofs.LimitsStay.{act_stays}
use Rattle.nr_input.proofs.PendingAct.{acted_moves, acted_refuses}
use Rattle.nr_input.proofs.Spending.{act_pays}
use Rattle.nr_input.proofs.Staying.{act_begins_none}
use Rattle.nr_input.proofs.moving.advance.Goals as goal

pub returns-in-Ok-clause-moved : goal.returns-in-Ok-clause-moved
returns-in-Ok-clause-moved g c = λ coming holds.
    acted_moves c.args.store.now c.act.new.store c.args.reader.now c.act.new.self coming c.args.place.now _ (sym c.if-looks.ensures) holds c.in-Ok.event c.in-Ok.ensures

pub returns-in-Err-clause-moved : goal.returns-in-Err-clause-moved
returns-in-Err-clause-moved g c = λ coming holds.
    acted_refuses c.args.store.now c.act.new.store c.args.reader.now c.act.new.self coming c.args.place.now _ (sym c.if-looks.ensures) holds c.in-Err.refusal c.in-Err.ensures

pub returns-in-Ok-clause-pays : goal.returns-in-Ok-clause-pays
returns-in-Ok-clause-pays g c =
    let r = c.args.reader.now in
    act_pays c.args.store.now c.act.new.store c.args.place.now r c.act.new.self c.in-Ok.event
    (λ (is : r.half.reading.pending_act ≡ pending_acts.Look). let looks : is_look r.half.reading.pending_act ≡ true = ap is_look is in let wrong : ⊥ = cc in absurd wrong) c.in-Ok.ensures

pub returns-in-Ok-clause-diversions : goal.returns-in-Ok-clause-diversions
returns-in-Ok-clause-diversions g c =
    let r = c.args.reader.now in act_begins_none c.args.store.now c.act.new.store r c.act.new.self (Ok c.in-Ok.event) c.in-Ok.ensures

pub returns-in-Ok-clause-limits : goal.returns-in-Ok-clause-limits
returns-in-Ok-clause-limits g c =
    let r = c.args.reader.now in act_stays c.args.store.now c.act.new.store r c.act.new.self r.half.reading.pending_act (Ok c.in-Ok.event) c.in-Ok.ensures

pub returns-in-Err-clause-limits : goal.returns-in-Err-clause-limits
returns-in-Err-clause-limits g c =
    let r = c.args.reader.now in act_stays c.args.store.now c.act.new.store r c.act.new.self r.half.reading.pending_act (Err c.in-Err.refusal) c.in-Err.ensures

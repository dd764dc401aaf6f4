use Rattle.std.proofs.Common.{sym, ◌∙◌, subst}
use Rattle.nr_reading.specs.declared.event.Event.TheVariants as events
use Rattle.nr_store.specs.Store.{Stored}
use Rattle.nr_input.specs.declared.reader.Reader.{Reader}
use Rattle.fast_input.specs.Runs.{PaysMany}
use Rattle.fast_input.proofs.LevelParts.{pending_read, pending_paid, pending_left, none_paid}
use Rattle.fast_input.proofs.levels.do_pending.Goals as goal

pub returns-in-Ok-clause-read : goal.returns-in-Ok-clause-read
returns-in-Ok-clause-read g c =
    pending_read c.args.store.now c.act.new.store c.args.reader.now c.act.new.self (sym c.may_act.ensures ∙ c.if-not-may_act.false) c.in-Ok.event c.in-Ok.ensures

pub returns-in-Ok-clause-pays : goal.returns-in-Ok-clause-pays
returns-in-Ok-clause-pays g c =
    pending_paid c.args.store.now c.act.new.store c.args.reader.now c.act.new.self (sym c.may_act.ensures ∙ c.if-not-may_act.false) c.in-Ok.event c.in-Ok.ensures

pub returns-in-Err-clause-pays : goal.returns-in-Err-clause-pays
returns-in-Err-clause-pays g c = λ p.
    let v = c.args.store.now in
    let r = c.args.reader.now in
    let same = pending_left v c.act.new.store r c.act.new.self (sym c.may_act.ensures ∙ c.if-not-may_act.false) c.in-Err.field-0 c.in-Err.ensures in
    subst (λ (w : Stored _). PaysMany 0 v p r events.Nothing w p c.act.new.self) (sym same.0) (subst (λ (s : Reader). PaysMany 0 v p r events.Nothing v p s) (sym same.1) (none_paid v p r))

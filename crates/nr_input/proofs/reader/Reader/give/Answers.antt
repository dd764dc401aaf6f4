use Rattle.std.proofs.Common.{true, Ok, Err}
use Rattle.nr_reading.specs.declared.event.Event.TheVariants as events
use Rattle.nr_store.specs.Store.{reading_bytes}
use Rattle.nr_input.specs.Acting.{expanded}
use Rattle.nr_input.specs.Refusal.{splicing_answer}
use Rattle.nr_input.proofs.LimitsStay.{give_stays}
use Rattle.nr_input.proofs.Costs.{bytes_splice}
use Rattle.nr_input.proofs.Refusals.{called-as, refused-as}
use Rattle.nr_input.proofs.reader.Reader.give.Goals as goal

pub returns-in-Ok-clause-gives : goal.returns-in-Ok-clause-gives
returns-in-Ok-clause-gives g c =
    let v = c.args.store.now in
    let r = c.args.self.now in
    let n = reading_bytes c.args.bytes.now v in
    called-as (splicing_answer true n r) n (expanded r) events.Nothing tt v _ r _ _ c.in-Ok.ensures

pub returns-in-Ok-clause-pays : goal.returns-in-Ok-clause-pays
returns-in-Ok-clause-pays g c =
    bytes_splice c.args.bytes.now c.args.store.now c.splice_bytes.new.store c.args.self.now c.splice_bytes.new.self (returns-in-Ok-clause-gives g c)

pub returns-in-Err-clause-gives : goal.returns-in-Err-clause-gives
returns-in-Err-clause-gives g c =
    let v = c.args.store.now in
    let r = c.args.self.now in
    let n = reading_bytes c.args.bytes.now v in
    refused-as (splicing_answer true n r) n (expanded r) events.Nothing tt v _ r _ _ c.in-Err.ensures

pub returns-in-Ok-clause-limits : goal.returns-in-Ok-clause-limits
returns-in-Ok-clause-limits g c =
    give_stays c.args.store.now c.splice_bytes.new.store c.args.self.now c.splice_bytes.new.self c.args.bytes.now (Ok tt) (returns-in-Ok-clause-gives g c)

pub returns-in-Err-clause-limits : goal.returns-in-Err-clause-limits
returns-in-Err-clause-limits g c =
    give_stays c.args.store.now c.splice_bytes.new.store c.args.self.now c.splice_bytes.new.self c.args.bytes.now (Err c.in-Err.refusal) (returns-in-Err-clause-gives g c)

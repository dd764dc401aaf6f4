use Rattle.std.proofs.Common.{◌≡◌, ℕ, Bool, true, sym, ap, ap₂, ◌∙◌}
use Rattle.nr_store.specs.declared.shown.Shown.{Shown}
use Rattle.nr_reading.specs.Half.{take_in}
use Rattle.nr_input.specs.Moving.{burst_past, emitted_of}
use Rattle.nr_input.specs.Emitted.{emitted_as}
use Rattle.nr_store.specs.Store.{Stored}
use Rattle.nr_input.specs.Limits.{limits_of}
use Rattle.nr_input.proofs.LimitsStay.{left-limits}
use Rattle.nr_input.proofs.Hearing.{heard_is, taken_moves}
use Rattle.nr_input.proofs.Taking.{look_takes, look_leaves, not-false, not-true}
use Rattle.nr_input.proofs.moving.look.Goals as goal

pub returns-then-not-seen-clause-pays : goal.returns-then-not-seen-clause-pays
returns-then-not-seen-clause-pays g c =
    let seen = c.take_in-seen.result in
    look_leaves c.args.store.now c.args.place.now c.look.new.self c.args.reader.now c.in_ok-next_item.next_item c.take_in-seen.new.self seen c.requires c.look.ensures.stays c.take_in-seen.ensures.pays
    (not-true seen.takes c.if-not-seen.true)

pub returns-clause-pays : goal.returns-clause-pays
returns-clause-pays g c =
    let seen = c.take_in-seen.result in
    let q = c.look.new.self in
    look_takes c.args.store.now c.take-sight.new.store c.args.place.now q c.take-sight.new.self c.args.reader.now c.in_ok-next_item.next_item c.take_in-seen.new.self seen c.burst_after-reader.result (emitted_as c.take-sight.new.mode c.heard_of.result)
    c.requires c.look.ensures.stays c.in_ok-next_item.ensures.next_item c.take_in-seen.ensures.pays (not-false seen.takes c.if-not-seen.false) c.take-sight.ensures.store c.take-sight.ensures.place
    (c.burst_after-reader.ensures ∙ ap₂ (λ (a b : ℕ). burst_past a b c.args.reader.now.burst) c.taken-before.ensures.value c.taken.ensures.value)
    (ap (emitted_as c.take-sight.new.mode) c.heard_of.ensures ∙ heard_is c.take-sight.result c.take-sight.new.mode seen.event ∙ ap (λ (s : Shown g.row.K.Denot). emitted_of s seen.event) c.take-sight.ensures.was)

pub returns-clause-moved : goal.returns-clause-moved
returns-clause-moved g c = λ coming holds.
    let v = c.args.store.now in
    let r = c.args.reader.now in
    let seen = c.take_in-seen.result in
    let k = c.take_in-seen.new.self in
    let looked = c.in_ok-next_item.ensures.looks coming holds in
    let takes = not-false seen.takes c.if-not-seen.false in
    let takes_in : record { half = k; event = seen.event; takes = true } ≡ take_in c.in_ok-next_item.next_item r.half = ap (λ (b : Bool). record { half = k; event = seen.event; takes = b }) (sym takes) ∙ c.take_in-seen.ensures.takes_in in
    taken_moves v r coming k seen.event c.look.new.self c.take-sight.new.self c.in_ok-next_item.next_item c.take-sight.new.store _ c.burst_after-reader.result _ _ c.requires
    looked.0 looked.1 looked.2 takes_in c.take-sight.ensures.store (c.take-sight.ensures.takes coming _ looked.1)
    (c.burst_after-reader.ensures ∙ ap₂ (λ (a b : ℕ). burst_past a b r.burst) c.taken-before.ensures.value c.taken.ensures.value)
    (ap (emitted_as c.take-sight.new.mode) c.heard_of.ensures ∙ heard_is c.take-sight.result c.take-sight.new.mode seen.event ∙ ap (λ (s : Shown g.row.K.Denot). emitted_of s seen.event) c.take-sight.ensures.was)

pub returns-clause-limits : goal.returns-clause-limits
returns-clause-limits g c =
    let v = c.args.store.now in
    let r = c.args.reader.now in
    ap (λ (w : Stored _). limits_of w r) c.take-sight.ensures.store ∙ left-limits v.levels v r

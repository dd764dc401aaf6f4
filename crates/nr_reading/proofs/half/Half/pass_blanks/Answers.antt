use Rattle.std.proofs.Common.{◌≡◌, ◌+◌, ◌-◌, refl, sym, ap, ◌∙◌, arith}
use Rattle.nr_reading.proofs.Stretches.{stays, recount, taken_more, looks, take_in-blank}
use Rattle.nr_reading.proofs.half.Half.pass_blanks.Goals as goal

pub loop-place-init : goal.loop-place-init
loop-place-init g c =
    let fs = g.I.Items.next_items c.args.items.now in
    let h = c.args.self.now in
    record {
      leads = λ n. recount fs c.args.from n c.args.from c.args.from n (n + (c.args.from - c.args.from)) h h (stays fs c.args.from n h) refl (omega arith);
      prefix = omega arith;
    }

pub loop-place-preserved : goal.loop-place-preserved
loop-place-preserved g c =
    let fs = g.I.Items.next_items c.args.items.now in
    let h = c.args.self.now in
    let place = c.loop-place.place in
    record {
      leads =
          λ n. recount fs c.args.from n (place + 1) (place + 1) (n + (place - c.args.from) + 1) (n + (place + 1 - c.args.from)) h h
          (taken_more fs c.args.from n place (n + (place - c.args.from)) c.in-Some.byte h h h (c.loop-place.invariant.leads n) (omega arith) (looks h c.requires.next) c.in-Some.ensures.value
          (take_in-blank c.in-Some.byte h c.requires.next c.requires.drops (sym c.is_blank.ensures ∙ c.if-is_blank.true))) refl (omega arith);
      prefix = omega arith;
    }

pub returns-clause-leads : goal.returns-clause-leads
returns-clause-leads g c =
    let place = c.loop-place.place in
    let end : place ≡ c.args.to = omega arith in
    λ n. recount (g.I.Items.next_items c.args.items.now) c.args.from n place c.args.to (n + (place - c.args.from)) (n + (c.args.to - c.args.from)) c.args.self.now c.args.self.now (c.loop-place.invariant.leads n) end (ap (λ p. n + (p - c.args.from)) end)

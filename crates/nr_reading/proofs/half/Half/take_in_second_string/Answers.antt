use Rattle.std.proofs.Common.{◌+◌, ◌-◌, refl, sym, ◌∙◌, arith}
use Rattle.std.proofs.lemmas.Bool.{eq-eqb, ne_eqb}
use Rattle.nr_reading.specs.declared.event.Event.TheVariants as events
use Rattle.nr_reading.specs.declared.half.Half.{Half}
use Rattle.nr_reading.specs.declared.mode.PendingAct.TheVariants as pending_acts
use Rattle.nr_reading.proofs.ConditionStretches.{take_in-second_byte, take_in-second_end}
use Rattle.nr_reading.proofs.Stretches.{recount, taken_more, taken_last, looks}
use Rattle.nr_reading.proofs.half.Half.take_in_second_string.Goals as goal

pub loop-place-preserved : goal.loop-place-preserved
loop-place-preserved g c =
    let k = c.loop-place.self in
    let i = c.loop-place.invariant in
    let place = c.loop-place.place in
    let new : Half = record k { notes = c.note.new.self } in
    record {
      leads =
          recount (g.I.Items.next_items c.args.items.now) c.args.from c.args.made (place + 1) (place + 1) (c.args.made + (place - c.args.from) + 1) (c.args.made + (place + 1 - c.args.from)) c.args.self.now new
          (taken_more (g.I.Items.next_items c.args.items.now) c.args.from c.args.made place (c.args.made + (place - c.args.from)) c.in-Some.byte c.args.self.now k new i.leads (omega arith) (looks k i.next) c.in-Some.ensures.value
          (take_in-second_byte c.in-Some.byte c.args.delimiter c.note.new.self k i.mode i.next (sym c.is_plain.ensures ∙ c.if-not-is_plain.false) (ne_eqb c.in-Some.byte c.args.delimiter c.if-byte-delimiter.false) c.note.ensures))
          refl (omega arith);
      prefix = omega arith;
      mode = i.mode;
      next = i.next;
    }

pub returns-then-byte-delimiter : goal.returns-then-byte-delimiter
returns-then-byte-delimiter g c =
    let k = c.loop-place.self in
    let i = c.loop-place.invariant in
    let place = c.loop-place.place in
    taken_last (g.I.Items.next_items c.args.items.now) c.args.from c.args.made place (c.args.made + (place - c.args.from)) c.in-Some.byte c.args.self.now k
    (record k { reading = record k.reading { pending_act = pending_acts.Judge c.are_equal.result } }) events.Nothing i.leads (omega arith) (looks k i.next) c.in-Some.ensures.value
    (take_in-second_end c.in-Some.byte c.args.delimiter c.are_equal.result k i.mode i.next (sym c.is_plain.ensures ∙ c.if-not-is_plain.false) (eq-eqb c.in-Some.byte c.args.delimiter c.if-byte-delimiter.true) c.are_equal.ensures)
    (omega arith) (λ silent pending_act. let wrong : ⊥ = cc in wrong)

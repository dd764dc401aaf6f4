use Prim.Native.Char.{code}
use Rattle.std.proofs.Common.{◌+◌, ◌-◌, Some, refl, ap, ◌∙◌, arith}
use Rattle.std.proofs.lemmas.Bool.{ne_eqb}
use Rattle.nr_reading.specs.declared.event.Event.TheVariants as events
use Rattle.nr_reading.specs.declared.next_item.NextItem.TheVariants as next_items
use Rattle.nr_reading.specs.declared.half.Half.{Half}
use Rattle.nr_reading.specs.declared.mode.Mode.TheVariants as modes
use Rattle.nr_reading.proofs.RequestStretches.{take_in-line_byte, take_in-line_end}
use Rattle.nr_reading.proofs.Stretches.{recount, taken_more, taken_last, looks}
use Rattle.nr_reading.proofs.half.Half.take_in_arguments.Goals as goal

pub returns-then-byte-eq10 : goal.returns-then-byte-eq10
returns-then-byte-eq10 g c =
    let k = c.loop-place.self in
    let i = c.loop-place.invariant in
    let place = c.loop-place.place in
    taken_last (g.I.Items.next_items c.args.items.now) c.args.from c.args.made place (c.args.made + (place - c.args.from)) (code "\n") c.args.self.now k
    (record k { reading = record k.reading { mode = modes.Start } }) events.Request i.leads (omega arith) (looks k i.next) (c.in-Some.ensures.value ∙ ap (λ b. Some (next_items.Byte b)) c.if-byte-eq10.true)
    (take_in-line_end k i.mode i.next) (omega arith) (λ silent pending_act. let wrong : ⊥ = cc in wrong)

pub loop-place-preserved : goal.loop-place-preserved
loop-place-preserved g c =
    let k = c.loop-place.self in
    let i = c.loop-place.invariant in
    let place = c.loop-place.place in
    let new : Half = record k { notes = c.note.new.self } in
    record {
      leads =
          recount (g.I.Items.next_items c.args.items.now) c.args.from c.args.made (place + 1) (place + 1) (c.args.made + (place - c.args.from) + 1) (c.args.made + (place + 1 - c.args.from)) c.args.self.now new
          (taken_more (g.I.Items.next_items c.args.items.now) c.args.from c.args.made place (c.args.made + (place - c.args.from)) c.in-Some.byte c.args.self.now k new i.leads (omega arith) (looks k i.next) c.in-Some.ensures.value
          (take_in-line_byte c.in-Some.byte c.note.new.self k i.mode i.next (ne_eqb c.in-Some.byte (code "\\") c.if-byte-eq92.false) (ne_eqb c.in-Some.byte (code "\n") c.if-byte-eq10.false) c.note.ensures))
          refl (omega arith);
      prefix = omega arith;
      mode = i.mode;
      next = i.next;
    }

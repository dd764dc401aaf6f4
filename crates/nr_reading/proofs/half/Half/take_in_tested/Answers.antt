use Prim.Native.Char.{code}
use Rattle.std.proofs.Common.{◌+◌, ◌-◌, refl, sym, ◌∙◌, arith}
use Rattle.std.proofs.lemmas.Bool.{ne_eqb}
use Rattle.nr_reading.specs.declared.event.Event.TheVariants as events
use Rattle.nr_reading.specs.declared.event.Question.TheVariants as questions
use Rattle.nr_reading.specs.declared.half.Half.{Half}
use Rattle.nr_reading.specs.declared.mode.Mode.TheVariants as modes
use Rattle.nr_reading.proofs.ConditionStretches.{take_in-number_digit, take_in-number_byte, take_in-number_end}
use Rattle.nr_reading.proofs.Stretches.{recount, taken_more, left_last, looks}
use Rattle.nr_reading.proofs.half.Half.take_in_tested.Goals as goal

pub returns-then-ends_number : goal.returns-then-ends_number
returns-then-ends_number g c =
    let k = c.loop-place.self in
    let i = c.loop-place.invariant in
    left_last (g.I.Items.next_items c.args.items.now) c.args.from c.args.made c.loop-place.place (c.args.made + (c.loop-place.place - c.args.from)) c.in-Some.byte c.args.self.now k
    (record k { reading = record k.reading { mode = modes.Skip 0 } }) (events.Judge questions.Number) i.leads (omega arith) (looks k i.next) c.in-Some.ensures.value
    (take_in-number_end c.in-Some.byte c.loop-place.level k i.mode i.next (ne_eqb c.in-Some.byte (code "\\") c.if-byte-eq92.false) (sym c.ends_number.ensures ∙ c.if-ends_number.true)) (omega arith) (λ silent pending_act. let wrong : ⊥ = cc in wrong)

pub loop-place-preserved-then-is_digit_or_relation : goal.loop-place-preserved-then-is_digit_or_relation
loop-place-preserved-then-is_digit_or_relation g c =
    let k = c.loop-place.self in
    let i = c.loop-place.invariant in
    let place = c.loop-place.place in
    let new : Half = record k { notes = c.note.new.self } in
    record {
      leads =
          recount (g.I.Items.next_items c.args.items.now) c.args.from c.args.made (place + 1) (place + 1) (c.args.made + (place - c.args.from) + 1) (c.args.made + (place + 1 - c.args.from)) c.args.self.now new
          (taken_more (g.I.Items.next_items c.args.items.now) c.args.from c.args.made place (c.args.made + (place - c.args.from)) c.in-Some.byte c.args.self.now k new i.leads (omega arith) (looks k i.next) c.in-Some.ensures.value
          (take_in-number_digit c.in-Some.byte c.loop-place.level c.note.new.self k i.mode i.next (sym c.is_digit_or_relation.ensures ∙ c.if-is_digit_or_relation.true) c.note.ensures))
          refl (omega arith);
      prefix = omega arith;
      mode = i.mode;
      next = i.next;
    }

pub loop-place-preserved : goal.loop-place-preserved
loop-place-preserved g c =
    let k = c.loop-place.self in
    let i = c.loop-place.invariant in
    let place = c.loop-place.place in
    let new : Half = record k { reading = record k.reading { mode = modes.Number c.parentheses-level.result }; notes = c.note-in-loop-place.new.self } in
    record {
      leads =
          recount (g.I.Items.next_items c.args.items.now) c.args.from c.args.made (place + 1) (place + 1) (c.args.made + (place - c.args.from) + 1) (c.args.made + (place + 1 - c.args.from)) c.args.self.now new
          (taken_more (g.I.Items.next_items c.args.items.now) c.args.from c.args.made place (c.args.made + (place - c.args.from)) c.in-Some.byte c.args.self.now k new i.leads (omega arith) (looks k i.next) c.in-Some.ensures.value
          (take_in-number_byte c.in-Some.byte c.loop-place.level c.parentheses-level.result c.note-in-loop-place.new.self k i.mode i.next (ne_eqb c.in-Some.byte (code "\\") c.if-byte-eq92.false) (sym c.ends_number.ensures ∙ c.if-ends_number.false) c.parentheses-level.ensures c.note-in-loop-place.ensures))
          refl (omega arith);
      prefix = omega arith;
      mode = refl;
      next = i.next;
    }

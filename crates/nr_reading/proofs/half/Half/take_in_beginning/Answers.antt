use Rattle.std.proofs.Common.{◌+◌, subst, sym, ap, ◌∙◌, arith}
use Rattle.nr_reading.specs.declared.event.Event.TheVariants as events
use Rattle.nr_reading.specs.declared.half.Half.{Half}
use Rattle.nr_reading.specs.Many.LineBeginnings.{text_begun}
use Rattle.nr_reading.specs.Half.{reads_next}
use Rattle.nr_reading.specs.Many.Stretch.{LeadsOn, TakesInRest}
use Rattle.nr_reading.proofs.LineStretches.{take_in-text}
use Rattle.nr_reading.proofs.Stretches.{stays, taken_last, looks, ends_here}
use Rattle.nr_reading.proofs.half.Half.take_in_beginning.Goals as goal

pub returns-then-from-count : goal.returns-then-from-count
returns-then-from-count g c =
    let fs = g.I.Items.next_items c.args.items.now in
    ends_here fs c.args.from c.args.made c.args.from c.args.made c.args.self.now c.args.self.now (stays fs c.args.from c.args.made c.args.self.now) (omega arith) (omega arith)

pub returns-in-Some : goal.returns-in-Some
returns-in-Some g c = record {
  taken_in = (c.in-Some.ensures.taken_in c.args.made).taken_in;
  few = omega (arith, c.in-Some.ensures.few);
  longest = λ silent pending_act. let wrong = sym c.in-Some.ensures.pending_act ∙ pending_act in absurd cc;
}

pub returns : goal.returns
returns g c =
    let fs = g.I.Items.next_items c.args.items.now in
    let h = c.take_in_name_at.new.self in
    let same = c.take_in_name_at.ensures.left c.in_default.is in
    let mode = ap (λ (k : Half). k.reading.mode) same ∙ c.requires.mode in
    let next = ap reads_next same ∙ c.requires.next in
    subst (λ (k : Half). TakesInRest fs c.args.from c.args.made c.args.self.now (record { taken = c.args.from + 1; moves = c.args.made + 1; event = events.Byte c.in-Some-byte.byte }) k) (sym c.begin_text.ensures)
    (taken_last fs c.args.from c.args.made c.args.from c.args.made c.in-Some-byte.byte c.args.self.now h (text_begun h) (events.Byte c.in-Some-byte.byte)
    (subst (λ (k : Half). LeadsOn fs c.args.from c.args.made c.args.self.now c.args.from c.args.made k) (sym same) (stays fs c.args.from c.args.made c.args.self.now)) (omega arith) (looks h next) c.in-Some-byte.ensures.value
    (take_in-text c.in-Some-byte.byte h mode next (sym c.begins_text.ensures ∙ c.if-not-begins_text.false)) (omega arith) (λ silent pending_act. let wrong : ⊥ = cc in wrong))

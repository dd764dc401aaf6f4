use Rattle.std.proofs.Common.{sym, ap, ◌∙◌}
use Rattle.nr_reading.specs.declared.ask.Answer.{Answer}
use Rattle.nr_reading.specs.declared.half.Half.{Half}
use Rattle.nr_reading.specs.Step.{Step}
use Rattle.nr_reading.specs.Half.{settled, taken_in_copied, answered}
use Rattle.nr_reading.proofs.Newest.{hear_reader, hear_ask}
use Rattle.nr_reading.proofs.half.Half.hear.Goals as goal

pub returns-in_default : goal.returns-in_default
returns-in_default c =
    let h = c.args.self.now in
    let s = c.read-said.result in
    c.settle.ensures ∙ ap (λ (k : Half). settled s.takes c.args.next_item s.event k) c.note.ensures
    ∙ ap (λ (t : Step). taken_in_copied c.args.next_item t h) c.read-said.ensures
    ∙ sym (hear_reader h.asks c.args.next_item c.args.byte h (sym c.newest.ensures ∙ c.in_default.is))

pub returns : goal.returns
returns c =
    let h = c.args.self.now in
    c.answered.ensures ∙ ap (λ (a : Answer). answered c.args.next_item a h) c.answer.ensures
    ∙ sym (hear_ask h.asks c.in-Some.ask c.args.next_item c.args.byte h (sym c.newest.ensures ∙ c.in-Some.is))

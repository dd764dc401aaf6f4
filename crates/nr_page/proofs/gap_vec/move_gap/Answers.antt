use Rattle.std.proofs.Common.{◌+◌, get_or, ap, ◌∙◌, arith}
use Rattle.nr_page.proofs.Gapped.{gapped-moved}
use Rattle.nr_page.proofs.gap_vec.move_gap.Goals as goal

pub returns-then-place-prefix : goal.returns-then-place-prefix
returns-then-place-prefix g c =
    let h = c.copy_within.ensures.by_index in
    let slots = c.args.slots.now in
    gapped-moved slots c.copy_within.new.self c.args.prefix c.args.gap c.args.place c.copy_within.ensures.len c.requires.here c.requires.there
    (λ k d early before. h.1 k d (omega arith))
    (λ k d early afterwards. h.0 (c.args.gap + k) d (omega arith) (omega arith) ∙ ap (λ i. get_or slots i d) (omega arith))
    (λ k d late before. absurd (omega arith))
    (λ k d late afterwards. h.2 (c.args.gap + k) d (omega arith))

pub returns-then-place-prefix-2 : goal.returns-then-place-prefix-2
returns-then-place-prefix-2 g c =
    let h = c.copy_within-then-place-prefix-2.ensures.by_index in
    let slots = c.args.slots.now in
    gapped-moved slots c.copy_within-then-place-prefix-2.new.self c.args.prefix c.args.gap c.args.place c.copy_within-then-place-prefix-2.ensures.len c.requires.here c.requires.there
    (λ k d early before. h.1 k d (omega arith))
    (λ k d early afterwards. absurd (omega arith))
    (λ k d late before. h.0 k d late (omega arith) ∙ ap (λ i. get_or slots i d) (omega arith))
    (λ k d late afterwards. h.2 (c.args.gap + k) d (omega arith))

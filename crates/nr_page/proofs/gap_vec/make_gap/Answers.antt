use Rattle.std.proofs.Common.{◌≡◌, ◌+◌, ◌-◌, ◌≤◌, length, get_or, ap, ◌∙◌, arith}
use Rattle.nr_page.proofs.Gapped.{gap_opened}
use Rattle.nr_page.proofs.gap_vec.make_gap.Goals as goal

pub returns-clause-items : goal.returns-clause-items
returns-clause-items g c =
    let h = c.copy_within.ensures.by_index in
    let slots = c.args.slots.now in
    let long = c.lengthen.new.self in
    let news = c.copy_within.new.self in
    let gap = c.len.result - c.len-len.result in
    let nothing : c.args.gap ≡ 0 = omega (arith, c.if-gap-gt0.false) in
    let was : c.len-len.result ≡ length slots.items = omega (arith, c.len-len.ensures) in
    let now : c.len.result ≡ length long.items = omega (arith, c.len.ensures) in
    let longer : length slots.items ≤ length long.items = omega (arith, c.lengthen.ensures.longer) in
    gap_opened slots.items _ long.items news.items c.args.place c.args.gap gap nothing (omega (arith, c.requires.here)) c.lengthen.ensures.items (omega arith) (omega (arith, c.copy_within.ensures.len))
    (λ k d before. h.1 k d (omega arith))
    (λ k d afterwards below. h.0 (gap + k) d (omega arith) (omega arith) ∙ ap (λ i. get_or long.items i d) (omega arith))

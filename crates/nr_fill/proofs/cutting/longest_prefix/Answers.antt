use Rattle.std.proofs.Common.{◌≡◌, ◌+◌, ◌-◌, ◌<◌, max, length, get_or, true, ap, sym, ◌∙◌, arith}
use Rattle.std.proofs.lemmas.Bool.{le-leb, lt-leb}
use Rattle.std.proofs.lemmas.List.Sums.{sum_by_more}
use Rattle.nr_fill.specs.declared.piece.PieceSlot.{PieceSlot}
use Rattle.nr_fill.specs.Cutting.{join_width, hyphen_width, fits, most_that_fit, cut}
use Rattle.nr_fill.specs.Slots.{blank_slot, pieces_of}
use Rattle.nr_fill.proofs.PiecesOf.{length-pieces_of}
use Rattle.nr_fill.proofs.LongestPrefix.{most_that_fit_yes, most_that_fit_no, most_that_fit_stays, hyphen_at, hyphen_at_end, too_wide, fits_prefix}
use Rattle.nr_fill.proofs.cutting.longest_prefix.Goals as goal
use Rattle.nr_fill.proofs.cutting.longest_prefix.Goals.{then-width-from, else-width-from, then-loop-count-test+else-width-line, else-loop-count-test}

pub loop-count-preserved : goal.loop-count-preserved
loop-count-preserved c =
    let loop = c.loop-count in
    let slots = c.args.slots.now in
    let n = loop.count in
    let slot = get_or slots n blank_slot in
    let below : n < length slots = c.loop-count-test.true in
    let more = sum_by_more (λ (s : PieceSlot). join_width s.join + s.len) slots n blank_slot below in
    let width_is : c.from-in-loop-count.result ≡ join_width slot.join = c.from-in-loop-count.ensures ∙ c.width.ensures in
    let hyphen_is : c.from.result ≡ hyphen_width slot.join = c.from.ensures ∙ c.hyphen.ensures.value in
    let wide = loop.invariant.wide in
    let some = loop.invariant.some in
    let back : n + 1 - 1 ≡ n = omega arith in
    let one : n ≡ _ = let e : n ≡ (n - 1) + 1 = omega arith in e in
    record {
      some = omega arith;
      within = omega arith;
      best_some = elim c.if-width-from.branch [ then-width-from w ↦ omega (arith, w.best-is) | else-width-from w ↦ omega (arith, w.best-is, loop.invariant.best_some) ];
      best_within = elim c.if-width-from.branch [ then-width-from w ↦ omega (arith, w.best-is) | else-width-from w ↦ omega (arith, w.best-is, loop.invariant.best_within) ];
      wide = omega arith;
      most = λ cells h.
          let is = fits_prefix c.args.line slots cells n loop.width c.from.result blank_slot some (omega arith) h wide (hyphen_at slots cells n blank_slot below ∙ sym hyphen_is) in
          rw back (elim c.if-width-from.branch [
            | then-width-from w ↦
                let most = most_that_fit_yes c.args.line (pieces_of slots cells) n (n - 1) (omega arith) (is ∙ le-leb _ _ w.if-width-from.true) in
                omega (arith, w.best-is)
            | else-width-from w ↦
                let most = most_that_fit_no c.args.line (pieces_of slots cells) n (n - 1) (omega arith) (is ∙ lt-leb _ _ w.if-width-from.false) in
                w.best-is ∙ loop.invariant.most cells h ∙ ap (max 1) (sym most)
          ]);
    }

pub returns-then-width-line-2-clause-pieces : goal.returns-then-width-line-2-clause-pieces
returns-then-width-line-2-clause-pieces c =
    λ cells h.
    let loop = c.loop-count in
    let slots = c.args.slots.now in
    let ps = pieces_of slots cells in
    let long = length-pieces_of slots cells in
    let some = loop.invariant.some in
    let all : loop.count ≡ length slots = elim c.loop-count-test.branch [
      | then-loop-count-test+else-width-line w ↦ absurd (omega (arith, w.if-width-line.false, c.if-width-line-2.true))
      | else-loop-count-test w ↦ omega (arith, w.loop-count-test.false, loop.invariant.within)
    ] in
    let is = fits_prefix c.args.line slots cells loop.count loop.width 0 blank_slot some loop.invariant.within h loop.invariant.wide (hyphen_at_end ps loop.count (omega arith)) in
    let yes : fits c.args.line loop.count ps ≡ true = is ∙ le-leb _ _ (omega (arith, c.if-width-line-2.true)) in
    let most = most_that_fit_yes c.args.line ps loop.count (loop.count - 1) (omega arith) yes in
    let end : length ps ≡ loop.count = omega arith in
    let cut_is : cut c.args.line ps ≡ max 1 loop.count = ap (λ n. max 1 (most_that_fit c.args.line ps n)) end ∙ ap (max 1) most in
    omega arith

pub returns-else-width-line-2-clause-pieces : goal.returns-else-width-line-2-clause-pieces
returns-else-width-line-2-clause-pieces c =
    λ cells h.
    let loop = c.loop-count in
    let slots = c.args.slots.now in
    let ps = pieces_of slots cells in
    let long = length-pieces_of slots cells in
    let some = loop.invariant.some in
    let within = loop.invariant.within in
    let none = too_wide c.args.line slots cells loop.count loop.width blank_slot some h loop.invariant.wide c.if-width-line-2.false in
    let stays = most_that_fit_stays c.args.line ps (length ps) (loop.count - 1) (omega arith) (λ m low high. none m (omega arith) (omega arith)) in
    loop.invariant.most cells h ∙ ap (max 1) (sym stays)

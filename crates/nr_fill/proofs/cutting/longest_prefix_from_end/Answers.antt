use Rattle.std.proofs.Common.{◌≡◌, ◌+◌, ◌-◌, ◌<◌, max, length, take, get_or, true, refl, ap, sym, ◌∙◌, arith}
use Rattle.std.proofs.lemmas.Bool.{le-leb, lt-leb}
use Rattle.std.proofs.lemmas.List.{take_all, length-take-le, get_or-take}
use Rattle.std.proofs.lemmas.List.Sums.{sum_by_more, sum_by_more_le}
use Rattle.nr_fill.specs.declared.piece.PieceSlot.{PieceSlot}
use Rattle.nr_fill.specs.Cutting.{join_width, fits, most_that_fit, cut}
use Rattle.nr_fill.specs.Slots.{blank_slot, pieces_of, slots_width}
use Rattle.nr_fill.proofs.PiecesOf.{length-pieces_of}
use Rattle.nr_fill.proofs.LongestPrefix.{most_that_fit_yes, most_that_fit_no, most_that_fit-le, hyphen_at, hyphen_at_end, fits_prefix}
use Rattle.nr_fill.proofs.cutting.longest_prefix_from_end.Goals as goal

pub loop-count-init : goal.loop-count-init
loop-count-init c =
    let slots = c.args.slots.now in
    record {
      some = c.requires.some;
      within = omega arith;
      one = omega arith;
      wide = sym c.requires.wide ∙ ap slots_width (sym (take_all (length slots) slots (omega arith)));
      narrow = omega arith;
      hyphen_is = λ cells. hyphen_at_end (pieces_of slots cells) (length slots) (omega (arith, length-pieces_of slots cells));
      most = λ cells h. refl;
    }

pub loop-count-preserved : goal.loop-count-preserved
loop-count-preserved c =
    let loop = c.loop-count in
    let slots = c.args.slots.now in
    let n = loop.count - 1 in
    let slot = get_or slots n blank_slot in
    let within = loop.invariant.within in
    let many = c.loop-count-test.true in
    let below : n < length slots = omega arith in
    let more = sum_by_more (λ (s : PieceSlot). join_width s.join + s.len) slots n blank_slot below in
    let back : n + 1 ≡ loop.count = omega arith in
    let same = ap (λ k. slots_width (take k slots)) back in
    let long = length-take-le n slots (omega arith) in
    let first = sum_by_more_le (λ (s : PieceSlot). join_width s.join + s.len) (take n slots) 0 blank_slot (omega arith) in
    let first_is = ap (λ (s : PieceSlot). join_width s.join) (get_or-take n slots 0 blank_slot (omega arith)) in
    let width_is : c.from.result ≡ join_width slot.join = c.from.ensures ∙ c.width.ensures in
    let wide = loop.invariant.wide in
    record {
      some = omega arith;
      within = omega arith;
      one = omega (arith, c.from-hyphen.ensures, c.hyphen.ensures.one);
      wide = omega arith;
      narrow = omega (arith, loop.invariant.narrow);
      hyphen_is = λ cells. hyphen_at slots cells n blank_slot below ∙ sym c.hyphen.ensures.value ∙ sym c.from-hyphen.ensures;
      most = λ cells h.
          let is = fits_prefix c.args.line slots cells loop.count loop.width loop.hyphen blank_slot loop.invariant.some within h wide (loop.invariant.hyphen_is cells) in
          loop.invariant.most cells h ∙ most_that_fit_no c.args.line (pieces_of slots cells) loop.count n (omega arith) (is ∙ lt-leb _ _ c.if-width-hyphen.true);
    }

pub returns-else-width-hyphen-clause-pieces : goal.returns-else-width-hyphen-clause-pieces
returns-else-width-hyphen-clause-pieces c =
    λ cells h.
    let loop = c.loop-count in
    let slots = c.args.slots.now in
    let ps = pieces_of slots cells in
    let long = length-pieces_of slots cells in
    let some = loop.invariant.some in
    let is = fits_prefix c.args.line slots cells loop.count loop.width loop.hyphen blank_slot some loop.invariant.within h loop.invariant.wide (loop.invariant.hyphen_is cells) in
    let yes : fits c.args.line loop.count ps ≡ true = is ∙ le-leb _ _ c.if-width-hyphen.false in
    let most = most_that_fit_yes c.args.line ps loop.count (loop.count - 1) (omega arith) yes in
    let cut_is : cut c.args.line ps ≡ max 1 loop.count = ap (λ n. max 1 (most_that_fit c.args.line ps n)) long ∙ ap (max 1) (loop.invariant.most cells h ∙ most) in
    omega arith

pub returns-after-loop-count-clause-pieces : goal.returns-after-loop-count-clause-pieces
returns-after-loop-count-clause-pieces c =
    λ cells h.
    let loop = c.loop-count in
    let slots = c.args.slots.now in
    let ps = pieces_of slots cells in
    let long = length-pieces_of slots cells in
    let few = most_that_fit-le c.args.line ps loop.count in
    let cut_is : cut c.args.line ps ≡ max 1 (most_that_fit c.args.line ps loop.count) = ap (λ n. max 1 (most_that_fit c.args.line ps n)) long ∙ ap (max 1) (loop.invariant.most cells h) in
    omega (arith, c.loop-count-test.false, loop.invariant.some)

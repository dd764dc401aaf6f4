use Rattle.std.proofs.Common.{◌++◌, List, ℕ, ap, sym, ◌∙◌, arith}
use Rattle.std.specs.Fmt.{decimal}
use Rattle.nr_units.proofs.Digits.{arabic, no_zeros, arabic_text_plain}
use Rattle.nr_units.proofs.number_text.push_arabic.Goals as goal

pub returns-then-places-le1-clause-appends : goal.returns-then-places-le1-clause-appends
returns-then-places-le1-clause-appends c =
    let n = c.args.n in
    (decimal n, c.push_few.ensures.value, arabic c.args.places n 0 c.ranges.n.fits (no_zeros c.args.places n (omega arith) c.ranges.n.fits))

pub returns-then-places-le1-clause-computed : goal.returns-then-places-le1-clause-computed
returns-then-places-le1-clause-computed c =
    let n = c.args.n in
    c.push_few.ensures.value ∙ ap (λ (ds : List ℕ). c.args.text.now.items ++ ds) (sym (arabic_text_plain c.args.places n (omega arith) c.ranges.n.fits))

use Rattle.std.proofs.Common.{◌++◌, List, ℕ, ◌/◌, ◌%◌, ap, sym, ◌∙◌, append_assoc, arith}
use Rattle.std.specs.Fmt.{decimal}
use Rattle.itoa.proofs.Decimal.{pair, decimal_pair}
use Rattle.nr_units.proofs.number_text.push_few.Goals as goal

pub returns-clause-value : goal.returns-clause-value
returns-clause-value c =
    let n = c.args.n in
    let old = c.args.text.now.items in
    c.push_pair.ensures
    ∙ ap (λ (prefix : List ℕ). prefix ++ pair (n % 100)) c.push_short-2.ensures.value
    ∙ append_assoc old (decimal (n / 100)) (pair (n % 100))
    ∙ ap (λ (ds : List ℕ). old ++ ds) (sym (decimal_pair n (omega arith) c.ranges.n.fits))

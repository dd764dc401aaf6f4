use Rattle.std.proofs.Common.{◌++◌, List, ℕ, ap, sym, ◌∙◌, arith}
use Rattle.std.proofs.lemmas.Fmt.{decimal_digit}
use Rattle.itoa.proofs.Decimal.{decimal_two}
use Rattle.nr_units.proofs.number_text.push_short.Goals as goal

pub returns-then-n-ge10-clause-value : goal.returns-then-n-ge10-clause-value
returns-then-n-ge10-clause-value c =
    c.push_pair.ensures ∙ ap (λ (ds : List ℕ). c.args.text.now.items ++ ds) (sym (decimal_two c.args.n (omega arith) (omega arith)))

pub returns-clause-value : goal.returns-clause-value
returns-clause-value c =
    c.push.ensures.items ∙ ap (λ (ds : List ℕ). c.args.text.now.items ++ ds) (sym (decimal_digit c.args.n (omega arith)))

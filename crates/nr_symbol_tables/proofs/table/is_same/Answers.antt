use Rattle.std.proofs.Common.{◌≡◌, length, ap, sym, ◌∙◌, arith}
use Rattle.std.specs.Ordering.{is_eq}
use Rattle.nr_symbol_tables.proofs.Order.{same_is, same_itself}
use Rattle.nr_symbol_tables.proofs.table.is_same.Goals as goal

pub returns-then-len-le2 : goal.returns-then-len-le2
returns-then-len-le2 c =
    let short = c.if-len-le2.true in
    let long = c.len.ensures.value in
    (λ hit. (c.is_same_short.ensures.0 hit).1, λ same. (let count : length c.args.a.now ≡ length c.args.b.now = ap length same in c.is_same_short.ensures.1 (omega arith, same)))

pub returns : goal.returns
returns c = (λ hit. same_is c.args.a.now c.args.b.now (sym (ap is_eq c.compare.ensures) ∙ sym c.is_eq.ensures ∙ hit), λ same. c.is_eq.ensures ∙ ap is_eq c.compare.ensures ∙ same_itself c.args.a.now c.args.b.now same)

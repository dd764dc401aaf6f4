use Rattle.std.proofs.lemmas.Grind.{common_steps}
use Rattle.std.proofs.Common.{List, map, ap, sym, ◌∙◌, rules, arith}
use Rattle.nr_store.proofs.Lines.{with_more, none_more, no_items}
use Rattle.nr_store.proofs.store.lines.append_all.Goals as goal

pub returns-then-is_empty : goal.returns-then-is_empty
returns-then-is_empty g c =
    none_more c.args.pool.now c.args.id c.requires.is_open
    ∙ ap (λ (xs : List _). with_more c.args.pool.now c.args.id c.requires.is_open (map g.T.Single.single xs)) (sym (no_items c.args.more.now (search rules)))

pub returns-then-more-eq1 : goal.returns-then-more-eq1
returns-then-more-eq1 g c = grind (arith, common_steps)

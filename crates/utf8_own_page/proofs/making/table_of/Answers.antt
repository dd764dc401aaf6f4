use Rattle.std.proofs.Common.{◌∙◌, ap, arith, subst, sym, length}
use Rattle.utf8_own_characters.specs.Choosing.{Choice, IsFewest}
use Rattle.utf8_own_characters.specs.Table.{Characters}
use Rattle.utf8_own_characters.proofs.ChoiceLaws.{wide_len, table_is_good}
use Rattle.utf8_own_page.proofs.making.table_of.Goals as goal

pub halves_for-halves-requires : goal.halves_for-halves-requires
halves_for-halves-requires c = omega (arith, wide_len c.args.ranked.now c.args.narrow.now c.args.wide.now c.requires.cells c.requires.once)

pub returns-clause-made : goal.returns-clause-made
returns-clause-made c = record {
  narrow = ap (λ (t : Characters). t.narrow) c.over.ensures ∙ ap (λ (k : Choice). k.narrow) c.requires.cells;
  wide = ap (λ (t : Characters). t.wide) c.over.ensures ∙ ap (λ (k : Choice). k.wide) c.requires.cells;
  halves = subst (λ (t : Characters). IsFewest t.halves (length t.wide)) (sym c.over.ensures) c.halves_for-halves.ensures.fewest;
}

pub returns-clause-good : goal.returns-clause-good
returns-clause-good c =
    table_is_good c.args.ranked.now c.args.narrow.now c.args.wide.now c.halves_for-halves.result c.over.result
    c.requires.cells c.requires.once c.halves_for-halves.ensures.fewest c.over.ensures

use Rattle.std.proofs.Common.{◌++◌, [], ◌∷◌, replicate, ap, ◌∙◌, arith}
use Rattle.std.proofs.lemmas.List.{replicate_more, length-replicate}
use Rattle.nr_store.specs.Store.{blank_cell}
use Rattle.nr_store.specs.declared.element.Element.TheVariants as elements
use Rattle.nr_store.proofs.Lines.{with_more, none_more, more_open, one_more}
use Rattle.nr_store.proofs.store.lines.append_blanks.Goals as goal

pub loop-i-init : goal.loop-i-init
loop-i-init c = none_more c.args.pool.now c.args.id c.requires.is_open

pub append-requires : goal.append-requires
append-requires c = rw c.loop-i.invariant (more_open c.args.pool.now c.args.id c.requires.is_open (replicate c.loop-i._i blank_cell))

pub loop-i-preserved : goal.loop-i-preserved
loop-i-preserved c =
    let test = c.loop-i-test.true in
    let room = c.requires.room in
    let long = length-replicate c.loop-i._i blank_cell in
    one_more c.args.pool.now c.args.id c.requires.is_open _ _ (replicate c.loop-i._i blank_cell) (elements.Cell c.blank.result) _ c.loop-i.invariant (omega arith) c.append.ensures.full c.append.ensures.ok
    ∙ ap (λ e. with_more c.args.pool.now c.args.id c.requires.is_open (replicate c.loop-i._i blank_cell ++ elements.Cell e ∷ [])) c.blank.ensures
    ∙ ap (with_more c.args.pool.now c.args.id c.requires.is_open) (replicate_more c.loop-i._i blank_cell)

use Rattle.std.proofs.Common.{◌++◌, [], ◌∷◌, map, replicate, ap, ◌∙◌, append_assoc, length-append, arith}
use Rattle.std.proofs.lemmas.List.{length-map, length-replicate}
use Rattle.nr_store.specs.Store.{blank_cell}
use Rattle.nr_store.specs.declared.element.Element.TheVariants as elements
use Rattle.nr_store.proofs.Lines.{with_more, more_open, more_used, more_more, one_more}
use Rattle.nr_store.proofs.store.lines.append_line.Goals as goal

pub append_all-requires-clause-is_open : goal.append_all-requires-clause-is_open
append_all-requires-clause-is_open c = rw c.append_blanks.ensures (more_open c.args.pool.now c.args.id c.requires.is_open (replicate c.args.indent blank_cell))

pub append_all-requires-clause-room : goal.append_all-requires-clause-room
append_all-requires-clause-room c =
    let used_is = more_used c.args.pool.now c.args.id c.requires.is_open (replicate c.args.indent blank_cell) in
    let long = length-replicate c.args.indent blank_cell in
    let room = c.requires.room in
    rw c.append_blanks.ensures omega arith

pub append-requires : goal.append-requires
append-requires c =
    let both = more_more c.args.pool.now c.args.id c.requires.is_open _ _ (replicate c.args.indent blank_cell) (map elements.Cell c.args.cells.now) c.append_blanks.ensures c.append_all.ensures in
    rw both (more_open c.args.pool.now c.args.id c.requires.is_open _)

pub returns : goal.returns
returns c =
    let blanks = replicate c.args.indent blank_cell in
    let cells = map elements.Cell c.args.cells.now in
    let end = elements.LineEnd c.args.height in
    let both = more_more c.args.pool.now c.args.id c.requires.is_open _ _ blanks cells c.append_blanks.ensures c.append_all.ensures in
    let room = c.requires.room in
    let long = length-append blanks cells in
    let long_blanks = length-replicate c.args.indent blank_cell in
    let long_cells = length-map c.args.cells.now elements.Cell in
    one_more c.args.pool.now c.args.id c.requires.is_open _ _ (blanks ++ cells) end _ both (omega arith) c.append.ensures.full (rw c.of.ensures at c.append.ensures.ok)
    ∙ ap (with_more c.args.pool.now c.args.id c.requires.is_open) (append_assoc blanks cells (end ∷ []))

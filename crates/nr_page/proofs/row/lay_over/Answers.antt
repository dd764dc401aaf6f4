use Rattle.std.proofs.lemmas.Grind.{common_steps}
use Rattle.std.proofs.Common.{◌≡◌, length, take, sym, ap, ◌∙◌, arith, length-drop}
use Rattle.std.proofs.lemmas.List.{get_or_default, take_rest}
use Rattle.nr_pool.specs.Texts.{text, with_text}
use Rattle.nr_pool.specs.Laws.{with_text-text}
use Rattle.nr_page.proofs.Laying.{overlaid-nil, length-overlaid, laid-other, laid-blank, laid-all, used-laid, text_of_written, ok_unless}
use Rattle.nr_page.proofs.row.lay_over.Goals as goal
use Rattle.nr_page.proofs.row.lay_over.Goals.{then-cell-ne-BLANK, else-cell-ne-BLANK}

pub loop-column-init : goal.loop-column-init
loop-column-init c =
    let texts = c.args.texts.now in
    sym (ap (with_text texts c.args.id) (overlaid-nil (text texts c.args.id)) ∙ with_text-text texts c.args.id)

pub set-requires-clause-within : goal.set-requires-clause-within
set-requires-clause-within c =
    let below = text c.args.texts.now c.args.id in
    let laid = ap length (text_of_written c.args.texts.now c.loop-column.texts c.args.id _ c.requires.is_open c.loop-column.invariant) in
    omega (arith, laid, length-overlaid below (take c.loop-column.column c.args.cells.now))

pub loop-column-preserved : goal.loop-column-preserved
loop-column-preserved c = elim c.if-cell-ne-BLANK.branch [
  | then-cell-ne-BLANK w ↦ w.texts-is
      ∙ laid-other c.args.texts.now c.loop-column.texts w.set.new.self c.args.id c.loop-column.column c.args.cells.now _ c.requires.is_open c.loop-column.invariant w.set.ensures.replaced
      (omega arith) (omega arith) (get_or_default c.args.cells.now c.loop-column.column _ _ (omega arith)) w.if-cell-ne-BLANK.true
  | else-cell-ne-BLANK w ↦ w.texts-is
      ∙ laid-blank c.args.texts.now c.loop-column.texts c.args.id c.loop-column.column c.args.cells.now _ c.loop-column.invariant
      (omega arith) (omega arith) (get_or_default c.args.cells.now c.loop-column.column _ _ (omega arith)) w.if-cell-ne-BLANK.false
]

pub unwrap-requires : goal.unwrap-requires
unwrap-requires c =
    let same = used-laid c.args.texts.now c.loop-column.texts c.args.id c.loop-column.column c.args.cells.now c.requires.is_open c.loop-column.invariant (omega arith) in
    ok_unless c.append_slice.result (λ fails.
    let full = c.append_slice.ensures.full.0 fails in
    omega (arith, full, same.0, same.1, length-drop c.min-common.result c.args.cells.now))

pub returns : goal.returns
returns c =
    let added = rw c.unwrap.ensures at c.append_slice.ensures.ok in
    laid-all c.args.texts.now c.loop-column.texts c.append_slice.new.self c.args.id c.loop-column.column c.args.cells.now _ c.requires.is_open c.loop-column.invariant added
    (let size = c.len.ensures in let common = c.min-common.ensures in omega arith)
    (let at : c.loop-column.column ≡ c.min-common.result = omega arith in rw at (take_rest c.args.cells.now c.min-common.result))

pub set-requires-clause-is_open : goal.set-requires-clause-is_open
set-requires-clause-is_open c = grind (arith, common_steps)

pub append_slice-requires : goal.append_slice-requires
append_slice-requires c = grind (arith, common_steps)

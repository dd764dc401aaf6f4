use Rattle.std.proofs.Common.{◌≡◌, take}
use Rattle.nr_pool.specs.Texts.{text, with_text}
use Rattle.nr_page.specs.Overlay.{overlaid}
use Rattle.nr_page.proofs.row.lay_over.Given as goal

abbrev pub invariant-loop-column : goal.invariant-loop-column
invariant-loop-column l = l.texts ≡ with_text l.initial.texts l.id (overlaid (text l.initial.texts l.id) (take l.column l.cells))

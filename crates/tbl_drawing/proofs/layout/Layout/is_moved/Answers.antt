use Rattle.std.proofs.Common.{length, sym, ◌∙◌}
use Rattle.tbl_drawing.specs.Lines.{moves_at}
use Rattle.tbl_drawing.proofs.Joined.{none_more, some_in}
use Rattle.tbl_drawing.proofs.layout.Layout.is_moved.Goals as goal

pub loop-place-preserved : goal.loop-place-preserved
loop-place-preserved c = none_more c.loop-place.place (moves_at c.args.self.now) c.loop-place.invariant (sym (rw c.item.ensures at (c.moves.ensures)) ∙ c.if-moves.false)

pub returns-then-moves : goal.returns-then-moves
returns-then-moves c = sym (some_in c.loop-place.place (length c.args.self.now.grid.table.items.items) c.len-place-end.result (moves_at c.args.self.now) c.len-place-end.ensures.value c.loop-place-test.true (sym (rw c.item.ensures at (c.moves.ensures)) ∙ c.if-moves.true))

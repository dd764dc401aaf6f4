use Rattle.std.proofs.Common.{ap, sym, ◌∙◌}
use Rattle.tbl_columns.specs.Cells.{placed_row}
use Rattle.tbl_columns.proofs.Turns.{one_more}
use Rattle.tbl_columns.proofs.grid.Grid.place_rows.Goals as goal

pub loop-number-preserved : goal.loop-number-preserved
loop-number-preserved c = record {
  value = c.place_row.ensures.value
      ∙ ap (placed_row c.loop-number.number) c.loop-number.invariant.value
      ∙ sym (one_more c.loop-number.number placed_row c.args.self.now);
  room = c.place_row.ensures.room ∙ c.loop-number.invariant.room;
}

use Rattle.std.proofs.Common.{sym, ap, ◌∙◌}
use Rattle.tbl_columns.proofs.Turns.{one_more}
use Rattle.tbl_drawing.specs.Heights.{raised_at}
use Rattle.tbl_drawing.proofs.layout.Layout.raise_rows.Goals as goal

pub loop-number-preserved : goal.loop-number-preserved
loop-number-preserved c =
    let n = c.loop-number.number in
    record {
      value = c.raise_at.ensures.value ∙ ap (raised_at n) c.loop-number.invariant.value ∙ sym (one_more n raised_at c.args.self.now);
      room = c.raise_at.ensures.room ∙ c.loop-number.invariant.room;
    }

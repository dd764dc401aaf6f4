use Rattle.std.proofs.Common.{sym, ap, ◌∙◌}
use Rattle.tbl_columns.proofs.Turns.{one_more}
use Rattle.tbl_drawing.proofs.Pairs.{walking_of}
use Rattle.tbl_drawing.specs.Steps.{walked_at, walked_item, walking}
use Rattle.tbl_table.specs.declared.table.Item.{Item}
use Rattle.tbl_drawing.proofs.layout.Layout.walk_items.Goals as goal

pub loop-number-preserved : goal.loop-number-preserved
loop-number-preserved c =
    let n = c.loop-number.number in
    let w = walking c.loop-number.self c.loop-number.walk in
    record {
      value = walking_of _ _ (walked_item c.item-item.result w) c.walk_item-walk.ensures.value c.walk_item-walk.ensures.walk
          ∙ ap (λ (i : Item). walked_item i w) c.item-item.ensures
          ∙ ap (walked_at n) c.loop-number.invariant.value
          ∙ sym (one_more n walked_at (walking c.args.self.now c.args.walk));
      room = c.walk_item-walk.ensures.room ∙ c.loop-number.invariant.room;
    }

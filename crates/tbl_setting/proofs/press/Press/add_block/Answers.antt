use Rattle.std.proofs.Common.{[], ◌++◌, refl, ◌∙◌}
use Rattle.tbl_drawing.proofs.Tapes.{draws_nothing, draws_then}
use Rattle.tbl_setting.specs.Setting.{room_strokes}
use Rattle.tbl_setting.proofs.Pieces.{block_further, block_more}
use Rattle.tbl_setting.proofs.press.Press.add_block.Goals as goal

pub loop-byte-preserved : goal.loop-byte-preserved
loop-byte-preserved g c =
    let i = c.loop-byte.invariant in
    let e = c.add_block_byte.ensures in
    record {
      drawn = i.drawn ++ room_strokes c.loop-byte.self.setting.now;
      draws = draws_then i.draws e.draws;
      all = block_more c.args.text.now c.loop-byte.byte-index _ _ i.drawn _ c.loop-byte-test.true e.setting.now i.all;
      name = e.setting.same ∙ i.name;
      now = block_further c.args.text.now c.loop-byte.byte-index _ _ _ c.loop-byte-test.true e.setting.now i.now;
      room = e.setting.room ∙ i.room;
      same = (e.complaints.0 ∙ i.same.0, e.complaints.1 ∙ i.same.1);
    }

pub loop-byte-init : goal.loop-byte-init
loop-byte-init g c = record { drawn = []; draws = draws_nothing _; all = refl; name = refl; now = refl; room = refl; same = (refl, refl) }

use Rattle.std.proofs.Common.{◌≡◌, ◌++◌, drop, List}
use Rattle.tbl_setting.specs.Held.{emptied}
use Rattle.tbl_drawing.specs.Pens.{Stroke}
use Rattle.tbl_drawing.specs.Tapes.{Draws}
use Rattle.tbl_setting.specs.Setting.{IsSame, block_added, block_strokes}
use Rattle.tbl_setting.proofs.press.Press.add_block.Given as goal

abbrev pub invariant-loop-byte : goal.invariant-loop-byte
invariant-loop-byte g l = record {
  drawn : List Stroke;
  draws : Draws l.initial.self.out l.self.out drawn;
  all : drawn ++ block_strokes (drop l.byte-index l.text) l.self.setting.now ≡ block_strokes l.text l.initial.self.setting.now;
  name : l.self.setting.ghost_name ≡ l.initial.self.setting.ghost_name;
  now : block_added (drop l.byte-index l.text) l.self.setting.now ≡ block_added l.text l.initial.self.setting.now;
  room : emptied l.self.setting.now ≡ emptied l.initial.self.setting.now;
  same : IsSame l.initial.self.complaints l.initial.self.missed l.self.complaints l.self.missed;
}

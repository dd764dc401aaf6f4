use Rattle.std.proofs.Common.{ap}
use Rattle.tbl_setting.proofs.Pieces.{reported_as}
use Rattle.tbl_setting.specs.declared.setting.Setting.{Setting}
use Rattle.tbl_setting.specs.Held.{wide_reported}
use Rattle.tbl_setting.proofs.press.Press.end_table.Goals as goal

pub returns-clause-notes : goal.returns-clause-notes
returns-clause-notes g c = reported_as (ap (λ (s : Setting). wide_reported s) c.put_table.ensures.value) c.tell_wide.ensures.notes

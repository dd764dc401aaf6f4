-- By what pages are set.
use Rattle.std.specs.Prelude.{ℕ, Bool}
use Rattle.tbl_reader.specs.declared.reader.Limits.{Limits}
use Rattle.tbl_setting.specs.declared.setting.Setting.{Setting}
use Rattle.tbl_setting.specs.Held.{first_setting}
use Rattle.tbl_table.specs.declared.signs.Signs.{Signs}

-- with what tables are drawn, by which limits, for a line of so many cells, and whether those of manual pages are narrowed
pub record Bounds : Type 0 where
  pub signs : Signs
  pub limits : Limits
  pub cells : ℕ
  pub fits : Bool

-- a page begins: no table is held, and nothing is known of the page
abbrev pub page_setting : Bounds → Setting
page_setting b = first_setting b.signs b.limits.formats b.limits.row b.cells b.fits

-- The memory that tables are held in.
use Rattle.tbl_reader.specs.Pages.{Page}
use Rattle.tbl_setting.specs.declared.setting.Setting.{Setting}

-- what was read of a page, and what is set of it
pub record Room : Type 0 where
  pub page : Page
  pub setting : Setting

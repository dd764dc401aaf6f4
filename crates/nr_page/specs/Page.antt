-- What a page keeps of the lines placed on it.
use Rattle.std.specs.Prelude.{◌≡◌, ℕ, List}
use Rattle.nr_page.specs.Grid.{Placed, cell_at, page_charge}
use Rattle.nr_page.specs.PageBytes.{row_count}

-- lines that show what all lines placed show; how many rows there are down to the lowest of those; what they are
-- charged; and the limit of the charge
pub record Sheet : Type 0 where
  pub rows : List Placed
  pub row_count : ℕ
  pub charge : ℕ
  pub limit : ℕ

-- the same cell shows at each place
abbrev pub ShowsSame : List Placed → List Placed → Type 0
ShowsSame lines others = (row column : ℕ) → cell_at lines row column ≡ cell_at others row column

-- the page holds these lines: it shows what they show, reaches as far down, and is charged for each of them
pub record Holds (lines : List Placed) (page : Sheet) : Type 0 where
  pub shows : ShowsSame page.rows lines
  pub reaches : page.row_count ≡ row_count lines
  pub charged : page.charge ≡ page_charge lines

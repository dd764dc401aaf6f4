-- What counts for the width of a column (Lesk, "Usage"; tbl(1), "Column classifiers"): the widest field that stands in it alone, the widest of
-- a, which stands a cell further in at either side, the most of numbers before and after the place where they are aligned, and what w says.
use Rattle.std.specs.Prelude.{ℕ, ◌-◌, max, true, if◌then◌else◌}
use Rattle.tbl_columns.specs.declared.grid.Column.{Column}
use Rattle.tbl_table.specs.Sums.{sum}

-- ---- a field counts

abbrev pub with_text : ℕ → Column → Column
with_text width c = record c { width = max c.width width }

abbrev pub with_alpha : ℕ → Column → Column
with_alpha width c = record c { alphas = true; alpha = max c.alpha width }

-- a number, of which so much stands before its place
abbrev pub with_number : ℕ → ℕ → Column → Column
with_number width prefix c =
    record c { numbers = true; prefix = max c.prefix prefix; back = max c.back (width - prefix) }

-- ---- all of them together

abbrev pub alpha_width : Column → ℕ
alpha_width c = if c.alphas then sum c.alpha 2 else 0

-- one cell at least
abbrev pub as_wide : Column → Column
as_wide c =
    record c { width = max (max (max (max c.width (sum c.prefix c.back)) (alpha_width c)) c.least_cells) 1 }

-- The memory that tables are set in.
use Rattle.std.specs.Prelude.{ℕ, ◌+◌, min, true}
use Rattle.tbl_table.specs.declared.signs.Signs.{Signs}
use Rattle.tbl_reader.specs.declared.reader.Limits.{Limits}
use Rattle.tbl_setting.specs.Running as tables
use Rattle.tbl_stage.specs.Text.{Bounds}
use Rattle.tbl_stage.specs.declared.rooms.PageLimits.{PageLimits}

-- the limits of a table, which one byte more must not pass 2^64
abbrev pub table_limits : PageLimits → Limits
table_limits l = record { formats = min l.formats 18446744073709551614; row = min l.row 18446744073709551614 }

abbrev pub limits_of : PageLimits → ℕ → Signs → Bounds
limits_of l cells signs = record {
  tables = record { signs = signs; limits = table_limits l; cells = cells; fits = true };
  room = min l.set 1099511627775 + 1;
}

-- the elements that tables are set in, and those that go out at once, and one more
abbrev pub memory_of : PageLimits → ℕ
memory_of l = tables.memory_of (table_limits l) + (min l.set 1099511627775 + 1)

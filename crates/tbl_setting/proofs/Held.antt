-- What a call changes of what is set, and that its room stays.
use Rattle.std.proofs.Common.{◌≡◌, ap, ◌∙◌}
use Rattle.std.specs.Borrow.{MutBor}
use Rattle.tbl_columns.specs.declared.grid.Grid.{Grid}
use Rattle.tbl_columns.specs.Held as grids
use Rattle.tbl_drawing.specs.declared.layout.Layout.{Layout}
use Rattle.tbl_drawing.specs.Held as layouts
use Rattle.tbl_setting.specs.declared.setting.Setting.{Setting}
use Rattle.tbl_setting.specs.Held.{emptied, table, with_layout, with_table}
use Rattle.tbl_setting.specs.Setting.{Becomes}
use Rattle.tbl_table.specs.declared.table.Table.{Table}
use Rattle.tbl_table.specs.Held as tables

-- the room is that of its parts
pub layout_room : (s : Setting) (l : Layout) → layouts.emptied l ≡ layouts.emptied s.layout → emptied (with_layout l s) ≡ emptied s
layout_room s l same = ap (λ (k : Layout). record (emptied s) { layout = k }) same

pub grid_room : (l : Layout) (g : Grid) → grids.emptied g ≡ grids.emptied l.grid → layouts.emptied (layouts.with_grid g l) ≡ layouts.emptied l
grid_room l g same = ap (λ (k : Grid). record (layouts.emptied l) { grid = k }) same

pub table_room : (s : Setting) (t : Table) → tables.emptied t ≡ tables.emptied (table s) → emptied (with_table t s) ≡ emptied s
table_room s t same =
    layout_room s (with_table t s).layout
    (grid_room s.layout (with_table t s).layout.grid
    (ap (λ (k : Table). record (grids.emptied s.layout.grid) { table = k }) same))

-- a call changes the table alone
pub table_becomes : (old new : MutBor Setting) (made t : Table) → new.ghost_name ≡ old.ghost_name → new.now ≡ with_table made old.now
    → made ≡ t → tables.emptied made ≡ tables.emptied (table old.now) → Becomes old new (with_table t old.now)
table_becomes old new made t same now is room = record {
  same = same;
  now = now ∙ ap (λ (k : Table). with_table k old.now) is;
  room = ap emptied now ∙ table_room old.now made room;
}

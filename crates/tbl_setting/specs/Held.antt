-- A table as it is set, and the page around it: before all, where a page begins, and where a table does.
use Rattle.std.specs.Prelude.{ℕ, ◌+◌, Bool, false, ◌||◌, nat_lt, List, [], ◌∷◌, if◌then◌else◌}
use Rattle.tbl_columns.specs.declared.grid.Grid.{Grid}
use Rattle.tbl_columns.specs.Frames.{table_end}
use Rattle.tbl_columns.specs.Held.{no_room}
use Rattle.tbl_columns.specs.Shares.{line_room}
use Rattle.tbl_drawing.specs.declared.layout.Layout.{Layout}
use Rattle.tbl_drawing.specs.Held as layouts
use Rattle.tbl_drawing.specs.Held.{first_layout, with_grid}
use Rattle.tbl_drawing.specs.Pens.{Stroke}
use Rattle.tbl_drawing.specs.Tables as tables
use Rattle.tbl_reader.specs.declared.complaint.Complaint.{Complaint}
use Rattle.tbl_reader.specs.declared.complaint.Kind.TheVariants.{TooWide}
use Rattle.tbl_setting.specs.declared.setting.Setting.{Setting}
use Rattle.tbl_setting.specs.Watching as watching
use Rattle.tbl_setting.specs.Watching.{Watching, first_watch, heard, room_of}
use Rattle.tbl_table.specs.declared.signs.Signs.{Signs}
use Rattle.tbl_table.specs.declared.table.Table.{Table}

-- ---- its parts

abbrev pub table : Setting → Table
table s = s.layout.grid.table

abbrev pub with_layout : Layout → Setting → Setting
with_layout l s = record s { layout = l }

abbrev pub with_table : Table → Setting → Setting
with_table t s = with_layout (with_grid (record s.layout.grid { table = t }) s.layout) s

-- ---- before all: for a table of so many bytes, whose rows have so many at most; it is drawn with these, in lines of so many cells, and
-- narrowed, or not

abbrev pub first_setting : Signs → ℕ → ℕ → ℕ → Bool → Setting
first_setting signs most row cells fits = record {
  layout = first_layout signs no_room most row;
  watch = first_watch cells;
  cells = cells;
  fits = fits;
  begun = 0;
  wide = false;
}

abbrev pub with_fits : Bool → Setting → Setting
with_fits fits s = record s { fits = fits }

abbrev pub memory_of : ℕ → ℕ → ℕ
memory_of most row = layouts.memory_of most row + watching.memory

-- ---- a page begins: nothing is held of another, in the same room

abbrev pub emptied : Setting → Setting
emptied s = record {
  layout = layouts.emptied s.layout;
  watch = watching.begun s.cells s.watch;
  cells = s.cells;
  fits = s.fits;
  begun = 0;
  wide = false;
}

-- ---- a table begins, with `.TS` on this line of the input, in the line of the page of which was heard

abbrev pub in_room : Setting → Grid → Grid
in_room s g = record g { room = room_of s.fits s.watch.around; spreads = s.watch.around.spreads }

abbrev pub table_begun : ℕ → Setting → Setting
table_begun line s =
    let l = layouts.begun s.layout in record s { layout = with_grid (in_room s l.grid) l; begun = line; wide = false }

-- ---- lines outside of tables pass

abbrev pub with_watching : Watching → Setting → Setting
with_watching w s = record s { layout = with_grid w.grid s.layout; watch = w.watch }

abbrev pub page_heard : List ℕ → Setting → Setting
page_heard text s = with_watching (heard text (watching.watching s.watch s.layout.grid)) s

-- ---- the table goes out, or the part of it that was read: whether one of its parts is wider than the line is known then

abbrev pub is_wide : Layout → Bool
is_wide l = nat_lt (line_room l.grid) (table_end l.grid)

abbrev pub table_set : Bool → Setting → Setting
table_set ends s = let l = tables.table_after ends s.layout in record s { layout = l; wide = s.wide || is_wide l }

abbrev pub table_strokes : Bool → Setting → List Stroke
table_strokes ends s = tables.table_strokes ends s.layout

-- ---- a table that went out and is wider than the line is reported with the line of its `.TS`

abbrev pub wide_reported : Setting → List Complaint
wide_reported s = if s.wide then record { kind = TooWide; line = s.begun } ∷ [] else []

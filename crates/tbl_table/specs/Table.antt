-- A table between what is read of it: before all, where it begins, where its rows went out.
use Rattle.std.specs.Prelude.{ℕ, ◌+◌, ◌*◌, ◌/◌, max, min, false, List, [], ◌∷◌, take}
use Rattle.nr_vectors.specs.Items.{Items}
use Rattle.tbl_table.specs.declared.signs.Signs.{Signs}
use Rattle.tbl_table.specs.declared.table.Line.{Line}
use Rattle.tbl_table.specs.declared.table.Looks.{Looks}
use Rattle.tbl_table.specs.declared.table.Open.TheVariants as opens
use Rattle.tbl_table.specs.declared.table.Table.{Table}
use Rattle.tbl_table.specs.Held.{none_of, plain}
use Rattle.tbl_table.specs.Sums.{sum}

abbrev pub room_for : {A : Type 0} → ℕ → Items A
room_for n = record { items = []; capacity = n }

-- for so many bytes, whose rows have so many at most: 64 columns, and 256 lines of formats
abbrev pub text_room : ℕ → ℕ → ℕ
text_room most row = sum (sum most row) 64

abbrev pub row_room : ℕ → ℕ
row_room most = most / 64 + 2

-- rows, and as many rules and requests among them
abbrev pub item_room : ℕ → ℕ
item_room most = row_room most * 2 + 512

abbrev pub first_table : Signs → ℕ → ℕ → Table
first_table signs most row = record {
  looks = plain;
  signs = signs;
  text = room_for (text_room most row);
  keys = room_for 16384;
  lines = room_for 256;
  fields = room_for (text_room most row);
  rows = room_for (row_room most);
  items = room_for (item_room most);
  «open» = opens.Nothing;
  next_line = 0;
  row_from = 0;
  from = 0;
  rows_from = 0;
  most_text = most;
}

-- the elements of all its lists
abbrev pub memory_of : ℕ → ℕ → ℕ
memory_of most row =
    2 * text_room most row + 16384 + 256 + row_room most + item_room most

-- its rows are forgotten; its formats stay
abbrev pub forgotten : Table → Table
forgotten t = record t {
  text = record { items = take t.rows_from t.text.items; capacity = t.text.capacity };
  fields = none_of t.fields;
  rows = none_of t.rows;
  items = none_of t.items;
  row_from = 0;
  from = t.rows_from;
}

abbrev pub looking : Looks → Table → Table
looking looks t = record t { looks = looks }

-- the most columns that a line of formats has, or so many
abbrev pub most_columns : ℕ → List Line → ℕ
most_columns most [] = most
most_columns most (l ∷ ls) = most_columns (max l.count most) ls

abbrev pub width : Table → ℕ
width t = min (most_columns 0 t.lines.items) 64

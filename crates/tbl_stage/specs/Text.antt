-- A text whose tables are set.
use Rattle.std.specs.Prelude.{ℕ, ◌+◌, ◌-◌, [], false, min, nat_le}
use Rattle.nr_units.specs.Source.{Supply}
use Rattle.document_stages.specs.Pulling.{is_known, pulled_from}
use Rattle.tbl_setting.specs.Bounds as tables
use Rattle.tbl_setting.specs.Running as running
use Rattle.tbl_stage.specs.Staged.{Held, first_held, has_all, said}
use Rattle.tbl_stage.specs.declared.rooms.Rooms.{Rooms}

-- by what tables are set; and the room for what goes out at once, and one byte more
pub record Bounds : Type 0 where
  pub tables : tables.Bounds
  pub room : ℕ

-- those of the memory that was taken
abbrev pub bounds_in : Rooms → Bounds
bounds_in r = record { tables = running.bounds_in r.tables.page r.tables.setting; room = r.space.capacity }

-- so many bytes may go out at once
abbrev pub most_of : Bounds → ℕ
most_of b = min (b.room - 1) 1099511627775

abbrev pub first_in : Bounds → Held
first_in b = first_held b.tables

-- THE TEXT: what goes out of what a source gives, as far as there is room
abbrev pub set_text : Bounds → Supply → Supply
set_text b q =
    pulled_from (is_known q 0 (nat_le (most_of b + 1) b.room)) false q (said (most_of b) (first_in b)) (has_all (most_of b) (first_in b)) []

-- A table that is no wider than the line stays as it is.
use Rattle.std.proofs.Common.{◌≡◌, ◌<◌, ◌≤◌, ℕ, Bool, true, false, ◌&&◌, ◌-◌, not, nat_lt, refl, ap, arith, ◌∙◌}
use Rattle.std.proofs.lemmas.Bool.Decides.{nat_tests}
use Rattle.tbl_columns.specs.declared.grid.Grid.{Grid}
use Rattle.tbl_columns.specs.Frames.{table_end}
use Rattle.tbl_columns.specs.Laws.{FittingTablesStay}
use Rattle.tbl_columns.specs.Measured.{measured_columns}
use Rattle.tbl_columns.specs.Narrow.{is_too_wide, made_narrow}
use Rattle.tbl_columns.specs.Shares.{line_room}
use Rattle.tbl_table.specs.Sums.{sum}
use Rattle.tbl_columns.proofs.Choices.{left}

none_over : (fits nofit : Bool) (room end : ℕ) → end ≤ room → (fits && not nofit && nat_lt room end) ≡ false
none_over true true room end h = refl
none_over true false room end h = grind (arith, nat_tests, h)
none_over false nofit room end h = refl

stays : (g : Grid) → table_end g ≤ line_room g → is_too_wide g ≡ false
stays g h = none_over g.room.fits g.table.looks.nofit (line_room g) (table_end g) h

pub fitting_tables_stay : FittingTablesStay
fitting_tables_stay g h =
    let m : Grid = measured_columns g in
    left (is_too_wide m) (made_narrow (sum (table_end m) 1 - line_room m) m) m (stays m h)

-- What a line holds, and when it refuses more.
use Rattle.std.specs.Prelude.{ℕ, nat_lt, if◌then◌else◌, Result, Ok, Err}
use Rattle.nr_fill.specs.declared.line.LineCells.{LineCells}
use Rattle.nr_fill.specs.Piece.{Collected, line_cells}

-- what is collected, and what the line's cells may come to
pub record Lined : Type 0 where
  pub collected : Collected
  pub limit : ℕ

-- refused where the line would pass its limit
abbrev pub afforded : Lined → Result (Unit {0}) LineCells
afforded v = if nat_lt v.limit (line_cells v.collected) then Err (record {}) else Ok tt

-- What has a limit, and whether a move is made.
use Rattle.std.specs.Prelude.{ℕ, ◌≤◌, nat_lt, if◌then◌else◌, length, Option, None, Some, Result, Ok, Err}
use Rattle.nr_fill.specs.Piece.{line_cells}
use Rattle.nr_store.specs.Store.{Stored, charge_of}
use Rattle.nr_formatter.specs.declared.formatter.Formatter.{Formatter}
use Rattle.nr_formatter.specs.declared.passed.Passed.{Passed}
use Rattle.nr_formatter.specs.declared.passed.Passed.TheVariants as measures
use Rattle.nr_formatter.specs.declared.tasks.Resume.{Resume}
use Rattle.nr_formatter.specs.Access.{collected}

-- the most that each measure may come to: of what is stored, of levels, of the cells of the line, and of splices and springs after
-- one byte
pub record Limits : Type 0 where
  pub stored : ℕ
  pub depth : ℕ
  pub cells : ℕ
  pub expansions : ℕ

-- those of what is stored
pub record StoredLimits : Type 0 where
  pub stored : ℕ
  pub depth : ℕ

-- the limits that stand in what is stored
abbrev pub stored_limits : Stored Resume → StoredLimits
stored_limits v = record { stored = v.limit; depth = v.deepest }

-- the limits that stand in a formatter
abbrev pub limits_of : Formatter → Limits
limits_of f =
    record {
      stored = f.store.limit;
      depth = f.store.deepest;
      cells = f.line.limit;
      expansions = f.reader.most;
    }

-- the first measure that is above its limit, lines on the page aside
abbrev pub passes : Formatter → Option Passed
passes f =
    if nat_lt f.store.limit (charge_of f.store) then Some measures.Stored
    else (if nat_lt f.store.deepest (length f.store.levels) then Some measures.Depth
    else (if nat_lt f.line.limit (line_cells (collected f)) then Some measures.LineCells
    else (if nat_lt f.reader.most f.reader.burst then Some measures.Expansions else None)))

-- what is stored, the levels and the line are within their limits
pub record FitsMemory (f : Formatter) : Type 0 where
  pub stored : charge_of f.store ≤ f.store.limit
  pub depth : length f.store.levels ≤ f.store.deepest
  pub line : line_cells (collected f) ≤ f.line.limit

-- no measure is above its limit
pub record IsWithin (f : Formatter) : Type 0 where
  pub stored : charge_of f.store ≤ f.store.limit
  pub depth : length f.store.levels ≤ f.store.deepest
  pub line : line_cells (collected f) ≤ f.line.limit
  pub burst : f.reader.burst ≤ f.reader.most

abbrev pub judged_by : Option Passed → Result (Unit {0}) Passed
judged_by None = Ok tt
judged_by (Some p) = Err p

-- a move that comes to f is made, or names what it would pass
abbrev pub judged : Formatter → Result (Unit {0}) Passed
judged f = judged_by (passes f)

-- Empty lines that are at hand: three moves for the one that was read, and four for each after it.
use Prim.Native.Char.{code}
use Rattle.std.specs.Prelude.{◌≡◌, ◌≢◌, ℕ, ◌+◌, ◌*◌, ◌<◌, ◌≤◌, ◌^◌, true, List, length, replicate, slice_index, Option}
use Rattle.nr_units.specs.Source.{Supply}
use Rattle.nr_formatter.specs.Many.EmptyLines.{is_at_line, lines_below}
use Rattle.nr_formatter.specs.declared.formatter.Formatter.{Formatter}
use Rattle.nr_machine.specs.Holding.{Shape}
use Rattle.fast_machine.specs.Running.{HasNext}

-- so many newlines of the source come next at the beginning of a line
pub record NewlinesNext (n : ℕ) (e : Shape) (supply : Option Supply) : Type 0 where
  pub at_line : is_at_line e.formatter.reader.half ≡ true
  pub has : HasNext (replicate n (code "\n")) e supply

-- the first n of these bytes at hand are newlines that come next so, and none of them is the 2^40th byte
pub record NewlinesAtHand (bs : List ℕ) (n : ℕ) (e : Shape) (supply : Option Supply) : Type 0 where
  pub prefix : n ≤ length bs
  pub next : 0 < n → NewlinesNext n e supply
  pub room : 0 < n → e.place.taken + n < 2 ^ 40

-- The empty line that was read went down if it may, and so many newlines of these bytes after it: as many as come next there,
-- and as there is room for, or 65,536.
pub record WentDown (bs : List ℕ) (n made : ℕ) (f : Formatter) : Type 0 where
  pub left : lines_below f ≡ 0 → made ≡ 0
  pub moves : 0 < lines_below f → made ≡ 3 + 4 * n
  pub longest : is_at_line f.reader.half ≡ true → n + 1 < lines_below f → n < 65536 → n < length bs
      → slice_index bs n ≢ code "\n"

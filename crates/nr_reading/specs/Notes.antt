-- What is noted beside an item.
use Rattle.std.specs.Prelude.{ℕ}
use Rattle.nr_reading.specs.declared.ask.Ask.{Ask}

pub data Note : Type 0 where
  Nothing : Note
  -- a name begins
  NewName : Note
  -- a byte of it
  Name : ℕ → Note
  -- a line or a number begins of which the first bytes count
  NewLine : Note
  -- a byte of it
  Line : ℕ → Note
  -- a condition is negated
  Negated : Note
  -- the strings of a condition begin
  Strings : Note
  -- a byte of the first
  First : ℕ → Note
  -- a byte of the second
  Second : ℕ → Note
  -- an escape whose argument is still to be read
  Begin : Ask → Note

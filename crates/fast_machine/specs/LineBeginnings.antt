-- The beginning of a text line, where the source has its text at hand.
use Rattle.std.specs.Prelude.{◌≡◌, ℕ, ◌+◌, ◌-◌, ◌<◌, ◌^◌, true, List, [], length, take, Option}
use Rattle.nr_units.specs.Source.{Supply}
use Rattle.nr_input.specs.Place.{Reached, is_unseen}
use Rattle.nr_formatter.specs.Many.LineBeginnings.{BeginsText, text_begun}
use Rattle.nr_machine.specs.Holding.{Shape}
use Rattle.fast_machine.specs.Running.{HasNext, Longest, Saves}

-- the bytes at hand that may be taken: all before the 2^40th
abbrev pub may_take : Reached → List ℕ → List ℕ
may_take p bs = take (2 ^ 40 - 1 - p.taken) bs

-- the text of the line has begun
abbrev pub begun_shape : Shape → Shape
begun_shape e = record e { formatter = text_begun e.formatter }

-- A line's text begins with these bytes, which come next of the source.
pub record Begins (bs : List ℕ) (e f : Shape) (supply : Option Supply) : Type 0 where
  pub begins : BeginsText bs e.formatter
  pub has : HasNext bs e supply
  pub is : f ≡ begun_shape e

-- As many of the first 65,536 of these bytes at hand were put as could be, some where text begins with them, and 20 moves more than
-- the n are paid.
pub record PutsMost (bs : List ℕ) (n : ℕ) (e f : Shape) : Type 0 where
  pub longest : e.formatter.store.levels ≡ [] → is_unseen e.place.ahead ≡ true
      → e.place.taken + length bs < 2 ^ 40
      → Longest (take 65536 bs) (f.place.taken - e.place.taken) n f.formatter
  pub some : e.formatter.store.levels ≡ [] → is_unseen e.place.ahead ≡ true
      → BeginsText (may_take e.place bs) e.formatter → 0 < n
  pub saves : 0 < n → Saves 20 n e f

-- What goes out: bytes wait for others, and then go to a sink. Once that failed, nothing more goes.
use Rattle.std.specs.Prelude.{◌≡◌, ℕ, Bool, true, false, not, ◌&&◌, List, ◌++◌, Option}
use Rattle.std.specs.Io.KnownBytes.{Appends, Keeps}
use Rattle.nr_units.specs.Failures.{SinkFailures, put_counted_if}
use Rattle.nr_units.specs.Sink.{AppendsPrefix}
use Rattle.tbl_drawing.specs.declared.pen.Pen.{Pen}
use Rattle.tbl_drawing.specs.Pens.{Stroke, after_all, bytes_of}

-- what the sink holds, where that is known, and how many of its calls failed; what waits; whether the sink failed since; and the pen that
-- draws
pub record Tape : Type 0 where
  pub held : Option (List ℕ)
  pub failures : SinkFailures
  pub pending : List ℕ
  pub failed : Bool
  pub pen : Pen

-- bytes came after those that wait, and what of all these doesn't wait went to the sink; where it fails a prefix of them did, and after
-- that nothing
abbrev pub SendsIn : Bool → Bool → Option (List ℕ) → List ℕ → Option (List ℕ) → List ℕ → List ℕ → Type 0
SendsIn true true held waits now left bytes = Keeps held now
SendsIn true false held waits now left bytes = ⊥
SendsIn false true held waits now left bytes = AppendsPrefix held now (waits ++ bytes)
SendsIn false false held waits now left bytes =
    (out : List ℕ) × Appends held now out × (waits ++ bytes ≡ out ++ left)

-- where the sink failed meanwhile, one call of it did, and else none
abbrev pub failed_since : Bool → Bool → Bool
failed_since before now = now && not before

pub record Sends (a b : Tape) (bytes : List ℕ) : Type 0 where
  pub failures : b.failures ≡ put_counted_if (failed_since a.failed b.failed) a.failures
  pub sends : SendsIn a.failed b.failed a.held a.pending b.held b.pending bytes

-- strokes were drawn
pub record Draws (a b : Tape) (strokes : List Stroke) : Type 0 where
  pub pen : b.pen ≡ after_all strokes a.pen
  pub sends : Sends a b (bytes_of strokes a.pen)

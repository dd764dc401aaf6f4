-- The line of a request, taken in at once (CSTR 54, 1.1).
use Rattle.std.specs.Prelude.{ℕ, List, take}
use Rattle.nr_reading.specs.declared.half.Half.{Half}
use Rattle.nr_reading.specs.declared.mode.Mode.TheVariants as modes

-- after a request's line, of which the first 256 bytes count
abbrev pub after_request_line : List ℕ → Half → Half
after_request_line line h =
    record h {
      reading = record h.reading { mode = modes.Start };
      notes = record h.notes { line = take 256 line };
    }

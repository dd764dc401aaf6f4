-- The definitions of strings in a stretch of items (CSTR 54, 7.1).
use Rattle.nr_reading.specs.declared.half.Half.{Half}
use Rattle.nr_reading.specs.declared.mode.Mode.TheVariants as modes
use Rattle.nr_reading.specs.declared.spelled.Spelled.{Spelled}

-- after the name of a string that is defined
abbrev pub after_name : Spelled → Half → Half
after_name name h =
    record h {
      reading = record h.reading { mode = modes.StringBlanks };
      notes = record h.notes { name = name };
    }

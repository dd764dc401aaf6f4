-- What is noted of a line while it is read.
use Rattle.std.specs.Prelude.{ℕ, ◌+◌, ◌==◌, ◌&&◌, ◌^◌, ◌-◌, min, Bool, true, false, List, [], ◌∷◌, take}
use Rattle.nr_reading.specs.declared.notes.Condition.{Condition}
use Rattle.nr_reading.specs.declared.notes.Defining.{Defining}
use Rattle.nr_reading.specs.declared.notes.Notes.{Notes}
use Rattle.nr_reading.specs.Notes.{Note}
use Rattle.nr_reading.specs.Notes as notes
use Rattle.nr_reading.specs.Kept.{kept, fits_at}
use Rattle.nr_reading.specs.Spelled.{nothing_spelled, spelled}

-- A count stops at 2^64 - 1, which no text reaches.
abbrev pub one_more : ℕ → ℕ
one_more n = min (2 ^ 64 - 1) (n + 1)

-- ---- conditions (CSTR 54, 16)

abbrev pub no_condition : Condition
no_condition = record { negated = false; remembers = false; first = 0; second = 0; same = true }

-- two strings are equal where their first 256 bytes and their lengths are
abbrev pub are_equal : Condition → Bool
are_equal c = c.same && (c.first == c.second)

-- a byte of the second string comes, the first having these bytes
abbrev pub compared : ℕ → List ℕ → Condition → Condition
compared b line c = record c { same = c.same && fits_at c.second b line; second = one_more c.second }

-- The last 32 answers of `.ie` are remembered, the newest first.
abbrev pub remembered : Bool → List Bool → List Bool
remembered answer answers = answer ∷ take 31 answers

-- ---- definitions

-- nothing is defined
abbrev pub no_definition : Defining
no_definition = record { ending = []; long = false; keeps = false; appends = false }

-- nothing was read
abbrev pub no_notes : Notes
no_notes =
    record {
      name = nothing_spelled;
      asked = [];
      line = [];
      condition = no_condition;
      defining = no_definition;
      answers = [];
    }

-- ---- what an element adds to them

abbrev pub noted : Note → Notes → Notes
noted notes.Nothing n = n
noted notes.NewName n = record n { name = nothing_spelled }
noted (notes.Name b) n = record n { name = spelled b n.name }
noted notes.NewLine n = record n { line = [] }
noted (notes.Line b) n = record n { line = kept b n.line }
noted notes.Negated n = record n { condition = record n.condition { negated = true } }
noted notes.Strings n =
    record n { line = []; condition = record n.condition { first = 0; second = 0; same = true } }
noted (notes.First b) n =
    record n { line = kept b n.line; condition = record n.condition { first = one_more n.condition.first } }
noted (notes.Second b) n = record n { condition = compared b n.line n.condition }
noted (notes.Begin a) n = n

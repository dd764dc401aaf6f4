-- Lines of a definition, read at once of the bytes that come next of the source (CSTR 54, 7.1).
use Prim.Native.Char.{code}
use Rattle.std.specs.Prelude.{◌≡◌, ◌≢◌, ℕ, suc, ◌+◌, ◌<◌, ◌≤◌, ◌==◌, ◌&&◌, Bool, true, false, List, length, take, slice_index}
use Rattle.nr_reading.specs.declared.half.Half.{Half}
use Rattle.nr_reading.specs.declared.mode.Mode.{Mode}
use Rattle.nr_reading.specs.declared.mode.Mode.TheVariants as modes
use Rattle.nr_reading.specs.declared.notes.Defining.{Defining}
use Rattle.nr_reading.specs.Definitions.{last_line}
use Rattle.nr_reading.specs.Half.{reads_next}

-- by whether the lines are kept
abbrev pub is_in_body_in : Bool → Mode → Half → Bool
is_in_body_in keeps modes.Body h = keeps && reads_next h
is_in_body_in keeps (modes.BodyStart held) h = (held == 0) && (keeps && reads_next h)
is_in_body_in keeps m h = false

-- the next item is read in a line of a definition that is kept, or at its beginning, after no part of an escape
abbrev pub is_in_body : Half → Bool
is_in_body h = is_in_body_in h.notes.defining.keeps h.reading.mode h

-- The first n of these bytes stand for themselves in a line of a definition: no `\` is among them, and a newline at their end only.
pub record IsLine (n : ℕ) (bs : List ℕ) : Type 0 where
  pub within : n ≤ length bs
  pub escape : (k : ℕ) → k < n → slice_index bs k ≢ code "\\"
  pub line : (k : ℕ) → suc k < n → slice_index bs k ≢ code "\n"

-- There is a second byte, and it is not that of the line that ends the definition.
pub record IsOther (bs : List ℕ) (d : Defining) : Type 0 where
  pub some : 1 < length bs
  pub other : slice_index bs 1 ≢ slice_index (last_line d) 1

-- Such bytes, which at the beginning of a line don't begin like the line that ends the definition: after a dot the second shows so.
pub record IsOwn (n : ℕ) (bs : List ℕ) (m : Mode) (d : Defining) : Type 0 where
  pub text : IsLine n bs
  pub begins : m ≡ modes.BodyStart 0 → 0 < length (take n bs) → slice_index (take n bs) 0 ≡ code "."
      → IsOther (take n bs) d

-- The part of a line that these bytes begin with: n of them stand for themselves, and k `\` are after these, each written twice.
pub record IsPart (n k : ℕ) (bs : List ℕ) (h : Half) : Type 0 where
  pub body : is_in_body h ≡ true
  pub own : IsOwn n bs h.reading.mode h.notes.defining
  pub few : k ≤ 1
  pub some : 0 < n + k
  pub within : 0 < k → n + 1 < length bs
  pub first : 0 < k → slice_index bs n ≡ code "\\"
  pub second : 0 < k → slice_index bs (n + 1) ≡ code "\\"

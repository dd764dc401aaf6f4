-- A sink that shows bytes in another sink.
use Rattle.std.specs.Prelude.{◌≡◌, ℕ, ◌+◌, ◌<◌, ◌≤◌, List, [], ◌∷◌, ◌++◌, length, take, Bool, true, false}
use Rattle.std.specs.Prelude.{if◌then◌else◌, Option, None, Some, Result, Ok, Err, ⊤}
use Rattle.std.specs.Io.KnownBytes.{Appends}
use Rattle.nr_units.specs.Failures.{SinkFailures, next_count}
use Rattle.nr_units.specs.Sink.{AppendsPrefix}
use Rattle.document_stages.specs.Running.{Flushes, at_most}
use Rattle.utf8_characters.specs.declared.table.FixedTable.{FixedTable}
use Rattle.utf8_characters.specs.declared.table.FixedTable.TheVariants.{English, Latin, Cyrillic, Greek}
use Rattle.utf8_characters.specs.declared.table.FixedTable.TheVariants.{Latin1}
use Rattle.utf8_converter.specs.Cells.{converted, strays_of}
use Rattle.utf8_converter.specs.Lines.{KeepsLines}
use Rattle.utf8_converter.specs.Reading.{fed, first_reader}
use Rattle.utf8_converter.specs.declared.reader.Reader.{Reader}

-- ---- what it is made of

-- the table, whether looks go out by sequences, and what the other sink held and how many of its puts had
-- failed
pub record Making : Type 0 where
  pub table : FixedTable
  pub escapes : Bool
  pub begun : Option (List ℕ)
  pub failed : ℕ

abbrev pub number_of : FixedTable → ℕ
number_of English = 1
number_of Latin = 2
number_of Cyrillic = 3
number_of Greek = 4
number_of Latin1 = 5

-- known bytes after a number that says how many there are
abbrev pub counted_bytes : Option (List ℕ) → List ℕ
counted_bytes None = 0 ∷ []
counted_bytes (Some xs) = (length xs + 1) ∷ xs

-- What it holds before a byte came says how it was made, and no other begins so: whatever is held after is
-- what came.
abbrev pub made_of : Making → List ℕ
made_of m = number_of m.table ∷ (if m.escapes then 1 else 0) ∷ m.failed ∷ counted_bytes m.begun

-- what it tells: that and what came, whether what came last went on, and its failed calls
pub record ShownSoFar : Type 0 where
  pub bytes : List ℕ
  pub is_passed_on : Bool
  pub failures : SinkFailures

-- ---- what the other sink holds

-- what it held and a prefix of a text, of which the rest waits
abbrev pub Sends : Option (List ℕ) → Option (List ℕ) → List ℕ → List ℕ → Type 0
Sends None held waits text = ⊤
Sends (Some xs) None waits text = ⊥
Sends (Some xs) (Some ys) waits text = (ys ++ waits ≡ xs ++ text) × (length xs ≤ length ys)

-- what it held and a prefix of a text
abbrev pub AddsPrefix : Option (List ℕ) → Option (List ℕ) → List ℕ → Type 0
AddsPrefix None held text = ⊤
AddsPrefix (Some xs) None text = ⊥
AddsPrefix (Some xs) (Some ys) text = (take (length ys) (xs ++ text) ≡ ys) × (length xs ≤ length ys)

-- ---- bytes are taken

-- these bytes were read, and what they come to went out or waits
pub record Reads (held new : Option (List ℕ)) (r s : Reader) (waits left : List ℕ) (i j : ℕ) (bytes : List ℕ) : Type 0 where
  pub reader : s ≡ (fed r bytes).reader
  pub out : Flushes held new (waits ++ (fed r bytes).bytes) left
  pub made : j ≡ at_most (i + (fed r bytes).strays)

-- so many were, or the sink failed
abbrev pub TakesSome : {E : Type 0} → Option (List ℕ) → Option (List ℕ) → Reader → Reader → List ℕ → List ℕ → ℕ → ℕ → List ℕ
    → Result ℕ E → Type 0
TakesSome held new r s waits left i j bytes (Ok n) =
    (0 < n) × (n ≤ length bytes) × Reads held new r s waits left i j (take n bytes)
TakesSome held new r s waits left i j bytes (Err e) = AppendsPrefix held new (waits ++ (fed r bytes).bytes)

-- all were, or the sink failed
abbrev pub TakesAll : {T E : Type 0} → Option (List ℕ) → Option (List ℕ) → Reader → Reader → List ℕ → List ℕ → ℕ → ℕ → List ℕ
    → Result T E → Type 0
TakesAll held new r s waits left i j bytes (Ok x) = Reads held new r s waits left i j bytes
TakesAll held new r s waits left i j bytes (Err e) = AppendsPrefix held new (waits ++ (fed r bytes).bytes)

-- ---- how it stands

-- These bytes came: what they come to went out or waits, and so many were dropped.
pub record Stands (m : Making) (came : List ℕ) (held : Option (List ℕ)) (failed : ℕ) (r : Reader) (waits : List ℕ)
    (strays : ℕ) : Type 0 where
  pub reader : r ≡ (fed (first_reader m.table m.escapes) came).reader
  pub out : Sends m.begun held waits (fed (first_reader m.table m.escapes) came).bytes
  pub made : strays ≡ at_most (fed (first_reader m.table m.escapes) came).strays
  pub none : failed ≡ m.failed

-- these bytes came, and the other sink failed once
pub record Broke (m : Making) (came : List ℕ) (held : Option (List ℕ)) (failed : ℕ) : Type 0 where
  pub out : AddsPrefix m.begun held (fed (first_reader m.table m.escapes) came).bytes
  pub one : failed ≡ next_count m.failed

abbrev pub StandsOr : Bool → Making → List ℕ → Option (List ℕ) → ℕ → Reader → List ℕ → ℕ → Type 0
StandsOr false m came held failed r waits strays = Stands m came held failed r waits strays
StandsOr true m came held failed r waits strays = Broke m came held failed

-- ---- how it ends

-- The other sink got what all bytes come to, a text for a terminal in lines of as many cells with the same
-- characters.
pub record IsShown (m : Making) (came : List ℕ) (held : Option (List ℕ)) (failed strays : ℕ) : Type 0 where
  pub went_out : Appends m.begun held (converted m.table m.escapes came)
  pub text : KeepsLines m.table m.escapes came (converted m.table m.escapes came)
  pub made : strays ≡ at_most (strays_of m.table came)
  pub none : failed ≡ m.failed

-- it got a prefix of that, and failed once
pub record IsCutOff (m : Making) (came : List ℕ) (held : Option (List ℕ)) (failed : ℕ) : Type 0 where
  pub went_out : AppendsPrefix m.begun held (converted m.table m.escapes came)
  pub one : failed ≡ next_count m.failed

abbrev pub Finishes : {E : Type 0} → Making → List ℕ → Option (List ℕ) → ℕ → Result ℕ E → Type 0
Finishes m came held failed (Ok strays) = IsShown m came held failed strays
Finishes m came held failed (Err e) = IsCutOff m came held failed

-- A sink that shows the bytes of a page's own table in another sink.
use Rattle.std.specs.Prelude.{◌≡◌, ℕ, List, [], ◌∷◌, ◌++◌, Bool, true, false, if◌then◌else◌, Option, Result}
use Rattle.std.specs.Prelude.{Ok, Err}
use Rattle.std.specs.Io.KnownBytes.{Appends}
use Rattle.nr_units.specs.Failures.{next_count}
use Rattle.nr_units.specs.Sink.{AppendsPrefix}
use Rattle.document_stages.specs.Running.{Flushes}
use Rattle.utf8_converter.specs.Showing.{AddsPrefix, Sends, counted_bytes}
use Rattle.utf8_own_characters.specs.Table.{Characters}
use Rattle.utf8_own_characters.specs.declared.cluster.Cluster.{Cluster}
use Rattle.utf8_own_sink.specs.Cells.{converted}
use Rattle.utf8_own_sink.specs.Reading.{fed, first}
use Rattle.utf8_own_sink.specs.declared.cells.Reader.{Reader}

-- ---- what it is made of

-- the table, whether looks go out by sequences, and what the other sink held and how many of its puts had
-- failed
pub record Making : Type 0 where
  pub table : Characters
  pub escapes : Bool
  pub begun : Option (List ℕ)
  pub failed : ℕ

-- letters with their marks, each after a 1, then a 0, and what follows
abbrev pub listed_before : List Cluster → List ℕ → List ℕ
listed_before [] rest = 0 ∷ rest
listed_before (c ∷ cs) rest = 1 ∷ c.letter ∷ c.first_mark ∷ c.second_mark ∷ c.third_mark ∷ listed_before cs rest

-- What it holds once these bytes came says how it was made and what they are: nothing else is written so.
abbrev pub emitted : Making → List ℕ → List ℕ
emitted m came =
    m.table.halves ∷ (if m.escapes then 1 else 0) ∷ m.failed
    ∷ listed_before m.table.narrow (listed_before m.table.wide (counted_bytes m.begun ++ came))

-- ---- bytes are taken

-- these bytes were read, and what they come to went out or waits
pub record Reads (t : Characters) (held new : Option (List ℕ)) (r s : Reader) (waits left bytes : List ℕ) : Type 0 where
  pub reader : s ≡ (fed t r bytes).reader
  pub out : Flushes held new (waits ++ (fed t r bytes).bytes) left

-- they were, or the sink failed
abbrev pub Takes : {T E : Type 0} → Characters → Option (List ℕ) → Option (List ℕ) → Reader → Reader → List ℕ → List ℕ
    → List ℕ → Result T E → Type 0
Takes t held new r s waits left bytes (Ok x) = Reads t held new r s waits left bytes
Takes t held new r s waits left bytes (Err e) = AppendsPrefix held new (waits ++ (fed t r bytes).bytes)

-- ---- how it stands

-- These bytes came: what they come to went out or waits.
pub record Stands (m : Making) (came : List ℕ) (held : Option (List ℕ)) (failed : ℕ) (r : Reader) (waits : List ℕ) : Type 0 where
  pub reader : r ≡ (fed m.table (first m.escapes) came).reader
  pub out : Sends m.begun held waits (fed m.table (first m.escapes) came).bytes
  pub none : failed ≡ m.failed

-- these bytes came, and the other sink failed once
pub record Broke (m : Making) (came : List ℕ) (held : Option (List ℕ)) (failed : ℕ) : Type 0 where
  pub out : AddsPrefix m.begun held (fed m.table (first m.escapes) came).bytes
  pub one : failed ≡ next_count m.failed

abbrev pub StandsOr : Bool → Making → List ℕ → Option (List ℕ) → ℕ → Reader → List ℕ → Type 0
StandsOr false m came held failed r waits = Stands m came held failed r waits
StandsOr true m came held failed r waits = Broke m came held failed

-- ---- how it ends

-- the other sink got what all bytes come to
pub record IsShown (m : Making) (came : List ℕ) (held : Option (List ℕ)) (failed : ℕ) : Type 0 where
  pub went_out : Appends m.begun held (converted m.table m.escapes came)
  pub none : failed ≡ m.failed

-- it got a prefix of that, and failed once
pub record IsCutOff (m : Making) (came : List ℕ) (held : Option (List ℕ)) (failed : ℕ) : Type 0 where
  pub went_out : AppendsPrefix m.begun held (converted m.table m.escapes came)
  pub one : failed ≡ next_count m.failed

abbrev pub Finishes : {T E : Type 0} → Making → List ℕ → Option (List ℕ) → ℕ → Result T E → Type 0
Finishes m came held failed (Ok x) = IsShown m came held failed
Finishes m came held failed (Err e) = IsCutOff m came held failed

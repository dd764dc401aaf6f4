-- A source is turned by a stage into a sink.
use Rattle.std.specs.Prelude.{◌≡◌, ℕ, ◌+◌, ◌-◌, ◌*◌, ◌^◌, ◌≤◌, min, List, [], ◌++◌, length, Bool, true, false, Option, None, Some, Result, Ok, Err, ⊤, ◌⊎◌}
use Rattle.std.specs.Io.KnownBytes.{Appends}
use Rattle.nr_units.specs.Failures.{next_count}
use Rattle.nr_units.specs.Sink.{AppendsPrefix}
use Rattle.nr_units.specs.Source.{Supply}
use Rattle.document_stages.specs.Pulling.{Came}
use Rattle.document_stages.specs.Stepping.{Meaning, after}
use Rattle.document_stages.specs.declared.running.RunEnd.{RunEnd}
use Rattle.document_stages.specs.declared.running.RunEnd.TheVariants.{Done, ReadFault, TooLong, WriteFault}

-- nothing more is to come
abbrev pub Ends : Option Supply → Option Supply → Type 0
Ends None new = ⊤
Ends (Some q) None = ⊥
Ends (Some q) (Some t) = t.bytes ≡ []

-- a count that stops at the highest number
abbrev pub at_most : ℕ → ℕ
at_most n = min n (2 ^ 64 - 1)

-- ---- what came of all

-- All bytes came, and what they and the end come to went out: at most so many bytes for each, and as many more.
pub record IsDone (says : Bool → List ℕ → List ℕ) (counts : Bool → List ℕ → ℕ) (wants : ℕ) (first last : Option Supply)
    (held new : Option (List ℕ)) (count : ℕ) : Type 0 where
  pub bytes : List ℕ
  pub came : Came first bytes last
  pub ends : Ends first last
  pub short : length bytes ≤ 1099511627776
  pub went_out : Appends held new (says true bytes)
  pub few : length (says true bytes) ≤ wants * (length bytes + 1)
  pub counted : count ≡ counts true bytes

-- so many bytes came, and what they come to went out but for what is half read
pub record IsCut (says : Bool → List ℕ → List ℕ) (counts : Bool → List ℕ → ℕ) (first last : Option Supply)
    (held new : Option (List ℕ)) (count at : ℕ) : Type 0 where
  pub bytes : List ℕ
  pub came : Came first bytes last
  pub at_is : length bytes ≡ at
  pub short : at ≤ 1099511627776
  pub went_out : Appends held new (says false bytes)
  pub counted : count ≡ counts false bytes

-- some bytes came, and the end after them or not, and a prefix of what they come to went out
pub record IsBroken (says : Bool → List ℕ → List ℕ) (counts : Bool → List ℕ → ℕ) (first last : Option Supply)
    (held new : Option (List ℕ)) (count : ℕ) : Type 0 where
  pub bytes : List ℕ
  pub came : Came first bytes last
  pub short : length bytes ≤ 1099511627776
  pub went_out : AppendsPrefix held new (says true bytes)
  pub ended : Bool
  pub counted : count ≡ counts ended bytes

-- by how it ended
abbrev pub Ran : (Bool → List ℕ → List ℕ) → (Bool → List ℕ → ℕ) → ℕ → Option Supply → Option Supply → Option (List ℕ)
    → Option (List ℕ) → ℕ → RunEnd → Type 0
Ran says counts wants first last held new count Done = IsDone says counts wants first last held new count
Ran says counts wants first last held new count (ReadFault at) = IsCut says counts first last held new count at
Ran says counts wants first last held new count TooLong = IsCut says counts first last held new count 1099511627776
Ran says counts wants first last held new count WriteFault = IsBroken says counts first last held new count

-- ---- faults

abbrev pub is_read_fault : RunEnd → Bool
is_read_fault (ReadFault at) = true
is_read_fault outcome = false

abbrev pub is_write_fault : RunEnd → Bool
is_write_fault WriteFault = true
is_write_fault outcome = false

-- a read fault is reported where a call of the source failed, and else none failed, but where the sink did
abbrev pub TellsReads : RunEnd → ℕ → ℕ → Type 0
TellsReads Done before later = later ≡ before
TellsReads (ReadFault at) before later = later ≡ next_count before
TellsReads TooLong before later = later ≡ before
TellsReads WriteFault before later = (later ≡ before) ⊎ (later ≡ next_count before)

-- ---- on the way

-- what a sink took of bytes at an error
abbrev pub PrefixAtErr : {T E : Type 0} → Result T E → Option (List ℕ) → Option (List ℕ) → List ℕ → Type 0
PrefixAtErr (Ok x) held new bytes = Unit {0}
PrefixAtErr (Err e) held new bytes = AppendsPrefix held new bytes

-- a prefix of what waits went out, and the rest is left
pub record Flushes (held new : Option (List ℕ)) (waits left : List ℕ) : Type 0 where
  pub out : List ℕ
  pub went_out : Appends held new out
  pub all : waits ≡ out ++ left

-- so many bytes came: what they come to went out or waits, and what comes of those that follow stands after it
pub record Stands (m now : Meaning) (wants : ℕ) (first supply : Option Supply) (held new : Option (List ℕ))
    (waits : List ℕ) (taken : ℕ) : Type 0 where
  pub bytes : List ℕ
  pub came : Came first bytes supply
  pub count : length bytes ≡ taken
  pub sent : List ℕ
  pub went_out : Appends held new sent
  pub said : (ends : Bool) → (rest : List ℕ) → m.says ends (bytes ++ rest) ≡ sent ++ after waits now.says ends rest
  pub fitted : (rest : List ℕ) → m.fits (bytes ++ rest) ≡ now.fits rest
  pub counted : (ends : Bool) → (rest : List ℕ) → m.counts ends (bytes ++ rest) ≡ now.counts ends rest
  pub few : length sent + length waits ≤ wants * taken

-- all that waited went out, or the sink failed
abbrev pub EndsAs : RunEnd → RunEnd → Option (List ℕ) → Option (List ℕ) → List ℕ → Type 0
EndsAs wanted WriteFault held new waits = AppendsPrefix held new waits
EndsAs wanted outcome held new waits = (wanted ≡ outcome) × Appends held new waits

-- A stage over a source is a source.
use Rattle.std.specs.Prelude.{◌≡◌, ℕ, ◌+◌, ◌<◌, ◌≤◌, List, [], ◌++◌, length, take, nat_lt, Bool, true, false, ◌&&◌, Option, None, Some, Result, Ok, Err, ⊤, if◌then◌else◌}
use Rattle.nr_units.specs.Source.{Faults, Never, After, Anytime, Supply, Gives, MayFail, MayGiveAll, later}
use Rattle.nr_units.specs.declared.source.Fault.{Fault}

-- from here on nothing goes out
pub record SaysNothing (says : Bool → List ℕ → List ℕ) (fits : List ℕ → Bool) : Type 0 where
  pub says_none : (ends : Bool) → (rest : List ℕ) → says ends rest ≡ []
  pub fits_none : (rest : List ℕ) → fits rest ≡ false

-- whatever comes fits
abbrev pub fits_always : List ℕ → Bool
fits_always bytes = true

-- ---- what a source over these bytes gives, by where it fails

-- it is known where
abbrev pub is_sure : Faults → Bool
is_sure Never = true
is_sure (After n) = true
is_sure Anytime = false

-- it gives all of its bytes and the end after them
abbrev pub gives_end : Faults → List ℕ → Bool
gives_end Never bytes = true
gives_end (After n) bytes = nat_lt (length bytes) n
gives_end Anytime bytes = true

-- the bytes that it gives
abbrev pub given : Faults → List ℕ → List ℕ
given Never bytes = bytes
given (After n) bytes = take n bytes
given Anytime bytes = bytes

-- ---- what a stage over a source is to give

abbrev pub whole : List ℕ → Supply
whole bytes = record { bytes = bytes; faults = Never }

-- these bytes, and then each call fails
abbrev pub broken_off : List ℕ → Supply
broken_off bytes = record { bytes = bytes; faults = After (length bytes) }

abbrev pub uncertain : List ℕ → Supply
uncertain bytes = record { bytes = bytes; faults = Anytime }

-- all of a text, if it fits
abbrev pub all_of : Bool → List ℕ → Supply
all_of fits bytes = if fits then whole bytes else broken_off bytes

-- what waits, and what comes of what the source gives: up to the end, or to where the source fails or a line makes too much
abbrev pub made_of : Supply → (Bool → List ℕ → List ℕ) → (List ℕ → Bool) → List ℕ → Supply
made_of q says fits waits =
    if gives_end q.faults q.bytes then all_of (fits q.bytes) (waits ++ says true q.bytes)
    else broken_off (waits ++ says false (given q.faults q.bytes))

abbrev pub left_of : Bool → (Bool → List ℕ → List ℕ) → List ℕ → List ℕ
left_of true says bytes = []
left_of false says bytes = says true bytes

-- where it can't be known where it fails: the source may fail at any call, or has 2^40 bytes, or there is too little room
abbrev pub is_known : Supply → ℕ → Bool → Bool
is_known q taken wide = is_sure q.faults && (wide && nat_lt (taken + length q.bytes) 1099511627776)

abbrev pub pulled_from : Bool → Bool → Supply → (Bool → List ℕ → List ℕ) → (List ℕ → Bool) → List ℕ → Supply
pulled_from true true q says fits waits = whole waits
pulled_from true false q says fits waits = made_of q says fits waits
pulled_from false ended q says fits waits = uncertain (waits ++ left_of ended says q.bytes)

-- what is to come of a source, of which so many bytes were taken, and which has ended or not
abbrev pub pulled : Option Supply → Bool → (Bool → List ℕ → List ℕ) → (List ℕ → Bool) → List ℕ → ℕ → Bool
    → Option Supply
pulled None wide says fits waits taken ended = None
pulled (Some q) wide says fits waits taken ended =
    Some (pulled_from (is_known q taken wide) ended q says fits waits)

-- ---- steps

-- these bytes came
abbrev pub Came : Option Supply → List ℕ → Option Supply → Type 0
Came None bytes new = ⊤
Came (Some q) bytes None = ⊥
Came (Some q) bytes (Some t) =
    (q.bytes ≡ bytes ++ t.bytes) × (t.faults ≡ later (length bytes) q.faults)
    × MayGiveAll (length bytes) q.faults

-- so many bytes came, and what comes of them stands before what comes of those that follow
pub record Took (old new : Option Supply) (says says' : Bool → List ℕ → List ℕ) (fits fits' : List ℕ → Bool)
    (items : List ℕ) (n : ℕ) : Type 0 where
  pub bytes : List ℕ
  pub came : Came old bytes new
  pub count : length bytes ≡ n
  pub said : (ends : Bool) → (rest : List ℕ) → says ends (bytes ++ rest) ≡ items ++ says' ends rest
  pub fitted : (rest : List ℕ) → fits (bytes ++ rest) ≡ fits' rest

-- the end came, and what comes of it
pub record Ended (old new : Option Supply) (says : Bool → List ℕ → List ℕ) (fits : List ℕ → Bool)
    (items : List ℕ) (fit : Bool) : Type 0 where
  pub gives : Gives {E = Fault} old (Ok None) new
  pub said : says true [] ≡ items
  pub fitted : fits [] ≡ fit

-- the source failed, and nothing came
pub record Failed (old new : Option Supply) (says says' : Bool → List ℕ → List ℕ) (fits fits' : List ℕ → Bool)
    (items : List ℕ) (e : Fault) : Type 0 where
  pub gives : Gives old (Err e) new
  pub said : (ends : Bool) → (rest : List ℕ) → says ends rest ≡ says' ends rest
  pub fitted : (rest : List ℕ) → fits rest ≡ fits' rest
  pub items_none : items ≡ []

-- what was known stays
abbrev pub Stays : Option Supply → Option Supply → Type 0
Stays None new = ⊤
Stays (Some q) new = new ≡ Some q

-- where it is known, a call may fail
abbrev pub MayBreak : Option Supply → Type 0
MayBreak None = ⊤
MayBreak (Some q) = MayFail q.faults

-- a call answered this, and no error
abbrev pub GivesNext : Option Supply → Option ℕ → Option Supply → Type 0
GivesNext old byte new = Gives {E = Fault} old (Ok byte) new

-- ---- answers

-- steps were made: something waits, or the end came, or a call may fail
abbrev pub Filled : Result Bool Fault → List ℕ → Option Supply → Type 0
Filled (Ok true) waits supply = Unit {0}
Filled (Ok false) waits supply = waits ≡ [] → ⊥
Filled (Err e) waits supply = (waits ≡ []) × MayBreak supply

abbrev pub has_ended : Result Bool Fault → Bool
has_ended (Ok ended) = ended
has_ended (Err e) = false

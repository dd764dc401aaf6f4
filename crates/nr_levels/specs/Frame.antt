-- How levels lie in a row of frames, over a row of modes, a row of bytes and a row of places.
use Rattle.std.specs.Prelude.{◌≡◌, ℕ, ◌+◌, ◌*◌, ◌/◌, ◌^◌, min, ◌≤◌, ◌<◌, List, [], ◌∷◌, Bool, true, false, Option, Some, None, map, length, take, drop}
use Rattle.std.specs.List.{slice_get}
use Rattle.nr_levels.specs.Levels.{Source, Text, Own, Mark, Open, Levels}
use Rattle.nr_levels.specs.declared.frame.Span.{Span}
use Rattle.nr_levels.specs.declared.frame.Frame.{Frame}
use Rattle.nr_levels.specs.declared.frame.Reads.{Reads}
use Rattle.nr_levels.specs.declared.frame.Reads.TheVariants as reads

-- a part of a row
abbrev pub part : {X : Type 0} → List X → Span → List X
part xs s = drop s.first (take s.last xs)

-- the texts of some arguments
abbrev pub arguments_of : List ℕ → List Span → Span → List (List ℕ)
arguments_of bytes places s = map (part bytes) (part places s)

-- the newest mode, where there is one of a frame
abbrev pub mode_of : {K : Type 0} → Bool → List K → Option K
mode_of true modes = slice_get modes 0
mode_of false modes = None

-- the modes of the frames after it
abbrev pub modes_after : {K : Type 0} → Bool → List K → List K
modes_after true modes = drop 1 modes
modes_after false modes = modes

-- what a frame reads; where its end was taken, its mode is still to be resumed
abbrev pub source_of : {K : Type 0} → List ℕ → Reads → Option K → Source K
source_of bytes (reads.Text id place) mode = Text id place
source_of bytes (reads.Own s) mode = Own (part bytes s)
source_of bytes reads.Mark (Some mode) = Mark mode
source_of bytes reads.Mark None = Own []

-- the mode that is resumed after its end
abbrev pub resume_of : {K : Type 0} → Reads → Option K → Option K
resume_of (reads.Text id place) mode = mode
resume_of (reads.Own s) mode = mode
resume_of reads.Mark mode = None

-- the level of a frame with this mode
abbrev pub open_of : {K : Type 0} → List ℕ → List Span → Frame → Option K → Open K
open_of bytes places f mode =
    record {
      source = source_of bytes f.reads mode;
      old = arguments_of bytes places f.old;
      charge = f.charge;
      resume = resume_of f.reads mode;
    }

-- the levels of frames, which take their modes in order
abbrev pub opens_of : {K : Type 0} → List ℕ → List Span → List Frame → List K → List (Open K)
opens_of bytes places [] modes = []
opens_of bytes places (f ∷ fs) modes =
    open_of bytes places f (mode_of f.has_mode modes) ∷ opens_of bytes places fs
    (modes_after f.has_mode modes)

-- the levels of a row of frames
abbrev pub levels_of : {K : Type 0} → List Frame → List K → List ℕ → List Span → Span → ℕ → ℕ → Levels K
levels_of frames modes bytes places inforce capacity most = record {
  levels = opens_of bytes places frames modes;
  arguments = arguments_of bytes places inforce;
  capacity = capacity;
  most = most;
}

-- 1 for a frame that has a mode
abbrev pub modes_in : Bool → ℕ
modes_in true = 1
modes_in false = 0

-- how many frames have a mode
abbrev pub mode_count : List Frame → ℕ
mode_count [] = 0
mode_count (f ∷ fs) = modes_in f.has_mode + mode_count fs

-- a frame whose end was taken has one
abbrev pub MarkHasMode : Reads → Bool → Type 0
MarkHasMode (reads.Text id place) has = Unit {0}
MarkHasMode (reads.Own s) has = Unit {0}
MarkHasMode reads.Mark has = has ≡ true

-- so has each of these
abbrev pub MarksHaveModes : List Frame → Type 0
MarksHaveModes [] = Unit {0}
MarksHaveModes (f ∷ fs) = MarkHasMode f.reads f.has_mode × MarksHaveModes fs

-- the modes are those of the frames that have one
pub record AreModes {K : Type 0} (frames : List Frame) (modes : List K) (mode_room most : ℕ) : Type 0 where
  pub each : mode_count frames ≡ length modes
  pub marks : MarksHaveModes frames
  pub suffice : mode_room ≡ most

-- each of these parts ends at h or before it
abbrev pub EndBy : ℕ → List Span → Type 0
EndBy h [] = Unit {0}
EndBy h (s ∷ ss) = (s.last ≤ h) × EndBy h ss

-- some arguments lie below h
pub record AreBelow (places : List Span) (h : ℕ) (s : Span) : Type 0 where
  pub within : s.last ≤ length places
  pub below : EndBy h (part places s)

-- what a frame reads lies below h
abbrev pub ReadsBelow : ℕ → Reads → Type 0
ReadsBelow h (reads.Text id place) = Unit {0}
ReadsBelow h (reads.Own s) = s.last ≤ h
ReadsBelow h reads.Mark = Unit {0}

-- a frame whose end was taken has no bytes and no arguments of its own
abbrev pub IsBare : Reads → Span → Span → ℕ → ℕ → Type 0
IsBare (reads.Text id place) old inforce low h = Unit {0}
IsBare (reads.Own s) old inforce low h = Unit {0}
IsBare reads.Mark old inforce low h = (old ≡ inforce) × (low ≡ h)

-- 1 for a frame that reads, 0 for one whose end was taken
abbrev pub reader : Reads → ℕ
reader (reads.Text id place) = 1
reader (reads.Own s) = 1
reader reads.Mark = 0

-- how many frames read
abbrev pub readers : List Frame → ℕ
readers [] = 0
readers (f ∷ fs) = reader f.reads + readers fs

-- a frame on others: h bytes lie below the next frame, of which these are its own and those of its arguments
pub record IsOn (places : List Span) (f : Frame) (inforce : Span) (h : ℕ) : Type 0 where
  pub lower : f.height ≤ h
  pub paid : h ≤ f.charge + f.height
  pub costs : 16 * reader f.reads ≤ f.charge
  pub reads : ReadsBelow h f.reads
  pub bare : IsBare f.reads f.old inforce f.height h
  pub old : AreBelow places f.height f.old
  pub above : f.old.last ≤ inforce.last
  pub few : inforce.last ≤ f.old.last + 9 * reader f.reads

-- frames, each on those after it
abbrev pub IsStacked : List Span → List Frame → Span → ℕ → Type 0
IsStacked places [] inforce h = (inforce.last ≡ 0) × (h ≡ 0)
IsStacked places (f ∷ fs) inforce h = IsOn places f inforce h × IsStacked places fs f.old f.height

-- what is always true of the fields
pub record AreLevels (frames : List Frame) (bytes : List ℕ) (places : List Span) (inforce : Span)
    (capacity most place_room : ℕ) : Type 0 where
  pub stacked : IsStacked places frames inforce (length bytes)
  pub now : AreBelow places (length bytes) inforce
  pub top : inforce.last ≡ length places
  pub places_suffice : place_room ≡ 9 * min most (capacity / 16)
  pub places_small : place_room < 2 ^ 32
  pub small : capacity < 2 ^ 32

-- parts of these lengths, one after another
abbrev pub spans_from : ℕ → List ℕ → List Span
spans_from start [] = []
spans_from start (n ∷ ns) = record { first = start; last = start + n } ∷ spans_from (start + n) ns

-- the place of an absent argument
abbrev pub no_span : Span
no_span = record { first = 0; last = 0 }

-- How many moves may still come before the next byte of the source is taken.
use Rattle.std.specs.Prelude.{◌≡◌, ℕ, ◌+◌, ◌-◌, ◌*◌, ◌≤◌, Bool, true, false, List, length, Option, None, Some, sum_by, Result, Ok, Err}
use Rattle.nr_store.specs.Store.{Stored, Built, Level, Read, Mark}
use Rattle.nr_store.specs.declared.element.Diversion.{Diversion}
use Rattle.nr_reading.specs.declared.event.Event.TheVariants as events
use Rattle.nr_reading.specs.declared.half.Half.{Half}
use Rattle.nr_reading.specs.Weights.{item_worth, cost_of_text, cost_of_event, weight_of_start, weight_of_text, weight_of_half, blanks_owed}
use Rattle.nr_input.specs.declared.reader.Reader.{Reader}
use Rattle.nr_input.specs.declared.refusal.Refusal.{Refusal}
use Rattle.nr_input.specs.declared.emitted.Emitted.{Emitted}
use Rattle.nr_input.specs.declared.emitted.Emitted.TheVariants as tells
use Rattle.nr_input.specs.Place.{Reached}

-- ---- the items before the next byte: those of the levels, their marks among them, and the newline that is added

-- The mark after a sprung text counts as two: it pays for what goes on there.

abbrev pub count_of_resume : {K : Type 0} → Option K → ℕ
count_of_resume None = 0
count_of_resume (Some mode) = 2

abbrev pub items_in : {K : Type 0} → Level K → ℕ
items_in (Read l) = length l.rest + 1 + count_of_resume l.resume
items_in (Mark mode) = 2

abbrev pub items_left : {K : Type 0} → List (Level K) → ℕ
items_left levels = sum_by items_in levels

abbrev pub newline_left : Bool → ℕ
newline_left true = 1
newline_left false = 0

-- ---- splices and springs: each brings as many items as may be stored, and three more at most

abbrev pub expansion_worth : ℕ → ℕ
expansion_worth stored = item_worth * (stored + 3)

-- A level is charged for 16 bytes more than it has, so a splice brings 16 items fewer than it is worth: of those 14 are left to
-- those who go on.
abbrev pub left_by_splice : ℕ
left_by_splice = 14 * item_worth

-- what those that may still come are worth, with so many stored bytes
unfoldable pub expansions_worth : ℕ → ℕ → ℕ → ℕ
expansions_worth most burst stored = (most - burst) * expansion_worth stored

-- ---- all of it

abbrev pub weight_before_byte : {K : Type 0} → Stored K → Reached → Reader → ℕ
weight_before_byte v p r =
    item_worth * (items_left v.levels + newline_left p.inside) + expansions_worth r.most r.burst v.limit
    + weight_of_half r.half

-- what a byte of the source pays at least: itself, and the newline that may be added after it
abbrev pub byte_worth : ℕ → ℕ → ℕ
byte_worth most stored = expansions_worth most 0 stored + 2 * item_worth

-- what goes on after a sprung text has so many moves of the two items that its mark counts as
abbrev pub left_to_resume : ℕ
left_to_resume = 2 * item_worth - 2

-- what a move costs by what it tells
abbrev pub cost_of_emitted : {K : Type 0} → Emitted K → ℕ
cost_of_emitted (tells.Event e) = cost_of_event e
cost_of_emitted (tells.Resume k) = left_to_resume + 1

-- a blank of a line's beginning is emitted
abbrev pub IfLead : {K : Type 0} → Emitted K → Type 0 → Type 0
IfLead (tells.Event events.Lead) P = P
IfLead t P = Unit {0}

-- a blank more that is owed
abbrev pub risen : Half → Half → ℕ
risen old new = blanks_owed new - blanks_owed old

-- A move was made: it is paid out of what may still come, and a byte that it takes pays this much or more. Of the blanks that
-- are owed each that is emitted takes one off.
pub record Pays {K : Type 0} (v : Stored K) (p : Reached) (r : Reader) (t : Emitted K) (v' : Stored K)
    (p' : Reached) (r' : Reader) : Type 0 where
  pub limit : v'.limit ≡ v.limit
  pub most : r'.most ≡ r.most
  pub pays : (worth : ℕ) → byte_worth r.most v.limit ≤ worth →
      weight_before_byte v' p' r' + cost_of_emitted t + cost_of_text * risen r.half r'.half + worth * p.taken
      ≤ weight_before_byte v p r + worth * p'.taken
  pub lead : IfLead t (blanks_owed r'.half + 1 ≡ blanks_owed r.half)

abbrev pub PaysIfMade : {K : Type 0} → Stored K → Reached → Reader → Result (Emitted K) Refusal → Stored K
    → Reached → Reader → Type 0
PaysIfMade v p r (Ok t) v' p' r' = Pays v p r t v' p' r'
PaysIfMade v p r (Err e) v' p' r' = Unit {0}

-- ---- what those who read events do

-- A text is spliced or sprung: it is paid out of what may still come, with what it leaves.
pub record Splices {K : Type 0} (v : Stored K) (r : Reader) (v' : Stored K) (r' : Reader) : Type 0 where
  pub limit : v'.limit ≡ v.limit
  pub most : r'.most ≡ r.most
  pub pays : (p : Reached) → weight_before_byte v' p r' + left_by_splice + cost_of_text * risen r.half r'.half
      ≤ weight_before_byte v p r

-- where no text is sprung nothing changes
abbrev pub Springs : {K : Type 0} → Stored K → Reader → Result Bool Refusal → Stored K → Reader → Type 0
Springs v r (Ok true) v' r' = Splices v r v' r'
Springs v r (Ok false) v' r' = (v' ≡ v) × (r' ≡ r)
Springs v r (Err e) v' r' = Unit {0}

-- what is read was set anew: it weighs so much more at most
abbrev pub CostsAtMost : ℕ → Half → Half → Type 0
CostsAtMost most old new = weight_of_half new + cost_of_text * risen old new ≤ weight_of_half old + most

-- a text line goes on where it stood: another blank of its beginning may be owed
abbrev pub cost_of_standing : ℕ
cost_of_standing = weight_of_text + 1 + cost_of_text

-- the lines of a definition follow, from the beginning of one on
abbrev pub cost_of_defining : ℕ
cost_of_defining = weight_of_start + 3

pub record Defines {K : Type 0} (v : Stored K) (r : Reader) (v' : Stored K) (r' : Reader) : Type 0 where
  pub levels : v'.levels ≡ v.levels
  pub limit : v'.limit ≡ v.limit
  pub burst : r'.burst ≡ r.burst
  pub most : r'.most ≡ r.most
  pub costs : CostsAtMost cost_of_defining r.half r'.half

-- ---- diversions: none begins where something is read

abbrev pub count_of_diversion : Option Diversion → ℕ
count_of_diversion None = 0
count_of_diversion (Some d) = 1

abbrev pub diversions_of : Built → ℕ
diversions_of b = count_of_diversion b.diversion

-- how many of the texts that are being built have a diversion
abbrev pub diversions_in : List Built → ℕ
diversions_in building = sum_by diversions_of building

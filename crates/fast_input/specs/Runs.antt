-- Many moves of the machine that reads, of which only the last may tell something.
use Prim.Native.Char.{code}
use Rattle.std.specs.Prelude.{◌≡◌, ℕ, zero, suc, ◌+◌, ◌-◌, ◌*◌, ◌^◌, ◌<◌, ◌≤◌, ◌==◌, Bool, true, false, not, List, [], ◌∷◌, length, slice_get, slice_index, Option, Some}
use Rattle.nr_units.specs.Source.{Supply, skipped}
use Rattle.nr_store.specs.Store.{Stored, charge_of}
use Rattle.nr_store.specs.Windows.{rest_of}
use Rattle.nr_store.specs.declared.element.Element.TheVariants as elements
use Rattle.nr_reading.specs.declared.event.Event.{Event}
use Rattle.nr_reading.specs.declared.event.Event.TheVariants as events
use Rattle.nr_reading.specs.declared.half.Half.{Half}
use Rattle.nr_reading.specs.declared.mode.PendingAct.TheVariants as pending_acts
use Rattle.nr_reading.specs.Many.InArgument.{ending_of, IsPlain}
use Rattle.nr_reading.specs.Many.InText.{is_in_text}
use Rattle.nr_reading.specs.Weights.{cost_of_text, cost_of_event, is_lead}
use Rattle.nr_input.specs.declared.reader.Reader.{Reader}
use Rattle.fast_input.specs.declared.target.Target.{Target}
use Rattle.nr_input.specs.declared.emitted.Emitted.{Emitted}
use Rattle.nr_input.specs.declared.emitted.Emitted.TheVariants as tells
use Rattle.nr_input.specs.Place.{Coming, Reached}
use Rattle.nr_input.specs.Moving.{Situation, Stands, move, Goes}
use Rattle.fast_input.specs.Target.{is_read_for, with_more}
use Rattle.nr_input.specs.Weights.{weight_before_byte, byte_worth, risen, diversions_in}

-- after n moves
abbrev pub moves : {K : Type 0} → ℕ → Situation K → Situation K
moves zero s = s
moves (suc n) s = (move (moves n s)).situation

-- what the last of them emitted
abbrev pub emitted_last : {K : Type 0} → ℕ → Situation K → Emitted K
emitted_last zero s = tells.Event events.Nothing
emitted_last (suc n) s = (move (moves n s)).emitted

-- n moves were made, all but the last emitted nothing and the last this, and the program stands where they lead
pub record HasRead {K : Type 0} (n : ℕ) (s : Situation K) (e : Event) (v : Stored K) (r : Reader)
    (p : Reached) (supply : Option Supply) : Type 0 where
  pub goes : (k : ℕ) → k < n → Goes (moves k s)
  pub quiet : (k : ℕ) → k < n → emitted_last k s ≡ tells.Event events.Nothing
  pub tells : emitted_last n s ≡ tells.Event e
  pub stands : Stands (moves n s) v r p supply

-- n moves were made: they are paid out of what may still come, and each byte that they took pays this much or more
pub record PaysAll {K : Type 0} (n : ℕ) (v : Stored K) (p : Reached) (r : Reader) (e : Event) (v' : Stored K)
    (p' : Reached) (r' : Reader) : Type 0 where
  pub limit : v'.limit ≡ v.limit
  pub diversions : diversions_in v'.building ≡ diversions_in v.building
  pub most : r'.most ≡ r.most
  pub pays : (worth : ℕ) → byte_worth r.most v.limit ≤ worth →
      weight_before_byte v' p' r' + cost_of_event e + n + cost_of_text * risen r.half r'.half
      + worth * p.taken
      ≤ weight_before_byte v p r + 1 + worth * p'.taken
  pub tells : is_lead e ≡ false

-- As PaysAll, where of the texts that are being built fewer may have a diversion then: one that takes its name.
pub record PaysMany {K : Type 0} (n : ℕ) (v : Stored K) (p : Reached) (r : Reader) (e : Event) (v' : Stored K)
    (p' : Reached) (r' : Reader) : Type 0 where
  pub limit : v'.limit ≡ v.limit
  pub diversions : diversions_in v'.building ≤ diversions_in v.building
  pub most : r'.most ≡ r.most
  pub pays : (worth : ℕ) → byte_worth r.most v.limit ≤ worth →
      weight_before_byte v' p' r' + cost_of_event e + n + cost_of_text * risen r.half r'.half
      + worth * p.taken
      ≤ weight_before_byte v p r + 1 + worth * p'.taken
  pub tells : is_lead e ≡ false

-- ---- how many moves are made

-- A byte at hand is left: it is to be added to an argument or to a text that is being defined, and does not stand for itself
-- there or finds no room.
pub record IsLeft {K : Type 0} (b : ℕ) (h : Half) (v : Stored K) : Type 0 where
  pub target : Target
  pub reads : is_read_for target h ≡ true
  pub stops : IsPlain (ending_of h.reading.mode) b → v.limit < charge_of (with_more target (b ∷ []) v)

-- Where the source has bytes at hand and nothing was pending, one move was made at least.
abbrev pub ReadsSome : List ℕ → ℕ → Reached → Reader → Type 0
ReadsSome bs n p r = 0 < length bs → p.taken + 1 < 2 ^ 40 → r.half.reading.pending_act ≡ pending_acts.Look → 0 < n

-- Of the bytes that the source has at hand as many were read in n moves as can be: one move at least where nothing was pending.
-- Fewer than 65,536 moves of which none emitted anything and after which nothing is pending took all, up to one that is left; no byte
-- is the 2^40th.
pub record IsLongest {K : Type 0} (bs : List ℕ) (n : ℕ) (p : Reached) (r : Reader) (e : Event) (v' : Stored K)
    (p' : Reached) (r' : Reader) : Type 0 where
  pub some : ReadsSome bs n p r
  pub all : n < 65536 → e ≡ events.Nothing → r'.half.reading.pending_act ≡ pending_acts.Look → p'.taken + 1 < 2 ^ 40
      → p'.taken < p.taken + length bs
      → IsLeft (slice_index bs (p'.taken - p.taken)) r.half v'

-- Fewer than 512 moves of which none emitted anything and after which nothing is pending left no next byte of the newest level but one
-- that is left.
abbrev pub StopsInLevel : {K : Type 0} → ℕ → Event → Stored K → Reader → Type 0
StopsInLevel n e v r =
    n < 512 → e ≡ events.Nothing → r.half.reading.pending_act ≡ pending_acts.Look → (b : ℕ)
    → slice_get (rest_of v.levels) 0 ≡ Some (elements.Byte b) → IsLeft b r.half v

-- Of the newest level as many bytes were read in n moves as can be: one move at least where a byte came next and nothing was pending,
-- and none after which they go on.
pub record IsLongestInLevel {K : Type 0} (n : ℕ) (v : Stored K) (r : Reader) (e : Event) (v' : Stored K)
    (r' : Reader) : Type 0 where
  pub some : (b : ℕ) → slice_get (rest_of v.levels) 0 ≡ Some (elements.Byte b)
      → r.half.reading.pending_act ≡ pending_acts.Look → 0 < n
  pub all : StopsInLevel n e v' r'

-- Up to text: one move at least was made where a byte of the newest level came next and nothing was pending; and where no text line
-- has begun, no next byte is left as IsLongestInLevel says.
pub record IsLongestUpToText {K : Type 0} (n : ℕ) (v : Stored K) (r : Reader) (e : Event) (v' : Stored K)
    (r' : Reader) : Type 0 where
  pub some : (b : ℕ) → slice_get (rest_of v.levels) 0 ≡ Some (elements.Byte b)
      → r.half.reading.pending_act ≡ pending_acts.Look → 0 < n
  pub all : is_in_text r'.half ≡ false → StopsInLevel n e v' r'

-- ---- bytes that the source has at hand

-- the last of so many bytes is no newline
abbrev pub inside_after : ℕ → List ℕ → Bool → Bool
inside_after zero bs inside = inside
inside_after (suc n) bs inside = not (slice_index bs n == code "\n")

-- after the next n bytes
abbrev pub after_run : ℕ → Coming → Coming
after_run n c =
    record {
      supply = skipped n c.supply;
      taken = c.taken + n;
      inside = inside_after n c.supply.bytes c.inside;
    }

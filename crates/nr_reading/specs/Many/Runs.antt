-- Many items taken in one after another.
use Rattle.std.specs.Prelude.{◌≡◌, ℕ, zero, suc, ◌+◌, ◌-◌, ◌*◌, ◌<◌, ◌≤◌, Bool, true, false, List, length, slice_get, Option, None, Some}
use Rattle.nr_reading.specs.declared.event.Event.{Event}
use Rattle.nr_reading.specs.declared.event.Event.TheVariants as events
use Rattle.nr_reading.specs.declared.next_item.NextItem.{NextItem}
use Rattle.nr_reading.specs.declared.half.Half.{Half}
use Rattle.nr_reading.specs.declared.mode.PendingAct.TheVariants as pending_acts
use Rattle.nr_reading.specs.declared.many.runs.Run.{Run}
use Rattle.nr_reading.specs.Half.{TakenIn, take_in}
use Rattle.nr_reading.specs.Weights.{item_worth, cost_of_text, weight_of_half, cost_of_event, blanks_owed, is_lead}

-- where many moves have come in a stretch of items: how many were taken, what is half read after them, and what the last emitted
pub record Spot : Type 0 where
  pub taken : ℕ
  pub half : Half
  pub event : Event

-- the same, as the program has it
abbrev pub spot : Run → Half → Spot
spot r h = record { taken = r.taken; half = h; event = r.event }

abbrev pub one_if : Bool → ℕ
one_if true = 1
one_if false = 0

abbrev pub after_taken_in : TakenIn → ℕ → Spot
after_taken_in m taken = record { taken = taken + one_if m.takes; half = m.half; event = m.event }

-- the next item, if there is one, has taken in what is half read
abbrev pub afterwards : Option NextItem → Spot → Spot
afterwards None p = p
afterwards (Some f) p = after_taken_in (take_in f p.half) p.taken

-- after n moves
abbrev pub spot_after : ℕ → List NextItem → Half → Spot
spot_after zero fs h = record { taken = 0; half = h; event = events.Nothing }
spot_after (suc n) fs h = afterwards (slice_get fs (spot_after n fs h).taken) (spot_after n fs h)

-- one more may be made: there is an item, nothing is pending, and nothing was emitted
pub record MayGoOn (fs : List NextItem) (p : Spot) : Type 0 where
  pub some : p.taken < length fs
  pub pending_act : p.half.reading.pending_act ≡ pending_acts.Look
  pub event : p.event ≡ events.Nothing

-- n moves were made, which only took items of the stretch, and all but the last emitted nothing; each is paid
pub record HasTakenIn (n : ℕ) (fs : List NextItem) (h : Half) (p : Spot) : Type 0 where
  pub leads : spot_after n fs h ≡ p
  pub goes : (k : ℕ) → k < n → MayGoOn fs (spot_after k fs h)
  pub within : p.taken ≤ length fs
  pub pays : weight_of_half p.half + cost_of_event p.event + n
      + cost_of_text * (blanks_owed p.half - blanks_owed h)
      ≤ weight_of_half h + item_worth * p.taken + 1
  pub tells : is_lead p.event ≡ false

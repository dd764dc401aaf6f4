-- A pool's texts in the room that there is for them.
use Rattle.std.specs.Prelude.{ℕ, ◌-◌, ◌^◌, ◌<◌, ◌≤◌, List, ◌++◌, length, take, drop, replicate}
use Rattle.nr_pool.specs.declared.slot.Slot.{Slot}
use Rattle.nr_pool.specs.Texts.{Texts, no_text}
use Rattle.nr_pool.specs.Slot.{texts_of, IsPacked}
use Rattle.nr_pool.specs.Spares.{HasSpares}

-- p where there is room for so many elements, and so many numbers
abbrev pub with_room : {T : Type 0} → ℕ → ℕ → Texts T → Texts T
with_room capacity most p =
    record { capacity = capacity; texts = p.texts ++ replicate (most - length p.texts) no_text }

-- the texts that all slots stand for; a number after them has none
abbrev pub texts_within : {T : Type 0} → ℕ → ℕ → List T → List Slot → Texts T
texts_within capacity most elements slots = with_room capacity most (texts_of elements slots)

-- the texts are packed, each slot with no text is among the spare ones, and there are no more of both than there is room for
pub record IsKept {T : Type 0} (elements : List T) (slots : List Slot)
    (used count first capacity most : ℕ) : Type 0 where
  pub packed : IsPacked (length elements) slots used
  pub spares : HasSpares slots count first
  pub elements_within : length elements ≤ capacity
  pub slots_within : length slots ≤ most
  pub elements_fit : capacity < 2 ^ 32
  pub slots_fit : most < 2 ^ 32

-- elements written over those from a place on
abbrev pub written : {T : Type 0} → List T → ℕ → List T → List T
written xs place ys = take place xs ++ (ys ++ drop (length ys) (drop place xs))

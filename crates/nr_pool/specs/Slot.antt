-- Where the texts of a pool lie among its elements.
use Rattle.std.specs.Prelude.{◌≡◌, ◌≢◌, ℕ, ◌+◌, ◌-◌, ◌^◌, ◌<◌, ◌≤◌, ◌&&◌, nat_lt, nat_le, Bool, if◌then◌else◌, List, map, length, take, drop, sum_by, slice_index_or, slice_set}
use Rattle.nr_pool.specs.declared.slot.Slot.{Slot}
use Rattle.nr_pool.specs.Texts.{Held, Texts}

-- the slot of a number with no text
abbrev pub blank_slot : Slot
blank_slot = record { start = 0; len = 0; holders = 0 }

-- the slot of a number
abbrev pub slot_at : List Slot → ℕ → Slot
slot_at slots i = slice_index_or slots i blank_slot

-- the text that a slot stands for
abbrev pub held_of : {T : Type 0} → List T → Slot → Held T
held_of elements s = record { elements = take s.len (drop s.start elements); holders = s.holders }

-- the texts that all slots stand for
abbrev pub texts_of : {T : Type 0} → List T → List Slot → Texts T
texts_of elements slots = record { capacity = length elements; texts = map (held_of elements) slots }

-- the text of a slot has elements, and begins at an end or after it
abbrev pub is_after : ℕ → Slot → Bool
is_after end s = nat_lt 0 s.len && nat_le end s.start

-- a slot, n further down if its text has elements and begins at an end or after it
abbrev pub shifted : ℕ → ℕ → Slot → Slot
shifted end n s = if is_after end s then record s { start = s.start - n } else s

-- the texts lie in the first `used` elements, apart from one another, and fill them
pub record IsPacked (capacity : ℕ) (slots : List Slot) (used : ℕ) : Type 0 where
  pub fits : capacity < 2 ^ 32
  pub room : used ≤ capacity
  pub filled : sum_by (λ (s : Slot). s.len) slots ≡ used
  pub empty : (i : ℕ) → (slot_at slots i).holders ≡ 0 → (slot_at slots i).len ≡ 0
  pub inside : (i : ℕ) → 0 < (slot_at slots i).len → (slot_at slots i).start + (slot_at slots i).len ≤ used
  pub apart : (i j : ℕ) → i ≢ j → 0 < (slot_at slots i).len → 0 < (slot_at slots j).len
      → (slot_at slots j).start < (slot_at slots i).start + (slot_at slots i).len
      → (slot_at slots j).start + (slot_at slots j).len ≤ (slot_at slots i).start

-- the slots, where one has given its text to another, which had no elements
abbrev pub given : List Slot → ℕ → ℕ → List Slot
given slots i j =
    let s = slot_at slots i in
    let mid = slice_set slots i (record s { len = 0 }) in
    slice_set mid j (record (slot_at mid j) { start = s.start; len = s.len })

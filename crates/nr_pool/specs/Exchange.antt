-- Two texts of the same length that change places.
use Rattle.std.specs.Prelude.{◌≡◌, ℕ, ◌+◌, ◌<◌, ◌≤◌, ◌⊎◌, List, length, slice_index_or}
use Rattle.nr_pool.specs.declared.slot.Slot.{Slot}
use Rattle.nr_pool.specs.Slot.{slot_at, texts_of, IsPacked}
use Rattle.nr_pool.specs.Spares.{HasSpares}

-- a text of this length begins here
pub record LiesAt (slots : List Slot) (i start len : ℕ) : Type 0 where
  pub within : i < length slots
  pub start_is : (slot_at slots i).start ≡ start
  pub len_is : (slot_at slots i).len ≡ len

-- two parts of a list are exchanged
pub record IsSwapped {T : Type 0} (E F : List T) (a b len : ℕ) : Type 0 where
  pub same_length : length F ≡ length E
  pub first : (k : ℕ) (d : T) → k < len → slice_index_or F (a + k) d ≡ slice_index_or E (b + k) d
  pub second : (k : ℕ) (d : T) → k < len → slice_index_or F (b + k) d ≡ slice_index_or E (a + k) d
  pub others : (m : ℕ) (d : T) → (m < a) ⊎ (a + len ≤ m) → (m < b) ⊎ (b + len ≤ m)
      → slice_index_or F m d ≡ slice_index_or E m d

-- a text lies last now, and nothing else has changed
pub record IsExchanged {T : Type 0} (E F : List T) (slots news : List Slot) (used i : ℕ) : Type 0 where
  pub packed : IsPacked (length F) news used
  pub last : (slot_at news i).start + (slot_at news i).len ≡ used
  pub spares : (count first : ℕ) → HasSpares slots count first → HasSpares news count first
  pub same : texts_of F news ≡ texts_of E slots

-- What a `ReservedVec` ends as, where a `&mut` to its items is returned.
use Rattle.std.specs.Prelude.{ℕ, List, length, slice_set}
use Rattle.std.specs.List.{refill}
use Rattle.std.specs.Borrow.{Lends, Fml, RattleType, MutBor, Array}
use Rattle.nr_vectors.specs.Items.{Items}
use Rattle.nr_vectors.specs.contracts.reserved_vec.ReservedVec.{the_row}

-- v after a write of an item
abbrev pub with_item : {T : Type 0} → Items T → ℕ → T → Items T
with_item v place item = record { items = slice_set v.items place item; capacity = v.capacity }

-- v after a write of its items as a slice, which keeps their number
abbrev pub with_items : {T : Type 0} → Items T → List T → Items T
with_items v items = record { items = refill (length v.items) v.items items; capacity = v.capacity }

module _ (T : RattleType) (v : MutBor (Items T.Denot)) where
  -- once the borrow r ends, the items are those that r shows last
  abbrev pub lends_slice : MutBor (List T.Denot) → Fml
  lends_slice r = Lends (the_row T) (Array T 0) v r (with_items v.now)

  -- once the borrow r ends, the item at the place is the last that was written through r
  abbrev pub lends_item : ℕ → MutBor T.Denot → Fml
  lends_item place r = Lends (the_row T) T v r (with_item v.now place)

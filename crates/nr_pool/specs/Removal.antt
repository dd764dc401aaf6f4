-- One text that is removed.
use Rattle.std.specs.Prelude.{◌≡◌, ℕ, ◌+◌, ◌-◌, List, length}
use Rattle.nr_pool.specs.declared.slot.Slot.{Slot}
use Rattle.nr_pool.specs.Texts.{without_text}
use Rattle.nr_pool.specs.Slot.{slot_at, texts_of, IsPacked}
use Rattle.nr_pool.specs.Spares.{HasSpares}

-- a slot with no text, before another among the spare ones
abbrev pub spare_before : ℕ → Slot
spare_before next = record { start = next; len = 0; holders = 0 }

-- the elements of a text are gone, its slot is the first of the spare ones, and all other texts are as before
pub record IsRemoved {T : Type 0} (E F : List T) (slots news : List Slot) (used i next : ℕ) : Type 0 where
  pub packed : IsPacked (length F) news (used - (slot_at slots i).len)
  pub spares : (count : ℕ) → HasSpares slots count next → HasSpares news (count + 1) i
  pub texts : texts_of F news ≡ without_text (texts_of E slots) i

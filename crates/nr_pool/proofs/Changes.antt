-- What each change of a pool keeps true of its slots.
use Rattle.std.proofs.Common.{◌≡◌, ℕ, ◌+◌, ◌<◌, ◌≤◌, List, length, set, arith}
use Rattle.std.proofs.lemmas.List.{length-set}
use Rattle.nr_pool.specs.Texts.{Texts, IsOpen}
use Rattle.nr_pool.specs.Slot.{slot_at, texts_of, IsPacked}
use Rattle.nr_pool.specs.Spares.{HasSpares}
use Rattle.nr_pool.specs.Rooms.{IsKept}
use Rattle.nr_pool.specs.declared.slot.Slot.{Slot}
use Rattle.nr_pool.proofs.Places.{IsExtended, found, set_last, set_same}
use Rattle.nr_pool.proofs.Spares.{spares_set, spares_open}

-- the texts are packed, and each slot with no text is among the spare ones
pub record IsPool (capacity : ℕ) (slots : List Slot) (used count first : ℕ) : Type 0 where
  pub packed : IsPacked capacity slots used
  pub spares : HasSpares slots count first

module _ {T : Type 0} (E : List T) (slots : List Slot) (n count first : ℕ) (p : Texts T) (i id : ℕ) (packed : IsPacked (length E) slots n) (spares : HasSpares slots count first) (view : texts_of E slots ≡ p) (at : i ≡ id) (is_open : IsOpen p id) (new : Slot) where
  -- the text that lies last has another length
  pub after_length : (m : ℕ) → (slot_at slots i).start + (slot_at slots i).len ≡ n → (slot_at slots i).start + new.len ≡ m → m ≤ length E → new.start ≡ (slot_at slots i).start → new.holders ≡ (slot_at slots i).holders
      → IsPool (length E) (set slots i new) m count first
  after_length m last sum room start same =
      let f = found E slots n p i id packed view at is_open in
      let held = f.held in
      record {
        packed = set_last (length E) n slots i new m packed f.within last sum room (λ _. start) (λ none. absurd (omega arith));
        spares = spares_set slots i new count first f.within held (omega arith) spares;
      }

  -- the text that lies last has more elements
  pub after_more : (F xs : List T) (m : ℕ) → IsExtended E F xs n → (slot_at slots i).start + (slot_at slots i).len ≡ n → n + length xs ≤ length E → m ≡ n + length xs
      → new.start ≡ (slot_at slots i).start → new.len ≡ (slot_at slots i).len + length xs → new.holders ≡ (slot_at slots i).holders → IsPool (length F) (set slots i new) m count first
  after_more F xs m more last room sum start len same = rw more.same_length (after_length m last (omega arith) (omega arith) start same)

  -- a text has another number of holders, and some
  pub after_hold : new.start ≡ (slot_at slots i).start → new.len ≡ (slot_at slots i).len → 0 < new.holders → IsPool (length E) (set slots i new) n count first
  after_hold start len held =
      let f = found E slots n p i id packed view at is_open in
      record {
        packed = set_same (length E) n slots i new packed f.within len (λ _. start) (λ none. absurd (omega arith));
        spares = spares_set slots i new count first f.within f.held held spares;
      }

-- a text is opened
pub after_open : (capacity : ℕ) (slots : List Slot) (n count m first : ℕ) (new : Slot) → IsPacked capacity slots n → HasSpares slots count first → count ≡ m + 1 → new.start ≡ (slot_at slots first).start → new.len ≡ (slot_at slots first).len → 0 < new.holders
    → IsPool capacity (set slots first new) n m new.start
after_open capacity slots n count m first new packed spares more start len held = record {
  packed = set_same capacity n slots first new packed (spares.within 0 (omega arith)) len (λ _. start) (λ none. absurd (omega arith));
  spares = spares_open slots count m first new spares more held start;
}

-- what is kept true where the texts are packed again in no more room, and a slot is written
pub kept_after : {T : Type 0} (E F : List T) (slots news : List Slot) (i : ℕ) (new : Slot) (n count first m spares at c most : ℕ) → IsKept E slots n count first c most → IsPool (length F) (set news i new) m spares at → length F ≤ c → length news ≤ most
    → IsKept F (set news i new) m spares at c most
kept_after E F slots news i new n count first m spares at c most kept pool elements few = record {
  packed = pool.packed;
  spares = pool.spares;
  elements_within = elements;
  slots_within = omega (arith, length-set news i new);
  elements_fit = kept.elements_fit;
  slots_fit = kept.slots_fit;
}

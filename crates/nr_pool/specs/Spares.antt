-- The slots of a pool with no text, each of which names the next.
use Rattle.std.specs.Prelude.{◌≡◌, ℕ, zero, suc, ◌+◌, ◌<◌, List, length, min, sum_by}
use Rattle.nr_pool.specs.declared.slot.Slot.{Slot}
use Rattle.nr_pool.specs.Slot.{slot_at}

-- the k-th spare slot, where `first` is the one at 0
abbrev pub spare_at : List Slot → ℕ → ℕ → ℕ
spare_at slots first zero = first
spare_at slots first (suc k) = (slot_at slots (spare_at slots first k)).start

-- 1 for a slot with a text, else 0
abbrev pub taken : Slot → ℕ
taken s = min s.holders 1

-- from `first` on there are `count` spare slots, each once, and all others have a text
pub record HasSpares (slots : List Slot) (count first : ℕ) : Type 0 where
  pub counted : count + sum_by taken slots ≡ length slots
  pub within : (k : ℕ) → k < count → spare_at slots first k < length slots
  pub unheld : (k : ℕ) → k < count → (slot_at slots (spare_at slots first k)).holders ≡ 0
  pub distinct : (j k : ℕ) → j < count → k < count → spare_at slots first j ≡ spare_at slots first k → j ≡ k

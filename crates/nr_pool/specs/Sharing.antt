-- Two texts that have their first elements in common.
use Rattle.std.specs.Prelude.{◌≡◌, ◌≢◌, ℕ, ◌+◌, ◌≤◌, ◌||◌, nat_eq, Bool, false, [], length, take, Option, None, Some}
use Rattle.nr_pool.specs.declared.sharing.Share.{Share}
use Rattle.nr_pool.specs.Texts.{Texts, IsOpen, text, used, with_text}

-- the texts, where the part has the first elements of the whole
abbrev pub seen : {T : Type 0} → Texts T → Option Share → Texts T
seen p None = p
seen p (Some s) = with_text p s.part (take s.len (text p s.whole))

-- the part of a whole has no elements of its own, and there is room for those that it shares
pub record IsShared {T : Type 0} (p : Texts T) (s : Share) : Type 0 where
  pub apart : s.part ≢ s.whole
  pub part_open : IsOpen p s.part
  pub whole_open : IsOpen p s.whole
  pub empty : text p s.part ≡ []
  pub within : s.len ≤ length (text p s.whole)
  pub room : used p + s.len ≤ p.capacity

-- the same, where any two share elements
abbrev pub MayShare : {T : Type 0} → Texts T → Option Share → Type 0
MayShare p None = Unit
MayShare p (Some s) = IsShared p s

-- a text is the part of a whole
abbrev pub is_part : Option Share → ℕ → Bool
is_part None id = false
is_part (Some s) id = nat_eq s.part id

-- a text is a whole, or the part of one
abbrev pub is_shared : Option Share → ℕ → Bool
is_shared None id = false
is_shared (Some s) id = nat_eq s.part id || nat_eq s.whole id

-- where two share elements, there is room for so many more
abbrev pub HasRoom : {T : Type 0} → Texts T → Option Share → ℕ → Type 0
HasRoom p None count = Unit
HasRoom p (Some s) count = used p + s.len + count ≤ p.capacity

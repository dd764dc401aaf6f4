-- Names of requests, macros, strings and registers.
use Rattle.std.specs.Prelude.{◌≡◌, ℕ, ◌+◌, ◌-◌, ◌*◌, ◌%◌, ◌≤◌, ◌==◌, Bool, List, ◌++◌, length, drop, replicate, slice_index}
use Rattle.std.specs.declared.cmp.Ordering.{Ordering}
use Rattle.std.specs.Ordering.{nat_cmp}
use Rattle.std.specs.Cmp.Lexicographic.{slice_cmp}

-- how many bytes a name holds at most
abbrev pub capacity : ℕ
capacity = 32

-- a name that holds no byte more
abbrev pub is_full : List ℕ → Bool
is_full bytes = length bytes == capacity

-- the order of names: by the first byte in which they differ, and a prefix before what it is a prefix of
abbrev pub name_order : List ℕ → List ℕ → Ordering
name_order = slice_cmp nat_cmp

-- the kind of a name, of 512, by its first two bytes; a byte that it has not counts as 0
abbrev pub kind_of_name : List ℕ → ℕ
kind_of_name bytes = (45 * slice_index bytes 0 + slice_index bytes 1) % 512

-- a name as it lies in memory: its bytes, and zeros after them up to its capacity
abbrev pub padded : List ℕ → List ℕ
padded bytes = bytes ++ replicate (capacity - length bytes) 0

-- so many bytes, of which those from a place on are zeros
pub record IsPadded (bytes : List ℕ) (len : ℕ) : Type 0 where
  pub within : len ≤ capacity
  pub whole : length bytes ≡ capacity
  pub zeros : drop len bytes ≡ replicate (capacity - len) 0

-- The arguments of a macro that are being read.
use Rattle.std.specs.Prelude.{◌≡◌, ℕ, ◌+◌, ◌^◌, ◌<◌, ◌≤◌, ◌==◌, if◌then◌else◌, List, [], ◌∷◌, ◌++◌, length, take, drop, sum, sum_by}
use Rattle.nr_levels.specs.Levels.{cut}

-- those that are read whole, nine at most, and the bytes of the one under way
pub record Gathered : Type 0 where
  pub kept : List (List ℕ)
  pub last : List ℕ

-- none
abbrev pub none_gathered : Gathered
none_gathered = record { kept = []; last = [] }

-- their bytes, one after another
abbrev pub joined : List (List ℕ) → List ℕ
joined [] = []
joined (t ∷ ts) = t ++ joined ts

-- how many bytes these have
abbrev pub bytes_in : List (List ℕ) → ℕ
bytes_in texts = sum_by (λ (bytes : List ℕ). length bytes) texts

-- how many bytes all have
abbrev pub gathered_len : Gathered → ℕ
gathered_len g = bytes_in g.kept + length g.last

-- with one byte more, which counts where fewer than nine are read whole
abbrev pub with_byte : ℕ → Gathered → Gathered
with_byte byte g = if length g.kept == 9 then g else record g { last = g.last ++ byte ∷ [] }

-- with these bytes more, one after another
abbrev pub with_bytes : List ℕ → Gathered → Gathered
with_bytes [] g = g
with_bytes (b ∷ bs) g = with_bytes bs (with_byte b g)

-- where the one under way is read whole
abbrev pub with_end : Gathered → Gathered
with_end g = if length g.kept == 9 then g else record { kept = g.kept ++ g.last ∷ []; last = [] }

-- what arguments and room there are
pub record Gathering : Type 0 where
  pub gathered : Gathered
  pub capacity : ℕ

-- the arguments of these lengths, one after another
abbrev pub gathered_of : List ℕ → List ℕ → ℕ → Gathered
gathered_of lens bytes start = record { kept = cut lens bytes; last = drop start bytes }

-- what is always true of the fields
pub record IsGathering (lens bytes : List ℕ) (count from capacity : ℕ) : Type 0 where
  pub nine : count ≤ 9
  pub all : length lens ≡ 9
  pub start : from ≡ sum (take count lens)
  pub within : from ≤ length bytes
  pub small : capacity < 2 ^ 32

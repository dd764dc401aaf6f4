-- A height as it lies in memory: the four bytes of a number.
use Rattle.std.specs.Prelude.{◌≡◌, refl, ℕ, ◌<◌, List, length, slice_index_or}
use Rattle.std.specs.Int.{w32, from_le_bytes, to_le_bytes}
use Rattle.std.proofs.lemmas.Nat.{le_bytes_4}

-- four bytes
pub record AreBytes (bytes : List ℕ) : Type 0 where
  pub whole : length bytes ≡ 4
  pub small : (i : ℕ) → slice_index_or bytes i 0 < 256

-- the bytes of their number are the same
pub bytes-number : (bytes : List ℕ) → AreBytes bytes → to_le_bytes w32 (from_le_bytes w32 bytes) ≡ bytes
bytes-number bytes are = le_bytes_4 bytes (from_le_bytes w32 bytes) are.whole are.small refl

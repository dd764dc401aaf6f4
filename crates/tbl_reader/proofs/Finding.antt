-- Places that are found in a list, from a place in it on.
use Rattle.std.proofs.Common.{ℕ, ◌+◌, Option, None, Some}

-- a place after so many items
abbrev pub moved : ℕ → Option ℕ → Option ℕ
moved n None = None
moved n (Some k) = Some (n + k)

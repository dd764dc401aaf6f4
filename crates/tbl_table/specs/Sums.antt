-- Numbers stop at 2^64 - 1.
use Rattle.std.specs.Prelude.{ℕ, ◌+◌, min}

abbrev pub sum : ℕ → ℕ → ℕ
sum a b = min (a + b) 18446744073709551615

-- Bytes that stand for themselves, as cells.
use Prim.Native.Char.{code}
use Rattle.std.specs.Prelude.{ℕ, ◌<◌, ◌≢◌}
use Rattle.nr_vectors.specs.declared.cell.Cell.{Cell}
use Rattle.nr_vectors.specs.declared.cell.Look.{Look}

-- a byte that prints, but for the blank, `-` and `\`
abbrev pub IsPlain : ℕ → Type 0
IsPlain b = (code " " < b) × (b ≢ code "-") × (b ≢ code "\\") × (b ≢ 127)

abbrev pub run_cell : Look → ℕ → Cell
run_cell look b = record { byte = b; look = look }

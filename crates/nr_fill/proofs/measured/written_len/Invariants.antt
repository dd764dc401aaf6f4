use Rattle.std.proofs.Common.{◌≡◌, ◌+◌, ◌≤◌, length, take}
use Rattle.std.specs.List.{suffix_len}
use Rattle.nr_vectors.specs.Cell.{is_blank}
use Rattle.nr_fill.proofs.measured.written_len.Given as goal

abbrev pub invariant-loop-len : goal.invariant-loop-len
invariant-loop-len l =
    (l.len ≤ length l.cells)
    × (l.len + suffix_len is_blank l.cells ≡ length l.cells + suffix_len is_blank (take l.len l.cells))

abbrev pub decreases-loop-len : goal.decreases-loop-len
decreases-loop-len l = l.len

use Rattle.std.proofs.Common.{◌≡◌, ◌-◌, ◌≤◌, length, take}
use Rattle.std.specs.List.{suffix_len}
use Rattle.nr_vectors.specs.declared.cell.Cell.{Cell}
use Rattle.nr_symbol_tables.specs.Word.{closes}
use Rattle.nr_symbol_tables.proofs.word.stem.Given as goal

abbrev pub invariant-loop-len : goal.invariant-loop-len
invariant-loop-len l = record {
  within : l.len ≤ length l.cells;
  afterwards : l.len - suffix_len (λ (x : Cell). closes x.byte) (take l.len l.cells) ≡ length l.cells - suffix_len (λ (x : Cell). closes x.byte) l.cells;
}

abbrev pub decreases-loop-len : goal.decreases-loop-len
decreases-loop-len l = l.len

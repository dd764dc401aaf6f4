use Rattle.std.proofs.Common.{◌≡◌, ℕ, ◌≤◌, length, true}
use Rattle.nr_page.specs.Grid.{is_blank}
use Rattle.nr_page.specs.Overlay.{cell_or_blank}
use Rattle.nr_page.proofs.writing.trimmed_len.Given as goal

abbrev pub invariant-loop-len : goal.invariant-loop-len
invariant-loop-len l = record {
  within : l.len ≤ length l.cells;
  blanks : (column : ℕ) → l.len ≤ column → is_blank (cell_or_blank l.cells column) ≡ true;
}

abbrev pub decreases-loop-len : goal.decreases-loop-len
decreases-loop-len l = l.len

use Rattle.std.proofs.Common.{◌≡◌, List, ◌++◌, length}
use Rattle.nr_page.specs.declared.selection.PageRange.{PageRange}
use Rattle.nr_page.specs.Selection.{Spells}
use Rattle.nr_page.proofs.selection.read_list.Given as goal

abbrev pub invariant-loop-item : goal.invariant-loop-item
invariant-loop-item l = record {
  spells : (more : List PageRange) → Spells more l.rest → Spells (l.list.items ++ more) l.text;
  goes_on : (items : List PageRange) → Spells items l.text → (more : List PageRange) × (items ≡ l.list.items ++ more) × Spells more l.rest;
}

abbrev pub decreases-loop-item : goal.decreases-loop-item
decreases-loop-item l = length l.rest

-- Those that came were named.
use Rattle.std.proofs.Common.{◌≡◌, ◌++◌, drop, codes}
use Rattle.std.specs.List.{flat_map}
use Rattle.utf8_own_page.specs.Lacking.{name_of}
use Rattle.utf8_own_page.proofs.lacking.push_names.Given as goal

abbrev pub invariant-loop-cell : goal.invariant-loop-cell
invariant-loop-cell l =
    l.text.items ++ flat_map (λ c. codes " " ++ name_of c) (drop l.cell-index l.cells)
    ≡ l.initial.text.items ++ flat_map (λ c. codes " " ++ name_of c) l.cells

use Rattle.std.proofs.Common.{List, ℕ, ◌∙◌, ap}
use Rattle.mdoc_layout.specs.declared.libraries.TheConstants.{LIBRARIES}
use Rattle.mdoc_layout.specs.Laying.{library_named}
use Rattle.mdoc_layout.specs.Lookup.{named_in}
use Rattle.mdoc_layout.proofs.lay.library_named.Goals as goal

pub returns : goal.returns
unfolding library_named
returns c = c.named_in.ensures ∙ ap (λ (xs : List ℕ). named_in LIBRARIES xs) c.as_bytes.ensures.value

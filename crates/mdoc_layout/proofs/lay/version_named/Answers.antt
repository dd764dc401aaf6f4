use Rattle.std.proofs.Common.{List, ℕ, ◌∙◌, ap}
use Rattle.mdoc_layout.specs.declared.names.TheConstants.{SYSTEMS}
use Rattle.mdoc_layout.specs.Laying.{version_named}
use Rattle.mdoc_layout.specs.Lookup.{named_in}
use Rattle.mdoc_layout.proofs.lay.version_named.Goals as goal

pub returns : goal.returns
unfolding version_named
returns c = c.named_in.ensures ∙ ap (λ (xs : List ℕ). named_in SYSTEMS xs) c.as_bytes.ensures.value

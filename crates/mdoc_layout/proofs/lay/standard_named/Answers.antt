use Rattle.std.proofs.Common.{List, ℕ, ◌∙◌, ap}
use Rattle.mdoc_layout.specs.declared.names.TheConstants.{STANDARDS}
use Rattle.mdoc_layout.specs.Laying.{standard_named}
use Rattle.mdoc_layout.specs.Lookup.{named_in}
use Rattle.mdoc_layout.proofs.lay.standard_named.Goals as goal

pub returns : goal.returns
unfolding standard_named
returns c = c.named_in.ensures ∙ ap (λ (xs : List ℕ). named_in STANDARDS xs) c.as_bytes.ensures.value

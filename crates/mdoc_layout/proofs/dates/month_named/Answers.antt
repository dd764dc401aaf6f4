use Rattle.std.proofs.Common.{List, ℕ, ◌∙◌, ap}
use Rattle.mdoc_layout.specs.declared.dates.TheConstants.{MONTHS}
use Rattle.mdoc_layout.specs.Dates.{month_named}
use Rattle.mdoc_layout.specs.Lookup.{named_in}
use Rattle.mdoc_layout.proofs.dates.month_named.Goals as goal

pub returns : goal.returns
unfolding month_named
returns c = c.named_in.ensures ∙ ap (λ (xs : List ℕ). named_in MONTHS xs) c.as_bytes.ensures.value

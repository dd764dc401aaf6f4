-- What is reported of a page.
use Rattle.std.specs.Prelude.{ℕ, List, [], ◌∷◌}
use Rattle.filters_complaints.specs.Complaints as complaints
use Rattle.filters_complaints.specs.declared.blocks.OpenBlock.{OpenBlock}
use Rattle.man_lint.specs.declared.reporting.Complaint.{Complaint}
use Rattle.man_lint.specs.declared.reporting.Kind.{Kind}
use Rattle.man_lint.specs.declared.reporting.Kind.TheVariants.{NotEnded}

abbrev pub AllReported : Type 0
AllReported = complaints.AllReported Complaint

abbrev pub reported : Kind → List ℕ → ℕ → AllReported → AllReported
reported kind name line r = complaints.reported (record { kind = kind; name = name; line = line }) r

-- nothing ends these blocks
abbrev pub not_ended : List OpenBlock → AllReported → AllReported
not_ended [] r = r
not_ended (block ∷ blocks) r = not_ended blocks (reported NotEnded block.name block.line r)

-- What is reported of a page.
use Rattle.std.specs.Prelude.{ℕ, List, [], ◌∷◌}
use Rattle.filters_complaints.specs.Complaints as complaints
use Rattle.filters_complaints.specs.declared.blocks.OpenBlock.{OpenBlock}
use Rattle.mdoc_command.specs.declared.telling.Complaint.{Complaint}
use Rattle.mdoc_command.specs.declared.telling.Kind.{Kind}
use Rattle.mdoc_command.specs.declared.telling.Kind.TheVariants as kinds

abbrev pub AllReported : Type 0
AllReported = complaints.AllReported Complaint

abbrev pub reported : Kind → ℕ → AllReported → AllReported
reported kind line r = complaints.reported (record { kind = kind; line = line }) r

-- a heading or an item ends blocks: the last that was opened first
abbrev pub broken : List ℕ → ℕ → List OpenBlock → AllReported → AllReported
broken by line [] t = t
broken by line (block ∷ blocks) t = broken by line blocks (reported (kinds.Broken by block.name) line t)

-- nothing ends them
abbrev pub not_ended : List OpenBlock → AllReported → AllReported
not_ended [] t = t
not_ended (block ∷ blocks) t = not_ended blocks (reported (kinds.NotEnded block.name) block.line t)

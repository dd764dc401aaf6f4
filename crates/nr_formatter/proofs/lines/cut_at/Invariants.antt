use Rattle.std.proofs.Common.{◌≡◌, take}
use Rattle.nr_formatter.specs.Lines.{with_points}
use Rattle.nr_formatter.proofs.lines.cut_at.Given as goal

abbrev pub invariant-loop-place : goal.invariant-loop-place
invariant-loop-place l = l.line ≡ record l.initial.line { collected = with_points (take l.place-index l.places) l.initial.line.collected }

use Rattle.std.proofs.Common.{take, ap, ◌∙◌}
use Rattle.std.proofs.lemmas.List.{take_min}
use Rattle.nr_formatter.proofs.lines.most_points.Goals as goal

pub returns : goal.returns
returns c = ap (λ n. take n c.args.places.now) c.min.ensures ∙ take_min 31 c.args.places.now

use Rattle.std.proofs.Common.{◌∙◌}
use Rattle.nr_fill.proofs.Trimming.{extent_blanked}
use Rattle.nr_fill.proofs.measured.Extent.with_blanks.Goals as goal

pub returns : goal.returns
returns c =
    λ cells is.
    let more = extent_blanked cells c.args.n is.0 is.1 in
    (c.saturating_add.ensures ∙ more.0, more.1)

use Rattle.std.proofs.Common.{ap, ◌∙◌}
use Rattle.nr_fill.specs.Extents.{written_after}
use Rattle.nr_fill.proofs.Trimming.{extent_extended}
use Rattle.nr_fill.proofs.measured.Extent.with_cells.Goals as goal

pub returns : goal.returns
returns c =
    λ cells is.
    let more = extent_extended cells c.args.cells.now is.0 is.1 in (
      c.saturating_add.ensures ∙ more.0,
      c.written_after.ensures ∙ ap (written_after c.args.self.written c.args.self.count) c.written_len.ensures.value ∙ more.1,
    )

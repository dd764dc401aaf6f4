use Rattle.std.proofs.Common.{ap, ◌∙◌}
use Rattle.tbl_columns.specs.Held.{emptied}
use Rattle.tbl_columns.proofs.grid.Grid.fill_all_within.Goals as goal

pub returns-clause-room : goal.returns-clause-room
returns-clause-room c =
    c.loop-number.invariant.room ∙ ap (λ blocks. record (emptied c.args.self.now) { blocks = blocks }) c.clear_lines.ensures.room

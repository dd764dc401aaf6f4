use Rattle.std.proofs.Common.{ap, ◌∙◌}
use Rattle.tbl_columns.specs.Counted.{as_wide}
use Rattle.tbl_columns.specs.Held.{emptied}
use Rattle.tbl_table.specs.Held.{none_of}
use Rattle.tbl_table.specs.Lists.{put}
use Rattle.tbl_columns.proofs.grid.Grid.settle_column.Goals as goal

pub returns-clause-value : goal.returns-clause-value
returns-clause-value c =
    ap (λ columns. record c.args.self.now { columns = columns })
    (c.set_item.ensures ∙ ap (λ column. put c.args.number column c.args.self.now.columns) (c.as_wide-column.ensures ∙ ap as_wide c.column.ensures))

pub returns-clause-room : goal.returns-clause-room
returns-clause-room c = ap (λ columns. record (emptied c.args.self.now) { columns = none_of columns }) c.set_item.ensures

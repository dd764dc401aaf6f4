use Rattle.std.proofs.Common.{ap, ◌∙◌}
use Rattle.tbl_table.specs.Held.{emptied, none_of}
use Rattle.tbl_table.specs.Lists.{added}
use Rattle.tbl_table.proofs.table.Table.begin_line.Goals as goal

pub returns-clause-value : goal.returns-clause-value
returns-clause-value c =
    ap (λ lines. record c.args.self.now { lines = lines })
    (c.add_item.ensures ∙ ap (λ first. added (record { first = first; count = 0; bars = 0 }) c.args.self.now.lines) c.len-first.ensures.value)

pub returns-clause-room : goal.returns-clause-room
returns-clause-room c = ap (λ lines. record (emptied c.args.self.now) { lines = none_of lines }) c.add_item.ensures

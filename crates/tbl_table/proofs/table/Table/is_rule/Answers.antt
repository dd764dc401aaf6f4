use Rattle.std.proofs.Common.{ap, sym, ◌∙◌}
use Rattle.tbl_table.specs.declared.table.Key.{Key}
use Rattle.tbl_table.specs.Held.{is_ruling}
use Rattle.tbl_table.proofs.RuleLines.{not_ruling}
use Rattle.tbl_table.proofs.table.Table.is_rule.Goals as goal

-- src/rows.rt:115:17
pub returns-then-not-is_ruling : goal.returns-then-not-is_ruling
returns-then-not-is_ruling c = sym (not_ruling c.args.line.count c.loop-column.column c.args.self.now c.args.line c.loop-column-test.true
    (ap (λ (k : Key). is_ruling k.kind) (sym c.key.ensures) ∙ sym c.is_ruling.ensures ∙ c.if-not-is_ruling.true))

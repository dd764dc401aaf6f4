use Rattle.std.proofs.Common.{◌-◌, arith, length, ap, sym, refl, ◌∙◌}
use Rattle.tbl_table.specs.Rows.{is_rule}
use Rattle.tbl_table.proofs.RuleLines.{one_skipped}
use Rattle.tbl_table.proofs.table.Table.skip_rules.Goals as goal

-- src/rows.rt:134:9
pub loop-number-preserved : goal.loop-number-preserved
loop-number-preserved c =
    let i = c.loop-number.invariant in (
      one_skipped (length c.args.self.now.lines.items - 1) c.loop-number.number c.loop-number.self c.add_rule.new.self
          (omega (arith, c.loop-number-test.true, c.saturating_sub-number-end.ensures, c.len.ensures.value)) i.1 c.add_rule.ensures.value
          (ap (is_rule c.loop-number.self) (sym c.line.ensures) ∙ sym c.is_rule.ensures ∙ c.if-not-is_rule.false) ∙ i.0,
      refl,
      (search),
      c.add_rule.ensures.room ∙ i.3,
    )

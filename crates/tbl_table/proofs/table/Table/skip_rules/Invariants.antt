use Rattle.std.proofs.Common.{◌≡◌, ◌-◌, length}
use Rattle.tbl_table.specs.Held.{emptied}
use Rattle.tbl_table.specs.Rows.{rules_in, rules_skipped}
use Rattle.tbl_table.proofs.table.Table.skip_rules.Given as goal

abbrev pub invariant-loop-number : goal.invariant-loop-number
invariant-loop-number l =
    (rules_in (length l.initial.self.lines.items - 1 - l.number) l.self ≡ rules_skipped l.initial.self)
    × (l.self.next_line ≡ l.number) × (l.self.lines ≡ l.initial.self.lines) × (emptied l.self ≡ emptied l.initial.self)

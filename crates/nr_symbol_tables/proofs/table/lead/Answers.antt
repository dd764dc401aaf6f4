use Rattle.std.proofs.Common.{◌-◌}
use Rattle.std.proofs.lemmas.Option.{get_or_from_slice_get}
use Rattle.nr_symbol_tables.proofs.Rows.{led_from_first, led_from}
use Rattle.nr_symbol_tables.proofs.table.lead.Goals as goal

pub returns-then-over-eq0-clause-led : goal.returns-then-over-eq0-clause-led
returns-then-over-eq0-clause-led g c = rw c.set.ensures (led_from_first c.args.row.now.items c.args.latest.now c.args.kind c.args.over c.args.to c.if-over-eq0.true)

pub returns-clause-led : goal.returns-clause-led
returns-clause-led g c =
    let row = c.args.row.now.items in
    let e = c.get-entry.result in
    rw c.set-2.ensures.items (led_from row c.args.latest.now c.args.kind c.args.over c.args.to e c.if-over-eq0.false (get_or_from_slice_get row (c.args.over - 1) e e c.get-entry.ensures))

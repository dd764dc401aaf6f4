use Rattle.std.proofs.Common.{◌-◌}
use Rattle.std.proofs.lemmas.List.{map-set}
use Rattle.nr_symbol_tables.specs.Rows.{named}
use Rattle.nr_symbol_tables.specs.declared.table.Entry.{Entry}
use Rattle.nr_symbol_tables.proofs.table.put_at.Goals as goal

pub returns-clause-named : goal.returns-clause-named
returns-clause-named g c = rw c.set.ensures.items (map-set named c.args.row.now.items (c.args.at - 1) (record { name = c.args.entry.name; value = c.args.entry.value; earlier = c.args.earlier }))

pub returns-clause-earliers : goal.returns-clause-earliers
returns-clause-earliers g c =
    rw c.set.ensures.items (map-set (λ (e : Entry _). e.earlier) c.args.row.now.items (c.args.at - 1) (record { name = c.args.entry.name; value = c.args.entry.value; earlier = c.args.earlier }))

use Rattle.std.proofs.Common.{◌≡◌, ◌-◌, List, length, map, set, ap, sym, ◌∙◌, arith}
use Rattle.std.proofs.lemmas.List.{length-map}
use Rattle.std.proofs.lemmas.Option.{get_or_from_slice_get}
use Rattle.nr_symbol_tables.specs.Rows.{named, kind}
use Rattle.nr_symbol_tables.specs.declared.table.Entry.{Entry}
use Rattle.nr_symbol_tables.proofs.Rows.{chains_kept, chains_moved, length-kinds}
use Rattle.nr_symbol_tables.proofs.table.replace.Goals as goal

pub returns-then-from-kind-clause-chains : goal.returns-then-from-kind-clause-chains
returns-then-from-kind-clause-chains g c =
    let row = c.args.row.now.items in
    let gone = c.get-gone.result in
    let here = get_or_from_slice_get row (c.args.at - 1) gone gone c.get-gone.ensures in
    let same : kind c.args.entry.name ≡ kind gone.name = sym c.kind_of-kind.ensures.is ∙ sym c.if-from-kind.true ∙ c.kind_of-from.ensures.is in
    chains_kept row c.put_at.new.row.items c.args.latest.now c.args.at gone (named c.args.entry) c.requires.some c.requires.within here c.requires.chains c.put_at.ensures.named c.put_at.ensures.earliers same

-- ---- of another kind

pub link_at-left-requires-clause-chained : goal.link_at-left-requires-clause-chained
link_at-left-requires-clause-chained g c = rw (c.as_slice.ensures.value, c.as_array.ensures) c.requires.chains

pub link_at-found-requires-clause-chained : goal.link_at-found-requires-clause-chained
link_at-found-requires-clause-chained g c = rw (c.as_slice-2.ensures.value, c.as_array-2.ensures) c.requires.chains

pub lead-requires-clause-within : goal.lead-requires-clause-within
lead-requires-clause-within g c =
    let row = c.args.row.now.items in
    let left = rw (c.as_slice.ensures.value, c.as_array.ensures) at c.link_at-left.ensures.is in
    let within = left.within in
    let long = length-kinds row in
    omega arith

-- a row that is led elsewhere is as long
same_length : {V : Type 0} (row new : List (Entry V)) → map named new ≡ map named row → length new ≡ length row
same_length row new same = sym (length-map new named) ∙ ap length same ∙ length-map row named

pub lead-requires-2-clause-within : goal.lead-requires-2-clause-within
lead-requires-2-clause-within g c =
    let row = c.args.row.now.items in
    let found = rw (c.as_slice-2.ensures.value, c.as_array-2.ensures) at c.link_at-found.ensures.is in
    let within = found.within in
    let long = length-kinds row in
    let same = same_length row c.lead.new.row.items c.lead.ensures.led.names in
    omega arith

pub put_at-requires-2-clause-within : goal.put_at-requires-2-clause-within
put_at-requires-2-clause-within g c =
    let row = c.args.row.now.items in
    let within = c.requires.within in
    let one = same_length row c.lead.new.row.items c.lead.ensures.led.names in
    let two = same_length c.lead.new.row.items c.lead-2.new.row.items c.lead-2.ensures.led.names in
    omega arith

pub returns-clause-named : goal.returns-clause-named
returns-clause-named g c =
    c.put_at-2.ensures.named ∙ ap (λ ns. set ns (c.args.at - 1) (named c.args.entry)) (c.lead-2.ensures.led.names ∙ c.lead.ensures.led.names)

pub returns-clause-chains : goal.returns-clause-chains
returns-clause-chains g c =
    let row = c.args.row.now.items in
    let gone = c.get-gone.result in
    let here = get_or_from_slice_get row (c.args.at - 1) gone gone c.get-gone.ensures in
    let left = rw (c.as_slice.ensures.value, c.as_array.ensures) at c.link_at-left.ensures.is in
    let found = rw (c.as_slice-2.ensures.value, c.as_array-2.ensures) at c.link_at-found.ensures.is in
    let many : length c.args.latest.now ≡ 512 = rw c.as_array.ensures at c.link_at-left.ensures.long in
    chains_moved row c.put_at-2.new.row.items c.args.latest.now c.args.at gone (named c.args.entry) c.requires.some c.requires.within here c.requires.chains
    c.lead.new.row.items c.lead-2.new.row.items c.lead.new.latest c.lead-2.new.latest c.kind_of-from.result c.kind_of-kind.result
    c.link_at-left.result.over c.link_at-left.result.to c.link_at-found.result.over c.link_at-found.result.to
    c.kind_of-from.ensures.is c.kind_of-kind.ensures.is c.kind_of-from.ensures.few c.kind_of-kind.ensures.few c.if-from-kind.false many left found c.lead.ensures.led c.lead-2.ensures.led
    c.put_at-2.ensures.named c.put_at-2.ensures.earliers

use Rattle.std.proofs.Common.{◌-◌, get_or, refl, arith}
use Rattle.nr_symbol_tables.proofs.Rows.{earlier_at, length-kinds, first_within, first_of_kind, next_lower, next_of_kind}
use Rattle.nr_symbol_tables.proofs.table.link_at.Goals as goal

pub loop-to-init : goal.loop-to-init
loop-to-init g c =
    let row = c.args.row.now in
    let latest = c.args.latest.now in
    let d = c.args.kind in
    record {
      begins = λ none. refl;
      passes = λ some. absurd (omega arith);
      within = omega arith;
      of_kind = λ some. absurd (omega arith);
      goes = λ some. absurd (omega arith);
      to_within = first_within row latest d c.requires.few c.requires.chained;
      to_kind = first_of_kind row latest d c.requires.few c.requires.chained;
    }

pub loop-to-preserved : goal.loop-to-preserved
loop-to-preserved g c =
    let row = c.args.row.now in
    let latest = c.args.latest.now in
    let d = c.args.kind in
    let to = c.loop-to.to in
    let past = c.loop-to-test.true in
    let e = get_or row (to - 1) c.index-row-to.result in
    let within = c.loop-to.invariant.to_within in
    let few = c.requires.few in
    let is = earlier_at row (to - 1) c.index-row-to.result (omega arith) in
    let of_kind = c.loop-to.invariant.to_kind (omega arith) in
    let lower = next_lower row latest d few c.requires.chained to e.earlier (omega arith) within is of_kind in
    record {
      begins = λ none. absurd (omega arith);
      passes = λ some. past;
      within = within;
      of_kind = λ some. of_kind;
      goes = λ some. is;
      to_within = omega arith;
      to_kind = next_of_kind row latest d few c.requires.chained to e.earlier (omega arith) within is of_kind;
    }

pub loop-to-smaller : goal.loop-to-smaller
loop-to-smaller g c =
    let row = c.args.row.now in
    let to = c.loop-to.to in
    let past = c.loop-to-test.true in
    let e = get_or row (to - 1) c.index-row-to.result in
    let within = c.loop-to.invariant.to_within in
    let is = earlier_at row (to - 1) c.index-row-to.result (omega arith) in
    next_lower row c.args.latest.now c.args.kind c.requires.few c.requires.chained to e.earlier (omega arith) within is (c.loop-to.invariant.to_kind (omega arith))

pub returns-clause-is : goal.returns-clause-is
returns-clause-is g c =
    let row = c.args.row.now in
    let some = c.requires.some in
    let within = c.loop-to.invariant.within in
    let ended = c.loop-to-test.false in
    let long = length-kinds row in
    record {
      begins = c.loop-to.invariant.begins;
      passes = λ more. (let past = c.loop-to.invariant.passes more in omega arith);
      within = omega arith;
      of_kind = c.loop-to.invariant.of_kind;
      goes = c.loop-to.invariant.goes;
      below = omega arith;
    }

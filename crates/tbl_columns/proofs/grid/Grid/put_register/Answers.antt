use Rattle.std.proofs.Common.{◌≡◌, ◌+◌, ◌<◌, ◌≤◌, true, false, [], length, sym, ap, subst, ◌∙◌, arith}
use Rattle.tbl_columns.specs.declared.grid.Grid.{Grid}
use Rattle.tbl_columns.specs.Held.{emptied}
use Rattle.tbl_columns.specs.Registers.{list_eq, put_register}
use Rattle.tbl_table.specs.Held.{none_of}
use Rattle.tbl_columns.proofs.Known.{get_is, known_later, put_known, put_later, put_new}
use Rattle.tbl_columns.proofs.grid.Grid.put_register.Goals as goal

pub get-requires : goal.get-requires
get-requires c =
    let e = ap (λ (g : Grid). length g.registers.items) c.loop-place.invariant.same in
    omega (arith, e, c.len-place-end.ensures.value, c.loop-place-test.true)

pub set-requires : goal.set-requires
set-requires c =
    let e = ap (λ (g : Grid). length g.registers.items) c.loop-place.invariant.same in
    omega (arith, e, c.len-place-end.ensures.value, c.loop-place-test.true)

pub returns-then-eq-clause-value : goal.returns-then-eq-clause-value
returns-then-eq-clause-value c =
    let e = ap (λ (g : Grid). length g.registers.items) c.loop-place.invariant.same in
    let inside : c.loop-place.place < length c.loop-place.self.registers.items = omega (arith, e, c.len-place-end.ensures.value, c.loop-place-test.true) in
    put_known c.args.register c.get.result c.loop-place.place c.loop-place.self c.set.new.self inside c.get.ensures
    (sym c.eq.ensures ∙ c.if-eq.true) c.loop-place.invariant.known c.loop-place.invariant.replaced c.set.ensures.items c.set.ensures.room
    ∙ ap (put_register c.args.register) c.loop-place.invariant.same

pub returns-then-eq-clause-room : goal.returns-then-eq-clause-room
returns-then-eq-clause-room c =
    ap (λ n. record (emptied c.loop-place.self) { registers = record { items = []; capacity = n } }) c.set.ensures.room
    ∙ ap emptied c.loop-place.invariant.same

pub loop-place-preserved : goal.loop-place-preserved
loop-place-preserved c =
    let e = ap (λ (g : Grid). length g.registers.items) c.loop-place.invariant.same in
    let xs = c.loop-place.self.registers.items in
    let n = c.loop-place.place in
    let r = c.args.register in
    let q = c.get.result in
    let inside : n < length xs = omega (arith, e, c.len-place-end.ensures.value, c.loop-place-test.true) in
    let not_here = ap (λ x. list_eq x.name r.name) (get_is xs n q q inside c.get.ensures) ∙ sym c.eq.ensures ∙ c.if-eq.false in
    record {
      same = c.loop-place.invariant.same;
      known = known_later r q n xs inside not_here ∙ c.loop-place.invariant.known;
      replaced = put_later r q n xs inside not_here ∙ c.loop-place.invariant.replaced;
    }

pub returns-clause-value : goal.returns-clause-value
returns-clause-value c =
    let e = ap (λ (g : Grid). length g.registers.items) c.loop-place.invariant.same in
    put_new c.args.register c.loop-place.place c.loop-place.self c.add_item.new.items
    (omega (arith, e, c.len-place-end.ensures.value, c.loop-place-test.false)) c.loop-place.invariant.known c.add_item.ensures
    ∙ ap (put_register c.args.register) c.loop-place.invariant.same

pub returns-clause-room : goal.returns-clause-room
returns-clause-room c =
    ap (λ rs. record (emptied c.loop-place.self) { registers = none_of rs }) c.add_item.ensures ∙ ap emptied c.loop-place.invariant.same

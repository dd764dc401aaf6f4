use Rattle.std.proofs.lemmas.Grind.{common_steps}
use Rattle.std.proofs.Common.{◌≤◌, List, length, min, ap, sym, refl, arith, subst, length-take}
use Rattle.std.proofs.lemmas.List.{length-take-le}
use Rattle.nr_fill.specs.Piece.{Piece}
use Rattle.nr_fill.specs.Spreading.{cells_in_line}
use Rattle.nr_fill.proofs.Laying.{slots_are, prefix_is, prefix_within}
use Rattle.nr_fill.proofs.piece_row.PieceRow.set.Goals as goal

pub slice_bounds-slots-end : goal.slice_bounds-slots-end
slice_bounds-slots-end g c =
    let s = c.self.inside in
    let pieces = slots_are c.args.self.now (min s.slots.capacity s.cells.capacity) c.self.invariant c.self.view_is in
    let slots = ap length c.as_slice.ensures.value in
    sym (length-take-le c.args.n c.as_slice.result.now (omega (arith, c.requires.within)))

pub lay-requires : goal.lay-requires
lay-requires g c =
    let s = c.self.inside in
    let n = c.args.n in
    let is = prefix_is c.args.self.now (min s.slots.capacity s.cells.capacity) n c.self.invariant c.self.view_is in
    rw (c.as_slice.ensures.value, c.as_slice-cells.ensures.value) record {
      some = let pieces = slots_are c.args.self.now (min s.slots.capacity s.cells.capacity) c.self.invariant c.self.view_is in
          omega (arith, length-take n s.slots.items, c.requires.within, c.requires.some);
      cells = (prefix_within n c.self.invariant).0;
      each = c.requires.each;
      few = omega (arith, length-take n s.slots.items, c.self.invariant.slots_within, c.self.invariant.is_small);
      most = subst (λ (ps : List Piece). length (cells_in_line c.args.extra ps) ≤ c.args.most) (sym is) c.requires.most;
    }

pub returns-in-Some-clause-set : goal.returns-in-Some-clause-set
returns-in-Some-clause-set g c =
    let s = c.self.inside in
    rw (← prefix_is c.args.self.now (min s.slots.capacity s.cells.capacity) c.args.n c.self.invariant c.self.view_is) (rw (c.as_slice.ensures.value, c.as_slice-cells.ensures.value) at c.in-Some.ensures.set)

pub returns-in-Some-clause-extent : goal.returns-in-Some-clause-extent
returns-in-Some-clause-extent g c =
    let s = c.self.inside in
    rw (← prefix_is c.args.self.now (min s.slots.capacity s.cells.capacity) c.args.n c.self.invariant c.self.view_is) (rw (c.as_slice.ensures.value, c.as_slice-cells.ensures.value) at c.in-Some.ensures.extent)

pub returns-in-None-clause-set : goal.returns-in-None-clause-set
returns-in-None-clause-set g c =
    let s = c.self.inside in
    let is = rw (c.as_slice.ensures.value, c.as_slice-cells.ensures.value) at c.set_pieces.ensures.set in
    let same = c.in-None.ensures.none refl in
    rw (← prefix_is c.args.self.now (min s.slots.capacity s.cells.capacity) c.args.n c.self.invariant c.self.view_is, ← same) is

pub returns-in-None-clause-extent : goal.returns-in-None-clause-extent
returns-in-None-clause-extent g c =
    let s = c.self.inside in
    rw (← prefix_is c.args.self.now (min s.slots.capacity s.cells.capacity) c.args.n c.self.invariant c.self.view_is) (rw (c.as_slice.ensures.value, c.as_slice-cells.ensures.value) at c.set_pieces.ensures.extent)

pub set_pieces-requires-clause-cells : goal.set_pieces-requires-clause-cells
set_pieces-requires-clause-cells g c = grind (arith, common_steps)

pub set_pieces-requires-clause-few : goal.set_pieces-requires-clause-few
set_pieces-requires-clause-few g c = grind (arith, common_steps)

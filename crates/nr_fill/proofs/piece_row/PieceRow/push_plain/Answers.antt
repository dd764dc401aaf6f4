use Rattle.std.proofs.Common.{◌≡◌, ◌+◌, ◌++◌, length, map, take, min, ap, sym, ◌∙◌, arith, length-append}
use Rattle.std.proofs.lemmas.List.{length-map, length-take-le}
use Rattle.nr_fill.specs.Laid.{laid_of}
use Rattle.nr_fill.specs.Plain.{run_cell}
use Rattle.nr_fill.proofs.Laying.{room_left, is_laid_longer, laid_of_extended}
use Rattle.nr_fill.proofs.piece_row.PieceRow.push_plain.Goals as goal

pub push_plain-count-requires : goal.push_plain-count-requires
push_plain-count-requires c = let left = room_left c.args.self.now (length c.args.bytes.now) c.self.invariant c.self.view_is c.requires.no_title c.requires.room in left.1

pub overflow_add-self : goal.overflow_add-self
overflow_add-self c = omega arith

pub invariant_of-self : goal.invariant_of-self
invariant_of-self c =
    let s = c.self.inside in
    let h = c.self.invariant in
    let count = c.push_plain-count.result in
    let prefix = take count c.args.bytes.now in
    let run = map (run_cell c.args.look) prefix in
    let left = room_left c.args.self.now (length c.args.bytes.now) h c.self.view_is c.requires.no_title c.requires.room in
    let many : length run ≡ count = length-map prefix (run_cell c.args.look) ∙ length-take-le count c.args.bytes.now c.push_plain-count.ensures.prefix in
    let long = length-append s.cells.items run in
    rw (c.push_plain-count.ensures.items, c.push_plain-count.ensures.room) (is_laid_longer (s.cells.items ++ run) count h left.0 (omega arith) (omega (arith, left.1, c.push_plain-count.ensures.prefix)))

pub returns-clause-cells : goal.returns-clause-cells
returns-clause-cells c =
    let s = c.self.inside in
    let h = c.self.invariant in
    let count = c.push_plain-count.result in
    let prefix = take count c.args.bytes.now in
    let run = map (run_cell c.args.look) prefix in
    let room = min s.slots.capacity s.cells.capacity in
    let left = room_left c.args.self.now (length c.args.bytes.now) h c.self.view_is c.requires.no_title c.requires.room in
    let many : length run ≡ count = length-map prefix (run_cell c.args.look) ∙ length-take-le count c.args.bytes.now c.push_plain-count.ensures.prefix in
    rw (c.push_plain-count.ensures.items, c.push_plain-count.ensures.room, ← c.self.view_is)
    (ap (λ n. laid_of s.slots.items (s.cells.items ++ run) s.pieced (s.read + n) room) (sym many) ∙ laid_of_extended room run h left.0)

use Rattle.std.proofs.Common.{◌≡◌, ◌+◌, ◌++◌, length, min, replicate, ap, sym, ◌∙◌, arith, length-append}
use Rattle.std.proofs.lemmas.List.{length-replicate}
use Rattle.nr_fill.specs.Laid.{laid_of}
use Rattle.nr_fill.proofs.Laying.{room_left, is_laid_longer, laid_of_extended}
use Rattle.nr_fill.proofs.piece_row.PieceRow.push_copies.Goals as goal

pub push_copies-requires : goal.push_copies-requires
push_copies-requires c = let left = room_left c.args.self.now c.args.n c.self.invariant c.self.view_is c.requires.no_title c.requires.room in left.1

pub invariant_of-self : goal.invariant_of-self
invariant_of-self c =
    let s = c.self.inside in
    let h = c.self.invariant in
    let n = c.args.n in
    let copies = replicate n c.args.cell in
    let left = room_left c.args.self.now n h c.self.view_is c.requires.no_title c.requires.room in
    let long = length-append s.cells.items copies in
    let many = length-replicate n c.args.cell in
    rw (c.push_copies.ensures.items, c.push_copies.ensures.room) (is_laid_longer (s.cells.items ++ copies) n h left.0 (omega arith) left.1)

pub returns : goal.returns
returns c =
    let s = c.self.inside in
    let h = c.self.invariant in
    let n = c.args.n in
    let copies = replicate n c.args.cell in
    let room = min s.slots.capacity s.cells.capacity in
    let left = room_left c.args.self.now n h c.self.view_is c.requires.no_title c.requires.room in
    let many : length copies ≡ n = length-replicate n c.args.cell in
    rw (c.push_copies.ensures.items, c.push_copies.ensures.room, ← c.self.view_is)
    (ap (λ k. laid_of s.slots.items (s.cells.items ++ copies) s.pieced (s.read + k) room) (sym many) ∙ laid_of_extended room copies h left.0)

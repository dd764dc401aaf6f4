use Rattle.std.proofs.Common.{◌-◌, min, take, drop, refl, ◌∙◌, arith}
use Rattle.std.proofs.lemmas.List.{take_all}
use Rattle.nr_fill.proofs.Laying.{laid_of_taken, length-last, same_laid}
use Rattle.nr_fill.proofs.piece_row.PieceRow.clear_title.Goals as goal

pub returns : goal.returns
returns c =
    let s = c.self.inside in
    let h = c.self.invariant in
    let room = min s.slots.capacity s.cells.capacity in
    let last = length-last room h in
    rw (c.truncate.ensures.items, c.truncate.ensures.room, ← c.self.view_is)
    (laid_of_taken room s.read h h.pieced_within (omega arith) ∙ same_laid refl (take_all (s.read - s.pieced) (take (s.read - s.pieced) (drop s.pieced s.cells.items)) (omega arith)) refl refl)

use Rattle.std.proofs.Common.{◌≡◌, ◌+◌, ◌-◌, [], length, min, take, drop, refl, ap, sym, ◌∙◌, arith}
use Rattle.nr_fill.specs.Laid.{Laid}
use Rattle.nr_fill.proofs.Laying.{laid_of_taken, length-last, same_laid}
use Rattle.nr_fill.proofs.piece_row.PieceRow.shorten.Goals as goal

pub returns : goal.returns
returns c =
    let s = c.self.inside in
    let h = c.self.invariant in
    let room = min s.slots.capacity s.cells.capacity in
    let last : s.read - s.pieced ≡ length c.args.self.now.last = sym (length-last room h) ∙ ap (λ (l : Laid). length l.last) c.self.view_is in
    let part : (s.pieced + c.args.n) - s.pieced ≡ c.args.n = omega arith in
    let none : drop s.read s.cells.items ≡ [] = ap (λ (l : Laid). l.title) c.self.view_is ∙ c.requires.no_title in
    rw (c.truncate.ensures.items, c.truncate.ensures.room, ← c.self.view_is)
    (laid_of_taken room (s.pieced + c.args.n) h (omega arith) (omega (arith, c.requires.within, h.pieced_within))
    ∙ same_laid refl (ap (λ n. take n (take (s.read - s.pieced) (drop s.pieced s.cells.items))) part) (sym none) refl)

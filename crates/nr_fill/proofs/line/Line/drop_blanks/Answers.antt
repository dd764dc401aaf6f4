use Rattle.std.proofs.Common.{◌≡◌, ◌-◌, length, take, arith}
use Rattle.nr_fill.specs.declared.line.WordState.{WordState}
use Rattle.nr_fill.specs.Piece.{pending_without_point}
use Rattle.nr_fill.proofs.Lines.{the_word, is_line_last}
use Rattle.nr_fill.proofs.Pendings.{needed_dropped}
use Rattle.std.proofs.lemmas.List.{length-take-le}
use Rattle.nr_fill.proofs.line.Line.drop_blanks.Goals as goal

pub invariant_of-self : goal.invariant_of-self
invariant_of-self c =
    let h = rw c.in-Some.is at c.self.invariant in
    let iw = the_word h in
    let w = c.in-Some.word in
    let last = c.self.inside.row.last in
    let n = length last - w.blanks in
    let fewer : length (take n last) ≡ n = length-take-le n last (omega arith) in
    let v : WordState = record w { pending = pending_without_point w.pending; blanks = 0 } in
    let needed = needed_dropped w.pending w.blanks w.parted (length last) iw.needed in
    rw (c.shorten.ensures, c.drop_point.ensures, c.saturating_sub-len.ensures, c.last_len.ensures) (is_line_last (take n last) v h (record {
      parted_is = iw.parted_is;
      wide_is = iw.wide_is;
      pieces_have_cells = iw.pieces_have_cells;
      join_within = iw.join_within;
      needed = omega arith;
    }) (omega (arith, h.within)))

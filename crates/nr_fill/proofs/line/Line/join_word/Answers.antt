use Rattle.std.proofs.Common.{◌≡◌, ◌≤◌, ◌++◌, [], length, take, drop, refl, ap, sym, ◌∙◌, arith, length-take, length-append}
use Rattle.std.specs.List.{flat_map}
use Rattle.std.proofs.lemmas.Grind.{common_steps}
use Rattle.std.proofs.lemmas.List.{drop_all}
use Rattle.std.proofs.lemmas.List.Elements.{All-drop}
use Rattle.nr_fill.specs.declared.line.WordState.{WordState}
use Rattle.nr_fill.specs.declared.stops.Pending.TheVariants.{Nothing}
use Rattle.nr_fill.specs.Cutting.{join_width}
use Rattle.nr_fill.specs.Laid.{Laid}
use Rattle.nr_fill.specs.PieceRow.{IsWord}
use Rattle.nr_fill.specs.Piece.{Piece, join_before}
use Rattle.nr_fill.proofs.Lines.{the_word, is_line_untitled, is_line_opened_after, join_before-within}
use Rattle.nr_fill.proofs.PiecesOf.{length-flat_map}
use Rattle.nr_fill.proofs.Pendings.{needed_blanks}
use Rattle.nr_fill.proofs.line.Line.join_word.Goals as goal

pub invariant_of-self-then-matches : goal.invariant_of-self-then-matches
invariant_of-self-then-matches c = let h = rw c.in-Some.is at (is_line_untitled c.self.invariant) in rw c.clear_title.ensures h

pub open_after-requires-clause-cells : goal.open_after-requires-clause-cells
open_after-requires-clause-cells c =
    let h = rw c.in-Some.is at c.self.invariant in
    let iw = the_word h in
    rw c.clear_title.ensures (sym iw.parted_is)

pub invariant_of-self-2 : goal.invariant_of-self-2
invariant_of-self-2 c =
    let s = c.self.inside in
    let h = rw c.in-Some.is at (is_line_untitled c.self.invariant) in
    let iw = the_word h in
    let w = c.in-Some.word in
    let ps = s.row.pieces in
    let v : WordState = record { join = c.join_before-word.result; pending = Nothing; blanks = w.blanks; parted = 0; wide = 0 } in
    let cells = flat_map (λ (p : Piece). p.cells) (drop s.pieces ps) ++ s.row.last in
    let none : drop s.pieces (take s.pieces ps) ≡ [] = drop_all s.pieces (take s.pieces ps) (omega (arith, length-take s.pieces ps)) in
    let join_is : c.join_before-word.result ≡ join_before (drop s.pieces ps) w.join = c.join_before-word.ensures ∙ ap (λ (l : Laid). join_before (drop s.pieces l.pieces) w.join) c.clear_title.ensures in
    let within = join_before-within (drop s.pieces ps) w.join (All-drop (λ (p : Piece). join_width p.join ≤ 1365) s.pieces ps h.gaps_within) iw.join_within in
    let parted = iw.parted_is in
    let long = length-flat_map (drop s.pieces ps) in
    let blanks = needed_blanks w.pending w.blanks w.parted (length s.row.last) iw.needed in
    let hw : IsWord v (drop s.pieces (take s.pieces ps)) cells = rw none record {
      parted_is = refl;
      wide_is = refl;
      pieces_have_cells = omega arith;
      join_within = rw join_is within;
      needed = omega (arith, length-append (flat_map (λ (p : Piece). p.cells) (drop s.pieces ps)) s.row.last);
    } in
    rw (c.open_after.ensures, c.clear_title.ensures) (is_line_opened_after v s.pieces h (omega arith) h.pieces_within hw)

pub returns : goal.returns
returns c = grind (arith, common_steps)

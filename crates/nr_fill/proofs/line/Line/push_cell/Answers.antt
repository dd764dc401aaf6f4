use Rattle.std.proofs.lemmas.Grind.{common_steps}
use Rattle.std.proofs.Common.{◌≡◌, ◌+◌, ◌++◌, ◌∷◌, [], length, drop, None, ap, ap₂, sym, ◌∙◌, refl, arith, length-append}
use Rattle.nr_fill.specs.Laid.{Laid}
use Rattle.nr_fill.specs.Line.{Lined}
use Rattle.nr_fill.specs.declared.line.WordState.{WordState}
use Rattle.nr_fill.specs.Piece.{cells_in, text_cells}
use Rattle.nr_fill.proofs.Lines.{the_word, is_line_last, text_cells-collected_of, no_title_cells}
use Rattle.nr_fill.proofs.Pendings.{are_small, needed_after}
use Rattle.nr_fill.specs.Piece.{pending_after}
use Rattle.nr_fill.specs.Titling.{title_of}
use Rattle.nr_fill.proofs.line.Line.push_cell.Goals as goal

pub overflow_add-n : goal.overflow_add-n
overflow_add-n c =
    let h = rw c.in-Some.is at c.self.invariant in
    let small = are_small h in
    let len = c.last_len.ensures ∙ ap (λ (l : Laid). length l.last) c.push.ensures in
    omega (arith, length-append c.self.inside.row.last (c.args.cell ∷ []), small.parted, small.text, small.small)

pub invariant_of-self : goal.invariant_of-self
invariant_of-self c =
    let s = c.self.inside in
    let h = rw c.in-Some.is at c.self.invariant in
    let iw = the_word h in
    let w = c.in-Some.word in
    let text = text_cells-collected_of s.barred s.sentence s.margins s.turn c.self.invariant in
    let same = ap (λ (v : Lined). text_cells v.collected) c.self.view_is in
    let limit = ap (λ (v : Lined). v.limit) c.self.view_is in
    let title = no_title_cells c.self.invariant (ap (λ (v : Lined). v.collected.title) c.self.view_is ∙ c.requires.no_title) in
    let longer = length-append s.row.last (c.args.cell ∷ []) in
    let v : WordState = record w { pending = c.step_after.new.self; blanks = 0 } in
    rw c.push.ensures (is_line_last (s.row.last ++ c.args.cell ∷ []) v h (record {
      parted_is = iw.parted_is;
      wide_is = iw.wide_is;
      pieces_have_cells = iw.pieces_have_cells;
      join_within = iw.join_within;
      needed = rw (c.step_after.ensures, longer) (needed_after c.args.afterwards (w.parted + c.last_len.result) w.pending w.blanks w.parted (length s.row.last) iw.needed);
    }) (omega (arith, c.requires.room)))

pub returns-in-Some : goal.returns-in-Some
returns-in-Some c =
    let s = c.self.inside in
    let h = rw c.in-Some.is at c.self.invariant in
    let iw = the_word h in
    let w = c.in-Some.word in
    let none : title_of s.title s.row.title ≡ None = ap (λ (v : Lined). v.collected.title) c.self.view_is ∙ c.requires.no_title in
    let len = c.last_len.ensures ∙ ap (λ (l : Laid). length l.last) c.push.ensures in
    let pending_is : c.step_after.new.self ≡ pending_after c.args.afterwards (cells_in (drop s.pieces s.row.pieces) + length (s.row.last ++ c.args.cell ∷ [])) w.pending =
    c.step_after.ensures ∙ ap₂ (λ a b. pending_after c.args.afterwards (a + b) w.pending) (sym iw.parted_is) len in
    rw (c.push.ensures, pending_is, c.ends_sentence-self-inside.ensures, ← c.self.view_is, c.in-Some.is, none) refl

pub push-requires-clause-no_title : goal.push-requires-clause-no_title
push-requires-clause-no_title c = grind (arith, common_steps)

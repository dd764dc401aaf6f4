use Rattle.std.proofs.Common.{◌≡◌, ◌+◌, ◌++◌, length, replicate, ap, ◌∙◌, arith, length-append}
use Rattle.std.proofs.lemmas.List.{length-replicate}
use Rattle.nr_fill.specs.Line.{Lined}
use Rattle.nr_fill.specs.declared.line.WordState.{WordState}
use Rattle.nr_fill.specs.Piece.{text_cells}
use Rattle.nr_fill.proofs.Lines.{the_word, is_line_last, text_cells-collected_of, no_title_cells}
use Rattle.nr_fill.proofs.Pendings.{are_small, needed_blanks, needed_more}
use Rattle.nr_vectors.specs.Cell.{blank}
use Rattle.nr_fill.proofs.line.Line.push_blanks.Goals as goal

pub push_copies-requires-clause-room : goal.push_copies-requires-clause-room
push_copies-requires-clause-room c =
    let s = c.self.inside in
    let text = text_cells-collected_of s.barred s.sentence s.margins s.turn c.self.invariant in
    let same = ap (λ (v : Lined). text_cells v.collected) c.self.view_is in
    let limit = ap (λ (v : Lined). v.limit) c.self.view_is in
    omega (arith, c.requires.room, c.self.invariant.room)

pub overflow_add-word : goal.overflow_add-word
overflow_add-word c =
    let h = rw c.in-Some.is at c.self.invariant in
    let small = are_small h in
    let blanks = needed_blanks c.in-Some.word.pending c.in-Some.word.blanks c.in-Some.word.parted (length c.self.inside.row.last) small.needed in
    let s = c.self.inside in
    let text = text_cells-collected_of s.barred s.sentence s.margins s.turn c.self.invariant in
    let same = ap (λ (v : Lined). text_cells v.collected) c.self.view_is in
    let limit = ap (λ (v : Lined). v.limit) c.self.view_is in
    omega (arith, small.parted, small.text, small.small, c.requires.room)

pub invariant_of-self : goal.invariant_of-self
invariant_of-self c =
    let s = c.self.inside in
    let h = rw c.in-Some.is at c.self.invariant in
    let iw = the_word h in
    let w = c.in-Some.word in
    let n = c.args.n in
    let text = text_cells-collected_of s.barred s.sentence s.margins s.turn c.self.invariant in
    let same = ap (λ (v : Lined). text_cells v.collected) c.self.view_is in
    let limit = ap (λ (v : Lined). v.limit) c.self.view_is in
    let title = no_title_cells c.self.invariant (ap (λ (v : Lined). v.collected.title) c.self.view_is ∙ c.requires.no_title) in
    let longer : length (s.row.last ++ replicate n blank) ≡ length s.row.last + n = omega (arith, length-append s.row.last (replicate n blank), length-replicate n blank) in
    let v : WordState = record w { blanks = w.blanks + n } in
    rw (c.push_copies.ensures, c.blank.ensures) (is_line_last (s.row.last ++ replicate n blank) v h (record {
      parted_is = iw.parted_is;
      wide_is = iw.wide_is;
      pieces_have_cells = iw.pieces_have_cells;
      join_within = iw.join_within;
      needed = rw longer (needed_more w.pending w.blanks w.parted (length s.row.last) n iw.needed);
    }) (omega (arith, c.requires.room)))

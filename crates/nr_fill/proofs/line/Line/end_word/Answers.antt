use Rattle.std.proofs.Common.{◌≡◌, ◌+◌, ◌-◌, ◌∷◌, [], length, take, drop, ap, ◌∙◌, refl, arith, length-append, length-drop}
use Rattle.nr_fill.specs.Line.{Lined}
use Rattle.nr_fill.specs.Piece.{line_cells}
use Rattle.nr_fill.proofs.Lines.{is_line_ended, line_cells-collected_of, line_cells-le}
use Rattle.nr_fill.proofs.Measures.{afforded_ok, afforded_err, line_cells-end_word}
use Rattle.nr_fill.proofs.Pendings.{are_small}
use Rattle.std.proofs.lemmas.List.{take_all}
use Rattle.nr_fill.specs.Piece.{Piece, end_word, word_pieces}
use Rattle.nr_fill.specs.PieceRow.{word_of}
use Rattle.nr_fill.proofs.Lines.{ended_pieces}
use Rattle.nr_fill.proofs.line.Line.end_word.Goals as goal

pub returns-in_default-clause-result : goal.returns-in_default-clause-result
returns-in_default-clause-result c =
    let s = c.self.inside in
    let more = line_cells-end_word c.args.self.now.collected in
    let own = ap (λ (v : Lined). v.limit) c.self.view_is in
    let all = line_cells-le s.barred s.sentence s.margins s.turn c.self.invariant in
    let same = ap (λ (v : Lined). line_cells v.collected) c.self.view_is in
    let none : length (word_pieces (word_of s.word (drop s.pieces s.row.pieces) s.row.last)) ≡ 0 = rw c.in_default.is refl in
    let word = ap (λ (v : Lined). length (word_pieces v.collected.word)) c.self.view_is in
    let v : Lined = record { collected = end_word c.args.self.now.collected; limit = c.args.self.now.limit } in
    afforded_ok v (omega arith)

pub overflow_add-more : goal.overflow_add-more
overflow_add-more c =
    let h = rw c.in-Some.is at c.self.invariant in
    let small = are_small h in
    omega (arith, c.pieces.ensures, small.small, small.text, small.parted, small.pieces_are)

pub returns-then-more-self-clause-result : goal.returns-then-more-self-clause-result
returns-then-more-self-clause-result c =
    let s = c.self.inside in
    let h = rw c.in-Some.is at c.self.invariant in
    let small = are_small h in
    let more = line_cells-end_word c.args.self.now.collected in
    let own = ap (λ (v : Lined). v.limit) c.self.view_is in
    let last : Piece = record { join = c.in-Some.word.join; cells = s.row.last } in
    let some : length (word_pieces (word_of s.word (drop s.pieces s.row.pieces) s.row.last)) ≡ length s.row.pieces - s.pieces + 1 =
    rw c.in-Some.is (omega (arith, length-append (drop s.pieces s.row.pieces) (last ∷ []), length-drop s.pieces s.row.pieces)) in
    let word = ap (λ (v : Lined). length (word_pieces v.collected.word)) c.self.view_is in
    let v : Lined = record { collected = end_word c.args.self.now.collected; limit = c.args.self.now.limit } in
    afforded_err v (omega (arith, c.pieces.ensures, c.measure.ensures.value, c.measure.ensures.within, c.if-more-self.true))

pub close-requires-clause-room : goal.close-requires-clause-room
close-requires-clause-room c =
    let h = rw c.in-Some.is at c.self.invariant in
    let small = are_small h in
    let s = c.self.inside in
    let own = ap (λ (v : Lined). v.limit) c.self.view_is in
    let all = line_cells-collected_of s.barred s.sentence s.margins s.turn c.self.invariant in
    let same = ap (λ (v : Lined). line_cells v.collected) c.self.view_is in
    omega (arith, c.pieces.ensures, small.room, small.low, c.measure.ensures.value, c.measure.ensures.within, c.if-more-self.false)

pub overflow_add-self-2 : goal.overflow_add-self-2
overflow_add-self-2 c =
    let h = rw c.in-Some.is at c.self.invariant in
    let small = are_small h in
    let join = c.from.ensures ∙ c.width.ensures in
    omega (arith, small.widths, small.join)

pub overflow_add-self-3 : goal.overflow_add-self-3
overflow_add-self-3 c =
    let h = rw c.in-Some.is at c.self.invariant in
    let small = are_small h in
    let join = c.from.ensures ∙ c.width.ensures in
    omega (arith, small.widths, small.join, small.small, small.text, small.parted, c.last_len-len.ensures)

pub overflow_add-self-4 : goal.overflow_add-self-4
overflow_add-self-4 c =
    let h = rw c.in-Some.is at c.self.invariant in
    let small = are_small h in
    let join = c.from.ensures ∙ c.width.ensures in
    omega (arith, small.widths, small.join, small.small, small.text, small.parted, c.last_len-len.ensures)

pub invariant_of-self-2 : goal.invariant_of-self-2
invariant_of-self-2 c =
    let s = c.self.inside in
    let h = rw c.in-Some.is at c.self.invariant in
    let small = are_small h in
    let own = ap (λ (v : Lined). v.limit) c.self.view_is in
    let all = line_cells-collected_of s.barred s.sentence s.margins s.turn c.self.invariant in
    let same = ap (λ (v : Lined). line_cells v.collected) c.self.view_is in
    let more = c.pieces.result - s.pieces + 1 in
    let join = c.from.ensures ∙ c.width.ensures in
    rw (c.close.ensures, c.last_len-len.ensures) (is_line_ended more _ h (omega (arith, c.pieces.ensures, small.low)) (omega arith)
    (omega (arith, c.measure.ensures.value, c.measure.ensures.within, c.if-more-self.false)))

pub returns-clause-result : goal.returns-clause-result
returns-clause-result c =
    let s = c.self.inside in
    let h = rw c.in-Some.is at c.self.invariant in
    let small = are_small h in
    let more = line_cells-end_word c.args.self.now.collected in
    let own = ap (λ (v : Lined). v.limit) c.self.view_is in
    let last : Piece = record { join = c.in-Some.word.join; cells = s.row.last } in
    let some : length (word_pieces (word_of s.word (drop s.pieces s.row.pieces) s.row.last)) ≡ length s.row.pieces - s.pieces + 1 =
    rw c.in-Some.is (omega (arith, length-append (drop s.pieces s.row.pieces) (last ∷ []), length-drop s.pieces s.row.pieces)) in
    let word = ap (λ (v : Lined). length (word_pieces v.collected.word)) c.self.view_is in
    let v : Lined = record { collected = end_word c.args.self.now.collected; limit = c.args.self.now.limit } in
    afforded_ok v (omega (arith, c.pieces.ensures, c.measure.ensures.value, c.measure.ensures.within, c.if-more-self.false))

pub returns-clause-ok : goal.returns-clause-ok
returns-clause-ok c =
    let s = c.self.inside in
    let h = rw c.in-Some.is at c.self.invariant in
    let small = are_small h in
    let last : Piece = record { join = c.in-Some.word.join; cells = s.row.last } in
    let cells_is : take c.last_len-len.result s.row.last ≡ s.row.last = take_all c.last_len-len.result s.row.last (omega (arith, c.last_len-len.ensures)) in
    let pieces_is = ended_pieces s.pieces (c.pieces.result - s.pieces + 1) s.row.pieces last small.low (omega (arith, c.pieces.ensures, small.low)) in
    rw (c.close.ensures, cells_is, pieces_is, ← c.self.view_is, c.in-Some.is) refl

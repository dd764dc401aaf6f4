use Rattle.std.proofs.lemmas.Grind.{common_steps}
use Rattle.std.proofs.Common.{◌≡◌, ◌+◌, ◌++◌, length, take, drop, replicate, ap, ◌∙◌, arith, length-append}
use Rattle.nr_fill.specs.Line.{Lined}
use Rattle.nr_fill.specs.declared.line.WordState.{WordState}
use Rattle.nr_fill.specs.Piece.{text_cells}
use Rattle.nr_fill.proofs.Lines.{the_word, is_line_last, text_cells-collected_of, no_title_cells}
use Rattle.nr_fill.proofs.Pendings.{needed_none}
use Rattle.std.proofs.lemmas.List.{length-replicate, take-append-drop}
use Rattle.nr_fill.proofs.line.Line.push_cells.Goals as goal

pub insert_copies-requires-clause-room : goal.insert_copies-requires-clause-room
insert_copies-requires-clause-room c =
    let s = c.self.inside in
    let text = text_cells-collected_of s.barred s.sentence s.margins s.turn c.self.invariant in
    let same = ap (λ (v : Lined). text_cells v.collected) c.self.view_is in
    let limit = ap (λ (v : Lined). v.limit) c.self.view_is in
    omega (arith, c.requires.room, c.self.invariant.room)

pub invariant_of-self : goal.invariant_of-self
invariant_of-self c =
    let s = c.self.inside in
    let h = rw c.in-Some.is at c.self.invariant in
    let iw = the_word h in
    let w = c.in-Some.word in
    let last = s.row.last in
    let len = c.last_len-len.result in
    let text = text_cells-collected_of s.barred s.sentence s.margins s.turn c.self.invariant in
    let same = ap (λ (v : Lined). text_cells v.collected) c.self.view_is in
    let limit = ap (λ (v : Lined). v.limit) c.self.view_is in
    let title = no_title_cells c.self.invariant (ap (λ (v : Lined). v.collected.title) c.self.view_is ∙ c.requires.no_title) in
    let xs = take len last ++ replicate c.args.n c.args.cell ++ drop len last in
    let longer : length xs ≡ length last + c.args.n =
    omega (
      arith,
      length-append (take len last ++ replicate c.args.n c.args.cell) (drop len last),
      length-append (take len last) (replicate c.args.n c.args.cell),
      length-replicate c.args.n c.args.cell,
      ap length (take-append-drop len last),
      length-append (take len last) (drop len last),
    ) in
    let v : WordState = record w { blanks = 0 } in
    let needed = needed_none w.pending w.blanks w.parted (length last) iw.needed in
    rw c.insert_copies.ensures (is_line_last xs v h (record {
      parted_is = iw.parted_is;
      wide_is = iw.wide_is;
      pieces_have_cells = iw.pieces_have_cells;
      join_within = iw.join_within;
      needed = omega arith;
    }) (omega (arith, c.requires.room)))

pub insert_copies-requires-clause-no_title : goal.insert_copies-requires-clause-no_title
insert_copies-requires-clause-no_title c = grind (arith, common_steps)

pub returns-in-Some : goal.returns-in-Some
returns-in-Some c = grind (arith, common_steps)

use Rattle.std.proofs.lemmas.Grind.{common_steps}
use Rattle.std.proofs.Common.{◌≡◌, ◌++◌, length, map, take, ap, ◌∙◌, arith, length-append}
use Rattle.std.proofs.lemmas.List.{length-map, length-take-le}
use Rattle.nr_fill.specs.Line.{Lined}
use Rattle.nr_fill.specs.declared.line.WordState.{WordState}
use Rattle.nr_fill.specs.Piece.{text_cells}
use Rattle.nr_fill.specs.Plain.{run_cell}
use Rattle.nr_fill.proofs.Lines.{the_word, is_line_last, text_cells-collected_of, no_title_cells}
use Rattle.nr_fill.proofs.Pendings.{needed_none, needed_without_point}
use Rattle.nr_fill.proofs.line.Line.push_plain.Goals as goal

pub push_plain-count-requires-clause-room : goal.push_plain-count-requires-clause-room
push_plain-count-requires-clause-room c =
    let s = c.self.inside in
    let text = text_cells-collected_of s.barred s.sentence s.margins s.turn c.self.invariant in
    let same = ap (λ (v : Lined). text_cells v.collected) c.self.view_is in
    let limit = ap (λ (v : Lined). v.limit) c.self.view_is in
    omega (arith, c.requires.room, c.self.invariant.room)

pub invariant_of-self-in-Some : goal.invariant_of-self-in-Some
invariant_of-self-in-Some c =
    let s = c.self.inside in
    let h = rw c.in-Some.is at c.self.invariant in
    let iw = the_word h in
    let w = c.in-Some.word in
    let count = c.push_plain-count.result in
    let prefix = take count c.args.bytes.now in
    let run = map (run_cell c.args.look) prefix in
    let text = text_cells-collected_of s.barred s.sentence s.margins s.turn c.self.invariant in
    let same = ap (λ (v : Lined). text_cells v.collected) c.self.view_is in
    let limit = ap (λ (v : Lined). v.limit) c.self.view_is in
    let title = no_title_cells c.self.invariant (ap (λ (v : Lined). v.collected.title) c.self.view_is ∙ c.requires.no_title) in
    let many : length run ≡ count = length-map prefix (run_cell c.args.look) ∙ length-take-le count c.args.bytes.now c.push_plain-count.ensures.prefix in
    let longer = length-append s.row.last run in
    let v : WordState = record w { pending = c.drop_point.new.self; blanks = 0 } in
    let needed = needed_without_point w.pending 0 w.parted (length s.row.last) (needed_none w.pending w.blanks w.parted (length s.row.last) iw.needed) in
    rw c.push_plain-count.ensures.cells (is_line_last (s.row.last ++ run) v h (record {
      parted_is = iw.parted_is;
      wide_is = iw.wide_is;
      pieces_have_cells = iw.pieces_have_cells;
      join_within = iw.join_within;
      needed = rw c.drop_point.ensures (omega arith);
    }) (omega (arith, c.requires.room, c.push_plain-count.ensures.prefix)))

pub push_plain-count-requires-clause-no_title : goal.push_plain-count-requires-clause-no_title
push_plain-count-requires-clause-no_title c = grind (arith, common_steps)

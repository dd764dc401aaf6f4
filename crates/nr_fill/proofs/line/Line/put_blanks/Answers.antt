use Rattle.std.proofs.Common.{◌≤◌, false, ap, sym, ◌∙◌, arith}
use Rattle.std.proofs.lemmas.List.{length-take, take-take}
use Rattle.nr_fill.specs.Line.{Lined}
use Rattle.nr_fill.specs.Piece.{Collected, ended, in_word, line_cells, text_cells}
use Rattle.nr_fill.specs.Runs.{blanks_after}
use Rattle.nr_fill.proofs.BlankRuns.{add_blanks-run}
use Rattle.nr_fill.proofs.Measures.{measured_blanks, text_cells-ended, text_cells-with_word}
use Rattle.nr_fill.proofs.line.Line.put_blanks.Goals as goal

pub push_blanks-requires-clause-room : goal.push_blanks-requires-clause-room
push_blanks-requires-clause-room c =
    let first = text_cells-with_word c.args.margins c.args.self.now.collected in
    let second = text_cells-ended c.open_word.new.self.collected in
    let ended = ap (λ (v : Lined). text_cells v.collected) c.end_piece.ensures in
    let ended_limit = ap (λ (v : Lined). v.limit) c.end_piece.ensures in
    let opened = ap (λ (v : Lined). text_cells v.collected) c.open_word.ensures.opened in
    let limit = ap (λ (v : Lined). v.limit) c.open_word.ensures.opened in
    let own = ap (λ (v : Lined). v.limit) c.self.view_is in
    omega (arith, c.count_blanks-count.ensures.prefix, length-take c.min.result c.args.bytes.now, c.text_measure.ensures.value, c.text_measure.ensures.within)

pub returns-clause-prefix : goal.returns-clause-prefix
returns-clause-prefix c = omega (arith, c.count_blanks-count.ensures.prefix, length-take c.min.result c.args.bytes.now)

pub returns-clause-blanks : goal.returns-clause-blanks
returns-clause-blanks c =
    let m = c.min.result in
    let count = c.count_blanks-count.result in
    let short : count ≤ m = omega (arith, c.count_blanks-count.ensures.prefix, length-take m c.args.bytes.now) in
    sym (take-take count m c.args.bytes.now short) ∙ c.count_blanks-count.ensures.blanks

pub returns-clause-cells : goal.returns-clause-cells
returns-clause-cells c =
    let margins = c.args.margins in
    let now = c.args.self.now in
    let count = c.count_blanks-count.result in
    c.push_blanks.ensures
    ∙ ap (λ (v : Lined). record v { collected = record (in_word (blanks_after count) v.collected) { sentence = false } })
    (c.end_piece.ensures ∙ ap (λ (v : Lined). record v { collected = in_word ended v.collected }) c.open_word.ensures.opened)
    ∙ ap (λ (k : Collected). record now { collected = k }) (sym (add_blanks-run margins count now.collected (omega (arith, c.if-count-eq0.false))))

pub returns-clause-within : goal.returns-clause-within
returns-clause-within c = λ some.
    let measured = measured_blanks c.args.margins c.count_blanks-count.result c.args.self.now.collected some in
    let cells = ap (λ (v : Lined). line_cells v.collected) (returns-clause-cells c) in
    let limit = ap (λ (v : Lined). v.limit) (returns-clause-cells c) in
    let own = ap (λ (v : Lined). v.limit) c.self.view_is in
    omega (arith, c.count_blanks-count.ensures.prefix, length-take c.min.result c.args.bytes.now, c.text_measure.ensures.value, c.text_measure.ensures.within)

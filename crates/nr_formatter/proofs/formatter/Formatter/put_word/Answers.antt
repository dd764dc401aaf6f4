use Rattle.std.proofs.Common.{ap, arith}
use Rattle.nr_fill.specs.Line.{Lined}
use Rattle.nr_fill.specs.Piece.{line_cells}
use Rattle.nr_formatter.proofs.WordsAtOnce.{puts_word}
use Rattle.nr_formatter.proofs.formatter.Formatter.put_word.Goals as goal

pub returns-then-run : goal.returns-then-run
returns-then-run c =
    let run = c.put_word-run in
    let f = c.args.self.now in
    let word = rw c.requires at (run.ensures.word c.if-run.true) in
    let ends = rw c.requires at (run.ensures.ends c.if-run.true) in
    let within = run.ensures.within ends.some in
    let cells = ap (λ (v : Lined). line_cells v.collected) word in
    let limit = ap (λ (v : Lined). v.limit) word in
    puts_word run.result.count c.args.bytes.now f run.ensures.prefix run.ensures.plain ends (omega (arith, within)) (record f { line = run.new.self }) c.flow_after.new.self c.flow_after.result
    (ap (λ (v : Lined). record f { line = v }) word) c.flow_after.ensures

use Rattle.std.proofs.Common.{◌+◌, ◌∙◌, refl, ap, sym, arith}
use Rattle.std.specs.Prelude.{slice_index}
use Rattle.nr_formatter.specs.Many.Runs.{is_in_line}
use Rattle.nr_formatter.proofs.CellBytesAtOnce.{byte_taken, line_byte, puts_one}
use Rattle.nr_formatter.proofs.formatter.Formatter.add_bytes.Goals as goal

pub loop-byte-preserved : goal.loop-byte-preserved
loop-byte-preserved c =
    let f = c.loop-byte.self in
    let g = c.add_byte.new.self in
    let i = c.loop-byte.byte-index in
    let b = slice_index c.args.bytes.now i in
    let goes = sym c.if-not-goes_to_word.ensures in
    let taken = byte_taken b f g c.add_byte.result c.loop-byte.invariant.line goes c.add_byte.ensures.result c.add_byte.ensures.ok (sym c.if-is_err.ensures.value) in
    record {
      count = ap (λ n. n + 1) c.loop-byte.invariant.count;
      line = ap is_in_line taken.1 ∙ line_byte b f c.loop-byte.invariant.line;
      puts = puts_one i b c.args.bytes.now c.args.self.now f g (omega (arith, c.loop-byte-test.true)) refl c.loop-byte.invariant.puts taken.0 taken.1;
    }

use Rattle.std.proofs.Common.{◌≡◌, ◌+◌, ◌<◌, length, take, sym, ◌∙◌, arith}
use Rattle.fast_input.proofs.DroppedLines.{dropped_reads}
use Rattle.fast_input.proofs.MacroLines.{taken_within, line_read, line_paid}
use Rattle.fast_input.proofs.StretchesRead.{holds_past}
use Rattle.fast_input.proofs.dropped_lines.read_dropped_line.Goals as goal

pub returns-clause-read : goal.returns-clause-read
returns-clause-read g c = λ k holds.
    let bs = c.window-bytes.result.now in
    let near = c.min.result in
    let count = c.text_bytes-count.result in
    let v = c.args.store.now in
    let r = c.args.reader.now in
    let still : r.burst ≡ 0 = omega (arith, c.if-reader-gt0.false) in
    let less : count < length (take near bs) = omega (arith, c.text_bytes-count.ensures.prefix, c.if-count-near.false) in
    let reads = dropped_reads count (take near bs) v r (sym c.is_dropping.ensures ∙ c.if-not-is_dropping.false) less c.text_bytes-count.ensures.plain c.if-near-count-ne10.false in
    let within = taken_within (count + 1) (count + 1) near bs v v r _ still reads in
    let some : 0 < length bs = omega (arith, within) in
    let next = c.window-bytes.ensures.next some k holds in
    let there = holds_past (count + 1) bs k c.args.place.now c.pass_run.new.self _ _ (omega arith) within (c.window-bytes.ensures.unseen some) next holds c.skip.ensures.skips c.pass_run.ensures in
    line_read (count + 1) (count + 1) near bs v v r _ still reads (c.window-bytes.ensures.levels some) k c.pass_run.new.self _ next there

pub returns-clause-pays : goal.returns-clause-pays
returns-clause-pays g c =
    let bs = c.window-bytes.result.now in
    let near = c.min.result in
    let count = c.text_bytes-count.result in
    let v = c.args.store.now in
    let r = c.args.reader.now in
    let still : r.burst ≡ 0 = omega (arith, c.if-reader-gt0.false) in
    let less : count < length (take near bs) = omega (arith, c.text_bytes-count.ensures.prefix, c.if-count-near.false) in
    let reads = dropped_reads count (take near bs) v r (sym c.is_dropping.ensures ∙ c.if-not-is_dropping.false) less c.text_bytes-count.ensures.plain c.if-near-count-ne10.false in
    line_paid (count + 1) (count + 1) near bs v v r _ still reads (omega arith) c.args.place.now c.pass_run.new.self c.pass_run.ensures

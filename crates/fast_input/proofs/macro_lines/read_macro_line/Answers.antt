use Rattle.std.proofs.Common.{◌≡◌, ◌<◌, length, take, sym, arith}
use Rattle.std.proofs.lemmas.Bool.{eqb-false}
use Rattle.std.proofs.lemmas.List.{length-take}
use Rattle.fast_input.proofs.MacroLines.{taken_within, none_read, none_paid, line_read, line_paid}
use Rattle.fast_input.proofs.StretchesRead.{holds_past}
use Rattle.fast_input.proofs.macro_lines.read_macro_line.Goals as goal

pub returns-then-run-eq0-clause-read : goal.returns-then-run-eq0-clause-read
returns-then-run-eq0-clause-read g c = λ k holds.
    let bs = c.window-bytes.result.now in
    let passed = c.read_arguments-passed in
    let v = c.args.store.now in
    let r = c.args.reader.now in
    let still : r.burst ≡ 0 = omega (arith, c.if-reader-gt0.false) in
    let some : 0 < length bs = omega (arith, eqb-false (length (take c.min.result bs)) 0 (sym c.if-is_empty.ensures), length-take c.min.result bs) in
    none_read passed.result.moves passed.result.taken c.min.result bs v passed.new.store r passed.new.reader still passed.ensures.reads (c.window-bytes.ensures.levels some) c.if-run-eq0.true k c.args.place.now _
    (c.window-bytes.ensures.next some k holds) holds

pub returns-then-run-eq0-clause-pays : goal.returns-then-run-eq0-clause-pays
returns-then-run-eq0-clause-pays g c =
    let bs = c.window-bytes.result.now in
    let passed = c.read_arguments-passed in
    let v = c.args.store.now in
    let r = c.args.reader.now in
    let still : r.burst ≡ 0 = omega (arith, c.if-reader-gt0.false) in
    none_paid passed.result.moves passed.result.taken c.min.result bs v passed.new.store r passed.new.reader still passed.ensures.reads c.if-run-eq0.true c.args.place.now

pub returns-clause-read : goal.returns-clause-read
returns-clause-read g c = λ k holds.
    let bs = c.window-bytes.result.now in
    let passed = c.read_arguments-passed in
    let t = passed.result.taken in
    let v = c.args.store.now in
    let r = c.args.reader.now in
    let still : r.burst ≡ 0 = omega (arith, c.if-reader-gt0.false) in
    let many : 0 < t = omega (arith, c.if-run-eq0.false) in
    let within = taken_within passed.result.moves t c.min.result bs v passed.new.store r passed.new.reader still passed.ensures.reads in
    let some : 0 < length bs = omega (arith, many, within) in
    let next = c.window-bytes.ensures.next some k holds in
    let there = holds_past t bs k c.args.place.now c.pass_run.new.self _ _ many within (c.window-bytes.ensures.unseen some) next holds c.skip.ensures.skips c.pass_run.ensures in
    line_read passed.result.moves t c.min.result bs v passed.new.store r passed.new.reader still passed.ensures.reads (c.window-bytes.ensures.levels some) k c.pass_run.new.self _ next there

pub returns-clause-pays : goal.returns-clause-pays
returns-clause-pays g c =
    let bs = c.window-bytes.result.now in
    let passed = c.read_arguments-passed in
    let t = passed.result.taken in
    let v = c.args.store.now in
    let r = c.args.reader.now in
    let still : r.burst ≡ 0 = omega (arith, c.if-reader-gt0.false) in
    let many : 0 < t = omega (arith, c.if-run-eq0.false) in
    line_paid passed.result.moves t c.min.result bs v passed.new.store r passed.new.reader still passed.ensures.reads many c.args.place.now c.pass_run.new.self c.pass_run.ensures

use Rattle.std.proofs.lemmas.Grind.{common_steps}
use Rattle.std.proofs.Common.{◌-◌, ◌<◌, ◌≤◌, length, map, refl, arith, ap}
use Rattle.std.specs.Prelude.{slice_index}
use Rattle.std.proofs.lemmas.List.{length-map}
use Rattle.nr_reading.specs.declared.next_item.NextItem.TheVariants as next_items
use Rattle.nr_reading.specs.Many.Runs.{spot}
use Rattle.fast_input.proofs.StretchesRead.{none_taken, source_read, source_pays, holds_past}
use Rattle.fast_input.proofs.Longest.{source_longest}
use Rattle.fast_input.proofs.runs.read_source.Goals as goal

pub returns-then-run-eq0-clause-read : goal.returns-then-run-eq0-clause-read
returns-then-run-eq0-clause-read g c = λ k holds.
    let run = c.take_in_run-run.result in
    let bs = c.window-bytes.result.now in
    let r = c.args.reader.now in
    let p = spot run c.take_in_run-run.new.self in
    none_taken bs c.args.store.now k r run.moves p c.args.place.now _ c.window-bytes.ensures.levels (λ some. c.window-bytes.ensures.next some k holds) c.if-run-eq0.true c.take_in_run-run.ensures.taken_in holds

pub returns-then-run-eq0-clause-longest : goal.returns-then-run-eq0-clause-longest
returns-then-run-eq0-clause-longest g c = λ none unseen.
    let run = c.take_in_run-run.result in
    let bs = c.window-bytes.result.now in
    let r = c.args.reader.now in
    let p = spot run c.take_in_run-run.new.self in
    source_longest (g.R.Source.at_hand c.args.source.now) bs run.moves c.args.place.now c.args.place.now r (record r { half = p.half }) c.args.store.now p
    (c.window-bytes.ensures.all unseen none) c.take_in_run-run.ensures.taken_in c.take_in_run-run.ensures.longest refl (omega (arith, c.if-run-eq0.true))

pub returns-clause-read : goal.returns-clause-read
returns-clause-read g c = λ k holds.
    let run = c.take_in_run-run.result in
    let bs = c.window-bytes.result.now in
    let r = c.args.reader.now in
    let p = spot run c.take_in_run-run.new.self in
    let taken_in = c.take_in_run-run.ensures.taken_in in
    let many : 0 < run.taken = omega (arith, c.if-run-eq0.false) in
    let prefix : run.taken ≤ length bs = omega (arith, taken_in.within, length-map bs next_items.Byte) in
    let some : 0 < length bs = omega (arith, many, prefix) in
    let next = c.window-bytes.ensures.next some k holds in
    let there = holds_past run.taken bs k c.args.place.now c.pass_run.new.self _ _ many prefix (c.window-bytes.ensures.unseen some) next holds c.skip.ensures.skips c.pass_run.ensures in
    source_read c.args.store.now k r bs (c.window-bytes.ensures.levels some) next run.moves p c.pass_run.new.self _ many taken_in there

pub returns-clause-pays : goal.returns-clause-pays
returns-clause-pays g c =
    let run = c.take_in_run-run.result in
    let bs = c.window-bytes.result.now in
    let r = c.args.reader.now in
    let p = spot run c.take_in_run-run.new.self in
    source_pays run.moves (map next_items.Byte bs) c.args.store.now c.args.place.now r p c.take_in_run-run.ensures.taken_in (slice_index bs (run.taken - 1)) c.pass_run.new.self
    (omega (arith, c.if-run-eq0.false)) c.pass_run.ensures

pub returns-clause-longest : goal.returns-clause-longest
returns-clause-longest g c = λ none unseen.
    let run = c.take_in_run-run.result in
    let bs = c.window-bytes.result.now in
    let r = c.args.reader.now in
    let p = spot run c.take_in_run-run.new.self in
    source_longest (g.R.Source.at_hand c.args.source.now) bs run.moves c.args.place.now c.pass_run.new.self r (record r { half = p.half; burst = 0 }) c.args.store.now p
    (c.window-bytes.ensures.all unseen none) c.take_in_run-run.ensures.taken_in c.take_in_run-run.ensures.longest refl (ap (λ q. q.taken) c.pass_run.ensures)

pub bounds-bytes-run : goal.bounds-bytes-run
bounds-bytes-run g c = grind (arith, common_steps)

pub pass_run-requires-clause-room : goal.pass_run-requires-clause-room
pass_run-requires-clause-room g c = grind (arith, common_steps)

pub skip-requires : goal.skip-requires
skip-requires g c = grind (arith, common_steps)

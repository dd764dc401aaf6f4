use Rattle.std.proofs.lemmas.Grind.{common_steps}
use Rattle.std.specs.Prelude.{slice_index}
use Rattle.std.proofs.Common.{◌≡◌, ◌+◌, ◌-◌, ◌<◌, ◌≤◌, length, length-drop, take, drop, map, refl, ap, subst, arith}
use Rattle.std.proofs.lemmas.List.{length-map, take_all}
use Rattle.nr_reading.specs.declared.next_item.NextItem.TheVariants as next_items
use Rattle.nr_reading.specs.Many.Runs.{HasTakenIn, spot}
use Rattle.nr_reading.specs.declared.half.Half.{Half}
use Rattle.std.proofs.Common.{Ok}
use Rattle.nr_reading.specs.declared.mode.PendingAct.TheVariants as pending_acts
use Rattle.nr_input.proofs.LimitsStay.{act_stays}
use Rattle.fast_input.proofs.ControlLines.{all_read, all_paid}
use Rattle.fast_input.proofs.StretchesRead.{holds_past}
use Rattle.fast_input.proofs.control_lines.read_named_line.Goals as goal

pub returns-clause-read : goal.returns-clause-read
returns-clause-read g c = λ k holds.
    let bs = c.window-bytes.result.now in
    let r = c.args.reader.now in
    let h1 = c.take_in_name.new.self in
    let e = c.seek-emitted.result in
    let r2 = c.seek-emitted.new.self in
    let line = c.take_in_after_name-line.result in
    let h3 = c.take_in_after_name-line.new.half in
    let m = c.in-Some.name.moves in
    let t = c.in-Some.name.taken in
    let name = c.in-Some.ensures.taken_in in
    let long : t ≤ length bs = omega (arith, name.within, length-map bs next_items.Byte) in
    let some : 0 < length bs = omega (arith, long, c.in-Some.ensures.some) in
    let next = c.window-bytes.ensures.next some k holds in
    let rest : take (length bs - t) (drop t bs) ≡ drop t bs = take_all (length bs - t) (drop t bs) (omega (arith, length-drop t bs)) in
    let prefix : t + line.taken ≤ length bs = let within = c.take_in_after_name-line.ensures.within in omega (arith, within, long, ap length rest, length-drop t bs) in
    let many : 0 < t + line.taken = omega (arith, c.in-Some.ensures.some) in
    let there = holds_past (t + line.taken) bs k c.args.place.now c.pass_run.new.self _ _ many prefix (c.window-bytes.ensures.unseen some) next holds c.skip.ensures.skips c.pass_run.ensures in
    all_read c.args.store.now c.seek-emitted.new.store r r2 bs m t h1 e name c.in-Some.ensures.some c.in-Some.ensures.pending_act c.seek-emitted.ensures k (c.window-bytes.ensures.levels some) next long line h3
    (λ silent. subst (λ ys. HasTakenIn line.moves (map next_items.Byte ys) r2.half (spot line h3)) rest (c.take_in_after_name-line.ensures.taken_in silent))
    c.take_in_after_name-line.ensures.left c.take_in_after_name-line.ensures.none c.pass_run.new.self _ there

pub returns-clause-pays : goal.returns-clause-pays
returns-clause-pays g c =
    let bs = c.window-bytes.result.now in
    let r = c.args.reader.now in
    let h1 = c.take_in_name.new.self in
    let e = c.seek-emitted.result in
    let r2 = c.seek-emitted.new.self in
    let line = c.take_in_after_name-line.result in
    let h3 = c.take_in_after_name-line.new.half in
    let m = c.in-Some.name.moves in
    let t = c.in-Some.name.taken in
    let name = c.in-Some.ensures.taken_in in
    let rest : take (length bs - t) (drop t bs) ≡ drop t bs = take_all (length bs - t) (drop t bs) (omega (arith, length-drop t bs)) in
    all_paid c.args.store.now c.seek-emitted.new.store r r2 bs m t h1 e name c.in-Some.ensures.some c.in-Some.ensures.pending_act c.seek-emitted.ensures line h3
    (λ silent. subst (λ ys. HasTakenIn line.moves (map next_items.Byte ys) r2.half (spot line h3)) rest (c.take_in_after_name-line.ensures.taken_in silent))
    c.take_in_after_name-line.ensures.left c.take_in_after_name-line.ensures.none (slice_index bs (t + line.taken - 1)) c.args.place.now c.pass_run.new.self c.pass_run.ensures

pub returns-in_default-take_in_name-clause-reader : goal.returns-in_default-take_in_name-clause-reader
returns-in_default-take_in_name-clause-reader g c = λ none. ap (λ (h : Half). record c.args.reader.now { half = h }) (c.in_default-take_in_name.ensures.left refl)

pub returns-in_default-take_in_name-clause-limits : goal.returns-in_default-take_in_name-clause-limits
returns-in_default-take_in_name-clause-limits g c = refl

pub returns-clause-limits : goal.returns-clause-limits
returns-clause-limits g c =
    let r = c.args.reader.now in
    act_stays c.args.store.now c.seek-emitted.new.store (record r { half = c.take_in_name.new.self; burst = 0 }) c.seek-emitted.new.self pending_acts.Seek (Ok c.seek-emitted.result) c.seek-emitted.ensures

pub slice_bounds-take_in_after_name-count : goal.slice_bounds-take_in_after_name-count
slice_bounds-take_in_after_name-count g c = grind (arith, common_steps)

pub slice_bounds-take_in_after_name-start : goal.slice_bounds-take_in_after_name-start
slice_bounds-take_in_after_name-start g c = grind (arith, common_steps)

pub bounds-bytes-taken : goal.bounds-bytes-taken
bounds-bytes-taken g c = grind (arith, common_steps)

pub pass_run-requires-clause-room : goal.pass_run-requires-clause-room
pass_run-requires-clause-room g c = grind (arith, common_steps)

pub skip-requires : goal.skip-requires
skip-requires g c = grind (arith, common_steps)

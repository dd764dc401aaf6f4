use Rattle.std.specs.Prelude.{slice_get}
use Rattle.std.proofs.Common.{map, subst, ap, ◌∙◌, arith, refl}
use Rattle.nr_store.specs.Windows.{rest_of}
use Rattle.nr_reading.specs.Many.Runs.{HasTakenIn, spot}
use Rattle.nr_input.specs.Place.{element_item}
use Rattle.nr_store.specs.Store.{Stored}
use Rattle.nr_input.specs.Limits.{limits_of}
use Rattle.fast_input.proofs.LimitsStay.{left_times-limits}
use Rattle.fast_input.proofs.StretchesRead.{level_read, level_pays, taken-le}
use Rattle.fast_input.proofs.Longest.{level_longest}
use Rattle.fast_input.proofs.runs.read_level.Goals as goal

pub overflow_cast-run : goal.overflow_cast-run
overflow_cast-run g c =
    let run = c.take_in_level-run.result in
    omega (arith, taken-le run.moves _ c.args.reader.now.half (spot run c.take_in_level-run.new.half) c.take_in_level-run.ensures.taken_in, c.take_in_level-run.ensures.few)

pub returns-clause-within : goal.returns-clause-within
returns-clause-within g c =
    let run = c.take_in_level-run.result in
    omega (arith, taken-le run.moves _ c.args.reader.now.half (spot run c.take_in_level-run.new.half) c.take_in_level-run.ensures.taken_in, c.take_in_level-run.ensures.few)

pub returns-clause-read : goal.returns-clause-read
returns-clause-read g c = λ k q supply holds.
    let run = c.take_in_level-run.result in
    let r = c.args.reader.now in
    let p = spot run c.take_in_level-run.new.half in
    let taken_in : HasTakenIn run.moves (map element_item (rest_of c.args.store.now.levels)) r.half p = subst (λ fs. HasTakenIn run.moves fs r.half p) (ap (map element_item) c.rest.ensures) c.take_in_level-run.ensures.taken_in in
    rw c.skip.ensures (level_read c.args.store.now k r q supply run.moves p taken_in holds)

pub returns-clause-pays : goal.returns-clause-pays
returns-clause-pays g c = λ q.
    let run = c.take_in_level-run.result in
    let r = c.args.reader.now in
    let p = spot run c.take_in_level-run.new.half in
    let taken_in : HasTakenIn run.moves (map element_item (rest_of c.args.store.now.levels)) r.half p = subst (λ fs. HasTakenIn run.moves fs r.half p) (ap (map element_item) c.rest.ensures) c.take_in_level-run.ensures.taken_in in
    level_pays run.moves c.args.store.now c.skip.new.self q r p taken_in c.skip.ensures

pub returns-clause-longest : goal.returns-clause-longest
returns-clause-longest g c =
    let run = c.take_in_level-run.result in
    let r = c.args.reader.now in
    let p = spot run c.take_in_level-run.new.half in
    let stretch = ap (map element_item) c.rest.ensures in
    let taken_in : HasTakenIn run.moves (map element_item (rest_of c.args.store.now.levels)) r.half p = subst (λ fs. HasTakenIn run.moves fs r.half p) stretch c.take_in_level-run.ensures.taken_in in
    level_longest run.moves c.args.store.now c.skip.new.self r (record r { half = p.half }) p taken_in
    (λ quiet pending_act few byte is. c.take_in_level-run.ensures.longest quiet pending_act few byte (ap (λ fs. slice_get fs run.taken) stretch ∙ is)) refl c.skip.ensures

pub returns-clause-limits : goal.returns-clause-limits
returns-clause-limits g c =
    let v = c.args.store.now in
    let r = c.args.reader.now in
    ap (λ (w : Stored _). limits_of w r) c.skip.ensures ∙ left_times-limits c.take_in_level-run.result.taken v r

use Rattle.std.proofs.lemmas.Grind.{common_steps}
use Rattle.std.proofs.Common.{map, subst, ap, ◌∙◌, arith}
use Rattle.nr_store.specs.Store.{Stored}
use Rattle.nr_store.specs.Windows.{rest_of}
use Rattle.nr_reading.specs.Many.Passing.{quiet}
use Rattle.nr_reading.specs.Many.Runs.{HasTakenIn}
use Rattle.nr_input.specs.Place.{element_item}
use Rattle.nr_input.specs.Limits.{limits_of}
use Rattle.fast_input.proofs.LimitsStay.{left_times-limits}
use Rattle.fast_input.proofs.StretchesRead.{level_read, level_pays}
use Rattle.fast_input.proofs.level_lines.read_name.Goals as goal

pub returns-clause-read : goal.returns-clause-read
returns-clause-read g c = λ k p supply holds.
    let v = c.args.store.now in
    let r = c.args.reader.now in
    let name = c.in-Some.name in
    let named = quiet name.taken c.take_in_name.new.half in
    let taken_in : HasTakenIn name.moves (map element_item (rest_of v.levels)) r.half named = subst (λ fs. HasTakenIn name.moves fs r.half named) (ap (map element_item) c.rest.ensures) c.in-Some.ensures.taken_in in
    rw c.skip.ensures (level_read v k r p supply name.moves named taken_in holds)

pub returns-clause-pays : goal.returns-clause-pays
returns-clause-pays g c = λ p.
    let v = c.args.store.now in
    let r = c.args.reader.now in
    let name = c.in-Some.name in
    let named = quiet name.taken c.take_in_name.new.half in
    let taken_in : HasTakenIn name.moves (map element_item (rest_of v.levels)) r.half named = subst (λ fs. HasTakenIn name.moves fs r.half named) (ap (map element_item) c.rest.ensures) c.in-Some.ensures.taken_in in
    level_pays name.moves v c.skip.new.self p r named taken_in c.skip.ensures

pub returns-clause-limits : goal.returns-clause-limits
returns-clause-limits g c =
    let v = c.args.store.now in
    let r = c.args.reader.now in
    ap (λ (w : Stored _). limits_of w r) c.skip.ensures ∙ left_times-limits c.in-Some.name.taken v r

pub skip-requires : goal.skip-requires
skip-requires g c = grind (arith, common_steps)

use Rattle.std.specs.Prelude.{slice_get}
use Rattle.std.proofs.Common.{map, sym, subst, ap, ◌∙◌}
use Rattle.nr_store.specs.Windows.{elements_in}
use Rattle.nr_store.specs.declared.shown.Rest.{Rest}
use Rattle.nr_reading.specs.Many.Runs.{HasTakenIn, spot}
use Rattle.nr_input.specs.Place.{element_item}
use Rattle.fast_input.proofs.StretchesRead.{bytes_are}
use Rattle.fast_input.proofs.runs.take_in_level.Goals as goal

pub returns-in-Bytes-clause-taken_in : goal.returns-in-Bytes-clause-taken_in
returns-in-Bytes-clause-taken_in c =
    let run = c.take_in_run-in-Bytes.result in
    let stretch = bytes_are c.in-Bytes.bytes.now ∙ ap (λ (rest : Rest). map element_item (elements_in rest)) (sym c.in-Bytes.is) in
    subst (λ fs. HasTakenIn run.moves fs c.args.half.now (spot run c.take_in_run-in-Bytes.new.self)) stretch c.take_in_run-in-Bytes.ensures.taken_in

pub returns-in-Bytes-clause-longest : goal.returns-in-Bytes-clause-longest
returns-in-Bytes-clause-longest c = λ quiet pending_act few byte is.
    let run = c.take_in_run-in-Bytes.result in
    let stretch = bytes_are c.in-Bytes.bytes.now ∙ ap (λ (rest : Rest). map element_item (elements_in rest)) (sym c.in-Bytes.is) in
    c.take_in_run-in-Bytes.ensures.longest quiet pending_act few byte (ap (λ fs. slice_get fs run.taken) stretch ∙ is)

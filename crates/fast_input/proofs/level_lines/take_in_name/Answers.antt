use Rattle.std.specs.Prelude.{IfSome}
use Rattle.std.proofs.Common.{map, sym, subst, ap, ◌∙◌}
use Rattle.nr_store.specs.Windows.{elements_in}
use Rattle.nr_store.specs.declared.shown.Rest.{Rest}
use Rattle.nr_reading.specs.Many.Passing.{quiet}
use Rattle.nr_reading.specs.Many.Runs.{HasTakenIn}
use Rattle.nr_input.specs.Place.{element_item}
use Rattle.fast_input.proofs.StretchesRead.{bytes_are}
use Rattle.fast_input.proofs.level_lines.take_in_name.Goals as goal

pub returns-in-Bytes-clause-taken_in : goal.returns-in-Bytes-clause-taken_in
returns-in-Bytes-clause-taken_in c =
    let stretch = bytes_are c.in-Bytes.bytes.now ∙ ap (λ (rest : Rest). map element_item (elements_in rest)) (sym c.in-Bytes.is) in
    subst (λ fs. IfSome c.take_in_name-in-Bytes.result (λ name. HasTakenIn name.moves fs c.args.half.now (quiet name.taken c.take_in_name-in-Bytes.new.self))) stretch c.take_in_name-in-Bytes.ensures.taken_in

use Rattle.std.proofs.lemmas.Grind.{common_steps}
use Rattle.std.proofs.Common.{map, sym, ap, ◌∙◌, arith}
use Rattle.nr_store.specs.Windows.{elements_in}
use Rattle.nr_store.specs.declared.shown.Rest.{Rest}
use Rattle.nr_input.specs.Place.{element_item}
use Rattle.fast_input.proofs.StretchesRead.{bytes_are}
use Rattle.fast_input.proofs.gathering.gather.Goals as goal

pub gather_stretch-requires-in-Bytes-clause-stretch : goal.gather_stretch-requires-in-Bytes-clause-stretch
gather_stretch-requires-in-Bytes-clause-stretch g c =
    bytes_are c.in-Bytes.bytes.now ∙ ap (λ (rest : Rest). map element_item (elements_in rest)) (sym c.in-Bytes.is) ∙ ap (map element_item) c.rest.ensures

pub returns-in-Text-clause-gathered : goal.returns-in-Text-clause-gathered
returns-in-Text-clause-gathered g c = grind (arith, common_steps)

pub returns-in-Bytes-clause-gathered : goal.returns-in-Bytes-clause-gathered
returns-in-Bytes-clause-gathered g c = grind (arith, common_steps)

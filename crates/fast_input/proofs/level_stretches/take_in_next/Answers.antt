use Rattle.std.proofs.lemmas.Grind.{common_steps}
use Rattle.std.proofs.Common.{map, sym, ap, ◌∙◌, arith}
use Rattle.nr_store.specs.Windows.{elements_in}
use Rattle.nr_store.specs.declared.shown.Rest.{Rest}
use Rattle.nr_input.specs.Place.{element_item}
use Rattle.fast_input.proofs.StretchesRead.{bytes_are}
use Rattle.fast_input.proofs.level_stretches.take_in_next.Goals as goal

pub take_in_stretches-requires-in-Bytes : goal.take_in_stretches-requires-in-Bytes
take_in_stretches-requires-in-Bytes g c = record {
  stretch = bytes_are c.in-Bytes.bytes.now ∙ ap (λ (rest : Rest). map element_item (elements_in rest)) (sym c.in-Bytes.is) ∙ ap (map element_item) c.rest.ensures;
}

pub returns-then-is_empty-clause-none : goal.returns-then-is_empty-clause-none
returns-then-is_empty-clause-none g c = grind (arith, common_steps)

pub returns-then-is_empty-2-clause-none : goal.returns-then-is_empty-2-clause-none
returns-then-is_empty-2-clause-none g c = grind (arith, common_steps)

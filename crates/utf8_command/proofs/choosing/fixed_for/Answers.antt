use Rattle.std.proofs.Common.{◌≡◌, Option, Ok, sym, subst}
use Rattle.nr_units.specs.Source.{Supply}
use Rattle.nr_units.specs.declared.source.Fault.{Fault}
use Rattle.utf8_converter.specs.Choosing.{Chooses}
use Rattle.utf8_command.proofs.Choices.{next-some}
use Rattle.utf8_command.proofs.choosing.fixed_for.Goals as goal

pub unreachable-requires : goal.unreachable-requires
unreachable-requires c = next-some (sym c.in-Err.ensures.failures)

pub returns : goal.returns
returns c =
    let chosen = subst (λ (s : Option Supply). Chooses {E = Fault} s (Ok c.in-Ok.table)) c.over-text.ensures.supply c.in-Ok.ensures.value in
    chosen.0

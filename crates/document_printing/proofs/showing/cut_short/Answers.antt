use Rattle.std.proofs.Common.{◌≡◌, refl}
use Rattle.document_printing.specs.declared.setup.PageEnd.{PageEnd}
use Rattle.document_printing.specs.declared.setup.PageEnd.TheVariants as outcomes
use Rattle.document_printing.specs.Showing as specs
use Rattle.document_printing.proofs.showing.cut_short.Goals as goal

others : (o : PageEnd) → (o ≡ outcomes.ReadFault → ⊥) → (o ≡ outcomes.TooLong → ⊥) → outcomes.WriteFault ≡ specs.cut_short o
others outcomes.Done read long = refl
others (outcomes.Limit which at) read long = refl
others outcomes.NoRoom read long = refl
others outcomes.ReadFault read long = absurd (read refl)
others outcomes.TooLong read long = absurd (long refl)
others outcomes.WriteFault read long = refl

pub returns-in_default : goal.returns-in_default
returns-in_default c = others c.args.outcome c.in_default.not-ReadFault c.in_default.not-TooLong

use Rattle.tbl_command.specs.declared.arguments.Which.TheVariants.{Line}
use Rattle.tbl_command.proofs.arguments.read_option.Goals as goal

pub returns-in_default : goal.returns-in_default
returns-in_default c = (λ begins. c.if-starts_with.ensures.cases begins.0 begins.1, λ begins. c.in_default.ensures.none Line begins.0 begins.1)

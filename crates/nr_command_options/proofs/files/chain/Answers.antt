use Rattle.std.proofs.Common.{map, ◌∙◌}
use Rattle.nr_command_options.proofs.Completing.{chain_supply_start}
use Rattle.nr_command_options.proofs.files.chain.Goals as goal

pub returns-clause-supply : goal.returns-clause-supply
returns-clause-supply g c = c.over.ensures.supply ∙ chain_supply_start (map g.F.Source.supply c.args.files.now)

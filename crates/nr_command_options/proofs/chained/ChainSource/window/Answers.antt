use Rattle.std.proofs.lemmas.Grind.{common_steps}
use Rattle.std.proofs.Common.{subst, arith}
use Rattle.nr_units.specs.Source.{Offers}
use Rattle.nr_command_options.proofs.Chaining.{chain_offers}
use Rattle.nr_command_options.proofs.chained.ChainSource.window.Goals as goal

pub returns-in-Some-clause-offers : goal.returns-in-Some-clause-offers
returns-in-Some-clause-offers g c =
    let chain = c.args.self.now in
    let lookup = c.in-Some.ensures.lookup in
    chain_offers g.F.Source.supply chain.files.now chain.at chain.line_open c.in-Some.file.now c.window.result.now lookup.3.0
    (subst (λ (file : g.row.F.Denot). Offers (g.F.Source.supply file) c.window.result.now) lookup.1 c.window.ensures.offers)

pub returns-in-Some-clause-value : goal.returns-in-Some-clause-value
returns-in-Some-clause-value g c = grind (arith, common_steps)

pub returns-in-None-clause-value : goal.returns-in-None-clause-value
returns-in-None-clause-value g c = grind (arith, common_steps)

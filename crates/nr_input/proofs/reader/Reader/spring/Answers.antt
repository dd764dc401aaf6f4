use Rattle.std.proofs.Common.{rules, true, Ok}
use Rattle.nr_input.proofs.Costs.{springing_springs}
use Rattle.nr_input.proofs.reader.Reader.spring.Goals as goal

pub returns-in-Ok-expand-clause-springs : goal.returns-in-Ok-expand-clause-springs
returns-in-Ok-expand-clause-springs g c = search rules

pub returns-in-Ok-expand-clause-pays : goal.returns-in-Ok-expand-clause-pays
returns-in-Ok-expand-clause-pays g c =
    let v = c.args.store.now in
    let r = c.args.self.now in
    springing_springs c.args.name c.args.mode v _ r _ (Ok true) (returns-in-Ok-expand-clause-springs g c)

use Rattle.std.proofs.Common.{[], Some, ◌∙◌, arith}
use Rattle.nr_machine.specs.State.{start}
use Rattle.nr_machine.specs.FirstBytes.{broken_off}
use Rattle.nr_machine.specs.Holding.{shape}
use Rattle.nr_engine.proofs.Starting.{starts, chosen_bound}
use Rattle.nr_engine.proofs.GoingOn.{new_limits, read_goes_on}
use Rattle.nr_engine.proofs.keeping.read_in.Goals as goal

pub read_all-requires-clause-bound : goal.read_all-requires-clause-bound
read_all-requires-clause-bound c =
    let new = c.clear.ensures in
    chosen_bound c.args.limits (shape c.clear.new.self) (shape c.choose.new.self) c.choose.new.moves new.is_new.formatter new.is_new.place c.in-Ok.ensures.chooses.stays c.in-Ok.ensures.bound

pub read_all-requires-clause-allowed : goal.read_all-requires-clause-allowed
read_all-requires-clause-allowed c = omega (arith, c.in-Ok.ensures.bound, c.moves-most.ensures.least)

pub returns-in-Ok : goal.returns-in-Ok
returns-in-Ok c =
    let b = c.args.limits in
    let supply = broken_off c.args.first.now in
    let s = start b c.args.options.now supply in
    let h = starts b c.args.options.now supply (shape c.clear.new.self) c.clear.ensures.is_new in
    let limits = c.read_all.ensures.limits ∙ (c.choose.ensures.limits ∙ new_limits b c.args.options.now (shape c.clear.new.self) c.clear.ensures.is_new) in
    read_goes_on b c.args.options.now c.args.first.now c.moves-most.result c.choose.new.moves (shape c.choose.new.self) (shape c.read_all.new.engine) c.read_all.result
    (c.in-Ok.ensures.chooses.chooses (Some supply) (Some []) s h) c.moves-most.ensures.value limits c.read_all.ensures.reads

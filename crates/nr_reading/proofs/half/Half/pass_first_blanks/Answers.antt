use Rattle.std.proofs.Common.{◌+◌, ◌-◌, refl, arith}
use Rattle.nr_reading.proofs.Stretches.{recount}
use Rattle.nr_reading.proofs.half.Half.pass_first_blanks.Goals as goal

pub returns-clause-leads : goal.returns-clause-leads
returns-clause-leads g c =
    let place = c.pass_blanks.result in
    recount (g.I.Items.next_items c.args.items.now) 0 0 place place (0 + (place - 0)) place c.args.self.now c.args.self.now (c.pass_blanks.ensures.leads 0) refl (omega arith)

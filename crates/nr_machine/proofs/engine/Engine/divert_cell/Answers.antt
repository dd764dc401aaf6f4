use Rattle.std.proofs.Common.{◌≡◌, rules, ap, ◌∙◌}
use Rattle.nr_formatter.specs.Access.{done}
use Rattle.nr_formatter.specs.Weights.{Falls}
use Rattle.nr_reading.specs.declared.event.Event.TheVariants as events
use Rattle.nr_formatter.proofs.Falling.{falls-then}
use Rattle.nr_machine.proofs.Lightening.{falls-cell}
use Rattle.nr_machine.specs.Holding.{shape}
use Rattle.nr_machine.specs.Limits.{limits_of}
use Rattle.nr_machine.proofs.LimitsStay.{formatter-limits}
use Rattle.nr_machine.proofs.engine.Engine.divert_cell.Goals as goal

pub returns-in-Ok : goal.returns-in-Ok
returns-in-Ok c =
    let e = c.args.self.now in
    let f = c.divert_cell.new.self in
    let event : f.event ≡ events.DivertedCell c.args.cell = rw c.in-Ok.ensures.ok c.requires in
    let falls : Falls 1 0 e.formatter (done f) = falls-then 0 0 1 0 e.formatter f (done f) c.in-Ok.ensures.falls (falls-cell c.args.cell f event) in
    record {
      works = record {
        comes = search rules;
        lightens = (rw (ap (λ x. x.formatter) c.push.ensures.rest) falls, ap (λ x. x.place) c.push.ensures.rest);
      };
      limits = ap limits_of c.push.ensures.rest ∙ formatter-limits (shape e) f c.divert_cell.ensures.limits;
    }

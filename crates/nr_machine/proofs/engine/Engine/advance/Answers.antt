use Rattle.std.proofs.Common.{refl, ◌∙◌}
use Rattle.nr_formatter.specs.Springing.{sprung}
use Rattle.nr_machine.specs.State.{plainly}
use Rattle.nr_machine.specs.Machine.{hear, work}
use Rattle.nr_machine.specs.Holding.{shape, at}
use Rattle.nr_machine.proofs.Moving.{moves_quietly, tells_quietly, moves_acts, tells_acts, limited_writes, stopped_writes}
use Rattle.nr_machine.proofs.NextMoves.{step-spring, kind-spring, step-hear, kind-hear, step-work, kind-work, kind_working}
use Rattle.nr_machine.proofs.engine.Engine.advance.Goals as goal

pub returns-in-Some-clause-moves : goal.returns-in-Some-clause-moves
returns-in-Some-clause-moves g c =
    let e = shape c.args.self.now in
    let name = c.in-Some.name in
    moves_quietly (plainly (sprung name)) e (shape c.spring.new.self) _ c.spring.result _ c.limited.ensures c.spring.ensures.works _ _ c.taken-at.ensures.value
    (λ s h. (kind-spring (at e s) name h.chosen_is c.in-Some.is, step-spring (at e s) name h.chosen_is c.in-Some.is))

pub returns-in-Read-clause-moves : goal.returns-in-Read-clause-moves
returns-in-Read-clause-moves g c = rw (c.refused.ensures, c.place_reported-emitted.ensures, c.taken-at.ensures.value) (c.read.ensures.moves _)

pub returns-in_default-task : goal.returns-in_default-task
returns-in_default-task g c =
    let e = shape c.args.self.now in
    let f = shape c.work.new.self in
    let t = c.args.self.now.formatter.task in
    let working = kind_working t c.in_default-task.not-Read c.in_default-task.not-Halted in
    record {
      moves = moves_acts (work t) e f _ _ _ c.work.result _ c.stopped.ensures c.work.ensures.acts _ c.taken-at.ensures.value
          (λ s h. (kind-work (at e s) t h.chosen_is c.in_default.is c.in-Nothing.is refl ∙ working, step-work (at e s) t h.chosen_is c.in_default.is c.in-Nothing.is refl));
      tells = tells_acts (work t) e f _ _ _ c.work.result _ c.stopped.ensures c.work.ensures.acts _;
      write_failures = rw (c.stopped.ensures, stopped_writes c.taken-at.result c.work.result) c.work.ensures.failures;
      limits = c.work.ensures.limits;
    }

pub returns-in_default-event : goal.returns-in_default-event
returns-in_default-event g c =
    let e = shape c.args.self.now in
    let f = shape c.hear.new.self in
    let x = c.args.self.now.formatter.event in
    record {
      moves = moves_quietly (hear x) e f _ c.hear.result _ c.limited-in_default-event.ensures c.hear.ensures.works _ _ c.taken-at.ensures.value
          (λ s h. (kind-hear (at e s) x h.chosen_is c.in_default.is refl c.in_default-event.not-Nothing, step-hear (at e s) x h.chosen_is c.in_default.is refl));
      tells = tells_quietly (hear x) e f _ c.hear.result _ c.limited-in_default-event.ensures c.hear.ensures.works _;
      write_failures = rw (c.limited-in_default-event.ensures, limited_writes c.taken-at.result c.hear.result) refl;
      limits = c.hear.ensures.limits;
    }

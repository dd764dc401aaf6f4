use Rattle.std.proofs.Common.{ap}
use Rattle.nr_vectors.specs.Items.{Items}
use Rattle.utf8_own_characters.specs.declared.counting.Count.{Count}
use Rattle.utf8_own_page.proofs.Looks.{looked-byte, looked-end, looked-fault, looks-as}
use Rattle.utf8_own_page.proofs.looking.look_on.Goals.{in-Ok-Some, in-Ok-None, in-Err}
use Rattle.utf8_own_page.proofs.looking.look_on.Goals as goal

pub returns-clause-looked : goal.returns-clause-looked
returns-clause-looked g c = elim c.match-next.branch [
  | in-Ok-Some w ↦
      let gives = rw w.in-Ok-Some.field-0-is at w.in-Ok-Some.ensures.gives in
      looks-as _ _ _ _ _ _ _ _ _ _ _ w.listener-is (ap (λ (z : Items Count). z.items) w.counts-is) w.result-is
      (looked-byte _ _ _ _ _ _ _ _ _ gives w.look_at-in-Ok-Some.ensures.items w.look_at-in-Ok-Some.ensures.listener)
  | in-Ok-None w ↦
      let gives = rw w.in-Ok-None.field-0-is at w.in-Ok-None.ensures.gives in
      looks-as _ _ _ _ _ _ _ _ _ _ _ w.listener-is (ap (λ (z : Items Count). z.items) w.counts-is) w.result-is (looked-end _ _ _ _ _ _ gives)
  | in-Err w ↦
      looks-as _ _ _ _ _ _ _ _ _ _ _ w.listener-is (ap (λ (z : Items Count). z.items) w.counts-is) w.result-is (looked-fault _ _ _ _ _ _ _ w.in-Err.ensures.gives)
]

use Rattle.filters.proofs.Runs.{was-read, were-turned, were-unread}
use Rattle.filters.proofs.turning.turn_names.Goals as goal

pub returns-in-Ok-clause-turns : goal.returns-in-Ok-clause-turns
returns-in-Ok-clause-turns g c =
    were-turned _ _ _ _ _ _ _ _ _ _ _ (record {
      texts = _;
      opened = c.in-Ok.ensures.opened;
      asks = c.in-Ok.ensures.asked;
      ran = c.turn_all.ensures.ran;
    })

pub returns-in-Ok-clause-quiet : goal.returns-in-Ok-clause-quiet
returns-in-Ok-clause-quiet g c = λ unread. was-read _ _ _ _ _ _ _ _ _ c.turn_all.ensures.ran unread

pub returns-in-Err-clause-turns : goal.returns-in-Err-clause-turns
returns-in-Err-clause-turns g c = were-unread _ _ _ _ _ _ _ _ _ c.in-Err.ensures.unread

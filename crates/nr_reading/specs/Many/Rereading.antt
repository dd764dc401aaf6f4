-- The midst of a diverted line that is read again.
use Rattle.std.specs.Prelude.{◌≡◌, Bool, false, List, []}
use Rattle.nr_reading.specs.declared.ask.Ask.{Ask}
use Rattle.nr_reading.specs.declared.half.Half.{Half}
use Rattle.nr_reading.specs.declared.mode.PendingAct.{PendingAct}
use Rattle.nr_reading.specs.declared.mode.PendingAct.TheVariants as pending_acts
use Rattle.nr_reading.specs.declared.mode.Escape.{Escape}
use Rattle.nr_reading.specs.declared.mode.Escape.TheVariants as escapes
use Rattle.nr_reading.specs.declared.mode.Mode.{Mode}
use Rattle.nr_reading.specs.declared.mode.Mode.TheVariants as modes
use Rattle.nr_reading.specs.Nesting.{is_none}

abbrev pub is_rereading_at : Mode → Escape → PendingAct → List Ask → Bool
is_rereading_at modes.Diverted escapes.Plain pending_acts.Look asks = is_none asks
is_rereading_at m e d asks = false

-- the next item is read in the midst of a diverted line
abbrev pub is_rereading : Half → Bool
is_rereading h = is_rereading_at h.reading.mode h.reading.escape h.reading.pending_act h.asks

-- the same, part by part
pub record IsRereading (h : Half) : Type 0 where
  pub mode : h.reading.mode ≡ modes.Diverted
  pub escape : h.reading.escape ≡ escapes.Plain
  pub pending_act : h.reading.pending_act ≡ pending_acts.Look
  pub asks : h.asks ≡ []

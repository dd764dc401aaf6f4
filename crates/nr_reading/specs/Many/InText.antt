-- The midst of a text line, where nothing is half read.
use Rattle.std.specs.Prelude.{◌≡◌, Bool, false, List, []}
use Rattle.nr_reading.specs.declared.ask.Ask.{Ask}
use Rattle.nr_reading.specs.declared.half.Half.{Half}
use Rattle.nr_reading.specs.declared.mode.PendingAct.{PendingAct}
use Rattle.nr_reading.specs.declared.mode.PendingAct.TheVariants as pending_acts
use Rattle.nr_reading.specs.declared.mode.Escape.{Escape}
use Rattle.nr_reading.specs.declared.mode.Escape.TheVariants as escapes
use Rattle.nr_reading.specs.declared.mode.Mode.{Mode}
use Rattle.nr_reading.specs.declared.mode.Mode.TheVariants as modes
use Rattle.nr_reading.specs.Nesting.{is_none}

abbrev pub is_in_text_at : Mode → Escape → PendingAct → List Ask → Bool
is_in_text_at modes.Text escapes.Plain pending_acts.Look asks = is_none asks
is_in_text_at m e d asks = false

-- the next item is read in the midst of a text line, after no part of an escape
abbrev pub is_in_text : Half → Bool
is_in_text h = is_in_text_at h.reading.mode h.reading.escape h.reading.pending_act h.asks

-- the same, part by part
pub record IsInText (h : Half) : Type 0 where
  pub mode : h.reading.mode ≡ modes.Text
  pub escape : h.reading.escape ≡ escapes.Plain
  pub pending_act : h.reading.pending_act ≡ pending_acts.Look
  pub asks : h.asks ≡ []

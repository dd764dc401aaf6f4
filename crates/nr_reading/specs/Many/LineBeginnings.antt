-- The beginning of a text line, and its end.
use Prim.Native.Char.{code}
use Rattle.std.specs.Prelude.{◌≡◌, ℕ, ◌==◌, ◌||◌, not, Bool, false, List, []}
use Rattle.nr_reading.specs.declared.ask.Ask.{Ask}
use Rattle.nr_reading.specs.declared.half.Half.{Half}
use Rattle.nr_reading.specs.declared.mode.PendingAct.{PendingAct}
use Rattle.nr_reading.specs.declared.mode.PendingAct.TheVariants as pending_acts
use Rattle.nr_reading.specs.declared.mode.Escape.{Escape}
use Rattle.nr_reading.specs.declared.mode.Escape.TheVariants as escapes
use Rattle.nr_reading.specs.declared.mode.Mode.{Mode}
use Rattle.nr_reading.specs.declared.mode.Mode.TheVariants as modes
use Rattle.nr_reading.specs.declared.mode.Signs.{Signs}
use Rattle.nr_reading.specs.Nesting.{is_none}
use Rattle.nr_reading.specs.Step.{to}
use Rattle.nr_reading.specs.Text.{continuing}

-- a line that begins with this byte is a control line
abbrev pub begins_control : ℕ → Signs → Bool
begins_control b s = b == s.control || b == s.no_break

-- the byte begins the text of a line, and no escape
abbrev pub begins_text : ℕ → Signs → Bool
begins_text b s = not ((b == code "\\") || (b == code "\n") || (b == code " ") || begins_control b s)

abbrev pub is_at_text_at : Mode → Escape → PendingAct → List Ask → Bool
is_at_text_at modes.Text escapes.Plain pending_acts.Look asks = is_none asks
is_at_text_at modes.Start escapes.Plain pending_acts.Look asks = is_none asks
is_at_text_at m e d asks = false

-- the next item is read in the midst of a text line or at the beginning of a line, after no part of an escape
abbrev pub is_at_text : Half → Bool
is_at_text h = is_at_text_at h.reading.mode h.reading.escape h.reading.pending_act h.asks

-- it is read at the beginning of a line, part by part
pub record IsBeforeLine (h : Half) : Type 0 where
  pub mode : h.reading.mode ≡ modes.Start
  pub escape : h.reading.escape ≡ escapes.Plain
  pub pending_act : h.reading.pending_act ≡ pending_acts.Look
  pub asks : h.asks ≡ []

-- the text of the line has begun
abbrev pub text_begun : Half → Half
text_begun h = record h { reading = continuing false (to modes.Text h.reading) }

-- the text of the line has ended
abbrev pub text_ended : Half → Half
text_ended h = record h { reading = continuing false (to modes.Start h.reading) }

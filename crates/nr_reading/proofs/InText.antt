-- A byte that stands for itself in the midst of a text line, and the newline that ends the line.
use Prim.Native.Char.{code}
use Rattle.std.proofs.Common.{◌≡◌, ℕ, true, false, List, [], ◌∷◌, refl}
use Rattle.std.specs.Prelude.{◌==◌}
use Rattle.nr_reading.specs.declared.ask.Ask.{Ask}
use Rattle.nr_reading.specs.declared.event.Event.TheVariants as events
use Rattle.nr_reading.specs.declared.next_item.NextItem.TheVariants as next_items
use Rattle.nr_reading.specs.declared.half.Half.{Half}
use Rattle.nr_reading.specs.declared.mode.PendingAct.{PendingAct}
use Rattle.nr_reading.specs.declared.mode.PendingAct.TheVariants as pending_acts
use Rattle.nr_reading.specs.declared.mode.Escape.{Escape}
use Rattle.nr_reading.specs.declared.mode.Escape.TheVariants as escapes
use Rattle.nr_reading.specs.declared.mode.Mode.{Mode}
use Rattle.nr_reading.specs.declared.mode.Mode.TheVariants as modes
use Rattle.nr_reading.specs.Many.InText.{is_in_text, is_in_text_at, IsInText}
use Rattle.nr_reading.specs.Many.LineBeginnings.{IsBeforeLine, text_ended}
use Rattle.nr_reading.specs.Half.{take_in}

parts : (m : Mode) (e : Escape) (d : PendingAct) (asks : List Ask) → is_in_text_at m e d asks ≡ true → (m ≡ modes.Text) × (e ≡ escapes.Plain) × (d ≡ pending_acts.Look) × (asks ≡ [])
parts modes.Text escapes.Plain pending_acts.Look [] is = (refl, refl, refl, refl)
parts modes.Text escapes.Plain pending_acts.Look (a ∷ asks) is = absurd (let wrong : false ≡ true = is in cc)
parts m e d asks is = absurd (let wrong : false ≡ true = is in cc)

pub in_text : (h : Half) → is_in_text h ≡ true → IsInText h
in_text h is =
    let all = parts h.reading.mode h.reading.escape h.reading.pending_act h.asks is in
    record { mode = all.0; escape = all.1; pending_act = all.2; asks = all.3 }

-- it is taken and emitted, and nothing else changes
pub take_in-plain : (b : ℕ) (h : Half) → IsInText h → (b == code "\n") ≡ false → (b == code "\\") ≡ false → take_in (next_items.Byte b) h ≡ record { half = h; event = events.Byte b; takes = true }
take_in-plain b h is newline escape = rw (is.asks, is.mode, is.escape, newline, escape) refl

-- it is taken and emitted, and the text has ended
pub take_in-newline : (h : Half) → IsInText h → take_in (next_items.Byte (code "\n")) h ≡ record { half = text_ended h; event = events.EndLine; takes = true }
take_in-newline h is = rw (is.asks, is.mode, is.escape) refl

-- a line begins next then
pub ended_text : (h : Half) → IsInText h → IsBeforeLine (text_ended h)
ended_text h is = record { mode = refl; escape = is.escape; pending_act = is.pending_act; asks = is.asks }

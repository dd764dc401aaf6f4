-- The byte that begins the text of a line.
use Prim.Native.Char.{code}
use Rattle.std.proofs.Common.{◌≡◌, ℕ, Bool, true, false, List, [], ◌∷◌, refl}
use Rattle.std.specs.Prelude.{◌==◌, ◌||◌}
use Rattle.nr_reading.specs.declared.ask.Ask.{Ask}
use Rattle.nr_reading.specs.declared.event.Event.TheVariants as events
use Rattle.nr_reading.specs.declared.next_item.NextItem.TheVariants as next_items
use Rattle.nr_reading.specs.declared.half.Half.{Half}
use Rattle.nr_reading.specs.declared.mode.PendingAct.{PendingAct}
use Rattle.nr_reading.specs.declared.mode.PendingAct.TheVariants as pending_acts
use Rattle.nr_reading.specs.declared.mode.Escape.{Escape}
use Rattle.nr_reading.specs.declared.mode.Escape.TheVariants as escapes
use Rattle.nr_reading.specs.declared.mode.Mode.{Mode}
use Rattle.nr_reading.specs.declared.mode.Mode.TheVariants as modes
use Rattle.nr_reading.specs.declared.mode.Signs.{Signs}
use Rattle.nr_reading.specs.Many.InText.{is_in_text, is_in_text_at}
use Rattle.nr_reading.specs.Many.LineBeginnings.{IsBeforeLine, begins_control, is_at_text, is_at_text_at, text_begun}
use Rattle.nr_reading.specs.Half.{take_in}

parts : (m : Mode) (e : Escape) (d : PendingAct) (asks : List Ask) → is_at_text_at m e d asks ≡ true → is_in_text_at m e d asks ≡ false
    → (m ≡ modes.Start) × (e ≡ escapes.Plain) × (d ≡ pending_acts.Look) × (asks ≡ [])
parts modes.Start escapes.Plain pending_acts.Look [] at out = (refl, refl, refl, refl)
parts modes.Start escapes.Plain pending_acts.Look (a ∷ asks) at out = absurd (let wrong : false ≡ true = at in cc)
parts modes.Text escapes.Plain pending_acts.Look [] at out = absurd (let wrong : true ≡ false = out in cc)
parts modes.Text escapes.Plain pending_acts.Look (a ∷ asks) at out = absurd (let wrong : false ≡ true = at in cc)
parts m e d asks at out = absurd (let wrong : false ≡ true = at in cc)

-- what is read next at text, and not in the midst of a text line, is read at the beginning of a line
pub before_line : (h : Half) → is_at_text h ≡ true → is_in_text h ≡ false → IsBeforeLine h
before_line h at out =
    let all = parts h.reading.mode h.reading.escape h.reading.pending_act h.asks at out in
    record { mode = all.0; escape = all.1; pending_act = all.2; asks = all.3 }

-- the text of the line begun, it is read in the midst of a text line
pub begun_text : (h : Half) → IsBeforeLine h → is_in_text (text_begun h) ≡ true
begun_text h is = rw (is.escape, is.pending_act, is.asks) refl

either : (a b : Bool) → (a || b) ≡ false → (a ≡ false) × (b ≡ false)
either true b is = absurd (let wrong : true ≡ false = is in cc)
either false true is = absurd (let wrong : true ≡ false = is in cc)
either false false is = (refl, refl)

-- neither of the control characters
pub no_control : (b : ℕ) (s : Signs) → begins_control b s ≡ false → ((b == s.control) ≡ false) × ((b == s.no_break) ≡ false)
no_control b s is = either (b == s.control) (b == s.no_break) is

-- it is taken and emitted, and the text has begun
pub take_in-first : (b : ℕ) (h : Half) → IsBeforeLine h → begins_control b h.signs ≡ false → (b == code "\n") ≡ false → (b == code "\\") ≡ false → (b == code " ") ≡ false
    → take_in (next_items.Byte b) h ≡ record { half = text_begun h; event = events.Byte b; takes = true }
take_in-first b h is control newline escape blank =
    let none = no_control b h.signs control in
    rw (is.asks, is.mode, is.escape, none.0, none.1, newline, escape, blank) refl

-- A cell in the midst of a diverted line.
use Rattle.std.proofs.Common.{◌≡◌, true, false, List, [], ◌∷◌, refl}
use Rattle.nr_vectors.specs.declared.cell.Cell.{Cell}
use Rattle.nr_reading.specs.declared.ask.Ask.{Ask}
use Rattle.nr_reading.specs.declared.event.Event.TheVariants as events
use Rattle.nr_reading.specs.declared.next_item.NextItem.TheVariants as next_items
use Rattle.nr_reading.specs.declared.half.Half.{Half}
use Rattle.nr_reading.specs.declared.mode.PendingAct.{PendingAct}
use Rattle.nr_reading.specs.declared.mode.PendingAct.TheVariants as pending_acts
use Rattle.nr_reading.specs.declared.mode.Escape.{Escape}
use Rattle.nr_reading.specs.declared.mode.Escape.TheVariants as escapes
use Rattle.nr_reading.specs.declared.mode.Mode.{Mode}
use Rattle.nr_reading.specs.declared.mode.Mode.TheVariants as modes
use Rattle.nr_reading.specs.Many.Rereading.{is_rereading, is_rereading_at, IsRereading}
use Rattle.nr_reading.specs.Half.{take_in}

parts : (m : Mode) (e : Escape) (d : PendingAct) (asks : List Ask) → is_rereading_at m e d asks ≡ true → (m ≡ modes.Diverted) × (e ≡ escapes.Plain) × (d ≡ pending_acts.Look) × (asks ≡ [])
parts modes.Diverted escapes.Plain pending_acts.Look [] is = (refl, refl, refl, refl)
parts modes.Diverted escapes.Plain pending_acts.Look (a ∷ asks) is = absurd (let wrong : false ≡ true = is in cc)
parts m e d asks is = absurd (let wrong : false ≡ true = is in cc)

pub rereading : (h : Half) → is_rereading h ≡ true → IsRereading h
rereading h is =
    let all = parts h.reading.mode h.reading.escape h.reading.pending_act h.asks is in
    record { mode = all.0; escape = all.1; pending_act = all.2; asks = all.3 }

-- it is taken and emitted, and nothing else changes
pub take_in-cell : (x : Cell) (h : Half) → IsRereading h → take_in (next_items.Cell x) h ≡ record { half = h; event = events.DivertedCell x; takes = true }
take_in-cell x h is = rw (is.asks, is.mode, is.escape) refl

-- The name of a control line, taken in at once (CSTR 54, 1.1).
use Prim.Native.Char.{code}
use Rattle.std.specs.Prelude.{◌≡◌, ℕ, ◌<◌, ◌==◌, ◌||◌, not, Bool, true, false, List, length, slice_get, Some}
use Rattle.nr_reading.specs.declared.next_item.NextItem.{NextItem}
use Rattle.nr_reading.specs.declared.next_item.NextItem.TheVariants as next_items
use Rattle.nr_reading.specs.declared.half.Half.{Half}
use Rattle.nr_reading.specs.declared.mode.PendingAct.TheVariants as pending_acts
use Rattle.nr_reading.specs.declared.mode.Mode.TheVariants as modes
use Rattle.nr_reading.specs.declared.mode.Signs.{Signs}
use Rattle.nr_reading.specs.declared.spelled.Spelled.{Spelled}
use Rattle.nr_reading.specs.Spelled.{ends_name}

-- the byte goes on a name, and begins no escape
abbrev pub goes_on_name : ℕ → Bool
goes_on_name b = not (ends_name b || (b == code "\\"))

-- the byte is the control character, or the no-break one
abbrev pub IsSign : ℕ → Bool → Signs → Type 0
IsSign b false s = (b == s.control) ≡ true
IsSign b true s = ((b == s.control) ≡ false) × ((b == s.no_break) ≡ true)

-- a byte that ends a name stands at a place of a stretch
pub record NameEnds (fs : List NextItem) (place : ℕ) : Type 0 where
  pub byte : ℕ
  pub within : place < length fs
  pub stands : slice_get fs place ≡ Some (next_items.Byte byte)
  pub ends : ends_name byte ≡ true

-- after the control character and a name, which is to be looked up
abbrev pub after_name : Bool → Spelled → Half → Half
after_name no_break name h = record h {
  reading = record h.reading { mode = modes.Name; pending_act = pending_acts.Seek; no_break = no_break };
  notes = record h.notes { name = name };
}

-- Interpolations and font escapes that stand whole in a stretch of items (CSTR 54, 2, 7.2, 7.3, 8; the groff manual, Copy Mode).
use Prim.Native.Char.{code}
use Rattle.std.specs.Prelude.{◌≡◌, ℕ, ◌+◌, ◌==◌, ◌&&◌, ◌||◌, not, Bool, true, false, List, [], ◌∷◌, slice_get, Some}
use Rattle.nr_reading.specs.declared.ask.Kind.{Kind}
use Rattle.nr_reading.specs.declared.ask.Kind.TheVariants as kinds
use Rattle.nr_reading.specs.declared.next_item.NextItem.{NextItem}
use Rattle.nr_reading.specs.declared.next_item.NextItem.TheVariants as next_items
use Rattle.nr_reading.specs.declared.half.Half.{Half}
use Rattle.nr_reading.specs.declared.mode.Mode.{Mode}
use Rattle.nr_reading.specs.declared.mode.Mode.TheVariants as modes
use Rattle.nr_reading.specs.declared.mode.Signs.{Signs}
use Rattle.nr_reading.specs.Ask.{begun_ask}
use Rattle.nr_reading.specs.Ended.{pending_of}
use Rattle.nr_reading.specs.Half.{reads_plainly}
use Rattle.nr_reading.specs.Mode.{is_direct}
use Rattle.nr_reading.specs.Many.Passing.{is_plain}

-- a `\` begins an escape there, at a line's beginning where it is no control character; `\$`, `\n` and `\*` interpolate
abbrev pub interpolates_in : Mode → Signs → Bool
interpolates_in modes.Text s = true
interpolates_in modes.Start s = not ((code "\\" == s.control) || (code "\\" == s.no_break))
interpolates_in m s = not (is_direct m)

abbrev pub interpolates : Half → Bool
interpolates h = reads_plainly h && interpolates_in h.reading.mode h.signs

-- the byte is a name of its own, where it comes first
abbrev pub is_lone_name : ℕ → Bool
is_lone_name b =
    not ((b == code "\\") || (b == code "\n") || (b == code "(") || (b == code "[") || (b == code "+")
    || (b == code "-"))

-- the escape asks for a name, of a string, a register or a font
abbrev pub is_named : Kind → Bool
is_named kinds.String = true
is_named kinds.Font = true
is_named (kinds.Register s) = true
is_named k = false

-- after `\` and the byte that says what is asked for
abbrev pub begun : Kind → Half → Half
begun k h = record h { asks = begun_ask k ∷ [] }

-- after the name
abbrev pub named : Kind → List ℕ → Half → Half
named k name h = record h {
  reading = record h.reading { pending_act = pending_of k name };
  notes = record h.notes { asked = name };
}

-- what is pending is another, and the name that was asked for last; nothing else of what is half read
abbrev pub AsksOnly : Half → Half → Type 0
AsksOnly h g =
    g ≡ record h {
      reading = record h.reading { pending_act = g.reading.pending_act };
      notes = record h.notes { asked = g.notes.asked };
    }

-- A name stands there in the stretch: one byte, or in the midst of a line two after `(`, where an escape begins at neither.
pub data IsName (in_line : Bool) (fs : List NextItem) (place : ℕ) : Type 0 where
  Lone : (byte : ℕ) → slice_get fs place ≡ Some (next_items.Byte byte) → is_lone_name byte ≡ true
      → IsName in_line fs place
  Pair : (one two : ℕ) → in_line ≡ true → slice_get fs place ≡ Some (next_items.Byte (code "("))
      → slice_get fs (place + 1) ≡ Some (next_items.Byte one) → slice_get fs (place + 2) ≡ Some (next_items.Byte two)
      → is_plain one ≡ true → is_plain two ≡ true → IsName in_line fs place

-- A font escape begins the stretch, with its name.
pub record IsFont (in_line : Bool) (fs : List NextItem) : Type 0 where
  pub backslash : slice_get fs 0 ≡ Some (next_items.Byte (code "\\"))
  pub letter : slice_get fs 1 ≡ Some (next_items.Byte (code "f"))
  pub name : IsName in_line fs 2

-- Items in a stretch.
use Prim.Native.Char.{code}
use Rattle.std.specs.Prelude.{◌≡◌, ℕ, ◌<◌, List, length, map, slice_get, slice_index, Option, Some}
use Rattle.nr_reading.specs.declared.next_item.NextItem.{NextItem}
use Rattle.nr_reading.specs.declared.next_item.NextItem.TheVariants as next_items
use Rattle.fast_input.specs.declared.stretches.ByteStretch.{ByteStretch}
use Rattle.fast_input.specs.declared.stretches.ElementStretch.{ElementStretch}
use Rattle.nr_input.specs.Place.{element_item}

-- the items of a stretch of bytes
abbrev pub byte_items : ByteStretch → List NextItem
byte_items stretch = map next_items.Byte stretch.0.now

-- the items of a stretch of elements
abbrev pub element_items : ElementStretch → List NextItem
element_items stretch = map element_item stretch.0.now

-- a stretch begins with these bytes
abbrev pub AreBytes : List ℕ → List NextItem → Type 0
AreBytes bytes stretch = (n : ℕ) → n < length bytes → slice_get stretch n ≡ Some (next_items.Byte (slice_index bytes n))

-- no item that goes on so: none, no byte, a newline, or a `\`
abbrev pub EndsRun : Option NextItem → Type 0
EndsRun item = (b : ℕ) → item ≡ Some (next_items.Byte b) → (b ≡ code "\n" → ⊥) → (b ≡ code "\\" → ⊥) → ⊥

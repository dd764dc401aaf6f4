-- Braces in a stretch of items.
use Prim.Native.Char.{code}
use Rattle.std.specs.Prelude.{ℕ, ◌+◌, ◌==◌, ◌&&◌, Bool, false, List, slice_get, Option, Some}
use Rattle.nr_reading.specs.declared.next_item.NextItem.{NextItem}
use Rattle.nr_reading.specs.declared.next_item.NextItem.TheVariants as next_items

-- the item is this byte
abbrev pub is_byte : ℕ → Option NextItem → Bool
is_byte b (Some (next_items.Byte c)) = c == b
is_byte b f = false

-- the first two items are `\` and `}`
abbrev pub begins_with_brace : List NextItem → Bool
begins_with_brace fs = is_byte (code "\\") (slice_get fs 0) && is_byte (code "}") (slice_get fs 1)

-- `\` and `{` stand at a place
abbrev pub opens_at : ℕ → List NextItem → Bool
opens_at place fs = is_byte (code "\\") (slice_get fs place) && is_byte (code "{") (slice_get fs (place + 1))

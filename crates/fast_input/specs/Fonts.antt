-- Font escapes in the text of the source.
use Prim.Native.Char.{code}
use Rattle.std.specs.Prelude.{◌≡◌, ◌<◌, ℕ, Bool, List, length, map, slice_index}
use Rattle.nr_reading.specs.declared.next_item.NextItem.TheVariants as next_items
use Rattle.nr_reading.specs.Many.Interpolations.{IsName}

-- These bytes begin with a font escape, with its name.
pub record BeginsFont (in_line : Bool) (bs : List ℕ) : Type 0 where
  pub some : 2 < length bs
  pub backslash : slice_index bs 0 ≡ code "\\"
  pub letter : slice_index bs 1 ≡ code "f"
  pub name : IsName in_line (map next_items.Byte bs) 2

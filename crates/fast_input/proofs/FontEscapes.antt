-- Font escapes in the text of the source.
use Rattle.std.specs.Prelude.{slice_get, slice_index, map}
use Rattle.std.specs.Option.{option_map}
use Rattle.std.proofs.Common.{◌≡◌, ℕ, ◌<◌, Bool, List, length, Some, ap, ◌∙◌, arith}
use Rattle.std.proofs.lemmas.Option.{slice_get-map, slice_get-get_or}
use Rattle.nr_reading.specs.declared.next_item.NextItem.TheVariants as next_items
use Rattle.nr_reading.specs.Many.Interpolations.{IsFont}
use Rattle.fast_input.specs.Fonts.{BeginsFont}

-- the byte stands there in the stretch
byte_there : (bs : List ℕ) (k : ℕ) → k < length bs → slice_get (map next_items.Byte bs) k ≡ Some (next_items.Byte (slice_index bs k))
byte_there bs k less = slice_get-map next_items.Byte bs k ∙ ap (option_map next_items.Byte) (slice_get-get_or bs k 0 less)

-- a stretch of such bytes begins with the font escape
pub is_font : (in_line : Bool) (bs : List ℕ) → BeginsFont in_line bs → IsFont in_line (map next_items.Byte bs)
is_font in_line bs begins = record {
  backslash = byte_there bs 0 (omega (arith, begins.some)) ∙ ap (λ b. Some (next_items.Byte b)) begins.backslash;
  letter = byte_there bs 1 (omega (arith, begins.some)) ∙ ap (λ b. Some (next_items.Byte b)) begins.letter;
  name = begins.name;
}

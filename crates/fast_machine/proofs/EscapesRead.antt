-- Bytes of an escape in the midst of a text line, one after another.
use Prim.Native.Char.{code}
use Rattle.std.proofs.Common.{◌≡◌, ℕ, ◌<◌, List, [], length, Some, refl, ap, ◌∙◌, arith}
use Rattle.std.specs.Prelude.{map, slice_get, slice_index}
use Rattle.std.specs.Option.{option_map}
use Rattle.std.proofs.lemmas.List.{length-map}
use Rattle.std.proofs.lemmas.Option.{slice_get-map, slice_get-get_or}
use Rattle.nr_reading.specs.declared.ask.Ask.{Ask}
use Rattle.nr_reading.specs.declared.next_item.NextItem.TheVariants as next_items
use Rattle.nr_reading.specs.declared.half.Half.{Half}
use Rattle.nr_reading.specs.declared.mode.Escape.{Escape}
use Rattle.nr_reading.specs.declared.mode.Escape.TheVariants as escapes
use Rattle.nr_reading.specs.declared.mode.Mode.TheVariants as modes
use Rattle.nr_reading.specs.Many.InText.{IsInText}
use Rattle.nr_reading.specs.Many.Stretch.{LeadsOn}
use Rattle.nr_reading.proofs.Asked.{half_at}
use Rattle.nr_reading.proofs.Stretches.{standing, stays, taken_more}
use Rattle.nr_reading.proofs.Weighing.{at}

-- with so much of an escape read, in the midst of a text line
abbrev pub half_with : Half → Escape → List Ask → Half
half_with h e asks = half_at (at modes.Text e h.reading.continued h.reading.no_break) h.signs asks h.delimited h.notes

-- with nothing of one read
abbrev pub plain : Half → Half
plain h = half_with h escapes.Plain []

pub plain_is : (h : Half) → IsInText h → h ≡ plain h
plain_is h is = standing modes.Text h is.mode (rw (is.pending_act, is.asks, is.escape) refl)

-- the byte stands there in the row
pub byte_there : (bs : List ℕ) (k b : ℕ) → k < length bs → slice_index bs k ≡ b → slice_get (map next_items.Byte bs) k ≡ Some (next_items.Byte b)
byte_there bs k b less same =
    slice_get-map next_items.Byte bs k ∙ ap (option_map next_items.Byte) (slice_get-get_or bs k 0 less) ∙ ap (λ c. Some (next_items.Byte c)) same

pub within : (bs : List ℕ) (k : ℕ) → k < length bs → k < length (map next_items.Byte bs)
within bs k less = omega (arith, less, length-map bs next_items.Byte)

-- the `\` begins it
pub begun : (bs : List ℕ) (h : Half) → 0 < length bs → slice_index bs 0 ≡ code "\\" → LeadsOn (map next_items.Byte bs) 0 0 (plain h) 1 1 (half_with h escapes.Begun [])
begun bs h some backslash =
    let fs = map next_items.Byte bs in
    taken_more fs 0 0 0 0 (code "\\") (plain h) (plain h) (half_with h escapes.Begun []) (stays fs 0 0 (plain h)) (within bs 0 some) refl (byte_there bs 0 (code "\\") some backslash) refl

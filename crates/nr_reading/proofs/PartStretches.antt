-- The parts after conditions in a stretch of items.
use Prim.Native.Char.{code}
use Rattle.std.specs.Prelude.{◌==◌, slice_get}
use Rattle.std.proofs.Common.{◌≡◌, ℕ, ◌+◌, ◌<◌, Bool, true, false, List, [], length, Some, Option, refl, sym, subst, ap, arith}
use Rattle.std.proofs.lemmas.Bool.{eqb-true, and_parts}
use Rattle.nr_reading.specs.declared.event.Event.TheVariants as events
use Rattle.nr_reading.specs.declared.next_item.NextItem.{NextItem}
use Rattle.nr_reading.specs.declared.next_item.NextItem.TheVariants as next_items
use Rattle.nr_reading.specs.declared.half.Half.{Half}
use Rattle.nr_reading.specs.declared.mode.Escape.TheVariants as escapes
use Rattle.nr_reading.specs.declared.mode.Mode.TheVariants as modes
use Rattle.nr_reading.specs.Many.Braces.{is_byte, opens_at}
use Rattle.nr_reading.specs.Half.{reads_next}
use Rattle.nr_reading.specs.Many.Passing.{is_plain}
use Rattle.nr_reading.specs.Many.Stretch.{LeadsOn}
use Rattle.nr_reading.specs.Skipping.{braces}
use Rattle.nr_reading.specs.Spelled.{is_blank}
use Rattle.nr_reading.proofs.Asked.{half_at}
use Rattle.nr_reading.proofs.Stretches.{TakesInByte, standing, looks, stays, recount, apart_from, taken_more, left_more}
use Rattle.nr_reading.proofs.Weighing.{at}

-- after the blanks a line begins
pub take_in-part_begins : (b : ℕ) (h : Half) → h.reading.mode ≡ modes.Accepted → reads_next h ≡ true → is_plain b ≡ true → is_blank b ≡ false → TakesInByte b h (record h { reading = record h.reading { mode = modes.Start } }) events.Nothing false
take_in-part_begins b h mode next plain other =
    let apart : (c : ℕ) → is_plain c ≡ false → (b == c) ≡ false = λ c. apart_from is_plain b c plain in
    subst (λ (k : Half). TakesInByte b k (record k { reading = record k.reading { mode = modes.Start } }) events.Nothing false) (sym (standing modes.Accepted h mode next)) (rw (other, apart (code "\n") refl, apart (code "\\") refl) refl)

byte_stands : (b : ℕ) (o : Option NextItem) → is_byte b o ≡ true → o ≡ Some (next_items.Byte b)
byte_stands b (Some (next_items.Byte c)) is = ap (λ n. Some (next_items.Byte n)) (eqb-true c b is)
byte_stands b o is = absurd (let wrong : false ≡ true = is in cc)

-- the two bytes of an opening brace
pub brace_stands : (place : ℕ) (fs : List NextItem) → opens_at place fs ≡ true → (slice_get fs place ≡ Some (next_items.Byte (code "\\"))) × (slice_get fs (place + 1) ≡ Some (next_items.Byte (code "{")))
brace_stands place fs is =
    let two = and_parts (is_byte (code "\\") (slice_get fs place)) (is_byte (code "{") (slice_get fs (place + 1))) is in
    (byte_stands (code "\\") (slice_get fs place) two.0, byte_stands (code "{") (slice_get fs (place + 1)) two.1)

-- `\{`, and after it a line begins
pub opened : (fs : List NextItem) (place b : ℕ) (h : Half) → h.reading.mode ≡ modes.Accepted → reads_next h ≡ true → place + 2 < length fs → slice_get fs place ≡ Some (next_items.Byte (code "\\")) → slice_get fs (place + 1) ≡ Some (next_items.Byte (code "{"))
    → slice_get fs (place + 2) ≡ Some (next_items.Byte b) → is_plain b ≡ true → is_blank b ≡ false → LeadsOn fs place place h (place + 2) (place + 3) (record h { reading = record h.reading { mode = modes.Start } })
opened fs place b h mode next within first second third plain other =
    let k : Half = half_at (at modes.Accepted escapes.Plain h.reading.continued h.reading.no_break) h.signs [] h.delimited h.notes in
    let begun : Half = half_at (at modes.Accepted escapes.Begun h.reading.continued h.reading.no_break) h.signs [] h.delimited h.notes in
    let same : h ≡ k = standing modes.Accepted h mode next in
    let here : LeadsOn fs place place h place place k = subst (λ (x : Half). LeadsOn fs place place h place place x) same (stays fs place place h) in
    let one = taken_more fs place place place place (code "\\") h k begun here (omega (arith, within)) refl first refl in
    let two = taken_more fs place place (place + 1) (place + 1) (code "{") h begun k one (omega (arith, within)) refl second refl in
    let afterwards = recount fs place place (place + 1 + 1) (place + 2) (place + 1 + 1) (place + 2) h h (subst (λ (x : Half). LeadsOn fs place place h (place + 1 + 1) (place + 1 + 1) x) (sym same) two) (omega arith) (omega arith) in
    let three = left_more fs place place (place + 2) (place + 2) b h h (record h { reading = record h.reading { mode = modes.Start } }) afterwards within (looks h next) third (take_in-part_begins b h mode next plain other) in
    recount fs place place (place + 2) (place + 2) (place + 2 + 1) (place + 3) h (record h { reading = record h.reading { mode = modes.Start } }) three refl (omega arith)

-- ---- a rejected part

-- a byte that is neither `\` nor the newline at its end does nothing
pub take_in-dropped : (b count : ℕ) (h : Half) → h.reading.mode ≡ modes.Skip count → reads_next h ≡ true → (b == code "\\") ≡ false → ((b ≡ code "\n") → (count == 0) ≡ false) → TakesInByte b h h events.Nothing true
take_in-dropped b count h mode next plain goes = subst (λ (k : Half). TakesInByte b k k events.Nothing true) (sym (standing (modes.Skip count) h mode next)) (by (b == code "\n") refl)
  where
    by : (x : Bool) → (b == code "\n") ≡ x → let k = half_at (at (modes.Skip count) escapes.Plain h.reading.continued h.reading.no_break) h.signs [] h.delimited h.notes in TakesInByte b k k events.Nothing true
    by true is = rw (is, goes (eqb-true b (code "\n") is)) refl
    by false is = rw (is, plain) refl

-- the newline at its end
pub take_in-rejected_end : (count : ℕ) (h : Half) → h.reading.mode ≡ modes.Skip count → reads_next h ≡ true → count ≡ 0 → TakesInByte (code "\n") h (record h { reading = record h.reading { mode = modes.Start } }) events.Nothing true
take_in-rejected_end count h mode next none = subst (λ (k : Half). TakesInByte (code "\n") k (record k { reading = record k.reading { mode = modes.Start } }) events.Nothing true) (sym (standing (modes.Skip count) h mode next)) (rw none refl)

-- `\` and the byte after it
pub skipped : (fs : List NextItem) (from made to moves b count left : ℕ) (old h : Half) → LeadsOn fs from made old to moves h → h.reading.mode ≡ modes.Skip count → reads_next h ≡ true → to + 1 < length fs → slice_get fs to ≡ Some (next_items.Byte (code "\\")) → slice_get fs (to + 1) ≡ Some (next_items.Byte b)
    → left ≡ braces b count → LeadsOn fs from made old (to + 1 + 1) (moves + 1 + 1) (record h { reading = record h.reading { mode = modes.Skip left } })
skipped fs from made to moves b count left old h leads mode next within first second is =
    let c = h.reading.continued in
    let n = h.reading.no_break in
    let k : Half = half_at (at (modes.Skip count) escapes.Plain c n) h.signs [] h.delimited h.notes in
    let begun : Half = half_at (at (modes.Skip count) escapes.Begun c n) h.signs [] h.delimited h.notes in
    let new : Half = half_at (at (modes.Skip (braces b count)) escapes.Plain c n) h.signs [] h.delimited h.notes in
    let same : h ≡ k = standing (modes.Skip count) h mode next in
    let one = taken_more fs from made to moves (code "\\") old k begun (subst (λ (x : Half). LeadsOn fs from made old to moves x) same leads) (omega (arith, within)) refl first refl in
    let two = taken_more fs from made (to + 1) (moves + 1) b old begun new one within refl second refl in
    subst (λ d. LeadsOn fs from made old (to + 1 + 1) (moves + 1 + 1) (record h { reading = record h.reading { mode = modes.Skip d } })) (sym is)
    (subst (λ (x : Half). LeadsOn fs from made old (to + 1 + 1) (moves + 1 + 1) (record x { reading = record x.reading { mode = modes.Skip (braces b count) } })) (sym same) two)

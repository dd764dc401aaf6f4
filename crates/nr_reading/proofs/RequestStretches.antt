-- The lines of requests in a stretch of items.
use Prim.Native.Char.{code}
use Rattle.std.specs.Prelude.{◌==◌}
use Rattle.std.proofs.Common.{◌≡◌, ℕ, true, false, refl, sym, subst}
use Rattle.nr_reading.specs.declared.event.Event.TheVariants as events
use Rattle.nr_reading.specs.declared.half.Half.{Half}
use Rattle.nr_reading.specs.declared.mode.Mode.TheVariants as modes
use Rattle.nr_reading.specs.declared.notes.Notes.{Notes}
use Rattle.nr_reading.specs.Half.{reads_next}
use Rattle.nr_reading.specs.Notes as notes
use Rattle.nr_reading.specs.Noting.{noted}
use Rattle.nr_reading.specs.Spelled.{is_blank}
use Rattle.nr_reading.proofs.Stretches.{TakesInByte, standing}

-- the first byte after the blanks is left to the line
pub take_in-line_begins : (b : ℕ) (o : Notes) (h : Half) → h.reading.mode ≡ modes.RequestBlanks → reads_next h ≡ true → (b == code "\\") ≡ false → is_blank b ≡ false → o ≡ noted notes.NewLine h.notes
    → TakesInByte b h (record h { reading = record h.reading { mode = modes.RequestLine }; notes = o }) events.Nothing false
take_in-line_begins b o h mode next plain other is =
    subst (λ (x : Notes). TakesInByte b h (record h { reading = record h.reading { mode = modes.RequestLine }; notes = x }) events.Nothing false) (sym is)
    (subst (λ (k : Half). TakesInByte b k (record k { reading = record k.reading { mode = modes.RequestLine }; notes = noted notes.NewLine k.notes }) events.Nothing false) (sym (standing modes.RequestBlanks h mode next)) (rw (plain, other) refl))

pub take_in-line_byte : (b : ℕ) (o : Notes) (h : Half) → h.reading.mode ≡ modes.RequestLine → reads_next h ≡ true → (b == code "\\") ≡ false → (b == code "\n") ≡ false → o ≡ noted (notes.Line b) h.notes → TakesInByte b h (record h { notes = o }) events.Nothing true
take_in-line_byte b o h mode next plain other is =
    subst (λ (x : Notes). TakesInByte b h (record h { notes = x }) events.Nothing true) (sym is)
    (subst (λ (k : Half). TakesInByte b k (record k { notes = noted (notes.Line b) k.notes }) events.Nothing true) (sym (standing modes.RequestLine h mode next)) (rw (plain, other) refl))

pub take_in-line_end : (h : Half) → h.reading.mode ≡ modes.RequestLine → reads_next h ≡ true → TakesInByte (code "\n") h (record h { reading = record h.reading { mode = modes.Start } }) events.Request true
take_in-line_end h mode next = subst (λ (k : Half). TakesInByte (code "\n") k (record k { reading = record k.reading { mode = modes.Start } }) events.Request true) (sym (standing modes.RequestLine h mode next)) refl

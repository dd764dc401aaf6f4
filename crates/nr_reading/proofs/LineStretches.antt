-- The beginnings of lines in a stretch of items.
use Prim.Native.Char.{code}
use Rattle.std.specs.Prelude.{◌==◌, ◌||◌, not}
use Rattle.std.proofs.Common.{◌≡◌, ℕ, Bool, true, false, refl, sym, subst}
use Rattle.nr_reading.specs.declared.event.Event.TheVariants as events
use Rattle.nr_reading.specs.declared.half.Half.{Half}
use Rattle.nr_reading.specs.declared.mode.Mode.TheVariants as modes
use Rattle.nr_reading.specs.declared.mode.Signs.{Signs}
use Rattle.nr_reading.specs.Many.LineBeginnings.{begins_text, text_begun}
use Rattle.nr_reading.specs.Half.{reads_next}
use Rattle.nr_reading.proofs.Stretches.{TakesInByte, standing}

-- a byte that begins the text of a line
record BeginsText (b : ℕ) (s : Signs) : Type 0 where
  escape : (b == code "\\") ≡ false
  newline : (b == code "\n") ≡ false
  blank : (b == code " ") ≡ false
  control : (b == s.control) ≡ false
  no_break : (b == s.no_break) ≡ false

begins : (b : ℕ) (s : Signs) → begins_text b s ≡ true → BeginsText b s
begins b s is = by (b == code "\\") (b == code "\n") (b == code " ") (b == s.control) (b == s.no_break) refl refl refl refl refl is
  where
    by : (u v w x y : Bool) → (b == code "\\") ≡ u → (b == code "\n") ≡ v → (b == code " ") ≡ w → (b == s.control) ≡ x → (b == s.no_break) ≡ y → not (u || v || w || (x || y)) ≡ true → BeginsText b s
    by false false false false false p q r s t is = record { escape = p; newline = q; blank = r; control = s; no_break = t }
    by u v w x y p q r s t is = absurd (let wrong : false ≡ true = is in cc)

pub take_in-text : (b : ℕ) (h : Half) → h.reading.mode ≡ modes.Start → reads_next h ≡ true → begins_text b h.signs ≡ true → TakesInByte b h (text_begun h) (events.Byte b) true
take_in-text b h mode next is =
    let byte = begins b h.signs is in
    subst (λ (k : Half). TakesInByte b k (text_begun k) (events.Byte b) true) (sym (standing modes.Start h mode next)) (rw (byte.control, byte.no_break, byte.newline, byte.escape, byte.blank) refl)

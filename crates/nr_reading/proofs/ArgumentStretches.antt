-- The arguments of macros in a stretch of items.
use Prim.Native.Char.{code}
use Rattle.std.specs.Prelude.{◌==◌}
use Rattle.std.proofs.Common.{◌≡◌, ℕ, true, false, refl, sym, subst}
use Rattle.nr_reading.specs.declared.event.Event.TheVariants as events
use Rattle.nr_reading.specs.declared.half.Half.{Half}
use Rattle.nr_reading.specs.declared.mode.PendingAct.{PendingAct}
use Rattle.nr_reading.specs.declared.mode.PendingAct.TheVariants as pending_acts
use Rattle.nr_reading.specs.declared.mode.Mode.{Mode}
use Rattle.nr_reading.specs.declared.mode.Mode.TheVariants as modes
use Rattle.nr_reading.specs.Half.{reads_next}
use Rattle.nr_reading.specs.Many.Passing.{is_plain}
use Rattle.nr_reading.specs.Spelled.{is_blank}
use Rattle.nr_reading.proofs.Stretches.{TakesInByte, standing, apart_from}

-- in another mode
abbrev pub in_mode : Mode → Half → Half
in_mode m h = record h { reading = record h.reading { mode = m } }

-- in another mode, with this pending
abbrev pub with_pending : Mode → PendingAct → Half → Half
with_pending m x h = record h { reading = record h.reading { mode = m; pending_act = x } }

-- ---- before an argument

-- after the blanks the arguments begin
pub take_in-arguments_begin : (b : ℕ) (h : Half) → h.reading.mode ≡ modes.MacroBlanks → reads_next h ≡ true → (b == code "\\") ≡ false → is_blank b ≡ false → TakesInByte b h (in_mode modes.MacroGap h) events.Nothing false
take_in-arguments_begin b h mode next plain other = subst (λ (k : Half). TakesInByte b k (in_mode modes.MacroGap k) events.Nothing false) (sym (standing modes.MacroBlanks h mode next)) (rw (plain, other) refl)

pub take_in-space : (h : Half) → h.reading.mode ≡ modes.MacroGap → reads_next h ≡ true → TakesInByte (code " ") h h events.Nothing true
take_in-space h mode next = subst (λ (k : Half). TakesInByte (code " ") k k events.Nothing true) (sym (standing modes.MacroGap h mode next)) refl

pub take_in-opening_quote : (h : Half) → h.reading.mode ≡ modes.MacroGap → reads_next h ≡ true → TakesInByte (code "\"") h (in_mode modes.Quoted h) events.Nothing true
take_in-opening_quote h mode next = subst (λ (k : Half). TakesInByte (code "\"") k (in_mode modes.Quoted k) events.Nothing true) (sym (standing modes.MacroGap h mode next)) refl

pub take_in-line_end : (h : Half) → h.reading.mode ≡ modes.MacroGap → reads_next h ≡ true → TakesInByte (code "\n") h (with_pending modes.Start pending_acts.Call h) events.Nothing true
take_in-line_end h mode next = subst (λ (k : Half). TakesInByte (code "\n") k (with_pending modes.Start pending_acts.Call k) events.Nothing true) (sym (standing modes.MacroGap h mode next)) refl

pub take_in-first_byte : (b : ℕ) (h : Half) → h.reading.mode ≡ modes.MacroGap → reads_next h ≡ true → (b == code "\\") ≡ false → (b == code " ") ≡ false → (b == code "\"") ≡ false → (b == code "\n") ≡ false → TakesInByte b h (with_pending modes.Word (pending_acts.Put b) h) events.Nothing true
take_in-first_byte b h mode next plain space quote newline =
    subst (λ (k : Half). TakesInByte b k (with_pending modes.Word (pending_acts.Put b) k) events.Nothing true) (sym (standing modes.MacroGap h mode next)) (rw (plain, newline, space, quote) refl)

-- ---- the end of an argument

pub take_in-word_end : (h : Half) → h.reading.mode ≡ modes.Word → reads_next h ≡ true → TakesInByte (code "\n") h (with_pending modes.MacroGap pending_acts.EndArgument h) events.Nothing false
take_in-word_end h mode next = subst (λ (k : Half). TakesInByte (code "\n") k (with_pending modes.MacroGap pending_acts.EndArgument k) events.Nothing false) (sym (standing modes.Word h mode next)) refl

pub take_in-word_space : (h : Half) → h.reading.mode ≡ modes.Word → reads_next h ≡ true → TakesInByte (code " ") h (with_pending modes.MacroGap pending_acts.EndArgument h) events.Nothing true
take_in-word_space h mode next = subst (λ (k : Half). TakesInByte (code " ") k (with_pending modes.MacroGap pending_acts.EndArgument k) events.Nothing true) (sym (standing modes.Word h mode next)) refl

-- ---- a quoted argument

pub take_in-closing_quote : (h : Half) → h.reading.mode ≡ modes.Quoted → reads_next h ≡ true → TakesInByte (code "\"") h (in_mode modes.Quote h) events.Nothing true
take_in-closing_quote h mode next = subst (λ (k : Half). TakesInByte (code "\"") k (in_mode modes.Quote k) events.Nothing true) (sym (standing modes.Quoted h mode next)) refl

pub take_in-quoted_byte : (b : ℕ) (h : Half) → h.reading.mode ≡ modes.Quoted → reads_next h ≡ true → is_plain b ≡ true → (b == code "\"") ≡ false → TakesInByte b h (record h { reading = record h.reading { pending_act = pending_acts.Put b } }) events.Nothing true
take_in-quoted_byte b h mode next plain quote =
    let apart : (c : ℕ) → is_plain c ≡ false → (b == c) ≡ false = λ c. apart_from is_plain b c plain in
    subst (λ (k : Half). TakesInByte b k (record k { reading = record k.reading { pending_act = pending_acts.Put b } }) events.Nothing true) (sym (standing modes.Quoted h mode next)) (rw (apart (code "\\") refl, apart (code "\n") refl, quote) refl)

pub take_in-after_quote : (b : ℕ) (h : Half) → h.reading.mode ≡ modes.Quote → reads_next h ≡ true → (b == code "\\") ≡ false → (b == code "\"") ≡ false → TakesInByte b h (with_pending modes.MacroGap pending_acts.EndArgument h) events.Nothing false
take_in-after_quote b h mode next plain quote = subst (λ (k : Half). TakesInByte b k (with_pending modes.MacroGap pending_acts.EndArgument k) events.Nothing false) (sym (standing modes.Quote h mode next)) (rw (plain, quote) refl)

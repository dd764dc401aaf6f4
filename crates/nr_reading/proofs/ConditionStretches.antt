-- Conditions in a stretch of items.
use Prim.Native.Char.{code}
use Rattle.std.specs.Prelude.{◌==◌}
use Rattle.std.proofs.Common.{◌≡◌, ℕ, Bool, true, false, inl, inr, refl, sym, subst}
use Rattle.std.proofs.lemmas.Bool.{cases_Bool}
use Rattle.nr_reading.specs.declared.event.Event.TheVariants as events
use Rattle.nr_reading.specs.declared.event.Question.TheVariants as questions
use Rattle.nr_reading.specs.declared.half.Half.{Half}
use Rattle.nr_reading.specs.declared.mode.PendingAct.TheVariants as pending_acts
use Rattle.nr_reading.specs.declared.mode.Mode.{Mode}
use Rattle.nr_reading.specs.declared.mode.Mode.TheVariants as modes
use Rattle.nr_reading.specs.Notes.{Note}
use Rattle.nr_reading.specs.declared.notes.Notes.{Notes}
use Rattle.nr_reading.specs.Many.ConditionStretches.{delimits, ends_number, is_digit_or_relation}
use Rattle.nr_reading.specs.Conditions.{begins_number, parentheses}
use Rattle.nr_reading.specs.Half.{reads_next}
use Rattle.nr_reading.specs.Notes as notes
use Rattle.nr_reading.specs.Noting.{noted, are_equal}
use Rattle.nr_reading.specs.Many.Passing.{is_plain}
use Rattle.nr_reading.proofs.Stretches.{TakesInByte, standing, apart_from}

-- in another mode, this being noted
abbrev going : Mode → Note → Half → Half
going m n h = record h { reading = record h.reading { mode = m }; notes = noted n h.notes }

-- `!` before a condition
pub take_in-negation : (o : Notes) (h : Half) → h.reading.mode ≡ modes.Condition → reads_next h ≡ true → h.notes.condition.negated ≡ false → o ≡ noted notes.Negated h.notes → TakesInByte (code "!") h (record h { notes = o }) events.Nothing true
take_in-negation o h mode next plain is =
    subst (λ (x : Notes). TakesInByte (code "!") h (record h { notes = x }) events.Nothing true) (sym is)
    (subst (λ (k : Half). k.notes.condition.negated ≡ false → TakesInByte (code "!") k (record k { notes = noted notes.Negated k.notes }) events.Nothing true) (sym (standing modes.Condition h mode next)) (λ fact. rw fact refl) plain)

-- the first byte of a number is left to it
pub take_in-number_begins : (b : ℕ) (o : Notes) (h : Half) → h.reading.mode ≡ modes.Condition → reads_next h ≡ true → begins_number b ≡ true → o ≡ noted notes.NewLine h.notes
    → TakesInByte b h (record h { reading = record h.reading { mode = modes.Number 0 }; notes = o }) events.Nothing false
take_in-number_begins b o h mode next begins is =
    let apart : (c : ℕ) → begins_number c ≡ false → (b == c) ≡ false = λ c. apart_from begins_number b c begins in
    subst (λ (x : Notes). TakesInByte b h (record h { reading = record h.reading { mode = modes.Number 0 }; notes = x }) events.Nothing false) (sym is)
    (subst (λ (k : Half). TakesInByte b k (going (modes.Number 0) notes.NewLine k) events.Nothing false) (sym (standing modes.Condition h mode next))
    (rw (apart (code "\\") refl, apart (code "\n") refl, apart (code " ") refl, apart (code "\t") refl, apart (code "!") refl, apart (code "o") refl, apart (code "e") refl, apart (code "t") refl, apart (code "n") refl, begins) refl))

-- the byte that delimits two strings
pub take_in-delimiter : (b : ℕ) (o : Notes) (h : Half) → h.reading.mode ≡ modes.Condition → reads_next h ≡ true → begins_number b ≡ false → delimits b ≡ true → o ≡ noted notes.Strings h.notes
    → TakesInByte b h (record h { reading = record h.reading { mode = modes.First b }; notes = o }) events.Nothing true
take_in-delimiter b o h mode next other ends is =
    let apart : (c : ℕ) → delimits c ≡ false → (b == c) ≡ false = λ c. apart_from delimits b c ends in
    subst (λ (x : Notes). TakesInByte b h (record h { reading = record h.reading { mode = modes.First b }; notes = x }) events.Nothing true) (sym is)
    (subst (λ (k : Half). TakesInByte b k (going (modes.First b) notes.Strings k) events.Nothing true) (sym (standing modes.Condition h mode next))
    (rw (apart (code "\\") refl, apart (code "\n") refl, apart (code " ") refl, apart (code "\t") refl, apart (code "!") refl, apart (code "o") refl, apart (code "e") refl, apart (code "t") refl, apart (code "n") refl, other) refl))

-- ---- a number

pub take_in-number_byte : (b depth left : ℕ) (o : Notes) (h : Half) → h.reading.mode ≡ modes.Number depth → reads_next h ≡ true → (b == code "\\") ≡ false → ends_number b depth ≡ false → left ≡ parentheses b depth → o ≡ noted (notes.Line b) h.notes
    → TakesInByte b h (record h { reading = record h.reading { mode = modes.Number left }; notes = o }) events.Nothing true
take_in-number_byte b depth left o h mode next plain goes is_left is =
    subst (λ d. TakesInByte b h (record h { reading = record h.reading { mode = modes.Number d }; notes = o }) events.Nothing true) (sym is_left)
    (subst (λ (x : Notes). TakesInByte b h (record h { reading = record h.reading { mode = modes.Number (parentheses b depth) }; notes = x }) events.Nothing true) (sym is)
    (subst (λ (k : Half). TakesInByte b k (going (modes.Number (parentheses b depth)) (notes.Line b) k) events.Nothing true) (sym (standing (modes.Number depth) h mode next)) (rw (plain, goes) refl)))

-- a digit, or one of `:;<=>`
pub take_in-number_digit : (b depth : ℕ) (o : Notes) (h : Half) → h.reading.mode ≡ modes.Number depth → reads_next h ≡ true → is_digit_or_relation b ≡ true → o ≡ noted (notes.Line b) h.notes → TakesInByte b h (record h { notes = o }) events.Nothing true
take_in-number_digit b depth o h mode next is_one is =
    let apart : (c : ℕ) → is_digit_or_relation c ≡ false → (b == c) ≡ false = λ c. apart_from is_digit_or_relation b c is_one in
    let goes : ends_number b depth ≡ false = elim (cases_Bool (depth == 0)) [
      | inl outside ↦ rw (outside, apart (code "\n") refl, apart (code " ") refl, apart (code "\t") refl, apart (code "\\") refl) refl
      | inr inside ↦ rw (inside, apart (code "\n") refl) refl
    ] in
    let left : depth ≡ parentheses b depth = rw (apart (code "(") refl, apart (code ")") refl) refl in
    subst (λ m. TakesInByte b h (record h { reading = record h.reading { mode = m }; notes = o }) events.Nothing true) (sym mode)
    (take_in-number_byte b depth depth o h mode next (apart (code "\\") refl) goes left is)

pub take_in-number_end : (b depth : ℕ) (h : Half) → h.reading.mode ≡ modes.Number depth → reads_next h ≡ true → (b == code "\\") ≡ false → ends_number b depth ≡ true
    → TakesInByte b h (record h { reading = record h.reading { mode = modes.Skip 0 } }) (events.Judge questions.Number) false
take_in-number_end b depth h mode next plain ends =
    subst (λ (k : Half). TakesInByte b k (record k { reading = record k.reading { mode = modes.Skip 0 } }) (events.Judge questions.Number) false) (sym (standing (modes.Number depth) h mode next)) (rw (plain, ends) refl)

-- ---- two strings

pub take_in-first_byte : (b delimiter : ℕ) (o : Notes) (h : Half) → h.reading.mode ≡ modes.First delimiter → reads_next h ≡ true → is_plain b ≡ true → (b == delimiter) ≡ false → o ≡ noted (notes.First b) h.notes
    → TakesInByte b h (record h { notes = o }) events.Nothing true
take_in-first_byte b delimiter o h mode next plain other is =
    let apart : (c : ℕ) → is_plain c ≡ false → (b == c) ≡ false = λ c. apart_from is_plain b c plain in
    subst (λ (x : Notes). TakesInByte b h (record h { notes = x }) events.Nothing true) (sym is)
    (subst (λ (k : Half). TakesInByte b k (record k { notes = noted (notes.First b) k.notes }) events.Nothing true) (sym (standing (modes.First delimiter) h mode next)) (rw (apart (code "\\") refl, apart (code "\n") refl, other) refl))

pub take_in-first_end : (b delimiter : ℕ) (h : Half) → h.reading.mode ≡ modes.First delimiter → reads_next h ≡ true → is_plain b ≡ true → (b == delimiter) ≡ true
    → TakesInByte b h (record h { reading = record h.reading { mode = modes.Second delimiter } }) events.Nothing true
take_in-first_end b delimiter h mode next plain same =
    let apart : (c : ℕ) → is_plain c ≡ false → (b == c) ≡ false = λ c. apart_from is_plain b c plain in
    subst (λ (k : Half). TakesInByte b k (record k { reading = record k.reading { mode = modes.Second delimiter } }) events.Nothing true) (sym (standing (modes.First delimiter) h mode next)) (rw (apart (code "\\") refl, apart (code "\n") refl, same) refl)

pub take_in-second_byte : (b delimiter : ℕ) (o : Notes) (h : Half) → h.reading.mode ≡ modes.Second delimiter → reads_next h ≡ true → is_plain b ≡ true → (b == delimiter) ≡ false → o ≡ noted (notes.Second b) h.notes
    → TakesInByte b h (record h { notes = o }) events.Nothing true
take_in-second_byte b delimiter o h mode next plain other is =
    let apart : (c : ℕ) → is_plain c ≡ false → (b == c) ≡ false = λ c. apart_from is_plain b c plain in
    subst (λ (x : Notes). TakesInByte b h (record h { notes = x }) events.Nothing true) (sym is)
    (subst (λ (k : Half). TakesInByte b k (record k { notes = noted (notes.Second b) k.notes }) events.Nothing true) (sym (standing (modes.Second delimiter) h mode next)) (rw (apart (code "\\") refl, apart (code "\n") refl, other) refl))

pub take_in-second_end : (b delimiter : ℕ) (found : Bool) (h : Half) → h.reading.mode ≡ modes.Second delimiter → reads_next h ≡ true → is_plain b ≡ true → (b == delimiter) ≡ true → found ≡ are_equal h.notes.condition
    → TakesInByte b h (record h { reading = record h.reading { pending_act = pending_acts.Judge found } }) events.Nothing true
take_in-second_end b delimiter found h mode next plain same is =
    let apart : (c : ℕ) → is_plain c ≡ false → (b == c) ≡ false = λ c. apart_from is_plain b c plain in
    subst (λ x. TakesInByte b h (record h { reading = record h.reading { pending_act = pending_acts.Judge x } }) events.Nothing true) (sym is)
    (subst (λ (k : Half). TakesInByte b k (record k { reading = record k.reading { pending_act = pending_acts.Judge (are_equal k.notes.condition) } }) events.Nothing true) (sym (standing (modes.Second delimiter) h mode next)) (rw (apart (code "\\") refl, apart (code "\n") refl, same) refl))

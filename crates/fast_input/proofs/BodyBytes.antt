-- The bytes of a line of a definition, taken in one by one.
use Prim.Native.Char.{code}
use Rattle.std.specs.Prelude.{map, nat_lt, slice_get, slice_index}
use Rattle.std.proofs.Common.{◌≡◌, ◌≢◌, ℕ, ◌<◌, ◌≤◌, ◌==◌, ◌&&◌, Bool, true, false, List, [], ◌∷◌, length, Some, inl, inr, refl, subst, ap, ◌∙◌, arith}
use Rattle.std.proofs.lemmas.Bool.{ne_eqb, eqb-true, lt-ltb, cases_Bool}
use Rattle.std.proofs.lemmas.List.{length-map}
use Rattle.nr_reading.specs.declared.next_item.NextItem.{NextItem}
use Rattle.nr_reading.specs.declared.next_item.NextItem.TheVariants as next_items
use Rattle.nr_reading.specs.declared.half.Half.{Half}
use Rattle.nr_reading.specs.declared.mode.PendingAct.TheVariants as pending_acts
use Rattle.nr_reading.specs.declared.mode.Escape.TheVariants as escapes
use Rattle.nr_reading.specs.declared.mode.Mode.{Mode}
use Rattle.nr_reading.specs.declared.mode.Mode.TheVariants as modes
use Rattle.nr_reading.specs.declared.notes.Defining.{Defining}
use Rattle.nr_reading.specs.Definitions.{last_line, in_body}
use Rattle.nr_reading.specs.Half.{reads_next}
use Rattle.nr_reading.specs.Many.Passing.{quiet}
use Rattle.nr_reading.specs.Many.Runs.{HasTakenIn}
use Rattle.nr_reading.proofs.Asked.{half_at}
use Rattle.nr_input.specs.Acting.{next}
use Rattle.fast_input.specs.BodyLines.{is_in_body, is_in_body_in}
use Rattle.fast_input.proofs.MacroBytes.{TakesIn, taken_in_byte, nothing_taken_in, byte_there, IsIdle, idle, half_in}

-- ---- where a line of a definition is read

-- at the beginning of a line, or in its midst
abbrev pub line_mode : Bool → Mode
line_mode true = modes.BodyStart 0
line_mode false = modes.Body

pub in_body-is : (b : ℕ) → in_body b ≡ line_mode (b == code "\n")
in_body-is b = elim (cases_Bool (b == code "\n")) [ inl newline ↦ rw newline refl | inr more ↦ rw more refl ]

pub record IsInLine (h : Half) : Type 0 where
  pub begins : Bool
  pub mode : h.reading.mode ≡ line_mode begins
  pub idle : IsIdle h.reading.pending_act h.asks h.reading.escape
  pub keeps : h.notes.defining.keeps ≡ true

both : (x y : Bool) → (x && y) ≡ true → (x ≡ true) × (y ≡ true)
both true true is = (refl, refl)
both true false is = absurd (let wrong : false ≡ true = is in cc)
both false y is = absurd (let wrong : false ≡ true = is in cc)

held_none : (held : ℕ) → (held == 0) ≡ true → modes.BodyStart held ≡ line_mode true
held_none held is = ap modes.BodyStart (eqb-true held 0 is)

in_line_by : (m : Mode) (h : Half) → is_in_body_in h.notes.defining.keeps m h ≡ true → h.reading.mode ≡ m → IsInLine h
in_line_by modes.Body h is mode =
    let two = both h.notes.defining.keeps (reads_next h) is in
    record { begins = false; mode = mode; idle = idle h.reading.pending_act h.asks h.reading.escape two.1; keeps = two.0 }
in_line_by (modes.BodyStart held) h is mode =
    let some = both (held == 0) (h.notes.defining.keeps && reads_next h) is in
    let two = both h.notes.defining.keeps (reads_next h) some.1 in
    record { begins = true; mode = mode ∙ held_none held some.0; idle = idle h.reading.pending_act h.asks h.reading.escape two.1; keeps = two.0 }
in_line_by m h is mode = absurd (let wrong : false ≡ true = is in cc)

pub in_line : (h : Half) → is_in_body h ≡ true → IsInLine h
in_line h is = in_line_by h.reading.mode h is refl

-- ---- one byte

-- two bytes at least tell the last line
long_last : (d : Defining) → 1 < length (last_line d)
long_last d = long_by d.ending refl
  where
    long_by : (e : List ℕ) → d.ending ≡ e → 1 < length (last_line d)
    long_by [] is = rw is (omega arith)
    long_by (b ∷ bs) is = rw is (omega arith)

-- so many of them may have come
may_have : (n : ℕ) (d : Defining) → n ≤ 1 → nat_lt n (length (last_line d)) ≡ true
may_have n d few = lt-ltb n (length (last_line d)) (let long = long_last d in omega (arith, few, long))

-- a byte that stands for itself is to be added
pub takes_in_own : (x : Bool) (b : ℕ) (h : Half) → h.notes.defining.keeps ≡ true → b ≢ code "\\" → (x ≡ true → b ≢ code ".") → TakesIn b (half_in (line_mode x) h) (next (pending_acts.Add b) (half_in (in_body b) h)) true
takes_in_own false b h keeps apart other = rw (ne_eqb b (code "\\") apart, keeps) refl
takes_in_own true b h keeps apart other = rw (ne_eqb b (code "\\") apart, may_have 0 h.notes.defining (omega arith), ne_eqb b (code ".") (other refl), keeps) refl

-- a dot at the beginning of a line is held back
pub takes_in_dot : (h : Half) → TakesIn (code ".") (half_in (modes.BodyStart 0) h) (half_in (modes.BodyStart 1) h) true
takes_in_dot h =
    let d = h.notes.defining in
    let more : (1 == length (last_line d)) ≡ false = ne_eqb 1 (length (last_line d)) (λ e. let long = long_last d in omega (arith, e, long)) in
    rw (may_have 0 d (omega arith), more) refl

-- after it a byte that is not the last line's shows that both belong to the text
pub takes_in_other : (b : ℕ) (h : Half) → h.notes.defining.keeps ≡ true → b ≢ code "\\" → b ≢ slice_index (last_line h.notes.defining) 1
    → TakesIn b (half_in (modes.BodyStart 1) h) (next (pending_acts.Release 1 0 (Some b)) (half_in (in_body b) h)) true
takes_in_other b h keeps apart other = rw (ne_eqb b (code "\\") apart, may_have 1 h.notes.defining (omega arith), ne_eqb b (slice_index (last_line h.notes.defining) 1) other, keeps) refl

-- after a `\`
abbrev half_escaped : Bool → Half → Half
half_escaped x h = half_at (record { mode = line_mode x; escape = escapes.Begun; pending_act = pending_acts.Look; continued = h.reading.continued; no_break = h.reading.no_break }) h.signs [] h.delimited h.notes

takes_in_escape : (x : Bool) (h : Half) → TakesIn (code "\\") (half_in (line_mode x) h) (half_escaped x h) true
takes_in_escape true h = refl
takes_in_escape false h = refl

-- a second one makes it one that stands for itself
takes_in_second : (x : Bool) (h : Half) → h.notes.defining.keeps ≡ true → TakesIn (code "\\") (half_escaped x h) (next (pending_acts.Add (code "\\")) (half_in modes.Body h)) true
takes_in_second true h keeps = rw (may_have 0 h.notes.defining (omega arith), keeps) refl
takes_in_second false h keeps = rw keeps refl

-- ---- the first bytes of a stretch

module _ (bs : List ℕ) (h : Half) (keeps : h.notes.defining.keeps ≡ true) where
  abbrev fs : List NextItem
  fs = map next_items.Byte bs

  there : (k b : ℕ) → k < length bs → slice_index bs k ≡ b → slice_get fs k ≡ Some (next_items.Byte b)
  there k b less is = byte_there bs k less ∙ ap (λ c. Some (next_items.Byte c)) is

  pub own_taken_in : (x : Bool) (b : ℕ) → 0 < length bs → slice_index bs 0 ≡ b → b ≢ code "\\" → (x ≡ true → b ≢ code ".") → HasTakenIn 1 fs (half_in (line_mode x) h) (quiet 1 (next (pending_acts.Add b) (half_in (line_mode (b == code "\n")) h)))
  own_taken_in x b some is apart other =
      let start = half_in (line_mode x) h in
      subst (λ (m : Mode). HasTakenIn 1 fs start (quiet 1 (next (pending_acts.Add b) (half_in m h)))) (in_body-is b)
      (taken_in_byte 0 0 b true fs start start (next (pending_acts.Add b) (half_in (in_body b) h)) (nothing_taken_in fs start) (omega (arith, some, length-map bs next_items.Byte)) refl (there 0 b some is) (takes_in_own x b h keeps apart other))

  pub other_taken_in : (b : ℕ) → 1 < length bs → slice_index bs 0 ≡ code "." → slice_index bs 1 ≡ b → b ≢ code "\\" → b ≢ slice_index (last_line h.notes.defining) 1
      → HasTakenIn 2 fs (half_in (line_mode true) h) (quiet 2 (next (pending_acts.Release 1 0 (Some b)) (half_in (line_mode (b == code "\n")) h)))
  other_taken_in b some first is apart other =
      let start = half_in (line_mode true) h in
      let held = half_in (modes.BodyStart 1) h in
      subst (λ (m : Mode). HasTakenIn 2 fs start (quiet 2 (next (pending_acts.Release 1 0 (Some b)) (half_in m h)))) (in_body-is b)
      (taken_in_byte 1 1 b true fs start held (next (pending_acts.Release 1 0 (Some b)) (half_in (in_body b) h))
      (taken_in_byte 0 0 (code ".") true fs start start held (nothing_taken_in fs start) (omega (arith, some, length-map bs next_items.Byte)) refl (there 0 (code ".") (omega (arith, some)) first) (takes_in_dot h))
      (omega (arith, some, length-map bs next_items.Byte)) refl (there 1 b some is) (takes_in_other b h keeps apart other))

  pub escape_taken_in : (x : Bool) → 1 < length bs → slice_index bs 0 ≡ code "\\" → slice_index bs 1 ≡ code "\\" → HasTakenIn 2 fs (half_in (line_mode x) h) (quiet 2 (next (pending_acts.Add (code "\\")) (half_in modes.Body h)))
  escape_taken_in x some first second =
      let start = half_in (line_mode x) h in
      taken_in_byte 1 1 (code "\\") true fs start (half_escaped x h) (next (pending_acts.Add (code "\\")) (half_in modes.Body h))
      (taken_in_byte 0 0 (code "\\") true fs start start (half_escaped x h) (nothing_taken_in fs start) (omega (arith, some, length-map bs next_items.Byte)) refl (there 0 (code "\\") (omega (arith, some)) first) (takes_in_escape x h))
      (omega (arith, some, length-map bs next_items.Byte)) refl (there 1 (code "\\") some second) (takes_in_second x h keeps)

-- The name of a control line, taken in at once.
use Prim.Native.Char.{code}
use Rattle.std.specs.Prelude.{slice_get, ◌==◌, ◌||◌, nat_le}
use Rattle.std.specs.Int.{from_bool}
use Rattle.std.proofs.lemmas.Bool.{leb-false, ne_eqb}
use Rattle.std.proofs.Common.{◌≡◌, ℕ, ◌+◌, ◌<◌, ◌≤◌, Bool, true, false, List, [], length, Some, refl, sym, subst, ap, ◌∙◌, arith}
use Rattle.nr_reading.specs.declared.event.Event.TheVariants as events
use Rattle.nr_reading.specs.declared.next_item.NextItem.{NextItem}
use Rattle.nr_reading.specs.declared.next_item.NextItem.TheVariants as next_items
use Rattle.nr_reading.specs.declared.half.Half.{Half}
use Rattle.nr_reading.specs.declared.mode.PendingAct.TheVariants as pending_acts
use Rattle.nr_reading.specs.declared.mode.Escape.TheVariants as escapes
use Rattle.nr_reading.specs.declared.mode.Mode.TheVariants as modes
use Rattle.nr_reading.specs.declared.mode.Signs.{Signs}
use Rattle.nr_reading.specs.declared.spelled.Spelled.{Spelled}
use Rattle.nr_reading.specs.declared.notes.Notes.{Notes}
use Rattle.nr_reading.specs.Many.ControlNames.{IsSign, NameEnds, goes_on_name, after_name}
use Rattle.nr_reading.specs.Delimited.{Texts}
use Rattle.nr_reading.specs.Half.{reads_next}
use Rattle.nr_reading.specs.Many.Stretch.{LeadsOn}
use Rattle.nr_reading.specs.Spelled.{ends_name, is_blank, nothing_spelled, spelled}
use Rattle.nr_reading.proofs.Asked.{half_at}
use Rattle.nr_reading.proofs.PlainBytes.{neither}
use Rattle.nr_reading.proofs.Stretches.{TakesInByte, standing, stays, taken_more, left_more, recount, apart_from}
use Rattle.nr_reading.proofs.Weighing.{at}

-- a byte that goes on a name
pub record GoesOn (b : ℕ) : Type 0 where
  pub ends : ends_name b ≡ false
  pub blank : is_blank b ≡ false
  pub escape : (b == code "\\") ≡ false

-- a blank ends a name
apart_blank : (b : ℕ) → ends_name b ≡ false → is_blank b ≡ false
apart_blank b is =
    let two = none_of (nat_le b (code " ")) (b == 127) is in
    let above : code " " < b = leb-false b (code " ") two.0 in
    let not_space : (b == code " ") ≡ false = ne_eqb b (code " ") (λ e. omega (arith, above, e)) in
    let not_tab : (b == code "\t") ≡ false = ne_eqb b (code "\t") (λ e. omega (arith, above, e)) in
    rw (not_space, not_tab) refl
  where
    none_of : (x y : Bool) → (x || y) ≡ false → (x ≡ false) × (y ≡ false)
    none_of false false is = (refl, refl)
    none_of false true is = absurd (let wrong : true ≡ false = is in cc)
    none_of true y is = absurd (let wrong : true ≡ false = is in cc)

pub goes_on : (b : ℕ) → goes_on_name b ≡ true → GoesOn b
goes_on b is = let two = neither (ends_name b) (b == code "\\") is in record { ends = two.0; blank = apart_blank b two.0; escape = two.1 }

-- the byte is taken in, and nothing emitted
abbrev TakesIn : ℕ → Half → Half → Bool → Type 0
TakesIn b h k takes = TakesInByte b h k events.Nothing takes

module _ (c : Bool) (s : Signs) (d : Texts) (o : Notes) where
  takes_in_sign : (b : ℕ) (m n : Bool) → IsSign b n s → TakesIn b (half_at (at modes.Start escapes.Plain c m) s [] d o) (half_at (at modes.Control escapes.Plain c n) s [] d (record o { name = nothing_spelled })) true
  takes_in_sign b m false is = rw is refl
  takes_in_sign b m true is = rw (is.0, is.1) refl

  takes_in_before : (b : ℕ) (n : Bool) → GoesOn b → TakesIn b (half_at (at modes.Control escapes.Plain c n) s [] d o) (half_at (at modes.Name escapes.Plain c n) s [] d o) false
  takes_in_before b n byte = rw (byte.escape, byte.blank) refl

  takes_in_first : (b : ℕ) (n long : Bool) → s.long ≡ long → GoesOn b
      → TakesIn b (half_at (at modes.Name escapes.Plain c n) s [] d (record o { name = nothing_spelled })) (half_at (at modes.Name escapes.Plain c n) s [] d (record o { name = spelled b nothing_spelled })) true
  takes_in_first b n false is byte = rw (byte.escape, byte.ends, is) refl
  takes_in_first b n true is byte = rw (byte.escape, byte.ends, is) refl

  takes_in_second : (a b : ℕ) (n : Bool) → s.long ≡ false → GoesOn b
      → TakesIn b (half_at (at modes.Name escapes.Plain c n) s [] d (record o { name = spelled a nothing_spelled }))
      (half_at (record (at modes.Name escapes.Plain c n) { pending_act = pending_acts.Seek }) s [] d (record o { name = spelled b (spelled a nothing_spelled) })) true
  takes_in_second a b n short byte = rw (byte.escape, byte.ends, short) refl

  takes_in_another : (b : ℕ) (n : Bool) (name : Spelled) → s.long ≡ true → GoesOn b
      → TakesIn b (half_at (at modes.Name escapes.Plain c n) s [] d (record o { name = name })) (half_at (at modes.Name escapes.Plain c n) s [] d (record o { name = spelled b name })) true
  takes_in_another b n name long byte = rw (byte.escape, byte.ends, long) refl

  takes_in_end : (b : ℕ) (n : Bool) (name : Spelled) → ends_name b ≡ true
      → TakesIn b (half_at (at modes.Name escapes.Plain c n) s [] d (record o { name = name })) (half_at (record (at modes.Name escapes.Plain c n) { pending_act = pending_acts.Seek }) s [] d (record o { name = name })) false
  takes_in_end b n name ends = rw (apart_from ends_name b (code "\\") ends refl, ends) refl

-- the sign and the first byte of the name that come at a place of a stretch
module _ (fs : List NextItem) (place n : ℕ) (h : Half) (sign a : ℕ) (quiets : Bool) (start : h.reading.mode ≡ modes.Start) (next : reads_next h ≡ true) (within : place + 3 ≤ length fs)
    (first : slice_get fs place ≡ Some (next_items.Byte sign)) (second : slice_get fs (place + 1) ≡ Some (next_items.Byte a)) (is : IsSign sign quiets h.signs) (goes_a : goes_on_name a ≡ true) where
  abbrev before : Half
  before = half_at (at modes.Start escapes.Plain h.reading.continued h.reading.no_break) h.signs [] h.delimited h.notes

  abbrev naming : Spelled → Half
  naming name = half_at (at modes.Name escapes.Plain h.reading.continued quiets) h.signs [] h.delimited (record h.notes { name = name })

  same : h ≡ before
  same = standing modes.Start h start next

  begun : LeadsOn fs place n h (place + 1 + 1) (n + 1 + 1 + 1) (naming (spelled a nothing_spelled))
  begun =
      let c = h.reading.continued in
      let s = h.signs in
      let d = h.delimited in
      let o = h.notes in
      let controlled : Half = half_at (at modes.Control escapes.Plain c quiets) s [] d (record o { name = nothing_spelled }) in
      let on_a = goes_on a goes_a in
      let here = subst (λ (k : Half). LeadsOn fs place n h place n k) same (stays fs place n h) in
      let one = taken_more fs place n place n sign h before controlled here (omega (arith, within)) refl first (takes_in_sign c s d o sign h.reading.no_break quiets is) in
      let two = left_more fs place n (place + 1) (n + 1) a h controlled (naming nothing_spelled) one (omega (arith, within)) refl second (takes_in_before c s d (record o { name = nothing_spelled }) a quiets on_a) in
      taken_more fs place n (place + 1) (n + 1 + 1) a h (naming nothing_spelled) (naming (spelled a nothing_spelled)) two (omega (arith, within)) refl second (takes_in_first c s d o a quiets s.long refl on_a)

  -- the same, for the machine as it was
  named : (to moves to' moves' : ℕ) (name : Spelled) → to ≡ to' → moves ≡ moves' → LeadsOn fs place n h to moves (after_name quiets name before) → LeadsOn fs place n h to' moves' (after_name quiets name h)
  named to moves to' moves' name place_is count leads =
      subst (λ (k : Half). LeadsOn fs place n h to' moves' (after_name quiets name k)) (sym same) (recount fs place n to to' moves moves' h (after_name quiets name before) leads place_is count)

  -- a name of one byte
  pub taken_in-lone : (b : ℕ) → slice_get fs (place + 2) ≡ Some (next_items.Byte b) → ends_name b ≡ true → LeadsOn fs place n h (place + 2) (n + 4) (after_name quiets (spelled a nothing_spelled) h)
  taken_in-lone b third ends =
      let name = spelled a nothing_spelled in
      let at_third : place + 1 + 1 ≡ place + 2 = omega arith in
      named (place + 1 + 1) (n + 1 + 1 + 1 + 1) (place + 2) (n + 4) name at_third (omega arith)
      (left_more fs place n (place + 1 + 1) (n + 1 + 1 + 1) b h (naming name) (after_name quiets name before) begun (omega (arith, within)) refl (ap (slice_get fs) at_third ∙ third)
      (takes_in_end h.reading.continued h.signs h.delimited h.notes b quiets name ends))

  -- a name of two, where names are long with the byte that ends it
  pub taken_in-pair : (b : ℕ) (long : Bool) → h.signs.long ≡ long → slice_get fs (place + 2) ≡ Some (next_items.Byte b) → goes_on_name b ≡ true → (long ≡ true → NameEnds fs (place + 3))
      → LeadsOn fs place n h (place + 3) (n + (4 + from_bool long)) (after_name quiets (spelled b (spelled a nothing_spelled)) h)
  taken_in-pair b false short third goes_b ends =
      let name = spelled b (spelled a nothing_spelled) in
      let at_third : place + 1 + 1 ≡ place + 2 = omega arith in
      named (place + 1 + 1 + 1) (n + 1 + 1 + 1 + 1) (place + 3) (n + (4 + 0)) name (omega arith) (omega arith)
      (taken_more fs place n (place + 1 + 1) (n + 1 + 1 + 1) b h (naming (spelled a nothing_spelled)) (after_name quiets name before) begun (omega (arith, within)) refl (ap (slice_get fs) at_third ∙ third)
      (takes_in_second h.reading.continued h.signs h.delimited h.notes a b quiets short (goes_on b goes_b)))
  taken_in-pair b true long third goes_b ends =
      let name = spelled b (spelled a nothing_spelled) in
      let at_third : place + 1 + 1 ≡ place + 2 = omega arith in
      let at_end : place + 1 + 1 + 1 ≡ place + 3 = omega arith in
      let end = ends refl in
      let two = taken_more fs place n (place + 1 + 1) (n + 1 + 1 + 1) b h (naming (spelled a nothing_spelled)) (naming name) begun (omega (arith, within)) refl (ap (slice_get fs) at_third ∙ third)
      (takes_in_another h.reading.continued h.signs h.delimited h.notes b quiets (spelled a nothing_spelled) long (goes_on b goes_b)) in
      named (place + 1 + 1 + 1) (n + 1 + 1 + 1 + 1 + 1) (place + 3) (n + (4 + 1)) name at_end (omega arith)
      (left_more fs place n (place + 1 + 1 + 1) (n + 1 + 1 + 1 + 1) end.byte h (naming name) (after_name quiets name before) two (omega (arith, end.within)) refl (ap (slice_get fs) at_end ∙ end.stands)
      (takes_in_end h.reading.continued h.signs h.delimited h.notes end.byte quiets name end.ends))

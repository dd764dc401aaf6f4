-- The definitions of strings in a stretch of items.
use Prim.Native.Char.{code}
use Rattle.std.specs.Prelude.{slice_get, ◌==◌}
use Rattle.std.specs.Int.{from_bool}
use Rattle.std.proofs.Common.{◌≡◌, ℕ, ◌+◌, ◌<◌, Bool, true, false, List, [], length, Some, refl, sym, subst, ap, ◌∙◌, arith}
use Rattle.nr_reading.specs.declared.event.Event.TheVariants as events
use Rattle.nr_reading.specs.declared.next_item.NextItem.{NextItem}
use Rattle.nr_reading.specs.declared.next_item.NextItem.TheVariants as next_items
use Rattle.nr_reading.specs.declared.half.Half.{Half}
use Rattle.nr_reading.specs.declared.mode.PendingAct.TheVariants as pending_acts
use Rattle.nr_reading.specs.declared.mode.Escape.TheVariants as escapes
use Rattle.nr_reading.specs.declared.mode.Mode.TheVariants as modes
use Rattle.nr_reading.specs.declared.spelled.Spelled.{Spelled}
use Rattle.nr_reading.specs.Many.ControlNames.{NameEnds, goes_on_name}
use Rattle.nr_reading.specs.Half.{reads_next}
use Rattle.nr_reading.specs.Many.Stretch.{LeadsOn}
use Rattle.nr_reading.specs.Spelled.{is_blank, ends_name, nothing_spelled, spelled}
use Rattle.nr_reading.specs.Many.StringStretches.{after_name}
use Rattle.nr_reading.proofs.Asked.{half_at}
use Rattle.nr_reading.proofs.ControlNames.{goes_on}
use Rattle.nr_reading.proofs.Stretches.{TakesInByte, standing, taken_more, left_more, recount, apart_from}
use Rattle.nr_reading.proofs.Weighing.{at}

module _ (fs : List NextItem) (from made to moves : ℕ) (old h : Half) (leads : LeadsOn fs from made old to moves h) (mode : h.reading.mode ≡ modes.StringBefore) (next : reads_next h ≡ true)
    (a b : ℕ) (within : to + 1 < length fs) (first : slice_get fs to ≡ Some (next_items.Byte a)) (second : slice_get fs (to + 1) ≡ Some (next_items.Byte b)) (goes_a : goes_on_name a ≡ true) where
  abbrev there : Half
  there = half_at (at modes.StringBefore escapes.Plain h.reading.continued h.reading.no_break) h.signs [] h.delimited h.notes

  abbrev naming : Spelled → Half
  naming name = record there { reading = record there.reading { mode = modes.StringName }; notes = record there.notes { name = name } }

  same : h ≡ there
  same = standing modes.StringBefore h mode next

  -- whether names are long or not
  takes_in_first : (long : Bool) → h.signs.long ≡ long → TakesInByte a (naming nothing_spelled) (naming (spelled a nothing_spelled)) events.Nothing true
  takes_in_first false is = let on_a = goes_on a goes_a in rw (on_a.escape, on_a.ends, is) refl
  takes_in_first true is = let on_a = goes_on a goes_a in rw (on_a.escape, on_a.ends, is) refl

  -- the first byte
  begun : LeadsOn fs from made old (to + 1) (moves + 1 + 1) (naming (spelled a nothing_spelled))
  begun =
      let on_a = goes_on a goes_a in
      let one = left_more fs from made to moves a old there (naming nothing_spelled) (subst (λ (x : Half). LeadsOn fs from made old to moves x) same leads) (omega (arith, within)) refl first (rw (on_a.escape, on_a.blank) refl) in
      taken_more fs from made to (moves + 1) a old (naming nothing_spelled) (naming (spelled a nothing_spelled)) one (omega (arith, within)) refl first (takes_in_first h.signs.long refl)

  -- a name of one byte
  pub lone_named : (b == code "\\") ≡ false → ends_name b ≡ true → LeadsOn fs from made old (to + 1) (moves + 1 + 1 + 1) (after_name (spelled a nothing_spelled) h)
  lone_named plain ends =
      subst (λ (x : Half). LeadsOn fs from made old (to + 1) (moves + 1 + 1 + 1) (after_name (spelled a nothing_spelled) x)) (sym same)
      (left_more fs from made (to + 1) (moves + 1 + 1) b old (naming (spelled a nothing_spelled)) (after_name (spelled a nothing_spelled) there) begun within refl second (rw (plain, ends) refl))

  -- a name of two, where names are long with the byte that ends it
  pub pair_named : (long : Bool) → h.signs.long ≡ long → goes_on_name b ≡ true → (long ≡ true → NameEnds fs (to + 2))
      → LeadsOn fs from made old (to + 2) (moves + (3 + from_bool long)) (after_name (spelled b (spelled a nothing_spelled)) h)
  pair_named false short goes_b ends =
      let on_b = goes_on b goes_b in
      let name = spelled b (spelled a nothing_spelled) in
      subst (λ (x : Half). LeadsOn fs from made old (to + 2) (moves + (3 + 0)) (after_name name x)) (sym same)
      (recount fs from made (to + 1 + 1) (to + 2) (moves + 1 + 1 + 1) (moves + (3 + 0)) old (after_name name there)
      (taken_more fs from made (to + 1) (moves + 1 + 1) b old (naming (spelled a nothing_spelled)) (after_name name there) begun within refl second (rw (on_b.escape, on_b.ends, short) refl)) (omega arith) (omega arith))
  pair_named true long goes_b ends =
      let on_b = goes_on b goes_b in
      let name = spelled b (spelled a nothing_spelled) in
      let at_end : to + 1 + 1 ≡ to + 2 = omega arith in
      let end = ends refl in
      let two = taken_more fs from made (to + 1) (moves + 1 + 1) b old (naming (spelled a nothing_spelled)) (naming name) begun within refl second (rw (on_b.escape, on_b.ends, long) refl) in
      subst (λ (x : Half). LeadsOn fs from made old (to + 2) (moves + (3 + 1)) (after_name name x)) (sym same)
      (recount fs from made (to + 1 + 1) (to + 2) (moves + 1 + 1 + 1 + 1) (moves + (3 + 1)) old (after_name name there)
      (left_more fs from made (to + 1 + 1) (moves + 1 + 1 + 1) end.byte old (naming name) (after_name name there) two (omega (arith, end.within)) refl (ap (slice_get fs) at_end ∙ end.stands)
      (rw (apart_from ends_name end.byte (code "\\") end.ends refl, end.ends) refl)) at_end (omega arith))

-- ---- the text

-- in another mode, with this pending
abbrev pub begun_text : Half → Half
begun_text h = record h { reading = record h.reading { mode = modes.StringText; pending_act = pending_acts.Begin } }

pub take_in-quote : (h : Half) → h.reading.mode ≡ modes.StringBlanks → reads_next h ≡ true → TakesInByte (code "\"") h (begun_text h) events.Nothing true
take_in-quote h mode next = subst (λ (k : Half). TakesInByte (code "\"") k (begun_text k) events.Nothing true) (sym (standing modes.StringBlanks h mode next)) refl

pub take_in-text_begins : (b : ℕ) (h : Half) → h.reading.mode ≡ modes.StringBlanks → reads_next h ≡ true → (b == code "\\") ≡ false → is_blank b ≡ false → (b == code "\"") ≡ false → TakesInByte b h (begun_text h) events.Nothing false
take_in-text_begins b h mode next plain blank quote = subst (λ (k : Half). TakesInByte b k (begun_text k) events.Nothing false) (sym (standing modes.StringBlanks h mode next)) (rw (plain, blank, quote) refl)

pub take_in-text_byte : (b : ℕ) (h : Half) → h.reading.mode ≡ modes.StringText → reads_next h ≡ true → (b == code "\\") ≡ false → (b == code "\n") ≡ false → TakesInByte b h (record h { reading = record h.reading { pending_act = pending_acts.Add b } }) events.Nothing true
take_in-text_byte b h mode next plain newline = subst (λ (k : Half). TakesInByte b k (record k { reading = record k.reading { pending_act = pending_acts.Add b } }) events.Nothing true) (sym (standing modes.StringText h mode next)) (rw (plain, newline) refl)

pub take_in-text_end : (h : Half) → h.reading.mode ≡ modes.StringText → reads_next h ≡ true → TakesInByte (code "\n") h (record h { reading = record h.reading { mode = modes.Start; pending_act = pending_acts.Define } }) events.Nothing true
take_in-text_end h mode next = subst (λ (k : Half). TakesInByte (code "\n") k (record k { reading = record k.reading { mode = modes.Start; pending_act = pending_acts.Define } }) events.Nothing true) (sym (standing modes.StringText h mode next)) refl

-- A closing brace after the bytes that are gathered of a text line, as moves of the machine that reads.
use Prim.Native.Char.{code}
use Rattle.std.specs.Prelude.{map, slice_get}
use Rattle.std.specs.Option.{option_map}
use Rattle.std.proofs.Common.{◌≡◌, ℕ, suc, ◌+◌, ◌≤◌, Bool, true, false, List, length, drop, Option, None, Some, refl, ap, sym, ◌∙◌, subst, arith}
use Rattle.std.proofs.lemmas.Bool.{and_from, and_parts, eq-eqb, eqb-true}
use Rattle.std.proofs.lemmas.Option.{slice_get-map, slice_get_within}
use Rattle.nr_store.specs.Store.{Stored, charge_of}
use Rattle.nr_store.specs.Windows.{rest_of, left_times}
use Rattle.nr_store.specs.Laws.{left_times-run}
use Rattle.nr_store.specs.declared.element.Element.{Element}
use Rattle.nr_store.specs.declared.element.Element.TheVariants as elements
use Rattle.nr_reading.specs.declared.event.Event.TheVariants as events
use Rattle.nr_reading.specs.declared.next_item.NextItem.{NextItem}
use Rattle.nr_reading.specs.declared.next_item.NextItem.TheVariants as next_items
use Rattle.nr_reading.specs.declared.half.Half.{Half}
use Rattle.nr_reading.specs.declared.mode.Escape.{Escape}
use Rattle.nr_reading.specs.declared.mode.Escape.TheVariants as escapes
use Rattle.nr_reading.specs.Many.Braces.{begins_with_brace, is_byte}
use Rattle.nr_reading.specs.Many.InText.{is_in_text, IsInText}
use Rattle.nr_reading.specs.Many.Passing.{quiet}
use Rattle.nr_reading.specs.Many.Runs.{HasTakenIn}
use Rattle.nr_reading.proofs.InText.{in_text}
use Rattle.nr_reading.proofs.Stretches.{TakesInByte, nothing_taken_in, stays, taken_more}
use Rattle.nr_input.specs.declared.reader.Reader.{Reader}
use Rattle.fast_input.specs.declared.splices.Splice.{Splice}
use Rattle.nr_input.specs.Place.{element_item}
use Rattle.fast_input.specs.Gathering.{AreGathered, HasBrace, LeadsInText, Leaves, brace_items, last_asked, spliced}
use Rattle.fast_input.proofs.LevelStretches.{left_times-add, rest-left_times}
use Rattle.fast_input.proofs.PuttingLevel.{charge-afterwards}
use Rattle.fast_input.proofs.StretchesRead.{level_read, level_pays}
use Rattle.fast_input.proofs.TextBytes.{leaves_on, slice_get-drop}
use Rattle.fast_input.proofs.TextGathered.{byte_at, depth-afterwards, stretch_at}

-- ---- the stretch shows it where the level does

-- an item that is a byte
byte_is : (b : ℕ) (f : Option NextItem) → is_byte b f ≡ true → f ≡ Some (next_items.Byte b)
byte_is b None is = absurd (let wrong : false ≡ true = is in cc)
byte_is b (Some (next_items.Byte c)) is = ap (λ n. Some (next_items.Byte n)) (eqb-true c b is)
byte_is b (Some f) is = absurd (let wrong : false ≡ true = is in cc)

module _ (items : ℕ) (fs : List NextItem) (rest : List Element) (stretch : fs ≡ drop items (map element_item rest)) where
  -- a byte of the stretch is one of the level
  pub byte_shown : (n b : ℕ) → is_byte b (slice_get fs n) ≡ true → slice_get rest (items + n) ≡ Some (elements.Byte b)
  byte_shown n b is = byte_at (slice_get rest (items + n)) b (sym (stretch_at items n fs rest stretch) ∙ byte_is b (slice_get fs n) is)

  -- and a byte of the level one of the stretch
  pub shown_byte : (n b : ℕ) → slice_get rest (items + n) ≡ Some (elements.Byte b) → is_byte b (slice_get fs n) ≡ true
  shown_byte n b is = rw (stretch_at items n fs rest stretch, is) (eq-eqb b b refl)

  -- so it is with the brace
  pub has_brace : begins_with_brace fs ≡ true → HasBrace items rest
  has_brace begins =
      let both = and_parts (is_byte (code "\\") (slice_get fs 0)) (is_byte (code "}") (slice_get fs 1)) begins in
      let here : items ≡ items + 0 = omega arith in
      let next : suc items ≡ items + 1 = omega arith in
      (ap (slice_get rest) here ∙ byte_shown 0 (code "\\") both.0, ap (slice_get rest) next ∙ byte_shown 1 (code "}") both.1)

  pub brace_begins : HasBrace items rest → begins_with_brace fs ≡ true
  brace_begins brace =
      let here : items + 0 ≡ items = omega arith in
      let next : items + 1 ≡ suc items = omega arith in
      and_from (is_byte (code "\\") (slice_get fs 0)) (is_byte (code "}") (slice_get fs 1)) (shown_byte 0 (code "\\") (ap (slice_get rest) here ∙ brace.0)) (shown_byte 1 (code "}") (ap (slice_get rest) next ∙ brace.1))

-- ---- what is half read is as before after it

-- what is half read, with this part of an escape
abbrev with_escape : Escape → Half → Half
with_escape e h = record h { reading = record h.reading { escape = e } }

-- an escape begins
begins : (h : Half) → IsInText h → TakesInByte (code "\\") h (with_escape escapes.Begun h) events.Nothing true
begins h is = rw (is.asks, is.mode, is.escape) refl

-- and ends again
ends : (h : Half) → IsInText h → TakesInByte (code "}") (with_escape escapes.Begun h) (with_escape escapes.Plain h) events.Nothing true
ends h is = rw (is.asks, is.mode) refl

-- both are taken in
brace_taken_in : (fs : List NextItem) (h : Half) → IsInText h → slice_get fs 0 ≡ Some (next_items.Byte (code "\\")) → slice_get fs 1 ≡ Some (next_items.Byte (code "}")) → HasTakenIn 2 fs h (quiet 2 h)
brace_taken_in fs h is first second =
    let within = slice_get_within fs 1 (next_items.Byte (code "}")) second in
    let one = taken_more fs 0 0 0 0 (code "\\") h h (with_escape escapes.Begun h) (stays fs 0 0 h) (omega (arith, within)) is.pending_act first (begins h is) in
    let two = taken_more fs 0 0 1 1 (code "}") h (with_escape escapes.Begun h) (with_escape escapes.Plain h) one (omega (arith, within)) is.pending_act second (ends h is) in
    subst (λ (e : Escape). HasTakenIn 2 fs h (quiet 2 (with_escape e h))) (sym is.escape) (two.taken_in h (nothing_taken_in fs h))

-- ---- it is taken in two moves

module _ {K : Type 0} (x : Stored K) (q : Reader) (text : is_in_text q.half ≡ true) (brace : HasBrace 0 (rest_of x.levels)) where
  -- the level has both
  brace_within : 2 ≤ length (rest_of x.levels)
  brace_within = let within = slice_get_within (rest_of x.levels) 1 (elements.Byte (code "}")) brace.1 in omega (arith, within)

  taken_in : HasTakenIn 2 (map element_item (rest_of x.levels)) q.half (quiet 2 q.half)
  taken_in =
      let fs = map element_item (rest_of x.levels) in
      brace_taken_in fs q.half (in_text q.half text) (slice_get-map element_item (rest_of x.levels) 0 ∙ ap (option_map element_item) brace.0)
      (slice_get-map element_item (rest_of x.levels) 1 ∙ ap (option_map element_item) brace.1)

  -- the moves tell nothing
  brace_leads : LeadsInText 2 x q (left_times 2 x) q
  brace_leads =
      let run = left_times-run 2 x brace_within in
      record {
        reads = λ c p supply holds. level_read x c q p supply 2 (quiet 2 q.half) taken_in holds;
        pays = λ p. level_pays 2 x (left_times 2 x) p q (quiet 2 q.half) taken_in refl;
        stored = subst (λ (w : Stored K). w ≡ record x { levels = w.levels; texts = w.texts; arguments = w.arguments }) (sym run) refl;
        reader = refl;
        charge = λ fits. subst (λ (w : Stored K). charge_of w ≤ w.limit) (sym run) (omega (arith, fits, charge-afterwards 2 x.levels));
        depth = λ fits. subst (λ (w : Stored K). length w.levels ≤ w.deepest) (sym run) (omega (arith, fits, depth-afterwards 2 x.levels));
      }

-- ---- what was gathered is left after it

module _ {K : Type 0} (bytes : List ℕ) (items moves : ℕ) (splices : List Splice) (v : Stored K) (r : Reader) (gathered : AreGathered bytes items moves splices v r) (text : is_in_text r.half ≡ true) where
  abbrev reader : Reader
  reader = spliced (length splices) (last_asked splices r.half.notes.asked) r

  abbrev afterwards : ℕ → Stored K
  afterwards n = left_times (items + n) v

  -- where it stands after the bytes
  brace_leaves : HasBrace items (rest_of v.levels) → Leaves true (moves + 2) bytes v r (afterwards 2) reader
  brace_leaves brace =
      let there = rest-left_times items v gathered.there in
      let shown : (n : ℕ) → slice_get (rest_of (left_times items v).levels) n ≡ slice_get (rest_of v.levels) (items + n) = λ n. ap (λ (xs : List Element). slice_get xs n) there ∙ slice_get-drop items n (rest_of v.levels) in
      let here : items + 0 ≡ items = omega arith in
      let next : items + 1 ≡ suc items = omega arith in
      subst (λ (w : Stored K). Leaves true (moves + 2) bytes v r w reader) (left_times-add items 2 v)
      (leaves_on moves 2 bytes v (left_times items v) (left_times 2 (left_times items v)) r reader reader gathered.whole
      (brace_leads (left_times items v) reader text (shown 0 ∙ ap (slice_get (rest_of v.levels)) here ∙ brace.0, shown 1 ∙ ap (slice_get (rest_of v.levels)) next ∙ brace.1)))

  -- whether it does or not
  pub leaves_after : (closes : Bool) → (closes ≡ true → HasBrace items (rest_of v.levels)) → Leaves true (moves + brace_items closes) bytes v r (afterwards (brace_items closes)) reader
  leaves_after true brace = brace_leaves (brace refl)
  leaves_after false brace =
      let count : moves ≡ moves + 0 = omega arith in
      let same : items ≡ items + 0 = omega arith in
      subst (λ n. Leaves true n bytes v r (afterwards 0) reader) count (subst (λ n. Leaves true moves bytes v r (left_times n v) reader) same gathered.whole)

  -- the level has as many items
  pub after_within : (closes : Bool) → (closes ≡ true → HasBrace items (rest_of v.levels)) → items + brace_items closes ≤ length (rest_of v.levels)
  after_within true brace = let within = slice_get_within (rest_of v.levels) (suc items) (elements.Byte (code "}")) (brace refl).1 in omega (arith, within)
  after_within false brace = let within = gathered.there in omega (arith, within)

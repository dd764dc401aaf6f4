-- Interpolations that stand whole in a stretch, taken in at once.
use Prim.Native.Char.{code}
use Rattle.std.specs.Prelude.{slice_get, ◌==◌, ◌||◌, not}
use Rattle.std.proofs.Common.{◌≡◌, ℕ, ◌+◌, ◌<◌, Bool, true, false, List, [], ◌∷◌, length, Some, inl, inr, refl, sym, subst, ap, ◌∙◌, arith}
use Rattle.std.proofs.lemmas.Bool.{cases_Bool, and_parts, not-true}
use Rattle.nr_reading.specs.declared.ask.Ask.{Ask}
use Rattle.nr_reading.specs.declared.ask.Kind.{Kind}
use Rattle.nr_reading.specs.declared.ask.Kind.TheVariants as kinds
use Rattle.nr_reading.specs.declared.ask.Sign.TheVariants as signs
use Rattle.nr_reading.specs.declared.ask.Stage.TheVariants as stages
use Rattle.nr_reading.specs.declared.event.Event.{Event}
use Rattle.nr_reading.specs.declared.event.Event.TheVariants as events
use Rattle.nr_reading.specs.declared.next_item.NextItem.{NextItem}
use Rattle.nr_reading.specs.declared.next_item.NextItem.TheVariants as next_items
use Rattle.nr_reading.specs.declared.half.Half.{Half}
use Rattle.nr_reading.specs.declared.mode.PendingAct.{PendingAct}
use Rattle.nr_reading.specs.declared.mode.PendingAct.TheVariants as pending_acts
use Rattle.nr_reading.specs.declared.mode.Escape.{Escape}
use Rattle.nr_reading.specs.declared.mode.Escape.TheVariants as escapes
use Rattle.nr_reading.specs.declared.mode.Mode.{Mode}
use Rattle.nr_reading.specs.declared.mode.Mode.TheVariants as modes
use Rattle.nr_reading.specs.declared.mode.Signs.{Signs}
use Rattle.nr_reading.specs.declared.notes.Notes.{Notes}
use Rattle.nr_reading.specs.Ask.{begun_ask, at_stage, with_byte}
use Rattle.nr_reading.specs.Ended.{event_of}
use Rattle.nr_reading.specs.Delimited.{Texts}
use Rattle.nr_reading.specs.Many.InText.{is_in_text, is_in_text_at}
use Rattle.nr_reading.specs.Many.Interpolations.{interpolates_in, interpolates, is_lone_name, is_named, begun, named}
use Rattle.nr_reading.specs.Many.LineBeginnings.{text_begun}
use Rattle.nr_reading.specs.Half.{take_in, reads_plainly, reads_plainly_at}
use Rattle.nr_reading.specs.Mode.{is_direct, reads_name}
use Rattle.nr_reading.specs.Many.Passing.{is_plain, quiet}
use Rattle.nr_reading.specs.Many.Runs.{HasTakenIn}
use Rattle.nr_reading.proofs.Asked.{half_at}
use Rattle.nr_reading.proofs.Moving.{taken_in_counted}
use Rattle.nr_reading.proofs.Paying.{pays_for}
use Rattle.nr_reading.proofs.PlainBytes.{neither}
use Rattle.nr_reading.proofs.Weighing.{at}

-- the byte is taken in and taken, and tells this
abbrev Tells : ℕ → Half → Half → Event → Type 0
Tells b h k e = take_in (next_items.Byte b) h ≡ record { half = k; event = e; takes = true }

-- ---- bytes of names

-- a byte that begins no escape, and ends no line
pub record IsApart (b : ℕ) : Type 0 where
  pub escape : (b == code "\\") ≡ false
  pub newline : (b == code "\n") ≡ false

pub apart : (b : ℕ) → is_plain b ≡ true → IsApart b
apart b is = let two = neither (b == code "\\") (b == code "\n") is in record { escape = two.0; newline = two.1 }

-- a byte that is a name of its own
pub record IsLone (b : ℕ) : Type 0 where
  pub escape : (b == code "\\") ≡ false
  pub newline : (b == code "\n") ≡ false
  pub two : (b == code "(") ≡ false
  pub bracket : (b == code "[") ≡ false
  pub plus : (b == code "+") ≡ false
  pub minus : (b == code "-") ≡ false

pub lone : (b : ℕ) → is_lone_name b ≡ true → IsLone b
lone b is = by (b == code "\\") (b == code "\n") (b == code "(") (b == code "[") (b == code "+") (b == code "-") refl refl refl refl refl refl is
  where
    by : (u v w x y z : Bool) → (b == code "\\") ≡ u → (b == code "\n") ≡ v → (b == code "(") ≡ w → (b == code "[") ≡ x → (b == code "+") ≡ y → (b == code "-") ≡ z → not (u || v || w || x || y || z) ≡ true → IsLone b
    by false false false false false false p q r s t u is = record { escape = p; newline = q; two = r; bracket = s; plus = t; minus = u }
    by u v w x y z p q r s t o is = absurd (let wrong : false ≡ true = is in cc)

-- ---- a `\`, and the byte after it that says what is asked for

module _ (c n : Bool) (s : Signs) (d : Texts) (o : Notes) where
  -- with nothing of an escape read; with a `\`; and with this asked
  abbrev plain_half : Mode → Half
  plain_half m = half_at (at m escapes.Plain c n) s [] d o

  abbrev escaped_half : Mode → Half
  escaped_half m = half_at (at m escapes.Begun c n) s [] d o

  abbrev asking_half : Mode → Ask → Half
  asking_half m a = half_at (at m escapes.Plain c n) s (a ∷ []) d o

  copied_backslash : (m : Mode) → is_direct m ≡ false → Tells (code "\\") (plain_half m) (escaped_half m) events.Nothing
  copied_backslash m copied = rw copied refl

  backslash : (m : Mode) → interpolates_in m s ≡ true → Tells (code "\\") (plain_half m) (escaped_half m) events.Nothing
  backslash modes.Text is = refl
  backslash modes.Start is = let two = neither (code "\\" == s.control) (code "\\" == s.no_break) is in rw (two.0, two.1) refl
  backslash m is = copied_backslash m (not-true (is_direct m) is)

  copied_argument : (m : Mode) → is_direct m ≡ false → Tells (code "$") (escaped_half m) (asking_half m (begun_ask kinds.Argument)) events.Nothing
  copied_argument m copied = elim (cases_Bool (reads_name m)) [ inl name ↦ rw (copied, name) refl | inr other ↦ rw (copied, other) refl ]

  copied_register : (m : Mode) → is_direct m ≡ false → Tells (code "n") (escaped_half m) (asking_half m (begun_ask (kinds.Register signs.None))) events.Nothing
  copied_register m copied = elim (cases_Bool (reads_name m)) [ inl name ↦ rw (copied, name) refl | inr other ↦ rw (copied, other) refl ]

  copied_string : (m : Mode) → is_direct m ≡ false → Tells (code "*") (escaped_half m) (asking_half m (begun_ask kinds.String)) events.Nothing
  copied_string m copied = elim (cases_Bool (reads_name m)) [ inl name ↦ rw (copied, name) refl | inr other ↦ rw (copied, other) refl ]

  argument_asked : (m : Mode) → interpolates_in m s ≡ true → Tells (code "$") (escaped_half m) (asking_half m (begun_ask kinds.Argument)) events.Nothing
  argument_asked modes.Text is = refl
  argument_asked modes.Start is = refl
  argument_asked m is = copied_argument m (not-true (is_direct m) is)

  register_asked : (m : Mode) → interpolates_in m s ≡ true → Tells (code "n") (escaped_half m) (asking_half m (begun_ask (kinds.Register signs.None))) events.Nothing
  register_asked modes.Text is = refl
  register_asked modes.Start is = refl
  register_asked m is = copied_register m (not-true (is_direct m) is)

  string_asked : (m : Mode) → interpolates_in m s ≡ true → Tells (code "*") (escaped_half m) (asking_half m (begun_ask kinds.String)) events.Nothing
  string_asked modes.Text is = refl
  string_asked modes.Start is = refl
  string_asked m is = copied_string m (not-true (is_direct m) is)

  font_asked : (m : Mode) → m ≡ modes.Text → Tells (code "f") (escaped_half m) (asking_half m (begun_ask kinds.Font)) events.Nothing
  font_asked m is = rw is refl

  -- at a line's beginning it begins the text first
  font_begins : (m : Mode) → m ≡ modes.Start → take_in (next_items.Byte (code "f")) (escaped_half m) ≡ record { half = half_at (at modes.Text escapes.Begun false n) s [] d o; event = events.Nothing; takes = false }
  font_begins m is = rw is refl

  -- ---- what is asked for

  -- a register's sign
  plus_read : (m : Mode) → Tells (code "+") (asking_half m (begun_ask (kinds.Register signs.None))) (asking_half m (begun_ask (kinds.Register signs.Plus))) events.Nothing
  plus_read m = elim (cases_Bool s.long) [ inl long ↦ rw long refl | inr short ↦ rw short refl ]

  minus_read : (m : Mode) → Tells (code "-") (asking_half m (begun_ask (kinds.Register signs.None))) (asking_half m (begun_ask (kinds.Register signs.Minus))) events.Nothing
  minus_read m = elim (cases_Bool s.long) [ inl long ↦ rw long refl | inr short ↦ rw short refl ]

  -- a name of one byte
  lone_ends : (k : Kind) (b : ℕ) (m : Mode) → is_named k ≡ true → IsLone b → Tells b (asking_half m (begun_ask k)) (named k (b ∷ []) (plain_half m)) (event_of k (b ∷ []))
  lone_ends kinds.String b m is byte = rw (byte.escape, byte.newline, byte.two, byte.bracket, byte.plus, byte.minus) refl
  lone_ends kinds.Font b m is byte = rw (byte.escape, byte.newline, byte.two, byte.bracket, byte.plus, byte.minus) refl
  lone_ends (kinds.Register s) b m is byte = rw (byte.escape, byte.newline, byte.two, byte.bracket, byte.plus, byte.minus) refl
  lone_ends k b m is byte = absurd (let wrong : false ≡ true = is in cc)

  -- one of two
  two_begin : (k : Kind) (m : Mode) → is_named k ≡ true → Tells (code "(") (asking_half m (begun_ask k)) (asking_half m (at_stage stages.Two (begun_ask k))) events.Nothing
  two_begin kinds.String m is = refl
  two_begin kinds.Font m is = refl
  two_begin (kinds.Register s) m is = refl
  two_begin k m is = absurd (let wrong : false ≡ true = is in cc)

  first_read : (k : Kind) (a : ℕ) (m : Mode) → is_named k ≡ true → IsApart a
      → Tells a (asking_half m (at_stage stages.Two (begun_ask k))) (asking_half m (with_byte a (at_stage stages.Two (begun_ask k)))) events.Nothing
  first_read kinds.String a m is byte = rw (byte.escape, byte.newline) refl
  first_read kinds.Font a m is byte = rw (byte.escape, byte.newline) refl
  first_read (kinds.Register s) a m is byte = rw (byte.escape, byte.newline) refl
  first_read k a m is byte = absurd (let wrong : false ≡ true = is in cc)

  second_ends : (k : Kind) (a b : ℕ) (m : Mode) → is_named k ≡ true → IsApart b
      → Tells b (asking_half m (with_byte a (at_stage stages.Two (begun_ask k)))) (named k (a ∷ b ∷ []) (plain_half m)) (event_of k (a ∷ b ∷ []))
  second_ends kinds.String a b m is byte = rw (byte.escape, byte.newline) refl
  second_ends kinds.Font a b m is byte = rw (byte.escape, byte.newline) refl
  second_ends (kinds.Register s) a b m is byte = rw (byte.escape, byte.newline) refl
  second_ends k a b m is byte = absurd (let wrong : false ≡ true = is in cc)

-- ---- in a stretch

-- one byte more
tells_more : (k taken b : ℕ) (fs : List NextItem) (h j new : Half) (e : Event) → HasTakenIn k fs h (quiet taken j) → taken < length fs → j.reading.pending_act ≡ pending_acts.Look → slice_get fs taken ≡ Some (next_items.Byte b) → Tells b j new e
    → HasTakenIn (k + 1) fs h (record { taken = taken + 1; half = new; event = e })
tells_more k taken b fs h j new e has within look some tells =
    taken_in_counted k taken 1 b fs h j new (record { event = e; takes = true }) has within look some (sym tells) (pays_for (next_items.Byte b) j new (record { event = e; takes = true }) (sym tells) look) refl

-- one byte is looked at, and left
left_once : (k taken b : ℕ) (fs : List NextItem) (h j new : Half) → HasTakenIn k fs h (quiet taken j) → taken < length fs → j.reading.pending_act ≡ pending_acts.Look → slice_get fs taken ≡ Some (next_items.Byte b)
    → take_in (next_items.Byte b) j ≡ record { half = new; event = events.Nothing; takes = false } → HasTakenIn (k + 1) fs h (quiet taken new)
left_once k taken b fs h j new has within look some left =
    let none : taken + 0 ≡ taken = omega arith in
    subst (λ t. HasTakenIn (k + 1) fs h (quiet t new)) none
    (taken_in_counted k taken 0 b fs h j new (record { event = events.Nothing; takes = false }) has within look some (sym left) (pays_for (next_items.Byte b) j new (record { event = events.Nothing; takes = false }) (sym left) look) refl)

-- with nothing asked and nothing pending
plainly : (h : Half) → interpolates h ≡ true → h.reading.pending_act ≡ pending_acts.Look
    → (h ≡ half_at (at h.reading.mode escapes.Plain h.reading.continued h.reading.no_break) h.signs [] h.delimited h.notes) × (interpolates_in h.reading.mode h.signs ≡ true)
plainly h is look =
    let two = and_parts (reads_plainly h) (interpolates_in h.reading.mode h.signs) is in
    (by h.asks h.reading.escape h.reading.pending_act two.0 look, two.1)
  where
    by : (asks : List Ask) (e : Escape) (x : PendingAct) → reads_plainly_at asks e ≡ true → x ≡ pending_acts.Look
        → half_at (record { mode = h.reading.mode; escape = e; pending_act = x; continued = h.reading.continued; no_break = h.reading.no_break }) h.signs asks h.delimited h.notes
        ≡ half_at (at h.reading.mode escapes.Plain h.reading.continued h.reading.no_break) h.signs [] h.delimited h.notes
    by [] escapes.Plain x plain look = rw look refl
    by [] escapes.Begun x plain look = absurd (let wrong : false ≡ true = plain in cc)
    by [] escapes.Comment x plain look = absurd (let wrong : false ≡ true = plain in cc)
    by (a ∷ asks) e x plain look = absurd (let wrong : false ≡ true = plain in cc)

-- the same, counted otherwise, and with what is half read said otherwise
recount : (x x' y y' : ℕ) (p p' : Half) (e : Event) (fs : List NextItem) (h : Half) → HasTakenIn x fs h (record { taken = y; half = p; event = e }) → x ≡ x' → y ≡ y' → p ≡ p' → HasTakenIn x' fs h (record { taken = y'; half = p'; event = e })
recount x x' y y' p p' e fs h has count taken half =
    subst (λ n. HasTakenIn n fs h (record { taken = y'; half = p'; event = e })) count
    (subst (λ n. HasTakenIn x fs h (record { taken = n; half = p'; event = e })) taken (subst (λ (q : Half). HasTakenIn x fs h (record { taken = y; half = q; event = e })) half has))

module _ (fs : List NextItem) (place : ℕ) (j : Half) (is : interpolates j ≡ true) (look : j.reading.pending_act ≡ pending_acts.Look) where
  abbrev c : Bool
  c = j.reading.continued

  abbrev n : Bool
  n = j.reading.no_break

  abbrev there : Half
  there = plain_half c n j.signs j.delimited j.notes j.reading.mode

  abbrev escaped_there : Half
  escaped_there = escaped_half c n j.signs j.delimited j.notes j.reading.mode

  abbrev asking_there : Ask → Half
  asking_there a = asking_half c n j.signs j.delimited j.notes j.reading.mode a

  j_is : j ≡ there
  j_is = (plainly j is look).0

  in_mode : interpolates_in j.reading.mode j.signs ≡ true
  in_mode = (plainly j is look).1

  -- the `\` and the byte after it
  asked : (k : Kind) (b : ℕ) → place + 1 < length fs → slice_get fs place ≡ Some (next_items.Byte (code "\\")) → slice_get fs (place + 1) ≡ Some (next_items.Byte b) → Tells b escaped_there (asking_there (begun_ask k)) events.Nothing
      → (h : Half) (m : ℕ) → HasTakenIn m fs h (quiet place j) → HasTakenIn (m + 2) fs h (quiet (place + 2) (begun k j))
  asked k b within first second tells = λ h m has.
      let one = tells_more m place (code "\\") fs h there escaped_there events.Nothing (subst (λ (x : Half). HasTakenIn m fs h (quiet place x)) j_is has) (omega (arith, within)) refl first (backslash c n j.signs j.delimited j.notes j.reading.mode in_mode) in
      let two = tells_more (m + 1) (place + 1) b fs h escaped_there (asking_there (begun_ask k)) events.Nothing one within refl second tells in
      recount (m + 1 + 1) (m + 2) (place + 1 + 1) (place + 2) (asking_there (begun_ask k)) (begun k j) events.Nothing fs h two (omega arith) (omega arith) (ap (begun k) (sym j_is))

  pub argument_taken_in : place + 1 < length fs → slice_get fs place ≡ Some (next_items.Byte (code "\\")) → slice_get fs (place + 1) ≡ Some (next_items.Byte (code "$"))
      → (h : Half) (m : ℕ) → HasTakenIn m fs h (quiet place j) → HasTakenIn (m + 2) fs h (quiet (place + 2) (begun kinds.Argument j))
  argument_taken_in within first second = asked kinds.Argument (code "$") within first second (argument_asked c n j.signs j.delimited j.notes j.reading.mode in_mode)

  pub register_taken_in : place + 1 < length fs → slice_get fs place ≡ Some (next_items.Byte (code "\\")) → slice_get fs (place + 1) ≡ Some (next_items.Byte (code "n"))
      → (h : Half) (m : ℕ) → HasTakenIn m fs h (quiet place j) → HasTakenIn (m + 2) fs h (quiet (place + 2) (begun (kinds.Register signs.None) j))
  register_taken_in within first second = asked (kinds.Register signs.None) (code "n") within first second (register_asked c n j.signs j.delimited j.notes j.reading.mode in_mode)

  pub string_taken_in : place + 1 < length fs → slice_get fs place ≡ Some (next_items.Byte (code "\\")) → slice_get fs (place + 1) ≡ Some (next_items.Byte (code "*"))
      → (h : Half) (m : ℕ) → HasTakenIn m fs h (quiet place j) → HasTakenIn (m + 2) fs h (quiet (place + 2) (begun kinds.String j))
  string_taken_in within first second = asked kinds.String (code "*") within first second (string_asked c n j.signs j.delimited j.notes j.reading.mode in_mode)

  pub font_taken_in : j.reading.mode ≡ modes.Text → place + 1 < length fs → slice_get fs place ≡ Some (next_items.Byte (code "\\")) → slice_get fs (place + 1) ≡ Some (next_items.Byte (code "f"))
      → (h : Half) (m : ℕ) → HasTakenIn m fs h (quiet place j) → HasTakenIn (m + 2) fs h (quiet (place + 2) (begun kinds.Font j))
  font_taken_in text within first second = asked kinds.Font (code "f") within first second (font_asked c n j.signs j.delimited j.notes j.reading.mode text)

  -- a font escape whose name is one byte, where it begins the text of a line
  pub font_begun : j.reading.mode ≡ modes.Start → (b : ℕ) → place + 2 < length fs → slice_get fs place ≡ Some (next_items.Byte (code "\\")) → slice_get fs (place + 1) ≡ Some (next_items.Byte (code "f")) → slice_get fs (place + 2) ≡ Some (next_items.Byte b) → IsLone b
      → (h : Half) (m : ℕ) → HasTakenIn m fs h (quiet place j) → HasTakenIn (m + 4) fs h (record { taken = place + 3; half = named kinds.Font (b ∷ []) (text_begun j); event = events.Font })
  font_begun start b within first second third byte = λ h m has.
      let began : Half = escaped_half false n j.signs j.delimited j.notes modes.Text in
      let waits : Half = asking_half false n j.signs j.delimited j.notes modes.Text (begun_ask kinds.Font) in
      let ended : Half = named kinds.Font (b ∷ []) (plain_half false n j.signs j.delimited j.notes modes.Text) in
      let at_b : place + 1 + 1 ≡ place + 2 = omega arith in
      let one = tells_more m place (code "\\") fs h there escaped_there events.Nothing (subst (λ (x : Half). HasTakenIn m fs h (quiet place x)) j_is has) (omega (arith, within)) refl first (backslash c n j.signs j.delimited j.notes j.reading.mode in_mode) in
      let two = left_once (m + 1) (place + 1) (code "f") fs h escaped_there began one (omega (arith, within)) refl second (font_begins c n j.signs j.delimited j.notes j.reading.mode start) in
      let three = tells_more (m + 1 + 1) (place + 1) (code "f") fs h began waits events.Nothing two (omega (arith, within)) refl second (font_asked false n j.signs j.delimited j.notes modes.Text refl) in
      let four = tells_more (m + 1 + 1 + 1) (place + 1 + 1) b fs h waits ended events.Font three (omega (arith, within)) refl (ap (slice_get fs) at_b ∙ third) (lone_ends false n j.signs j.delimited j.notes kinds.Font b modes.Text refl byte) in
      recount (m + 1 + 1 + 1 + 1) (m + 4) (place + 1 + 1 + 1) (place + 3) ended (named kinds.Font (b ∷ []) (text_begun j)) events.Font fs h four (omega arith) (omega arith)
      (ap (λ (x : Half). named kinds.Font (b ∷ []) (text_begun x)) (sym j_is))

  -- one item more of it, where this was asked
  ask_more : (k k' : Kind) (before b : ℕ) → place + before < length fs → slice_get fs (place + before) ≡ Some (next_items.Byte b) → Tells b (asking_there (begun_ask k)) (asking_there (begun_ask k')) events.Nothing
      → (h : Half) (m : ℕ) → HasTakenIn (m + before) fs h (quiet (place + before) (begun k j)) → HasTakenIn (m + (before + 1)) fs h (quiet (place + (before + 1)) (begun k' j))
  ask_more k k' before b within next tells = λ h m has.
      let one = tells_more (m + before) (place + before) b fs h (asking_there (begun_ask k)) (asking_there (begun_ask k')) events.Nothing
      (subst (λ (x : Half). HasTakenIn (m + before) fs h (quiet (place + before) x)) (ap (begun k) j_is) has) within refl next tells in
      recount (m + before + 1) (m + (before + 1)) (place + before + 1) (place + (before + 1)) (asking_there (begun_ask k')) (begun k' j) events.Nothing fs h one (omega arith) (omega arith) (ap (begun k') (sym j_is))

  pub plus_taken_in : place + 2 < length fs → slice_get fs (place + 2) ≡ Some (next_items.Byte (code "+"))
      → (h : Half) (m : ℕ) → HasTakenIn (m + 2) fs h (quiet (place + 2) (begun (kinds.Register signs.None) j)) → HasTakenIn (m + 3) fs h (quiet (place + 3) (begun (kinds.Register signs.Plus) j))
  plus_taken_in within next = ask_more (kinds.Register signs.None) (kinds.Register signs.Plus) 2 (code "+") within next (plus_read c n j.signs j.delimited j.notes j.reading.mode)

  pub minus_taken_in : place + 2 < length fs → slice_get fs (place + 2) ≡ Some (next_items.Byte (code "-"))
      → (h : Half) (m : ℕ) → HasTakenIn (m + 2) fs h (quiet (place + 2) (begun (kinds.Register signs.None) j)) → HasTakenIn (m + 3) fs h (quiet (place + 3) (begun (kinds.Register signs.Minus) j))
  minus_taken_in within next = ask_more (kinds.Register signs.None) (kinds.Register signs.Minus) 2 (code "-") within next (minus_read c n j.signs j.delimited j.notes j.reading.mode)

  -- a name
  module _ (k : Kind) (before : ℕ) (kind : is_named k ≡ true) where
    begun_there : (h : Half) (m : ℕ) → HasTakenIn (m + before) fs h (quiet (place + before) (begun k j)) → HasTakenIn (m + before) fs h (quiet (place + before) (asking_there (begun_ask k)))
    begun_there h m has = subst (λ (x : Half). HasTakenIn (m + before) fs h (quiet (place + before) x)) (ap (begun k) j_is) has

    pub lone_taken_in : (b : ℕ) → place + before < length fs → slice_get fs (place + before) ≡ Some (next_items.Byte b) → IsLone b
        → (h : Half) (m : ℕ) → HasTakenIn (m + before) fs h (quiet (place + before) (begun k j))
        → HasTakenIn (m + (before + 1)) fs h (record { taken = place + (before + 1); half = named k (b ∷ []) j; event = event_of k (b ∷ []) })
    lone_taken_in b within next byte = λ h m has.
        let one = tells_more (m + before) (place + before) b fs h (asking_there (begun_ask k)) (named k (b ∷ []) there) (event_of k (b ∷ [])) (begun_there h m has) within refl next
        (lone_ends c n j.signs j.delimited j.notes k b j.reading.mode kind byte) in
        recount (m + before + 1) (m + (before + 1)) (place + before + 1) (place + (before + 1)) (named k (b ∷ []) there) (named k (b ∷ []) j) (event_of k (b ∷ [])) fs h one (omega arith) (omega arith)
        (ap (named k (b ∷ [])) (sym j_is))

    pub pair_taken_in : (a b : ℕ) → place + (before + 2) < length fs → slice_get fs (place + before) ≡ Some (next_items.Byte (code "(")) → slice_get fs (place + (before + 1)) ≡ Some (next_items.Byte a) → slice_get fs (place + (before + 2)) ≡ Some (next_items.Byte b) → IsApart a → IsApart b
        → (h : Half) (m : ℕ) → HasTakenIn (m + before) fs h (quiet (place + before) (begun k j))
        → HasTakenIn (m + (before + 3)) fs h (record { taken = place + (before + 3); half = named k (a ∷ b ∷ []) j; event = event_of k (a ∷ b ∷ []) })
    pair_taken_in a b within first second third apart_a apart_b = λ h m has.
        let x1 = asking_there (at_stage stages.Two (begun_ask k)) in
        let x2 = asking_there (with_byte a (at_stage stages.Two (begun_ask k))) in
        let at_a : place + before + 1 ≡ place + (before + 1) = omega arith in
        let at_b : place + before + 1 + 1 ≡ place + (before + 2) = omega arith in
        let one = tells_more (m + before) (place + before) (code "(") fs h (asking_there (begun_ask k)) x1 events.Nothing (begun_there h m has) (omega (arith, within)) refl first (two_begin c n j.signs j.delimited j.notes k j.reading.mode kind) in
        let two = tells_more (m + before + 1) (place + before + 1) a fs h x1 x2 events.Nothing one (omega (arith, within)) refl (ap (slice_get fs) at_a ∙ second) (first_read c n j.signs j.delimited j.notes k a j.reading.mode kind apart_a) in
        let three = tells_more (m + before + 1 + 1) (place + before + 1 + 1) b fs h x2 (named k (a ∷ b ∷ []) there) (event_of k (a ∷ b ∷ [])) two (omega (arith, within)) refl
        (ap (slice_get fs) at_b ∙ third) (second_ends c n j.signs j.delimited j.notes k a b j.reading.mode kind apart_b) in
        recount (m + before + 1 + 1 + 1) (m + (before + 3)) (place + before + 1 + 1 + 1) (place + (before + 3)) (named k (a ∷ b ∷ []) there) (named k (a ∷ b ∷ []) j) (event_of k (a ∷ b ∷ [])) fs h three (omega arith) (omega arith)
        (ap (named k (a ∷ b ∷ [])) (sym j_is))

-- ---- after the name of a font

-- nothing of an escape is half read in text
reads_text : (asks : List Ask) (e : Escape) → reads_plainly_at asks e ≡ true → is_in_text_at modes.Text e pending_acts.Look asks ≡ true
reads_text [] escapes.Plain is = refl
reads_text asks e is = absurd (let wrong : false ≡ true = is in cc)

-- the next item is read in the midst of the text line
pub font_after : (k : Kind) (name : List ℕ) (h : Half) → interpolates h ≡ true → k ≡ kinds.Font → h.reading.mode ≡ modes.Text → is_in_text (named k name h) ≡ true
font_after k name h plain font text =
    let both = and_parts (reads_plainly h) (interpolates_in h.reading.mode h.signs) plain in
    rw (font, text) (reads_text h.asks h.reading.escape both.0)

-- and so where the text began with it
pub font_begun_after : (name : List ℕ) (h : Half) → interpolates h ≡ true → is_in_text (named kinds.Font name (text_begun h)) ≡ true
font_begun_after name h plain =
    let both = and_parts (reads_plainly h) (interpolates_in h.reading.mode h.signs) plain in
    reads_text h.asks h.reading.escape both.0

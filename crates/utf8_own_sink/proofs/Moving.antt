-- Several bytes are read at once.
use Rattle.std.proofs.Common.{◌≡◌, ◌≢◌, ℕ, zero, suc, ◌+◌, ◌-◌, ◌<◌, ◌≤◌, List, [], ◌∷◌, ◌++◌, length, drop, take, get_or, inl, inr, Bool, true, false, not, ◌==◌, ◌&&◌, nat_le, nat_lt, if◌then◌else◌, Option, None, Some, is_some, refl, sym, ◌∙◌, ap, subst, append-nil, append_assoc, arith}
use Rattle.std.proofs.lemmas.Bool.{cases_lt}
use Rattle.std.proofs.lemmas.Bool.Decides.{nat_tests}
use Rattle.std.specs.Char.{encode_utf8}
use Rattle.std.specs.Prelude.{slice_index}
use Rattle.nr_vectors.specs.declared.cell.Look.{Look}
use Rattle.nr_vectors.specs.declared.cell.Look.TheVariants.{Plain, Under, Bold}
use Rattle.utf8_own_characters.specs.Cluster.{single}
use Rattle.utf8_own_characters.specs.Reading.{read, shows}
use Rattle.utf8_own_characters.specs.Table.{Characters, is_lead}
use Rattle.utf8_own_characters.specs.declared.reading.Read.{Read}
use Rattle.utf8_own_sink.specs.Cells.{ascii, blanks, byte_of, come, lead_after, lettered, letters_of, look_of, plain, read_byte, strikes, struck, waiting}
use Rattle.utf8_own_sink.specs.Letters.{Letter, drawn, is_plain, is_shown, letter, way_past}
use Rattle.utf8_own_sink.specs.Reading.{Emitted, IsLetterRead, IsNarrow, IsPair, IsResting, Moves, after, begun_after, begun_said, cell_after, cell_said, drawn_all, fed, holds, is_as_is, let_go, next_after, next_said, passes, preceded, resting, said, ways_past, with_half}
use Rattle.utf8_own_sink.specs.declared.cells.Cell.{Cell}
use Rattle.utf8_own_sink.specs.declared.cells.Half.{Half}
use Rattle.utf8_own_sink.specs.declared.cells.Half.TheVariants.{Nothing, Byte, Backspaced}
use Rattle.utf8_own_sink.specs.declared.cells.Reader.{Reader}
use Rattle.utf8_own_sink.specs.declared.letters.Way.{Way}
use Rattle.utf8_own_sink.specs.declared.letters.Way.TheVariants.{Backspaces, Escapes}
use Rattle.utf8_own_sink.proofs.Plain.{holds-after, holds-said, no_marks, passes-after, passes-said, stays_plain, way_by}

-- ---- moves

pub Moves-none : (t : Characters) (r : Reader) (p bytes : List ℕ) → Moves t r r p p bytes bytes
Moves-none t r p bytes = record { end = refl; text = refl }

pub Moves-then : (t : Characters) (r s u : Reader) (p q left xs ys zs : List ℕ) → Moves t r s p q xs ys → Moves t s u q left ys zs → Moves t r u p left xs zs
Moves-then t r s u p q left xs ys zs f g = record { end = g.end ∙ f.end; text = g.text ∙ f.text }

-- what is read at once comes to `more`
pub Moves-by : (t : Characters) (r s : Reader) (p left more bytes rest : List ℕ) → fed t r bytes ≡ preceded more (fed t s rest) → left ≡ p ++ more → Moves t r s p left bytes rest
Moves-by t r s p left more bytes rest e is =
    let b = (fed t s rest).bytes in
    record {
      end = sym (ap (λ (x : Emitted). x.reader) e);
      text = ap (λ (zs : List ℕ). zs ++ b) is ∙ append_assoc p more b ∙ ap (λ (zs : List ℕ). p ++ zs) (sym (ap (λ (x : Emitted). x.bytes) e));
    }

-- ---- what waits goes out before a byte that is not struck over it

preceded_two : (xs ys : List ℕ) (e : Emitted) → preceded (xs ++ ys) e ≡ preceded xs (preceded ys e)
preceded_two xs ys e = ap (λ (zs : List ℕ). record { reader = e.reader; bytes = zs }) (append_assoc xs ys e.bytes)

free_by : (t : Characters) (a b : ℕ) (bs : List ℕ) (r s : Reader) (x : Bool) (out : List ℕ) → x ≡ false
    → preceded (if x then out else next_said t a b r) (fed t (if x then s else next_after t a b r) bs) ≡ preceded (cell_said t (plain a) r) (fed t (let_go t a r) (b ∷ bs))
free_by t a b bs r s false out e = preceded_two (cell_said t (plain a) r) (begun_said t b (cell_after t (plain a) r)) (fed t (next_after t a b r) bs)
free_by t a b bs r s true out e = absurd (let never : true ≡ false = e in cc)

byte_free : (t : Characters) (a b : ℕ) (bs : List ℕ) (r : Reader) → (b == 8) ≡ false → fed t (with_half (Byte a) r) (b ∷ bs) ≡ preceded (cell_said t (plain a) r) (fed t (let_go t a r) (b ∷ bs))
byte_free t a b bs r e = free_by t a b bs r (with_half (Backspaced a) r) (b == 8) [] e

test_false : (a : ℕ) → 32 < a → nat_le a 32 ≡ false
test_false a l = grind (arith, nat_tests)

as_is : (a : ℕ) → 32 < a → a < 127 → is_as_is a ≡ true
as_is a above below = grind (arith, nat_tests)

ascii_passes : (way : Way) (a : ℕ) → 32 < a → a < 127 → is_plain way ≡ true → passes (resting way) (plain a) ≡ true
ascii_passes way a above below clear = rw (as_is a above below, clear) refl

begun_as : (t : Characters) (a : ℕ) (bs : List ℕ) (r : Reader) (x : Bool) → x ≡ false
    → preceded (if x then cell_said t (plain a) r else []) (fed t (if x then with_half Nothing (cell_after t (plain a) r) else with_half (Byte a) r) bs) ≡ fed t (with_half (Byte a) r) bs
begun_as t a bs r false e = refl
begun_as t a bs r true e = absurd (let never : true ≡ false = e in cc)

-- a byte that nothing is struck over comes where nothing is half read
begun_free : (t : Characters) (a b : ℕ) (bs : List ℕ) (r : Reader) → 32 < a → (b == 8) ≡ false
    → fed t (with_half Nothing r) (a ∷ b ∷ bs) ≡ preceded (cell_said t (plain a) r) (fed t (let_go t a r) (b ∷ bs))
begun_free t a b bs r above free =
    begun_as t a (b ∷ bs) r (nat_le a 32) (test_false a above) ∙ byte_free t a b bs r free

-- ---- letters

pub ascii-moves : (t : Characters) (way : Way) (p q : List ℕ) (a b : ℕ) (bs : List ℕ) → is_plain way ≡ true → 32 < a → a < 127 → (b == 8) ≡ false → q ≡ p ++ a ∷ []
    → Moves t (resting way) (resting way) p q (a ∷ b ∷ bs) (b ∷ bs)
ascii-moves t way p q a b bs clear above below free is =
    let r = resting way in
    let passes = ascii_passes way a above below clear in
    let said = passes-said t (plain a) r passes in
    let after = passes-after t (plain a) r passes in
    Moves-by t r r p q (a ∷ []) (a ∷ b ∷ bs) (b ∷ bs)
    (begun_free t a b bs r above free ∙ ap (λ (zs : List ℕ). preceded zs (fed t (let_go t a r) (b ∷ bs))) said
    ∙ ap (λ (s : Reader). preceded (a ∷ []) (fed t (with_half Nothing s) (b ∷ bs))) (sym after)) is

shown : (l : ℕ) → 32 < l → l ≢ 127 → is_shown (single l) ≡ true
shown l above other = grind (arith, nat_tests)

drawn_letter : (w : Way) (l : ℕ) → is_plain w ≡ true → is_shown (single l) ≡ true → drawn w (letter (single l) Plain) ≡ encode_utf8 l
drawn_letter Backspaces l p is = rw (is, stays_plain l) (no_marks (encode_utf8 l))
drawn_letter (Escapes Plain) l p is = rw (is, stays_plain l) (no_marks (encode_utf8 l))
drawn_letter (Escapes Under) l p is = absurd (let never : false ≡ true = p in cc)
drawn_letter (Escapes Bold) l p is = absurd (let never : false ≡ true = p in cc)

one_come : (lead : Option Cell) (x : Read) (l : ℕ) → IsLetterRead x l → look_of lead 0 Plain ≡ Plain → come lead Plain x ≡ letter (single l) Plain ∷ []
one_come lead x l is look =
    ap (λ (n : ℕ). blanks n ++ lettered x.cluster (look_of lead n Plain)) is.blanks
    ∙ ap (λ c. lettered c (look_of lead 0 Plain)) is.is_read
    ∙ ap (λ (k : Look). letter (single l) k ∷ []) look

high_test : (b : ℕ) → 128 ≤ b → nat_lt b 128 ≡ false
high_test b l = grind (arith, nat_tests)

letter_of : (t : Characters) (lead : Option Cell) (b l : ℕ) → 128 ≤ b → IsLetterRead (read t (byte_of lead) b) l → look_of lead 0 Plain ≡ Plain → letters_of t lead (plain b) ≡ letter (single l) Plain ∷ []
letter_of t lead b l high is look =
    ap (λ (x : Bool). come lead Plain (if x then ascii (byte_of lead) b else read t (byte_of lead) b)) (high_test b high) ∙ one_come lead (read t (byte_of lead) b) l is look

none_after : (t : Characters) (lead : Option Cell) (b l : ℕ) → 128 ≤ b → IsLetterRead (read t (byte_of lead) b) l → lead_after t lead (plain b) ≡ None
none_after t lead b l high is =
    ap (λ (x : Bool). waiting (plain b) (if x then ascii (byte_of lead) b else read t (byte_of lead) b).held) (high_test b high) ∙ ap (λ (o : Option ℕ). waiting (plain b) o) is.held

letter_said : (t : Characters) (b l : ℕ) (r : Reader) → is_plain r.way ≡ true → 128 ≤ b → IsLetterRead (read t (byte_of r.lead) b) l → look_of r.lead 0 Plain ≡ Plain → cell_said t (plain b) r ≡ encode_utf8 l
letter_said t b l r clear high is look =
    ap (λ (ls : List Letter). drawn_all r.way ls) (letter_of t r.lead b l high is look)
    ∙ append-nil (drawn r.way (letter (single l) Plain))
    ∙ drawn_letter r.way l clear (shown l is.beyond_blank is.no_delete)

letter_after : (t : Characters) (b l : ℕ) (r : Reader) → is_plain r.way ≡ true → 128 ≤ b → IsLetterRead (read t (byte_of r.lead) b) l → look_of r.lead 0 Plain ≡ Plain → let_go t b r ≡ resting r.way
letter_after t b l r clear high is look =
    let way : ways_past r.way (letters_of t r.lead (plain b)) ≡ r.way =
    ap (λ (ls : List Letter). ways_past r.way ls) (letter_of t r.lead b l high is look) ∙ way_by r.way l Plain clear (stays_plain l) (shown l is.beyond_blank is.no_delete) in
    ap (λ (o : Option Cell). record { half = Nothing; before = Plain; lead = o; way = ways_past r.way (letters_of t r.lead (plain b)) }) (none_after t r.lead b l high is)
    ∙ ap (λ (w : Way). resting w) way

letter_goes : (t : Characters) (b c l : ℕ) (bs : List ℕ) (r : Reader) → is_plain r.way ≡ true → 128 ≤ b → IsLetterRead (read t (byte_of r.lead) b) l → look_of r.lead 0 Plain ≡ Plain → (c == 8) ≡ false
    → fed t (with_half Nothing r) (b ∷ c ∷ bs) ≡ preceded (encode_utf8 l) (fed t (resting r.way) (c ∷ bs))
letter_goes t b c l bs r clear high is look free =
    begun_free t b c bs r (omega (arith, high)) free
    ∙ ap (λ (zs : List ℕ). preceded zs (fed t (let_go t b r) (c ∷ bs))) (letter_said t b l r clear high is look)
    ∙ ap (λ (s : Reader). preceded (encode_utf8 l) (fed t s (c ∷ bs))) (letter_after t b l r clear high is look)

pub narrow-moves : (t : Characters) (way : Way) (p q : List ℕ) (b c l : ℕ) (bs : List ℕ) → is_plain way ≡ true → IsNarrow t b l → (c == 8) ≡ false → q ≡ p ++ encode_utf8 l
    → Moves t (resting way) (resting way) p q (b ∷ c ∷ bs) (c ∷ bs)
narrow-moves t way p q b c l bs clear is free put =
    Moves-by t (resting way) (resting way) p q (encode_utf8 l) (b ∷ c ∷ bs) (c ∷ bs) (letter_goes t b c l bs (resting way) clear is.high is.reads refl free) put

not_struck : (b : ℕ) → 128 ≤ b → (b == 8) ≡ false
not_struck b high = grind (arith, nat_tests)

le_test : (b : ℕ) → 128 ≤ b → nat_le 128 b ≡ true
le_test b high = grind (arith, nat_tests)

lead_holds : (t : Characters) (way : Way) (a : ℕ) → 128 ≤ a → is_lead t a ≡ true → holds t (resting way) (plain a) ≡ true
lead_holds t way a high is = rw (le_test a high, is) refl

pub pair-moves : (t : Characters) (way : Way) (p q : List ℕ) (a b c l : ℕ) (bs : List ℕ) → is_plain way ≡ true → IsPair t a b l → (c == 8) ≡ false → q ≡ p ++ encode_utf8 l
    → Moves t (resting way) (resting way) p q (a ∷ b ∷ c ∷ bs) (c ∷ bs)
pair-moves t way p q a b c l bs clear is free put =
    let r = resting way in
    let s : Reader = record { half = Nothing; before = Plain; lead = Some (plain a); way = way } in
    let waits = lead_holds t way a is.high is.is_lead in
    Moves-by t r r p q (encode_utf8 l) (a ∷ b ∷ c ∷ bs) (c ∷ bs)
    (begun_free t a b (c ∷ bs) r (omega (arith, is.high)) (not_struck b is.high_trail)
    ∙ ap (λ (zs : List ℕ). preceded zs (fed t (let_go t a r) (b ∷ c ∷ bs))) (holds-said t (plain a) r waits)
    ∙ ap (λ (u : Reader). preceded [] (fed t (with_half Nothing u) (b ∷ c ∷ bs))) (sym (holds-after t (plain a) r waits))
    ∙ letter_goes t b c l bs s clear is.high_trail is.reads refl free) put

-- ---- a byte that is no letter

le_blank : (a : ℕ) → a ≤ 32 → nat_le a 32 ≡ true
le_blank a l = grind (arith, nat_tests)

begun_at : (t : Characters) (a : ℕ) (bs : List ℕ) (r : Reader) (x : Bool) → x ≡ true
    → preceded (if x then cell_said t (plain a) r else []) (fed t (if x then with_half Nothing (cell_after t (plain a) r) else with_half (Byte a) r) bs) ≡ preceded (cell_said t (plain a) r) (fed t (let_go t a r) bs)
begun_at t a bs r true e = refl
begun_at t a bs r false e = absurd (let never : false ≡ true = e in cc)

blank_passes : (way : Way) (a : ℕ) → is_as_is a ≡ true → is_plain way ≡ true → passes (resting way) (plain a) ≡ true
blank_passes way a is clear = rw (is, clear) refl

pub blank-moves : (t : Characters) (way : Way) (p q : List ℕ) (a : ℕ) (bs : List ℕ) → is_plain way ≡ true → is_as_is a ≡ true → a ≤ 32 → q ≡ p ++ a ∷ [] → Moves t (resting way) (resting way) p q (a ∷ bs) bs
blank-moves t way p q a bs clear is low put =
    let r = resting way in
    let passes = blank_passes way a is clear in
    Moves-by t r r p q (a ∷ []) (a ∷ bs) bs
    (begun_at t a bs r (nat_le a 32) (le_blank a low)
    ∙ ap (λ (zs : List ℕ). preceded zs (fed t (let_go t a r) bs)) (passes-said t (plain a) r passes)
    ∙ ap (λ (s : Reader). preceded (a ∷ []) (fed t (with_half Nothing s) bs)) (sym (passes-after t (plain a) r passes))) put

-- ---- a reader takes a byte

fed_half : (t : Characters) (r : Reader) (h : Half) (b : ℕ) (bs : List ℕ) → r.half ≡ h → fed t r (b ∷ bs) ≡ preceded (said t h b r) (fed t (after t h b r) bs)
fed_half t r h b bs is = ap (λ (x : Half). preceded (said t x b r) (fed t (after t x b r) bs)) is

pub Moves-half : (t : Characters) (r s : Reader) (h : Half) (p q : List ℕ) (b : ℕ) (bs : List ℕ) → r.half ≡ h → s ≡ after t h b r → q ≡ p ++ said t h b r → Moves t r s p q (b ∷ bs) bs
Moves-half t r s h p q b bs is after-is put =
    Moves-by t r s p q (said t h b r) (b ∷ bs) bs (fed_half t r h b bs is ∙ ap (λ (u : Reader). preceded (said t h b r) (fed t u bs)) (sym after-is)) put

-- ---- at the start of bytes

not_eight : (b : ℕ) → b ≢ 8 → (b == 8) ≡ false
not_eight b other = grind (arith, nat_tests)

pub narrow-at : (t : Characters) (way : Way) (p q bytes : List ℕ) (l : ℕ) → is_plain way ≡ true → 1 < length bytes → slice_index bytes 1 ≢ 8 → IsNarrow t (slice_index bytes 0) l → q ≡ p ++ encode_utf8 l
    → Moves t (resting way) (resting way) p q bytes (drop 1 bytes)
narrow-at t way p q [] l clear many free is put = absurd (omega (arith, many))
narrow-at t way p q (a ∷ []) l clear many free is put = absurd (omega (arith, many))
narrow-at t way p q (a ∷ b ∷ bs) l clear many free is put = narrow-moves t way p q a b l bs clear is (not_eight b free) put

pub pair-at : (t : Characters) (way : Way) (p q bytes : List ℕ) (l : ℕ) → is_plain way ≡ true → 2 < length bytes → slice_index bytes 2 ≢ 8 → IsPair t (slice_index bytes 0) (slice_index bytes 1) l
    → q ≡ p ++ encode_utf8 l → Moves t (resting way) (resting way) p q bytes (drop 2 bytes)
pair-at t way p q [] l clear many free is put = absurd (omega (arith, many))
pair-at t way p q (a ∷ []) l clear many free is put = absurd (omega (arith, many))
pair-at t way p q (a ∷ b ∷ []) l clear many free is put = absurd (omega (arith, many))
pair-at t way p q (a ∷ b ∷ c ∷ bs) l clear many free is put = pair-moves t way p q a b c l bs clear is (not_eight c free) put

-- a reader takes the first one
pub half-at : (t : Characters) (r s : Reader) (h : Half) (p q bytes : List ℕ) → 0 < length bytes → r.half ≡ h → s ≡ after t h (slice_index bytes 0) r → q ≡ p ++ said t h (slice_index bytes 0) r
    → Moves t r s p q bytes (drop 1 bytes)
half-at t r s h p q [] many is after-is put = absurd (omega (arith, many))
half-at t r s h p q (b ∷ bs) many is after-is put = Moves-half t r s h p q b bs is after-is put

-- what is half read goes out, and no byte is read
free_as : (t : Characters) (r : Reader) (a b : ℕ) (bs : List ℕ) → ((b == 8) ≡ false) → r.half ≡ Byte a → fed t r (b ∷ bs) ≡ preceded (cell_said t (plain a) r) (fed t (let_go t a r) (b ∷ bs))
free_as t r a b bs free is = fed_half t r (Byte a) b bs is ∙ free_by t a b bs r (with_half (Backspaced a) r) (b == 8) [] free

over_as : (t : Characters) (r : Reader) (a b : ℕ) (bs : List ℕ) → strikes a b ≡ false → r.half ≡ Backspaced a → fed t r (b ∷ bs) ≡ preceded (cell_said t (plain a) r) (fed t (let_go t a r) (b ∷ bs))
over_as t r a b bs free is = fed_half t r (Backspaced a) b bs is
    ∙ free_by t a b bs r (with_half Nothing (cell_after t (struck r.before a b) r)) (strikes a b) (cell_said t (struck r.before a b) r) free

pub free-at : (t : Characters) (r s : Reader) (a : ℕ) (p q bytes : List ℕ) → 0 < length bytes → slice_index bytes 0 ≢ 8 → r.half ≡ Byte a → s ≡ let_go t a r → q ≡ p ++ cell_said t (plain a) r → Moves t r s p q bytes bytes
free-at t r s a p q [] many free is after-is put = absurd (omega (arith, many))
free-at t r s a p q (b ∷ bs) many free is after-is put =
    Moves-by t r s p q (cell_said t (plain a) r) (b ∷ bs) (b ∷ bs) (free_as t r a b bs (not_eight b free) is ∙ ap (λ (u : Reader). preceded (cell_said t (plain a) r) (fed t u (b ∷ bs))) (sym after-is)) put

pub over-at : (t : Characters) (r s : Reader) (a : ℕ) (p q bytes : List ℕ) → 0 < length bytes → strikes a (slice_index bytes 0) ≡ false → r.half ≡ Backspaced a → s ≡ let_go t a r → q ≡ p ++ cell_said t (plain a) r → Moves t r s p q bytes bytes
over-at t r s a p q [] many free is after-is put = absurd (omega (arith, many))
over-at t r s a p q (b ∷ bs) many free is after-is put =
    Moves-by t r s p q (cell_said t (plain a) r) (b ∷ bs) (b ∷ bs) (over_as t r a b bs free is ∙ ap (λ (u : Reader). preceded (cell_said t (plain a) r) (fed t u (b ∷ bs))) (sym after-is)) put

pub rests : (t : Characters) (r : Reader) (p q xs ys : List ℕ) → IsResting r → ((way : Way) → is_plain way ≡ true → Moves t (resting way) (resting way) p q xs ys) → Moves t r r p q xs ys
rests t r p q xs ys is f = subst (λ (s : Reader). Moves t s s p q xs ys) (sym is.is) (f r.way is.way)

-- none was read before the first one
pub half-then : (t : Characters) (r s : Reader) (h : Half) (p q left bytes : List ℕ) (n : ℕ) → n ≡ 0 → Moves t r r p q bytes (drop n bytes) → 0 < length bytes → r.half ≡ h → s ≡ after t h (slice_index bytes 0) r
    → left ≡ q ++ said t h (slice_index bytes 0) r → Moves t r s p left bytes (drop 1 bytes)
half-then t r s h p q left bytes n no_more f many is after-is put =
    Moves-then t r r s p q left bytes bytes (drop 1 bytes) (subst (λ (k : ℕ). Moves t r r p q bytes (drop k bytes)) no_more f) (half-at t r s h q left bytes many is after-is put)

-- ---- several bytes of ASCII

pub as_is_other : (b : ℕ) → is_as_is b ≡ true → b ≢ 8
as_is_other b is = grind (arith, nat_tests)

as_is_below : (b : ℕ) → is_as_is b ≡ true → b < 127
as_is_below b is = grind (arith, nat_tests)

-- nothing is struck over the last of the first n bytes: it is a blank, or what follows is no backspace
pub data Ends (n : ℕ) (bytes : List ℕ) : Type 0 where
  Never : n ≡ 0 → Ends n bytes
  Blank : get_or bytes (n - 1) 0 ≤ 32 → Ends n bytes
  Free : n < length bytes → get_or bytes n 0 ≢ 8 → Ends n bytes

ends_on : (n a : ℕ) (bs : List ℕ) → Ends (suc n) (a ∷ bs) → Ends n bs
ends_on n a bs (Never e) = absurd (omega (arith, e))
ends_on zero a bs (Blank l) = Never refl
ends_on (suc m) a bs (Blank l) = let P : ℕ → Type 0 = λ k. get_or bs k 0 ≤ 32 in let e : m ≡ suc m - 1 = omega arith in
    let Q : ℕ → Type 0 = λ k. get_or (a ∷ bs) k 0 ≤ 32 in let f : suc (suc m) - 1 ≡ suc m = omega arith in
    Blank (subst P e (subst Q f l))
ends_on n a bs (Free l f) = Free (omega (arith, l)) f

record NextFree (bs : List ℕ) : Type 0 where
  some : 0 < length bs
  free : get_or bs 0 0 ≢ 8

next_free : (n a : ℕ) (bs : List ℕ) → 32 < a → ((i : ℕ) → i < suc n → is_as_is (get_or (a ∷ bs) i 0) ≡ true) → suc n ≤ length (a ∷ bs) → Ends (suc n) (a ∷ bs) → NextFree bs
next_free zero a bs above all l (Never e) = absurd (omega (arith, e))
next_free zero a bs above all l (Blank low) = absurd (omega (arith, above, low))
next_free zero a bs above all l (Free m f) = record { some = omega (arith, m); free = f }
next_free (suc n) a bs above all l e = record { some = omega (arith, l); free = as_is_other (get_or bs 0 0) (all 1 (omega arith)) }

first_by : (t : Characters) (way : Way) (p : List ℕ) (a : ℕ) (bs : List ℕ) → is_plain way ≡ true → 32 < a → a < 127 → NextFree bs
    → Moves t (resting way) (resting way) p (p ++ a ∷ []) (a ∷ bs) bs
first_by t way p a [] clear above below next = absurd (let l = next.some in omega (arith, l))
first_by t way p a (b ∷ bs) clear above below next = ascii-moves t way p (p ++ a ∷ []) a b bs clear above below (not_eight b next.free) refl

pub ascii_run : (t : Characters) (way : Way) (p : List ℕ) (n : ℕ) (bs : List ℕ) → is_plain way ≡ true → ((i : ℕ) → i < n → is_as_is (get_or bs i 0) ≡ true)
    → n ≤ length bs → Ends n bs → Moves t (resting way) (resting way) p (p ++ take n bs) bs (drop n bs)
ascii_run t way p zero bs clear all l e =
    subst (λ (q : List ℕ). Moves t (resting way) (resting way) p q bs bs) (sym (append-nil p)) (Moves-none t (resting way) p bs)
ascii_run t way p (suc n) [] clear all l e = absurd (omega (arith, l))
ascii_run t way p (suc n) (a ∷ bs) clear all l e =
    let r = resting way in
    let is : is_as_is a ≡ true = all 0 (omega arith) in
    let first : Moves t r r p (p ++ a ∷ []) (a ∷ bs) bs = elim (cases_lt 32 a) [
      | inl above ↦ first_by t way p a bs clear above (as_is_below a is) (next_free n a bs above all l e)
      | inr low ↦ blank-moves t way p (p ++ a ∷ []) a bs clear is low refl
    ] in
    let more = ascii_run t way (p ++ a ∷ []) n bs clear (λ i below. all (suc i) (omega (arith, below))) (omega (arith, l)) (ends_on n a bs e) in
    let both : Moves t r r (p ++ a ∷ []) (p ++ a ∷ take n bs) bs (drop n bs) =
    subst (λ (q : List ℕ). Moves t r r (p ++ a ∷ []) q bs (drop n bs)) (append_assoc p (a ∷ []) (take n bs)) more in
    Moves-then t r r r p (p ++ a ∷ []) (p ++ a ∷ take n bs) (a ∷ bs) bs (drop n bs) first both

-- The signs of words go out piece by piece.
use Prim.Native.Char.{code}
use Rattle.std.proofs.Common.{◌≡◌, ℕ, suc, List, [], ◌∷◌, ◌++◌, Bool, true, false, not, ◌==◌, ◌&&◌, if◌then◌else◌, refl, sym, ◌∙◌, ap, append-nil}
use Rattle.std.specs.Char.{encode_utf8}
use Rattle.preconv_characters.specs.declared.target.Target.{Target}
use Rattle.preconv_characters.specs.declared.said.Said.TheVariants as says
use Rattle.preconv_lines.specs.declared.half.Half.{Half}
use Rattle.preconv_lines.specs.declared.half.Line.TheVariants as lines
use Rattle.preconv_characters.specs.declared.marks.Mark.TheVariants as marks
use Rattle.preconv_lines.specs.declared.half.Coming.TheVariants as comings
use Rattle.preconv_characters.specs.declared.words.Words.{Words}
use Rattle.preconv_characters.specs.declared.words.Emitted.{Emitted as WordsEmitted}
use Rattle.preconv_characters.specs.declared.words.Place.{Place}
use Rattle.preconv_characters.specs.declared.words.Place.TheVariants as places
use Rattle.preconv_characters.specs.declared.words.Class.TheVariants.{Space, Quote as QuoteClass, Other}
use Rattle.preconv_lines.specs.Half.{Offered, taken, in_text as text_of, without_escape, is_space}
use Rattle.preconv_characters.specs.Marks.{wide_mark}
use Rattle.preconv_lines.specs.Hyphens.{placed}
use Rattle.preconv_lines.specs.Endings.{keeping, spelling}
use Rattle.preconv_lines.specs.Faces.{faced}
use Rattle.preconv_lines.specs.Letters.{word_made}
use Rattle.preconv_characters.specs.Words.{begins_word, is_ninth, class_of, words_at, offered_at}
use Rattle.preconv_characters.specs.Words.{offered_words}
use Rattle.preconv_characters.specs.Saying.{bytes_of}
use Rattle.preconv_lines.specs.Lines.{as_offered}
use Rattle.preconv_lines.specs.Offering.{offer}
use Rattle.preconv_converter.specs.Runs.{is_kept}
use Rattle.preconv_converter.specs.Reading.{emitted, preceded, with_half, heard_in}
use Rattle.preconv_converter.specs.Pieces.{Face, face_of, Same, Looks, all_were}
use Rattle.preconv_converter.specs.WrittenLines.{is_face, is_text, Sign, Byte, Escape, Font, Character, Glyph}
use Rattle.preconv_converter.specs.WrittenLines.{is_sign, all_are, written_sign, written_signs, Word, Bare}
use Rattle.preconv_converter.specs.WrittenLines.{Quoted, is_quotable, is_bare, is_word, are_words}
use Rattle.preconv_converter.specs.WrittenLines.{written_word, written_words}
use Rattle.preconv_converter.proofs.AtOnce.{placed_as}
use Rattle.preconv_converter.proofs.Plain.{and-first, and-second, is_not}
use Rattle.preconv_converter.proofs.PlainEscapes.{by_kept}
use Rattle.preconv_converter.proofs.GlyphsGo.{IsGlyph, glyph_is, glyph_reads}
use Rattle.preconv_converter.proofs.Spots.{Pairs, pair_half, open_half, begun_half, font_half, Among, In}
use Rattle.preconv_converter.proofs.Spots.{Spot, Begins, Fonts, Flows, Holds, Turns, TurnBegins, half_of}
use Rattle.preconv_converter.proofs.Spots.{held, begins, at, Hears, hears_taken, hears_left, Reads}
use Rattle.preconv_converter.proofs.Spots.{reads_byte, reads_both, reads_none}
use Rattle.preconv_converter.proofs.TextGoes.{IsText, text_is, moved_by, held_hears}
use Rattle.preconv_converter.proofs.SignsGo.{by_face, kept_out, kept_ascii, font_out, font_ascii, HearsWide}
use Rattle.preconv_converter.proofs.SignsGo.{wide_left, wide_reads}
use Rattle.preconv_converter.proofs.WordsGo.{as_is, inside, in_quotes, word_ends, turned_ninth, between}
use Rattle.preconv_converter.proofs.WordsGo.{is_quote, Begun, flow_begun, held_begun, bare_hears, first_quote}
use Rattle.preconv_converter.proofs.WordsGo.{quoted_byte, last_quote, inside_byte, word_newline, word_blank}

-- ---- a backslash

-- before a word, in one, or between quotes
to_begin : Spot → Bool
to_begin (Begins (In (Among places.Between w)) h) = not (turned_ninth w.fonts (is_ninth w))
to_begin (TurnBegins w h) = turned_ninth w.fonts (is_ninth w)
to_begin p = false

begun_inside : Spot → Bool
begun_inside (Begins (In (Among places.Inside w)) h) = true
begun_inside p = false

begun_quoted : Spot → Bool
begun_quoted (Begins (In (Among places.Quoted w)) h) = true
begun_quoted (Begins (In (Among places.Opened w)) h) = true
begun_quoted p = false

backslash_hears : (P : Spot → Bool) (n : ℕ) (t : Target) (place : Place) (w : Words) (h : Half) → P (Begins (In (Among place w)) h) ≡ true → Hears P (suc n) t (Flows (Among place w) h) (code "\\")
backslash_hears P n t place w h there =
    hears_taken P n t (Flows (Among place w) h) (code "\\") (record { next = Begins (In (Among place w)) h; there = there; said = says.Nothing; pieces = []; offered = refl; out = refl; all = refl })

between_backslash : (t : Target) (p : Spot) → between p ≡ true → Hears to_begin 6 t p (code "\\")
unfolding to_begin
between_backslash t (Flows (Among places.Between w) h) there = backslash_hears to_begin 5 t places.Between w h there
between_backslash t (Turns w h) there =
    hears_taken to_begin 5 t (Turns w h) (code "\\") (record { next = TurnBegins w h; there = there; said = says.Nothing; pieces = []; offered = refl; out = refl; all = refl })
between_backslash t p there = absurd (let no : false ≡ true = there in cc)

inside_backslash : (t : Target) (p : Spot) → inside p ≡ true → Hears begun_inside 6 t p (code "\\")
unfolding begun_inside
inside_backslash t (Flows (Among places.Inside w) h) there = backslash_hears begun_inside 5 t places.Inside w h refl
inside_backslash t (Holds (Among places.Inside w) h) there = held_hears begun_inside 5 t (code "\\") (Among places.Inside w) h refl (λ k. backslash_hears begun_inside 4 t places.Inside w k refl)
inside_backslash t p there = absurd (let no : false ≡ true = there in cc)

quoted_backslash : (t : Target) (p : Spot) → in_quotes p ≡ true → Hears begun_quoted 6 t p (code "\\")
unfolding begun_quoted
quoted_backslash t (Flows (Among places.Quoted w) h) there = backslash_hears begun_quoted 5 t places.Quoted w h refl
quoted_backslash t (Flows (Among places.Opened w) h) there = backslash_hears begun_quoted 5 t places.Opened w h refl
quoted_backslash t (Holds (Among places.Quoted w) h) there = held_hears begun_quoted 5 t (code "\\") (Among places.Quoted w) h refl (λ k. backslash_hears begun_quoted 4 t places.Quoted w k refl)
quoted_backslash t p there = absurd (let no : false ≡ true = there in cc)

-- ---- what comes after it: the word begins first

-- a letter that ends no line, begins no comment and is no backslash
record IsLetter (b : ℕ) : Type 0 where
  newline : (b == code "\n") ≡ false
  backslash : (b == code "\\") ≡ false
  quote : (b == code "\"") ≡ false
  note : (b == code "#") ≡ false

waits_offered : (b : ℕ) (v : Words) (h : Half) → IsLetter b → begins_word v ≡ true → offer (comings.Byte b) (begun_half (lines.Words v) h) ≡ word_made (offered_words Other says.Nothing v) (begun_half (lines.Words v) h)
waits_offered b v h is first = rw (is.newline, is.backslash, is.quote, is.note, first) refl

word_begins : (P : Spot → Bool) (n : ℕ) (t : Target) (b : ℕ) (p : Spot) (w : Words) (h : Half) (before : List ℕ) → half_of p ≡ begun_half (lines.Words (words_at places.Between w)) h → IsLetter b
    → (q : Spot) → Begun q w → held p ≡ held q ++ code "\\" ∷ [] → ((v : Words) → Hears P n t (Begins (In (Among places.Inside v)) h) b) → Hears P (suc (suc n)) t p b
word_begins P n t b p w h before there is q m back more =
    hears_left P (suc n) t p (Begins (In (Among places.Begun m.next)) h) b (m.said t) (m.pieces t)
    (ap (offer (comings.Byte b)) there ∙ waits_offered b (words_at places.Between w) h is refl
    ∙ ap (λ (emitted : WordsEmitted). word_made emitted (begun_half (lines.Words (words_at places.Between w)) h)) (m.is t))
    (m.out t) (back ∙ ap (λ (xs : List ℕ). xs ++ code "\\" ∷ []) (m.all t))
    (hears_left P n t (Begins (In (Among places.Begun m.next)) h) (Begins (In (Among places.Inside m.next)) h) b says.Nothing []
    (waits_offered b (words_at places.Begun m.next) h is refl) refl refl (more m.next))

begin_letter : (P : Spot → Bool) (n : ℕ) (t : Target) (b : ℕ) → IsLetter b → ((v : Words) (k : Half) → Hears P n t (Begins (In (Among places.Inside v)) k) b) → (p : Spot) → to_begin p ≡ true → Hears P (suc (suc n)) t p b
unfolding to_begin
begin_letter P n t b is more (Begins (In (Among places.Between w)) h) there =
    word_begins P n t b (Begins (In (Among places.Between w)) h) w h [] refl is (Flows (Among places.Between w) h) (flow_begun (is_ninth w) w h refl there) refl (λ v. more v h)
begin_letter P n t b is more (TurnBegins w h) there =
    word_begins P n t b (TurnBegins w h) w h [] refl is (Turns w h) (held_begun w.fonts (is_ninth w) w h refl refl there) refl (λ v. more v h)
begin_letter P n t b is more p there = absurd (let no : false ≡ true = there in cc)

quoted_letter : (P : Spot → Bool) (n : ℕ) (t : Target) (b : ℕ) → IsLetter b → ((v : Words) (k : Half) → Hears P n t (Begins (In (Among places.Quoted v)) k) b) → ((v : Words) (k : Half) → Hears P (suc n) t (Begins (In (Among places.Quoted v)) k) b)
    → (p : Spot) → begun_quoted p ≡ true → Hears P (suc n) t p b
unfolding begun_quoted
quoted_letter P n t b is less more (Begins (In (Among places.Quoted w)) h) there = more w h
quoted_letter P n t b is less more (Begins (In (Among places.Opened w)) h) there =
    hears_left P n t (Begins (In (Among places.Opened w)) h) (Begins (In (Among places.Quoted w)) h) b says.Nothing [] (waits_offered b (words_at places.Opened w) h is refl) refl refl (less w h)
quoted_letter P n t b is less more p there = absurd (let no : false ≡ true = there in cc)

-- ---- escapes in a word

flowing : Place → Bool
flowing places.Inside = true
flowing places.Quoted = true
flowing place = false

Kept : Place → Words → Half → ℕ → Type 0
Kept place w h b =
    offer (comings.Byte b) (begun_half (lines.Words (words_at place w)) h)
    ≡ taken (says.Kept (code "\\" ∷ b ∷ [])) (text_of (without_escape (placed marks.Other (keeping b (begun_half (lines.Words (words_at place w)) h)))))

kept_at : (place : Place) (w : Words) (h : Half) (b : ℕ) → flowing place ≡ true → is_kept b ≡ true → Kept place w h b
unfolding flowing Kept
kept_at places.Inside w h b at p = by_kept (Kept places.Inside w h) refl refl refl refl refl b (b == code "-") (b == code "&") (b == code "|") (b == code "c") (b == code "e") refl refl refl refl refl p
kept_at places.Quoted w h b at p = by_kept (Kept places.Quoted w h) refl refl refl refl refl b (b == code "-") (b == code "&") (b == code "|") (b == code "c") (b == code "e") refl refl refl refl refl p
kept_at place w h b at p = absurd (let no : false ≡ true = at in cc)

kept_half : (x : Bool) (place : Place) (w : Words) (b : ℕ) (h : Half)
    → text_of (without_escape (placed_as x marks.Other (keeping b (begun_half (lines.Words (words_at place w)) h)))) ≡ open_half (lines.Words (words_at place w)) (record (placed_as x marks.Other h) { spelled = [] })
kept_half true place w b h = refl
kept_half false place w b h = refl

letter : {b : ℕ} → (b == code "\n") ≡ false → (b == code "\\") ≡ false → (b == code "\"") ≡ false → (b == code "#") ≡ false → IsLetter b
letter d e f g = record { newline = d; backslash = e; quote = f; note = g }

kept_letter : (b : ℕ) → is_kept b ≡ true → IsLetter b
kept_letter b p =
    by_kept IsLetter (letter refl refl refl refl) (letter refl refl refl refl) (letter refl refl refl refl) (letter refl refl refl refl) (letter refl refl refl refl) b (b == code "-") (b == code "&") (b == code "|") (b == code "c") (b == code "e") refl refl refl refl refl p

kept_hears : (P : Spot → Bool) (n : ℕ) (t : Target) (b : ℕ) (place : Place) (w : Words) (h : Half) → ((k : Half) → P (Flows (Among place w) k) ≡ true) → flowing place ≡ true → is_kept b ≡ true
    → Hears P (suc n) t (Begins (In (Among place w)) h) b
unfolding Kept
kept_hears P n t b place w h there at is =
    let next : Half = record (placed marks.Other h) { spelled = [] } in
    hears_taken P n t (Begins (In (Among place w)) h) b
    (record {
      next = Flows (Among place w) next;
      there = there next;
      said = says.Kept (code "\\" ∷ b ∷ []);
      pieces = Same (code "\\") ∷ Same b ∷ [];
      offered = kept_at place w h b at is ∙ ap (taken (says.Kept (code "\\" ∷ b ∷ []))) (kept_half h.manual place w b h);
      out = kept_out t b is;
      all = refl;
    })

-- ---- fonts

font_inside : Spot → Bool
font_inside (Fonts (In (Among places.Inside w)) h) = true
font_inside p = false

font_quoted : Spot → Bool
font_quoted (Fonts (In (Among places.Quoted w)) h) = true
font_quoted p = false

letter_is : IsLetter (code "f")
letter_is = record { newline = refl; backslash = refl; quote = refl; note = refl }

letter_offered : (place : Place) (w : Words) (h : Half) → flowing place ≡ true → offer (comings.Byte (code "f")) (begun_half (lines.Words (words_at place w)) h) ≡ taken says.Nothing (font_half (lines.Words (words_at place w)) h)
unfolding flowing
letter_offered places.Inside w h at = refl
letter_offered places.Quoted w h at = refl
letter_offered place w h at = absurd (let no : false ≡ true = at in cc)

letter_hears : (P : Spot → Bool) (n : ℕ) (t : Target) (place : Place) (w : Words) (h : Half) → P (Fonts (In (Among place w)) h) ≡ true → flowing place ≡ true → Hears P (suc n) t (Begins (In (Among place w)) h) (code "f")
letter_hears P n t place w h there at =
    hears_taken P n t (Begins (In (Among place w)) h) (code "f") (record { next = Fonts (In (Among place w)) h; there = there; said = says.Nothing; pieces = []; offered = letter_offered place w h at; out = refl; all = refl })

named : Place → Words → ℕ → Half → Half
named place w b h = without_escape (faced (face_of b) (spelling b (keeping b (font_half (lines.Words (words_at place w)) h))))

Named : Place → Words → Half → ℕ → Type 0
Named place w h b = offer (comings.Byte b) (font_half (lines.Words (words_at place w)) h) ≡ taken (says.Font (face_of b)) (open_half (lines.Words (words_at place w)) (named place w b h))

named_at : (place : Place) (w : Words) (h : Half) (b : ℕ) → is_face b ≡ true → Named place w h b
unfolding Named named
named_at place w h b p = by_face (Named place w h) refl refl refl refl refl refl refl refl refl refl b p

font_hears : (P : Spot → Bool) (n : ℕ) (t : Target) (b : ℕ) (place : Place) (w : Words) (h : Half) → ((k : Half) → P (Flows (Among place w) k) ≡ true) → is_face b ≡ true → Hears P (suc n) t (Fonts (In (Among place w)) h) b
unfolding Named
font_hears P n t b place w h there is =
    hears_taken P n t (Fonts (In (Among place w)) h) b
    (record {
      next = Flows (Among place w) (named place w b h);
      there = there _;
      said = says.Font (face_of b);
      pieces = Face b ∷ [];
      offered = named_at place w h b is;
      out = font_out t b is;
      all = refl;
    })

inside_font : (t : Target) (b : ℕ) → is_face b ≡ true → (p : Spot) → font_inside p ≡ true → Hears inside 6 t p b
unfolding font_inside
inside_font t b is (Fonts (In (Among places.Inside w)) h) there = font_hears inside 5 t b places.Inside w h (λ k. refl) is
inside_font t b is p there = absurd (let no : false ≡ true = there in cc)

quoted_font : (t : Target) (b : ℕ) → is_face b ≡ true → (p : Spot) → font_quoted p ≡ true → Hears in_quotes 6 t p b
unfolding font_quoted
quoted_font t b is (Fonts (In (Among places.Quoted w)) h) there = font_hears in_quotes 5 t b places.Quoted w h (λ k. refl) is
quoted_font t b is p there = absurd (let no : false ≡ true = there in cc)

inside_begun : (P : Spot → Bool) (t : Target) (b : ℕ) → ((w : Words) (h : Half) → Hears P 6 t (Begins (In (Among places.Inside w)) h) b) → (p : Spot) → begun_inside p ≡ true → Hears P 6 t p b
unfolding begun_inside
inside_begun P t b more (Begins (In (Among places.Inside w)) h) there = more w h
inside_begun P t b more p there = absurd (let no : false ≡ true = there in cc)

-- ---- characters

wide_offered : (c : ℕ) (w : Words) (h : Half) → is_space c ≡ false → offer (comings.Wide c) (open_half (lines.Words w) h) ≡ as_is (offered_at w.place Other (says.Character c) w) (placed (wide_mark c) h)
wide_offered c w h e =
    ap (λ (x : Bool). as_offered (offered_words Other (if x && true then says.Escape (code "0") else says.Character c) w) (placed (wide_mark c) (open_half (lines.Words w) h))) e
    ∙ ap (λ (k : Half). record { half = k; said = (offered_at w.place Other (says.Character c) w).said; takes = (offered_at w.place Other (says.Character c) w).takes }) (moved_by h.manual (wide_mark c) (lines.Words (offered_at w.place Other (says.Character c) w).words) (lines.Words w) h)

flows_on : (place : Place) (w : Words) (c : ℕ) (k : Half) → flowing place ≡ true → as_is (offered_at place Other (says.Character c) (words_at place w)) k ≡ taken (says.Character c) (open_half (lines.Words (words_at place w)) k)
unfolding flowing
flows_on places.Inside w c k at = refl
flows_on places.Quoted w c k at = refl
flows_on place w c k at = absurd (let no : false ≡ true = at in cc)

wide_taken : (P : Spot → Bool) (n : ℕ) (t : Target) (place : Place) (w : Words) (h : Half) (c : ℕ) → ((k : Half) → P (Flows (Among place w) k) ≡ true) → flowing place ≡ true → is_space c ≡ false → HearsWide P (suc n) t (Flows (Among place w) h) c
wide_taken P n t place w h c there flows clear =
    record {
      next = Flows (Among place w) (placed (wide_mark c) h);
      there = there _;
      pieces = Looks c ∷ [];
      steps = 1;
      heard =
          ap (λ (m : Offered). preceded (bytes_of t m.said) 1 (if m.takes then emitted (with_half m.half (at t (Flows (Among place w) h))) [] 0 else heard_in n (comings.Wide c) (with_half m.half (at t (Flows (Among place w) h))))) (wide_offered c (words_at place w) h clear ∙ flows_on place w c (placed (wide_mark c) h) flows);
      all = sym (append-nil (encode_utf8 c)) ∙ sym (append-nil (encode_utf8 c ++ []));
    }

inside_wide : (t : Target) (c : ℕ) → is_space c ≡ false → (p : Spot) → inside p ≡ true → HearsWide inside 6 t p c
unfolding flowing
inside_wide t c clear (Flows (Among places.Inside w) h) there = wide_taken inside 5 t places.Inside w h c (λ k. refl) refl clear
inside_wide t c clear (Holds (Among places.Inside w) h) there =
    let k : Half = record h { spelled = [] } in
    wide_left inside 5 t (Holds (Among places.Inside w) h) (Flows (Among places.Inside w) k) c (says.Kept (code "-" ∷ [])) (Same (code "-") ∷ []) refl refl refl (wide_taken inside 4 t places.Inside w k c (λ k. refl) refl clear)
inside_wide t c clear p there = absurd (let no : false ≡ true = there in cc)

quoted_wide : (t : Target) (c : ℕ) → is_space c ≡ false → (p : Spot) → in_quotes p ≡ true → HearsWide in_quotes 6 t p c
unfolding flowing
quoted_wide t c clear (Flows (Among places.Quoted w) h) there = wide_taken in_quotes 5 t places.Quoted w h c (λ k. refl) refl clear
quoted_wide t c clear (Flows (Among places.Opened w) h) there =
    let k = placed (wide_mark c) h in
    wide_left in_quotes 5 t (Flows (Among places.Opened w) h) (Flows (Among places.Quoted w) k) c says.Nothing [] (wide_offered c (words_at places.Opened w) h clear) refl refl (wide_taken in_quotes 4 t places.Quoted w k c (λ k. refl) refl clear)
quoted_wide t c clear (Holds (Among places.Quoted w) h) there =
    let k : Half = record h { spelled = [] } in
    wide_left in_quotes 5 t (Holds (Among places.Quoted w) h) (Flows (Among places.Quoted w) k) c (says.Kept (code "-" ∷ [])) (Same (code "-") ∷ []) refl refl refl (wide_taken in_quotes 4 t places.Quoted w k c (λ k. refl) refl clear)
quoted_wide t c clear p there = absurd (let no : false ≡ true = there in cc)

wide_begins : (t : Target) (c : ℕ) (p : Spot) (w : Words) (h : Half) → half_of p ≡ open_half (lines.Words (words_at places.Between w)) h → is_space c ≡ false → Begun p w → HearsWide inside 6 t p c
unfolding flowing
wide_begins t c p w h there clear m =
    let k = placed (wide_mark c) h in
    wide_left inside 5 t p (Flows (Among places.Begun m.next) k) c (m.said t) (m.pieces t)
    (ap (offer (comings.Wide c)) there ∙ wide_offered c (words_at places.Between w) h clear ∙ ap (λ (emitted : WordsEmitted). as_is emitted k) (m.is t))
    (m.out t) (m.all t ∙ sym (append-nil (all_were (m.pieces t))))
    (wide_left inside 4 t (Flows (Among places.Begun m.next) k) (Flows (Among places.Inside m.next) (placed (wide_mark c) k)) c says.Nothing [] (wide_offered c (words_at places.Begun m.next) k clear) refl refl
    (wide_taken inside 3 t places.Inside m.next (placed (wide_mark c) k) c (λ k. refl) refl clear))

between_wide : (t : Target) (c : ℕ) → is_space c ≡ false → (p : Spot) → between p ≡ true → HearsWide inside 6 t p c
between_wide t c clear (Flows (Among places.Between w) h) there = wide_begins t c _ w h refl clear (flow_begun (is_ninth w) w h refl there)
between_wide t c clear (Turns w h) there = wide_begins t c _ w h refl clear (held_begun w.fonts (is_ninth w) w h refl refl there)
between_wide t c clear p there = absurd (let no : false ≡ true = there in cc)

-- ---- bytes

class_by : (x y : Bool) → x ≡ false → y ≡ false → (if x then Space else if y then QuoteClass else Other) ≡ Other
class_by x y e f = rw (e, f) refl

quote_by : (x y : Bool) → y ≡ false → is_quote (if x then Space else if y then QuoteClass else Other) ≡ false
quote_by true y e = refl
quote_by false false e = refl
quote_by false true e = absurd (let no : true ≡ false = e in cc)

record IsQuotable (b : ℕ) : Type 0 where
  text : IsText b
  class : is_quote (class_of b) ≡ false

quotable_is : (b : ℕ) → is_quotable (Byte b) ≡ true → IsQuotable b
quotable_is b p =
    record { text = text_is b (and-first (is_text b) (not (b == code "\"")) p); class = quote_by (b == code " ") (b == code "\"") (is_not (b == code "\"") (and-second (is_text b) (not (b == code "\"")) p)) }

record IsBare (b : ℕ) : Type 0 where
  text : IsText b
  class : class_of b ≡ Other

bare_is : (b : ℕ) → is_bare (Byte b) ≡ true → IsBare b
bare_is b p =
    let two = and-first (is_quotable (Byte b)) (not (b == code " ")) p in
    record {
      text = text_is b (and-first (is_text b) (not (b == code "\"")) two);
      class = class_by (b == code " ") (b == code "\"") (is_not (b == code " ") (and-second (is_quotable (Byte b)) (not (b == code " ")) p)) (is_not (b == code "\"") (and-second (is_text b) (not (b == code "\"")) two));
    }

inside_ends : (p : Spot) → inside p ≡ true → word_ends p ≡ true
inside_ends (Flows (Among places.Inside w) h) there = refl
inside_ends (Holds (Among places.Inside w) h) there = refl
inside_ends p there = absurd (let no : false ≡ true = there in cc)

-- ---- signs

f_hears : (t : Target) (p : Spot) → begun_inside p ≡ true → Hears font_inside 6 t p (code "f")
unfolding font_inside flowing
f_hears t p there = inside_begun font_inside t (code "f") (λ w h. letter_hears font_inside 5 t places.Inside w h refl refl) p there

first_f : (t : Target) (p : Spot) → to_begin p ≡ true → Hears font_inside 6 t p (code "f")
unfolding font_inside flowing
first_f t p there = begin_letter font_inside 4 t (code "f") letter_is (λ v k. letter_hears font_inside 3 t places.Inside v k refl refl) p there

quoted_f : (t : Target) (p : Spot) → begun_quoted p ≡ true → Hears font_quoted 6 t p (code "f")
unfolding font_quoted flowing
quoted_f t p there = quoted_letter font_quoted 5 t (code "f") letter_is (λ v k. letter_hears font_quoted 4 t places.Quoted v k refl refl) (λ v k. letter_hears font_quoted 5 t places.Quoted v k refl refl) p there

inside_kept : (t : Target) (b : ℕ) → is_kept b ≡ true → (p : Spot) → begun_inside p ≡ true → Hears inside 6 t p b
unfolding flowing
inside_kept t b is p there = inside_begun inside t b (λ w h. kept_hears inside 5 t b places.Inside w h (λ k. refl) refl is) p there

first_kept : (t : Target) (b : ℕ) → is_kept b ≡ true → (p : Spot) → to_begin p ≡ true → Hears inside 6 t p b
unfolding flowing
first_kept t b is p there = begin_letter inside 4 t b (kept_letter b is) (λ v k. kept_hears inside 3 t b places.Inside v k (λ l. refl) refl is) p there

quoted_kept : (t : Target) (b : ℕ) → is_kept b ≡ true → (p : Spot) → begun_quoted p ≡ true → Hears in_quotes 6 t p b
unfolding flowing
quoted_kept t b is p there =
    quoted_letter in_quotes 5 t b (kept_letter b is) (λ v k. kept_hears in_quotes 4 t b places.Quoted v k (λ l. refl) refl is) (λ v k. kept_hears in_quotes 5 t b places.Quoted v k (λ l. refl) refl is) p there

-- ---- a character by its name

pair_inside : Spot → Bool
pair_inside (Pairs (In (Among places.Inside w)) h) = true
pair_inside p = false

pair_quoted : Spot → Bool
pair_quoted (Pairs (In (Among places.Quoted w)) h) = true
pair_quoted p = false

pair_is : IsLetter (code "(")
pair_is = letter refl refl refl refl

pair_offered : (place : Place) (w : Words) (h : Half) → flowing place ≡ true → offer (comings.Byte (code "(")) (begun_half (lines.Words (words_at place w)) h) ≡ taken says.Nothing (pair_half (lines.Words (words_at place w)) h)
unfolding flowing
pair_offered places.Inside w h at = refl
pair_offered places.Quoted w h at = refl
pair_offered place w h at = absurd (let no : false ≡ true = at in cc)

pair_hears : (P : Spot → Bool) (n : ℕ) (t : Target) (place : Place) (w : Words) (h : Half) → P (Pairs (In (Among place w)) h) ≡ true → flowing place ≡ true → Hears P (suc n) t (Begins (In (Among place w)) h) (code "(")
pair_hears P n t place w h there at =
    hears_taken P n t (Begins (In (Among place w)) h) (code "(") (record { next = Pairs (In (Among place w)) h; there = there; said = says.Nothing; pieces = []; offered = pair_offered place w h at; out = refl; all = refl })

inside_pair : (t : Target) (p : Spot) → begun_inside p ≡ true → Hears pair_inside 6 t p (code "(")
unfolding pair_inside flowing
inside_pair t p there = inside_begun pair_inside t (code "(") (λ w h. pair_hears pair_inside 5 t places.Inside w h refl refl) p there

first_pair : (t : Target) (p : Spot) → to_begin p ≡ true → Hears pair_inside 6 t p (code "(")
unfolding pair_inside flowing
first_pair t p there = begin_letter pair_inside 4 t (code "(") pair_is (λ v k. pair_hears pair_inside 3 t places.Inside v k refl refl) p there

quoted_pair : (t : Target) (p : Spot) → begun_quoted p ≡ true → Hears pair_quoted 6 t p (code "(")
unfolding pair_quoted flowing
quoted_pair t p there = quoted_letter pair_quoted 5 t (code "(") pair_is (λ v k. pair_hears pair_quoted 4 t places.Quoted v k refl refl) (λ v k. pair_hears pair_quoted 5 t places.Quoted v k refl refl) p there

glyph_inside : (t : Target) (a b c : ℕ) → IsGlyph a b c → is_space c ≡ false → (p : Spot) → pair_inside p ≡ true → Reads inside t p (a ∷ b ∷ [])
unfolding pair_inside
glyph_inside t a b c is space (Pairs (In (Among places.Inside w)) h) there =
    glyph_reads inside t (In (Among places.Inside w)) h a b c (Flows (Among places.Inside w)) (λ k. refl) (λ k. refl) (λ k. refl) is refl (ap (λ (x : Bool). x && true) space)
glyph_inside t a b c is space p there = absurd (let no : false ≡ true = there in cc)

glyph_quoted : (t : Target) (a b c : ℕ) → IsGlyph a b c → is_space c ≡ false → (p : Spot) → pair_quoted p ≡ true → Reads in_quotes t p (a ∷ b ∷ [])
unfolding pair_quoted
glyph_quoted t a b c is space (Pairs (In (Among places.Quoted w)) h) there =
    glyph_reads in_quotes t (In (Among places.Quoted w)) h a b c (Flows (Among places.Quoted w)) (λ k. refl) (λ k. refl) (λ k. refl) is refl (ap (λ (x : Bool). x && true) space)
glyph_quoted t a b c is space p there = absurd (let no : false ≡ true = there in cc)

glyph_space : (a b c : ℕ) → is_quotable (Glyph a b c) ≡ true → is_space c ≡ false
glyph_space a b c p = is_not (is_space c) (and-second (is_sign (Glyph a b c)) (not (is_space c)) p)

named_is : (a b c : ℕ) → is_quotable (Glyph a b c) ≡ true → IsGlyph a b c
named_is a b c p = glyph_is a b c (and-first (is_sign (Glyph a b c)) (not (is_space c)) p)

space_not : (c : ℕ) → is_quotable (Character c) ≡ true → is_space c ≡ false
space_not c p = is_not (is_space c) (and-second (is_sign (Character c)) (not (is_space c)) p)

inside_sign : (t : Target) (s : Sign) → is_bare s ≡ true → (p : Spot) → inside p ≡ true → Reads inside t p (written_sign s)
inside_sign t (Byte b) is p there = let bare = bare_is b is in reads_byte inside inside t p b [] bare.text.ascii (inside_byte t b bare.text bare.class p there) (λ q k. reads_none inside t q k)
inside_sign t (Escape b) is p there =
    reads_byte inside begun_inside t p (code "\\") (b ∷ []) refl (inside_backslash t p there) (λ q k. reads_byte inside inside t q b [] (kept_ascii b is) (inside_kept t b is q k) (λ r l. reads_none inside t r l))
inside_sign t (Font b) is p there =
    reads_byte inside begun_inside t p (code "\\") (code "f" ∷ b ∷ []) refl (inside_backslash t p there)
    (λ q k. reads_byte inside font_inside t q (code "f") (b ∷ []) refl (f_hears t q k) (λ r l. reads_byte inside inside t r b [] (font_ascii b is) (inside_font t b is r l) (λ u m. reads_none inside t u m)))
inside_sign t (Glyph a b c) is p there =
    reads_byte inside begun_inside t p (code "\\") (code "(" ∷ a ∷ b ∷ []) refl (inside_backslash t p there)
    (λ q k. reads_byte inside pair_inside t q (code "(") (a ∷ b ∷ []) refl (inside_pair t q k) (λ r l. glyph_inside t a b c (named_is a b c is) (glyph_space a b c is) r l))
inside_sign t (Character c) is p there = wide_reads inside t c p (and-first (is_sign (Character c)) (not (is_space c)) is) (inside_wide t c (space_not c is) p there)

first_sign : (t : Target) (s : Sign) → is_bare s ≡ true → (p : Spot) → between p ≡ true → Reads inside t p (written_sign s)
first_sign t (Byte b) is p there = let bare = bare_is b is in reads_byte inside inside t p b [] bare.text.ascii (bare_hears t b bare.text bare.class p there) (λ q k. reads_none inside t q k)
first_sign t (Escape b) is p there =
    reads_byte inside to_begin t p (code "\\") (b ∷ []) refl (between_backslash t p there) (λ q k. reads_byte inside inside t q b [] (kept_ascii b is) (first_kept t b is q k) (λ r l. reads_none inside t r l))
first_sign t (Font b) is p there =
    reads_byte inside to_begin t p (code "\\") (code "f" ∷ b ∷ []) refl (between_backslash t p there)
    (λ q k. reads_byte inside font_inside t q (code "f") (b ∷ []) refl (first_f t q k) (λ r l. reads_byte inside inside t r b [] (font_ascii b is) (inside_font t b is r l) (λ u m. reads_none inside t u m)))
first_sign t (Glyph a b c) is p there =
    reads_byte inside to_begin t p (code "\\") (code "(" ∷ a ∷ b ∷ []) refl (between_backslash t p there)
    (λ q k. reads_byte inside pair_inside t q (code "(") (a ∷ b ∷ []) refl (first_pair t q k) (λ r l. glyph_inside t a b c (named_is a b c is) (glyph_space a b c is) r l))
first_sign t (Character c) is p there = wide_reads inside t c p (and-first (is_sign (Character c)) (not (is_space c)) is) (between_wide t c (space_not c is) p there)

quoted_sign : (t : Target) (s : Sign) → is_quotable s ≡ true → (p : Spot) → in_quotes p ≡ true → Reads in_quotes t p (written_sign s)
quoted_sign t (Byte b) is p there = let may = quotable_is b is in reads_byte in_quotes in_quotes t p b [] may.text.ascii (quoted_byte t b may.text may.class p there) (λ q k. reads_none in_quotes t q k)
quoted_sign t (Escape b) is p there =
    reads_byte in_quotes begun_quoted t p (code "\\") (b ∷ []) refl (quoted_backslash t p there) (λ q k. reads_byte in_quotes in_quotes t q b [] (kept_ascii b is) (quoted_kept t b is q k) (λ r l. reads_none in_quotes t r l))
quoted_sign t (Font b) is p there =
    reads_byte in_quotes begun_quoted t p (code "\\") (code "f" ∷ b ∷ []) refl (quoted_backslash t p there)
    (λ q k. reads_byte in_quotes font_quoted t q (code "f") (b ∷ []) refl (quoted_f t q k) (λ r l. reads_byte in_quotes in_quotes t r b [] (font_ascii b is) (quoted_font t b is r l) (λ u m. reads_none in_quotes t u m)))
quoted_sign t (Glyph a b c) is p there =
    reads_byte in_quotes begun_quoted t p (code "\\") (code "(" ∷ a ∷ b ∷ []) refl (quoted_backslash t p there)
    (λ q k. reads_byte in_quotes pair_quoted t q (code "(") (a ∷ b ∷ []) refl (quoted_pair t q k) (λ r l. glyph_quoted t a b c (named_is a b c is) (glyph_space a b c is) r l))
quoted_sign t (Character c) is p there = wide_reads in_quotes t c p (and-first (is_sign (Character c)) (not (is_space c)) is) (quoted_wide t c (space_not c is) p there)

-- ---- all words

bare_reads : (t : Target) (ss : List Sign) (rest : List ℕ) → all_are is_bare ss ≡ true → ((p : Spot) → word_ends p ≡ true → Reads begins t p rest) → (p : Spot) → inside p ≡ true → Reads begins t p (written_signs ss rest)
bare_reads t [] rest all more p there = more p (inside_ends p there)
bare_reads t (s ∷ ss) rest all more p there =
    reads_both begins inside t p (written_sign s) (written_signs ss rest) (inside_sign t s (and-first (is_bare s) (all_are is_bare ss) all) p there)
    (λ q k. bare_reads t ss rest (and-second (is_bare s) (all_are is_bare ss) all) more q k)

quoted_reads : (t : Target) (ss : List Sign) (rest : List ℕ) → all_are is_quotable ss ≡ true → ((p : Spot) → word_ends p ≡ true → Reads begins t p rest) → (p : Spot) → in_quotes p ≡ true → Reads begins t p (written_signs ss (code "\"" ∷ rest))
quoted_reads t [] rest all more p there = reads_byte begins word_ends t p (code "\"") rest refl (last_quote t p there) more
quoted_reads t (s ∷ ss) rest all more p there =
    reads_both begins in_quotes t p (written_sign s) (written_signs ss (code "\"" ∷ rest)) (quoted_sign t s (and-first (is_quotable s) (all_are is_quotable ss) all) p there)
    (λ q k. quoted_reads t ss rest (and-second (is_quotable s) (all_are is_quotable ss) all) more q k)

pub word_reads : (t : Target) (w : Word) (rest : List ℕ) → is_word w ≡ true → ((p : Spot) → word_ends p ≡ true → Reads begins t p rest) → (p : Spot) → between p ≡ true → Reads begins t p (written_word w rest)
word_reads t (Bare s ss) rest is more p there =
    reads_both begins inside t p (written_sign s) (written_signs ss rest) (first_sign t s (and-first (is_bare s) (all_are is_bare ss) is) p there)
    (λ q k. bare_reads t ss rest (and-second (is_bare s) (all_are is_bare ss) is) more q k)
word_reads t (Quoted ss) rest is more p there =
    reads_byte begins in_quotes t p (code "\"") (written_signs ss (code "\"" ∷ rest)) refl (first_quote t p there) (λ q k. quoted_reads t ss rest is more q k)

pub words_read : (t : Target) (ws : List Word) → are_words ws ≡ true → (p : Spot) → word_ends p ≡ true → Reads begins t p (written_words ws)
words_read t [] all p there = reads_byte begins begins t p (code "\n") [] refl (word_newline t p there) (λ q k. reads_none begins t q k)
words_read t (w ∷ ws) all p there =
    reads_byte begins between t p (code " ") (written_word w (written_words ws)) refl (word_blank t p there)
    (λ q k. word_reads t w (written_words ws) (and-first (is_word w) (are_words ws) all) (λ r l. words_read t ws (and-second (is_word w) (are_words ws) all) r l) q k)

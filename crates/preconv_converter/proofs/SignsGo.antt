-- The signs of a text line go out piece by piece.
use Prim.Native.Char.{code}
use Rattle.std.proofs.Common.{◌≡◌, ℕ, suc, ◌+◌, List, [], ◌∷◌, ◌++◌, Bool, true, false, ◌==◌, ◌&&◌, ◌||◌, nat_lt, if◌then◌else◌, refl, sym, ◌∙◌, ap, subst, append_assoc, append-nil, arith}
use Rattle.std.specs.Prelude.{codes}
use Rattle.std.specs.Char.{encode_utf8}
use Rattle.std.specs.Str.{all_scalars}
use Rattle.std.proofs.lemmas.Bool.Decides.{nat_tests}
use Rattle.preconv_characters.specs.declared.target.Target.{Target}
use Rattle.preconv_characters.specs.declared.said.Said.{Said}
use Rattle.preconv_characters.specs.declared.said.Said.TheVariants as says
use Rattle.preconv_lines.specs.declared.half.Half.{Half}
use Rattle.preconv_lines.specs.declared.half.Line.{Line}
use Rattle.preconv_lines.specs.declared.half.Line.TheVariants as lines
use Rattle.preconv_characters.specs.declared.marks.Mark.TheVariants as marks
use Rattle.preconv_lines.specs.declared.half.Coming.TheVariants as comings
use Rattle.preconv_lines.specs.Half.{Offered, taken, left, in_text as text_of, without_escape, is_space}
use Rattle.preconv_characters.specs.Marks.{wide_mark}
use Rattle.preconv_lines.specs.Hyphens.{placed}
use Rattle.preconv_lines.specs.Endings.{keeping, spelling}
use Rattle.preconv_lines.specs.Faces.{faced}
use Rattle.preconv_characters.specs.Saying.{bytes_of}
use Rattle.preconv_lines.specs.Lines.{is_control}
use Rattle.preconv_lines.specs.Offering.{offer}
use Rattle.preconv_converter.specs.Runs.{is_kept, is_font}
use Rattle.preconv_converter.specs.Reading.{emitted, preceded, with_half, heard, heard_in}
use Rattle.preconv_converter.specs.Pieces.{Face, face_of, Piece, Same, Looks, SentenceEnd, all_were}
use Rattle.preconv_converter.specs.Pieces.{all_become}
use Rattle.preconv_converter.specs.WrittenLines.{is_face, Sign, Byte, Escape, Font, Character, Glyph, is_sign}
use Rattle.preconv_converter.specs.WrittenLines.{all_are, begins_text, written_sign, written_signs}
use Rattle.preconv_converter.proofs.AtOnce.{placed_as}
use Rattle.preconv_converter.proofs.Characters.{cooked_character}
use Rattle.preconv_converter.proofs.Plain.{and-first, and-second, is_not}
use Rattle.preconv_converter.proofs.PlainEscapes.{by_kept, by_letter}
use Rattle.preconv_converter.proofs.GlyphsGo.{IsGlyph, glyph_is, glyph_reads}
use Rattle.preconv_converter.proofs.Spots.{Pairs, pair_half, open_half, begun_half, font_half, Flow, Text}
use Rattle.preconv_converter.proofs.Spots.{Faces, Among, line_in, Where, First, In, line_of_where, Spot}
use Rattle.preconv_converter.proofs.Spots.{Begins, Fonts, Starts, Flows, Holds, Closes, half_of, held, begins}
use Rattle.preconv_converter.proofs.Spots.{in_text, at, no_raw, Takes, Hears, hears_taken, Reads, reads_byte}
use Rattle.preconv_converter.proofs.Spots.{reads_both, reads_none, all_become-append, all_were-append}
use Rattle.preconv_converter.proofs.TextGoes.{same_byte, IsText, text_is, moved_by, text_hears, newline_hears}
use Rattle.preconv_converter.proofs.TextGoes.{faces_hears, faces_newline, held_hears, start_hears, line_hears}
use Rattle.preconv_converter.proofs.TextGoes.{no_both}

-- ---- a text line

text_byte : (t : Target) (b : ℕ) → IsText b → (p : Spot) → in_text p ≡ true → Hears in_text 6 t p b
text_byte t b is (Flows Text h) there = text_hears 5 t b h is
text_byte t b is (Flows Faces h) there = faces_hears 4 t b h is
text_byte t b is (Holds Text h) there = held_hears in_text 5 t b Text h refl (λ k. text_hears 4 t b k is)
text_byte t b is p there = absurd (let no : false ≡ true = there in cc)

text_newline : (t : Target) (p : Spot) → in_text p ≡ true → Hears begins 6 t p (code "\n")
text_newline t (Flows Text h) there = newline_hears 5 t h
text_newline t (Flows Faces h) there = faces_newline 5 t h
text_newline t (Holds Text h) there = held_hears begins 5 t (code "\n") Text h refl (λ k. newline_hears 4 t k)
text_newline t p there = absurd (let no : false ≡ true = there in cc)

-- ---- a backslash

in_line : Where → Bool
in_line First = true
in_line (In Text) = true
in_line (In Faces) = true
in_line x = false

begun : Spot → Bool
begun (Begins x h) = in_line x
begun p = false

font_begun : Spot → Bool
font_begun (Fonts x h) = in_line x
font_begun p = false

backslash_takes : (t : Target) (x : Where) (h : Half) (m : Offered) → in_line x ≡ true → m ≡ taken says.Nothing (begun_half (line_of_where x) h) → Takes begun t [] (code "\\") m
unfolding begun
backslash_takes t x h m at offered = record { next = Begins x h; there = at; said = says.Nothing; pieces = []; offered = offered; out = refl; all = refl }

backslash_hears : (n : ℕ) (t : Target) (f : Flow) (h : Half) → in_line (In f) ≡ true → Hears begun (suc n) t (Flows f h) (code "\\")
unfolding in_line
backslash_hears n t Text h at = hears_taken begun n t (Flows Text h) (code "\\") (backslash_takes t (In Text) h _ refl refl)
backslash_hears n t Faces h at = hears_taken begun n t (Flows Faces h) (code "\\") (backslash_takes t (In Faces) h _ refl refl)
backslash_hears n t (Among place w) h at = absurd (let no : false ≡ true = at in cc)

text_backslash : (t : Target) (p : Spot) → in_text p ≡ true → Hears begun 6 t p (code "\\")
unfolding in_line
text_backslash t (Flows Text h) there = backslash_hears 5 t Text h refl
text_backslash t (Flows Faces h) there = backslash_hears 5 t Faces h refl
text_backslash t (Holds Text h) there = held_hears begun 5 t (code "\\") Text h refl (λ k. backslash_hears 4 t Text k refl)
text_backslash t p there = absurd (let no : false ≡ true = there in cc)

first_backslash : (t : Target) (p : Spot) → begins p ≡ true → Hears begun 6 t p (code "\\")
unfolding in_line
first_backslash t p there =
    line_hears begun 5 t (code "\\") (λ h. hears_taken begun 5 t (Starts h) (code "\\") (backslash_takes t First h _ refl refl))
    (λ h. hears_taken begun 4 t (Starts h) (code "\\") (backslash_takes t First h _ refl refl)) p there

-- ---- an escape of two bytes

kept_half : (x : Bool) (y : Where) (b : ℕ) (h : Half) → in_line y ≡ true → text_of (without_escape (placed_as x marks.Other (keeping b (begun_half (line_of_where y) h)))) ≡ open_half lines.Text (record (placed_as x marks.Other h) { spelled = [] })
unfolding in_line
kept_half true First b h at = refl
kept_half true (In Text) b h at = refl
kept_half true (In Faces) b h at = refl
kept_half false First b h at = refl
kept_half false (In Text) b h at = refl
kept_half false (In Faces) b h at = refl
kept_half x (In (Among place w)) b h at = absurd (let no : false ≡ true = at in cc)

Kept : Where → Half → ℕ → Type 0
Kept x h b = offer (comings.Byte b) (begun_half (line_of_where x) h) ≡ taken (says.Kept (code "\\" ∷ b ∷ [])) (text_of (without_escape (placed marks.Other (keeping b (begun_half (line_of_where x) h)))))

kept_at : (x : Where) (h : Half) (b : ℕ) → in_line x ≡ true → is_kept b ≡ true → Kept x h b
unfolding in_line Kept
kept_at First h b at p = by_kept (Kept First h) refl refl refl refl refl b (b == code "-") (b == code "&") (b == code "|") (b == code "c") (b == code "e") refl refl refl refl refl p
kept_at (In Text) h b at p = by_kept (Kept (In Text) h) refl refl refl refl refl b (b == code "-") (b == code "&") (b == code "|") (b == code "c") (b == code "e") refl refl refl refl refl p
kept_at (In Faces) h b at p = by_kept (Kept (In Faces) h) refl refl refl refl refl b (b == code "-") (b == code "&") (b == code "|") (b == code "c") (b == code "e") refl refl refl refl refl p
kept_at (In (Among place w)) h b at p = absurd (let no : false ≡ true = at in cc)

pub kept_out : (t : Target) (b : ℕ) → is_kept b ≡ true → bytes_of t (says.Kept (code "\\" ∷ b ∷ [])) ≡ code "\\" ∷ b ∷ []
kept_out t b p =
    by_kept (λ (c : ℕ). bytes_of t (says.Kept (code "\\" ∷ c ∷ [])) ≡ code "\\" ∷ c ∷ []) refl refl refl refl refl b (b == code "-") (b == code "&") (b == code "|") (b == code "c") (b == code "e") refl refl refl refl refl p

pub kept_ascii : (b : ℕ) → is_kept b ≡ true → nat_lt b 127 ≡ true
kept_ascii b p = by_kept (λ (c : ℕ). nat_lt c 127 ≡ true) refl refl refl refl refl b (b == code "-") (b == code "&") (b == code "|") (b == code "c") (b == code "e") refl refl refl refl refl p

kept_hears : (t : Target) (b : ℕ) → is_kept b ≡ true → (p : Spot) → begun p ≡ true → Hears in_text 6 t p b
unfolding begun Kept
kept_hears t b is (Begins x h) there =
    hears_taken in_text 5 t (Begins x h) b
    (record {
      next = Flows Text (record (placed marks.Other h) { spelled = [] });
      there = refl;
      said = says.Kept (code "\\" ∷ b ∷ []);
      pieces = Same (code "\\") ∷ Same b ∷ [];
      offered = kept_at x h b there is ∙ ap (taken (says.Kept (code "\\" ∷ b ∷ []))) (kept_half h.manual x b h there);
      out = kept_out t b is;
      all = refl;
    })
kept_hears t b is p there = absurd (let no : false ≡ true = there in cc)

-- ---- a font

face_by : (P : ℕ → Type 0) → P (code "B") → P (code "I") → P (code "P") → P (code "R") → P (code "1") → P (code "2") → P (code "3") → P (code "4") → P (code "5") → P (code "V") → (c : ℕ) (u x1 x2 x3 x4 x5 x6 : Bool)
    → is_font c ≡ u → (c == code "1") ≡ x1 → (c == code "2") ≡ x2 → (c == code "3") ≡ x3 → (c == code "4") ≡ x4 → (c == code "5") ≡ x5 → (c == code "V") ≡ x6 → (u || x1 || x2 || x3 || x4 || x5 || x6) ≡ true → P c
face_by P b i p r one two three four five v c true x1 x2 x3 x4 x5 x6 d e1 e2 e3 e4 e5 e6 is = by_letter P b i p r c (c == code "B") (c == code "I") (c == code "P") (c == code "R") refl refl refl refl d
face_by P b i p r one two three four five v c false true x2 x3 x4 x5 x6 d e1 e2 e3 e4 e5 e6 is = subst P (sym (same_byte c (code "1") e1)) one
face_by P b i p r one two three four five v c false false true x3 x4 x5 x6 d e1 e2 e3 e4 e5 e6 is = subst P (sym (same_byte c (code "2") e2)) two
face_by P b i p r one two three four five v c false false false true x4 x5 x6 d e1 e2 e3 e4 e5 e6 is = subst P (sym (same_byte c (code "3") e3)) three
face_by P b i p r one two three four five v c false false false false true x5 x6 d e1 e2 e3 e4 e5 e6 is = subst P (sym (same_byte c (code "4") e4)) four
face_by P b i p r one two three four five v c false false false false false true x6 d e1 e2 e3 e4 e5 e6 is = subst P (sym (same_byte c (code "5") e5)) five
face_by P b i p r one two three four five v c false false false false false false true d e1 e2 e3 e4 e5 e6 is = subst P (sym (same_byte c (code "V") e6)) v
face_by P b i p r one two three four five v c false false false false false false false d e1 e2 e3 e4 e5 e6 is = absurd (let no : false ≡ true = is in cc)

-- one of ten names
pub by_face : (P : ℕ → Type 0) → P (code "B") → P (code "I") → P (code "P") → P (code "R") → P (code "1") → P (code "2") → P (code "3") → P (code "4") → P (code "5") → P (code "V") → (b : ℕ) → is_face b ≡ true → P b
by_face P b i p r one two three four five v c is =
    face_by P b i p r one two three four five v c (is_font c) (c == code "1") (c == code "2") (c == code "3") (c == code "4") (c == code "5") (c == code "V") refl refl refl refl refl refl refl is

letter_offered : (x : Where) (h : Half) → in_line x ≡ true → offer (comings.Byte (code "f")) (begun_half (line_of_where x) h) ≡ taken says.Nothing (font_half (line_of_where x) h)
unfolding in_line
letter_offered First h at = refl
letter_offered (In Text) h at = refl
letter_offered (In Faces) h at = refl
letter_offered (In (Among place w)) h at = absurd (let no : false ≡ true = at in cc)

letter_hears : (t : Target) (p : Spot) → begun p ≡ true → Hears font_begun 6 t p (code "f")
unfolding begun font_begun
letter_hears t (Begins x h) there =
    hears_taken font_begun 5 t (Begins x h) (code "f") (record { next = Fonts x h; there = there; said = says.Nothing; pieces = []; offered = letter_offered x h there; out = refl; all = refl })
letter_hears t p there = absurd (let no : false ≡ true = there in cc)

named : Where → ℕ → Half → Half
named x b h = without_escape (faced (face_of b) (spelling b (keeping b (font_half (line_of_where x) h))))

after : Where → Flow
after (In Text) = Text
after x = Faces

Named : Where → Half → ℕ → Type 0
Named x h b = offer (comings.Byte b) (font_half (line_of_where x) h) ≡ taken (says.Font (face_of b)) (open_half (line_in (after x)) (named x b h))

named_at : (x : Where) (h : Half) (b : ℕ) → in_line x ≡ true → is_face b ≡ true → Named x h b
unfolding in_line Named named after
named_at First h b at p = by_face (Named First h) refl refl refl refl refl refl refl refl refl refl b p
named_at (In Text) h b at p = by_face (Named (In Text) h) refl refl refl refl refl refl refl refl refl refl b p
named_at (In Faces) h b at p = by_face (Named (In Faces) h) refl refl refl refl refl refl refl refl refl refl b p
named_at (In (Among place w)) h b at p = absurd (let no : false ≡ true = at in cc)

pub font_out : (t : Target) (b : ℕ) → is_face b ≡ true → bytes_of t (says.Font (face_of b)) ≡ code "\\" ∷ code "f" ∷ face_of b ∷ []
font_out t b p =
    by_face (λ (c : ℕ). bytes_of t (says.Font (face_of c)) ≡ code "\\" ∷ code "f" ∷ face_of c ∷ []) refl refl refl refl refl refl refl refl refl refl b p

pub font_ascii : (b : ℕ) → is_face b ≡ true → nat_lt b 127 ≡ true
font_ascii b p = by_face (λ (c : ℕ). nat_lt c 127 ≡ true) refl refl refl refl refl refl refl refl refl refl b p

in_text_after : (x : Where) (h : Half) → in_text (Flows (after x) h) ≡ true
unfolding after
in_text_after First h = refl
in_text_after (In Text) h = refl
in_text_after (In Faces) h = refl
in_text_after (In (Among place w)) h = refl

font_hears : (t : Target) (b : ℕ) → is_face b ≡ true → (p : Spot) → font_begun p ≡ true → Hears in_text 6 t p b
unfolding font_begun Named
font_hears t b is (Fonts x h) there =
    hears_taken in_text 5 t (Fonts x h) b
    (record {
      next = Flows (after x) (named x b h);
      there = in_text_after x (named x b h);
      said = says.Font (face_of b);
      pieces = Face b ∷ [];
      offered = named_at x h b there is;
      out = font_out t b is;
      all = refl;
    })
font_hears t b is p there = absurd (let no : false ≡ true = there in cc)

-- ---- a character beyond ASCII

pub record HearsWide (P : Spot → Bool) (n : ℕ) (t : Target) (p : Spot) (c : ℕ) : Type 0 where
  pub next : Spot
  pub there : P next ≡ true
  pub pieces : List Piece
  pub steps : ℕ
  pub heard : heard_in n (comings.Wide c) (at t p) ≡ emitted (at t next) (all_become t pieces) steps
  pub all : held p ++ encode_utf8 c ≡ all_were pieces ++ held next

wide_taken : (n : ℕ) (t : Target) (p : Spot) (c : ℕ) (k : Half) → held p ≡ [] → offer (comings.Wide c) (half_of p) ≡ taken (says.Character c) (open_half lines.Text k) → HearsWide in_text (suc n) t p c
wide_taken n t p c k none offered =
    record {
      next = Flows Text k;
      there = refl;
      pieces = Looks c ∷ [];
      steps = 1;
      heard =
          ap (λ (m : Offered). preceded (bytes_of t m.said) 1 (if m.takes then emitted (with_half m.half (at t p)) [] 0 else heard_in n (comings.Wide c) (with_half m.half (at t p)))) offered;
      all = ap (λ (xs : List ℕ). xs ++ encode_utf8 c) none ∙ sym (append-nil (encode_utf8 c)) ∙ sym (append-nil (encode_utf8 c ++ []));
    }

pub wide_left : (P : Spot → Bool) (n : ℕ) (t : Target) (p q : Spot) (c : ℕ) (said : Said) (ps : List Piece)
    → offer (comings.Wide c) (half_of p) ≡ left said (half_of q) → bytes_of t said ≡ all_become t ps → held p ≡ all_were ps ++ held q
    → HearsWide P n t q c → HearsWide P (suc n) t p c
wide_left P n t p q c said ps offered out all k =
    let w = comings.Wide c in
    record {
      next = k.next;
      there = k.there;
      pieces = ps ++ k.pieces;
      steps = 1 + k.steps;
      heard =
          ap (λ (m : Offered). preceded (bytes_of t m.said) 1 (if m.takes then emitted (with_half m.half (at t p)) [] 0 else heard_in n w (with_half m.half (at t p)))) offered
          ∙ ap (preceded (bytes_of t said) 1) k.heard
          ∙ ap (λ (xs : List ℕ). emitted (at t k.next) (xs ++ all_become t k.pieces) (1 + k.steps)) out
          ∙ ap (λ (xs : List ℕ). emitted (at t k.next) xs (1 + k.steps)) (sym (all_become-append t ps k.pieces));
      all =
          ap (λ (xs : List ℕ). xs ++ encode_utf8 c) all
          ∙ append_assoc (all_were ps) (held q) (encode_utf8 c)
          ∙ ap (λ (xs : List ℕ). all_were ps ++ xs) k.all
          ∙ sym (append_assoc (all_were ps) (all_were k.pieces) (held k.next))
          ∙ ap (λ (xs : List ℕ). xs ++ held k.next) (sym (all_were-append ps k.pieces));
    }

shows : (x : Bool) (c : ℕ) (l : Line) (h : Half) → x ≡ false
    → taken (if x then says.Escape (code "0") else says.Character c) (record (placed (wide_mark c) (open_half l h)) { line = lines.Text }) ≡ taken (says.Character c) (open_half lines.Text (placed (wide_mark c) h))
shows true c l h e = absurd (let no : true ≡ false = e in cc)
shows false c l h e = ap (taken (says.Character c)) (moved_by h.manual (wide_mark c) lines.Text l h)

wide_offered : (x : Where) (c : ℕ) (h : Half) → in_line x ≡ true → offer (comings.Wide c) (open_half (line_of_where x) h) ≡ taken (says.Character c) (open_half lines.Text (placed (wide_mark c) h))
unfolding in_line
wide_offered First c h at = shows (is_space c && false) c lines.Start h (no_both (is_space c))
wide_offered (In Text) c h at = shows (is_space c && false) c lines.Text h (no_both (is_space c))
wide_offered (In Faces) c h at = shows (is_space c && false) c lines.Fonts h (no_both (is_space c))
wide_offered (In (Among place w)) c h at = absurd (let no : false ≡ true = at in cc)

text_wide : (t : Target) (c : ℕ) (p : Spot) → in_text p ≡ true → HearsWide in_text 6 t p c
unfolding in_line
text_wide t c (Flows Text h) there = wide_taken 5 t (Flows Text h) c (placed (wide_mark c) h) refl (wide_offered (In Text) c h refl)
text_wide t c (Flows Faces h) there = wide_taken 5 t (Flows Faces h) c (placed (wide_mark c) h) refl (wide_offered (In Faces) c h refl)
text_wide t c (Holds Text h) there =
    let k : Half = record h { spelled = [] } in
    wide_left in_text 5 t (Holds Text h) (Flows Text k) c (says.Kept (code "-" ∷ [])) (Same (code "-") ∷ []) refl refl refl
    (wide_taken 4 t (Flows Text k) c (placed (wide_mark c) k) refl (wide_offered (In Text) c k refl))
text_wide t c p there = absurd (let no : false ≡ true = there in cc)

first_wide : (t : Target) (c : ℕ) (p : Spot) → begins p ≡ true → HearsWide in_text 6 t p c
unfolding in_line
first_wide t c (Starts h) there = wide_taken 5 t (Starts h) c (placed (wide_mark c) h) refl (wide_offered First c h refl)
first_wide t c (Closes h) there =
    let k : Half = record h { spelled = [] } in
    wide_left in_text 5 t (Closes h) (Starts k) c (says.Kept (codes "\\*(.\\n(.u\n")) (SentenceEnd ∷ []) refl refl refl
    (wide_taken 4 t (Starts k) c (placed (wide_mark c) k) refl (wide_offered First c k refl))
first_wide t c p there = absurd (let no : false ≡ true = there in cc)

no_ascii : (c : ℕ) → nat_lt 126 c ≡ true → nat_lt c 127 ≡ false
no_ascii c p = grind (arith, nat_tests)

pub wide_reads : (P : Spot → Bool) (t : Target) (c : ℕ) (p : Spot) → is_sign (Character c) ≡ true → HearsWide P 6 t p c → Reads P t p (encode_utf8 c)
unfolding heard
wide_reads P t c p is k =
    let beyond = and-first (nat_lt 126 c) (all_scalars (c ∷ [])) is in
    let scalar = and-first _ _ (and-second (nat_lt 126 c) (all_scalars (c ∷ [])) is) in
    record {
      next = k.next;
      there = k.there;
      pieces = k.pieces;
      steps = k.steps;
      read =
          cooked_character c (at t p) scalar (no_raw p) refl
          ∙ ap (λ (x : Bool). heard_in 6 (if x then comings.Byte c else comings.Wide c) (at t p)) (no_ascii c beyond)
          ∙ k.heard;
      all = k.all;
    }

-- ---- a character by its name

pair_begun : Spot → Bool
pair_begun (Pairs x h) = in_line x
pair_begun p = false

pair_offered : (x : Where) (h : Half) → in_line x ≡ true → offer (comings.Byte (code "(")) (begun_half (line_of_where x) h) ≡ taken says.Nothing (pair_half (line_of_where x) h)
unfolding in_line
pair_offered First h at = refl
pair_offered (In Text) h at = refl
pair_offered (In Faces) h at = refl
pair_offered (In (Among place w)) h at = absurd (let no : false ≡ true = at in cc)

pair_hears : (t : Target) (p : Spot) → begun p ≡ true → Hears pair_begun 6 t p (code "(")
unfolding begun pair_begun
pair_hears t (Begins x h) there =
    hears_taken pair_begun 5 t (Begins x h) (code "(") (record { next = Pairs x h; there = there; said = says.Nothing; pieces = []; offered = pair_offered x h there; out = refl; all = refl })
pair_hears t p there = absurd (let no : false ≡ true = there in cc)

glyph_text : (t : Target) (a b c : ℕ) → IsGlyph a b c → (p : Spot) → pair_begun p ≡ true → Reads in_text t p (a ∷ b ∷ [])
unfolding pair_begun in_line
glyph_text t a b c is (Pairs First h) there = glyph_reads in_text t First h a b c (Flows Text) (λ k. refl) (λ k. refl) (λ k. refl) is refl (no_both (is_space c))
glyph_text t a b c is (Pairs (In Text) h) there = glyph_reads in_text t (In Text) h a b c (Flows Text) (λ k. refl) (λ k. refl) (λ k. refl) is refl (no_both (is_space c))
glyph_text t a b c is (Pairs (In Faces) h) there = glyph_reads in_text t (In Faces) h a b c (Flows Text) (λ k. refl) (λ k. refl) (λ k. refl) is refl (no_both (is_space c))
glyph_text t a b c is p there = absurd (let no : false ≡ true = there in cc)

-- ---- signs

text_sign : (t : Target) (s : Sign) → is_sign s ≡ true → (p : Spot) → in_text p ≡ true → Reads in_text t p (written_sign s)
text_sign t (Byte b) is p there = let text = text_is b is in reads_byte in_text in_text t p b [] text.ascii (text_byte t b text p there) (λ q k. reads_none in_text t q k)
text_sign t (Escape b) is p there =
    reads_byte in_text begun t p (code "\\") (b ∷ []) refl (text_backslash t p there)
    (λ q k. reads_byte in_text in_text t q b [] (kept_ascii b is) (kept_hears t b is q k) (λ r l. reads_none in_text t r l))
text_sign t (Font b) is p there =
    reads_byte in_text begun t p (code "\\") (code "f" ∷ b ∷ []) refl (text_backslash t p there)
    (λ q k. reads_byte in_text font_begun t q (code "f") (b ∷ []) refl (letter_hears t q k)
    (λ r l. reads_byte in_text in_text t r b [] (font_ascii b is) (font_hears t b is r l) (λ u m. reads_none in_text t u m)))
text_sign t (Glyph a b c) is p there =
    reads_byte in_text begun t p (code "\\") (code "(" ∷ a ∷ b ∷ []) refl (text_backslash t p there)
    (λ q k. reads_byte in_text pair_begun t q (code "(") (a ∷ b ∷ []) refl (pair_hears t q k) (λ r l. glyph_text t a b c (glyph_is a b c is) r l))
text_sign t (Character c) is p there = wide_reads in_text t c p is (text_wide t c p there)

first_sign : (t : Target) (s : Sign) → is_sign s ≡ true → begins_text s ≡ true → (p : Spot) → begins p ≡ true → Reads in_text t p (written_sign s)
first_sign t (Byte b) is first p there =
    let text = text_is b is in
    let plain = is_not (is_control b) first in
    reads_byte in_text in_text t p b [] text.ascii (line_hears in_text 5 t b (λ h. start_hears 4 t b h text plain) (λ h. start_hears 3 t b h text plain) p there) (λ q k. reads_none in_text t q k)
first_sign t (Escape b) is first p there =
    reads_byte in_text begun t p (code "\\") (b ∷ []) refl (first_backslash t p there)
    (λ q k. reads_byte in_text in_text t q b [] (kept_ascii b is) (kept_hears t b is q k) (λ r l. reads_none in_text t r l))
first_sign t (Font b) is first p there =
    reads_byte in_text begun t p (code "\\") (code "f" ∷ b ∷ []) refl (first_backslash t p there)
    (λ q k. reads_byte in_text font_begun t q (code "f") (b ∷ []) refl (letter_hears t q k)
    (λ r l. reads_byte in_text in_text t r b [] (font_ascii b is) (font_hears t b is r l) (λ u m. reads_none in_text t u m)))
first_sign t (Glyph a b c) is first p there =
    reads_byte in_text begun t p (code "\\") (code "(" ∷ a ∷ b ∷ []) refl (first_backslash t p there)
    (λ q k. reads_byte in_text pair_begun t q (code "(") (a ∷ b ∷ []) refl (pair_hears t q k) (λ r l. glyph_text t a b c (glyph_is a b c is) r l))
first_sign t (Character c) is first p there = wide_reads in_text t c p is (first_wide t c p there)

signs_read : (t : Target) (ss : List Sign) → all_are is_sign ss ≡ true → (p : Spot) → in_text p ≡ true → Reads begins t p (written_signs ss (codes "\n"))
signs_read t [] all p there = reads_byte begins begins t p (code "\n") [] refl (text_newline t p there) (λ q k. reads_none begins t q k)
signs_read t (s ∷ ss) all p there =
    reads_both begins in_text t p (written_sign s) (written_signs ss (codes "\n")) (text_sign t s (and-first (is_sign s) (all_are is_sign ss) all) p there)
    (λ q k. signs_read t ss (and-second (is_sign s) (all_are is_sign ss) all) q k)

pub text_line : (t : Target) (s : Sign) (ss : List Sign) → is_sign s ≡ true → begins_text s ≡ true → all_are is_sign ss ≡ true → (p : Spot) → begins p ≡ true → Reads begins t p (written_sign s ++ written_signs ss (codes "\n"))
text_line t s ss is first all p there =
    reads_both begins in_text t p (written_sign s) (written_signs ss (codes "\n")) (first_sign t s is first p there) (λ q k. signs_read t ss all q k)

-- A character by a name of two bytes goes out as what it looks like.
use Prim.Native.Char.{code}
use Rattle.std.proofs.Common.{◌≡◌, ℕ, List, [], ◌∷◌, Bool, true, false, not, ◌&&◌, Option, None, Some, refl, sym, ◌∙◌, ap, append-nil}
use Rattle.preconv_characters.specs.declared.target.Target.{Target}
use Rattle.preconv_characters.specs.declared.said.Said.TheVariants as says
use Rattle.preconv_lines.specs.declared.half.Half.{Half}
use Rattle.preconv_lines.specs.declared.half.Line.{Line}
use Rattle.preconv_characters.specs.declared.marks.Mark.{Mark}
use Rattle.preconv_lines.specs.declared.half.Coming.TheVariants as comings
use Rattle.preconv_lines.specs.Half.{taken, in_text as text_of, with_text, without_escape, is_space}
use Rattle.preconv_lines.specs.Half.{is_text as text_at}
use Rattle.preconv_characters.specs.Marks.{wide_mark}
use Rattle.preconv_lines.specs.Hyphens.{placed}
use Rattle.preconv_lines.specs.Endings.{keeping, spelling}
use Rattle.preconv_characters.specs.Glyphs.{is_pair, is_native, pair_code}
use Rattle.preconv_lines.specs.Named.{is_translation}
use Rattle.preconv_characters.specs.Likeness.{likeness}
use Rattle.preconv_characters.specs.Saying.{all_sent}
use Rattle.preconv_lines.specs.Offering.{offer}
use Rattle.preconv_converter.specs.Pieces.{Named}
use Rattle.preconv_converter.specs.WrittenLines.{is_text, is_same, names, Glyph, is_sign}
use Rattle.preconv_converter.proofs.AtOnce.{placed_as}
use Rattle.preconv_converter.proofs.Plain.{and-first, and-second, is_not}
use Rattle.preconv_converter.proofs.Spots.{open_half, pair_half, one_half, Where, line_of_where, Spot, Pairs}
use Rattle.preconv_converter.proofs.Spots.{Ones, half_of, held, hears_taken, Reads, reads_byte, reads_none}
use Rattle.preconv_converter.proofs.Spots.{named, reads_exact}
use Rattle.preconv_converter.proofs.TextGoes.{IsText, text_is, no_both, same_byte}

pub record IsGlyph (a b c : ℕ) : Type 0 where
  pub first : IsText a
  pub second : IsText b
  pub native : is_native (a ∷ b ∷ []) ≡ false
  pub dash : is_pair (code "*") (code "W") (a ∷ b ∷ []) ≡ false
  pub code : pair_code a b ≡ Some c

same_code : (d : Option ℕ) (c : ℕ) → is_same d c ≡ true → d ≡ Some c
same_code None c p = absurd (let no : false ≡ true = p in cc)
same_code (Some d) c p = ap Some (same_byte d c p)

pub glyph_is : (a b c : ℕ) → is_sign (Glyph a b c) ≡ true → IsGlyph a b c
glyph_is a b c p =
    let one = is_text a in
    let two = is_text b in
    let both = and-first (one && two) (names a b c) p in
    let name = and-second (one && two) (names a b c) p in
    let own = not (is_native (a ∷ b ∷ [])) in
    let dash = not (is_pair (code "*") (code "W") (a ∷ b ∷ [])) in
    let no = and-first (own && dash) (is_same (pair_code a b) c) name in
    record {
      first = text_is a (and-first one two both);
      second = text_is b (and-second one two both);
      native = is_not (is_native (a ∷ b ∷ [])) (and-first own dash no);
      dash = is_not (is_pair (code "*") (code "W") (a ∷ b ∷ [])) (and-second own dash no);
      code = same_code (pair_code a b) c (and-second (own && dash) (is_same (pair_code a b) c) name);
    }

one_offered : (l : Line) (a : ℕ) (h : Half) → IsText a → offer (comings.Byte a) (pair_half l h) ≡ taken says.Nothing (one_half l a h)
one_offered l a h is = rw is.newline refl

placed_half : (x : Bool) (m : Mark) (l : Line) (a b : ℕ) (h : Half) → text_of (without_escape (placed_as x m (spelling b (keeping b (one_half l a h))))) ≡ open_half (with_text l) (record (placed_as x m h) { spelled = [] })
placed_half true m l a b h = refl
placed_half false m l a b h = refl

glyph_offered : (l : Line) (a b c : ℕ) (h : Half) → IsGlyph a b c → is_translation l ≡ false → (is_space c && not (text_at l)) ≡ false
    → offer (comings.Byte b) (one_half l a h) ≡ taken (says.Character c) (text_of (without_escape (placed (wide_mark c) (spelling b (keeping b (one_half l a h))))))
glyph_offered l a b c h is line space = rw (is.native, is.dash, line, is.second.newline, no_both (is_pair (code "i") (code "s") (a ∷ b ∷ [])), is.code, space) refl

pub glyph_reads : (P : Spot → Bool) (t : Target) (x : Where) (h : Half) (a b c : ℕ) (next : Half → Spot) → ((k : Half) → P (next k) ≡ true) → ((k : Half) → half_of (next k) ≡ open_half (with_text (line_of_where x)) k) → ((k : Half) → held (next k) ≡ [])
    → IsGlyph a b c → is_translation (line_of_where x) ≡ false → (is_space c && not (text_at (line_of_where x))) ≡ false → Reads P t (Pairs x h) (a ∷ b ∷ [])
glyph_reads P t x h a b c next there half none is line space =
    let l = line_of_where x in
    let k : Half = record (placed (wide_mark c) h) { spelled = [] } in
    reads_exact P t (Pairs x h) (Ones x a h) (a ∷ []) (b ∷ []) 1 (named t (Pairs x h) (Ones x a h) a is.first.ascii (one_offered l a h is.first)) refl
    (reads_byte P P t (Ones x a h) b [] is.second.ascii
    (hears_taken P 5 t (Ones x a h) b
    (record {
      next = next k;
      there = there k;
      said = says.Character c;
      pieces = Named a b c ∷ [];
      offered = glyph_offered l a b c h is line space ∙ ap (taken (says.Character c)) (placed_half h.manual (wide_mark c) l a b h ∙ sym (half k));
      out = sym (append-nil (all_sent t (likeness t c)));
      all = ap (λ (xs : List ℕ). code "\\" ∷ code "(" ∷ a ∷ b ∷ xs) (sym (none k));
    }))
    (λ q m. reads_none P t q m))

-- The words of a font macro's line go out piece by piece.
use Prim.Native.Char.{code}
use Rattle.std.proofs.Common.{◌≡◌, ℕ, suc, ◌+◌, List, [], ◌∷◌, ◌++◌, Bool, true, false, not, ◌==◌, ◌&&◌, ◌||◌, nat_le, if◌then◌else◌, refl, sym, ◌∙◌, ap, subst, append-nil}
use Rattle.preconv_characters.specs.declared.target.Target.{Target}
use Rattle.preconv_characters.specs.declared.said.Said.{Said}
use Rattle.preconv_characters.specs.declared.said.Said.TheVariants as says
use Rattle.preconv_lines.specs.declared.half.Half.{Half}
use Rattle.preconv_lines.specs.declared.half.Line.{Line}
use Rattle.preconv_lines.specs.declared.half.Line.TheVariants as lines
use Rattle.preconv_lines.specs.declared.half.Coming.TheVariants as comings
use Rattle.preconv_characters.specs.declared.words.Words.{Words}
use Rattle.preconv_characters.specs.declared.words.Emitted.{Emitted as WordsEmitted}
use Rattle.preconv_characters.specs.declared.words.Fonts.{Fonts}
use Rattle.preconv_characters.specs.declared.words.Fonts.TheVariants as fonts
use Rattle.preconv_characters.specs.declared.words.Place.{Place}
use Rattle.preconv_characters.specs.declared.words.Place.TheVariants as places
use Rattle.preconv_characters.specs.declared.words.Class.{Class}
use Rattle.preconv_characters.specs.declared.words.Class.TheVariants.{Space, Quote as QuoteClass, Other}
use Rattle.preconv_lines.specs.Half.{Offered, taken, left, is_format}
use Rattle.preconv_characters.specs.Marks.{mark_of}
use Rattle.preconv_lines.specs.Hyphens.{placed, gone_by, saying, hyphen, hyphen_at, turns_hyphens, line_after}
use Rattle.preconv_characters.specs.Saying.{bytes_of, sent}
use Rattle.preconv_characters.specs.Words.{begins_word, is_ninth, class_of, words_at, begun, turned}
use Rattle.preconv_characters.specs.Words.{offered_at, blank_by, has_hyphens as words_have}
use Rattle.preconv_lines.specs.Lines.{as_offered, among_words, word_moved, in_words}
use Rattle.preconv_lines.specs.Offering.{offer, beginning}
use Rattle.preconv_converter.specs.Pieces.{Piece, Same, Quote, Unquote, Turn, Printed, all_were, all_become}
use Rattle.preconv_converter.proofs.Plain.{and-first, is_not}
use Rattle.preconv_converter.proofs.Spots.{open_half, Among, Spot, Starts, Flows, Holds, Rests, Turns}
use Rattle.preconv_converter.proofs.Spots.{half_of, held, begins, Takes, Hears, hears_taken, hears_left}
use Rattle.preconv_converter.proofs.TextGoes.{IsText, same_byte, moved_by, same_takes, takes_as, IsFlow}
use Rattle.preconv_converter.proofs.TextGoes.{hyphen_takes, held_hears}

-- ---- a byte among words

abbrev pub as_is : WordsEmitted → Half → Offered
as_is emitted h = record { half = open_half (lines.Words emitted.words) h; said = emitted.said; takes = emitted.takes }

pub as_offered_is : (emitted : WordsEmitted) (b : ℕ) (l : Line) (h : Half) → (b == code "\n") ≡ false → as_offered emitted (gone_by b (open_half l h)) ≡ as_is emitted (placed (mark_of b) h)
as_offered_is emitted b l h e =
    ap (λ (x : Bool). as_offered emitted (if x then line_after (open_half l h) else placed (mark_of b) (open_half l h))) e
    ∙ ap (λ (k : Half). record { half = k; said = emitted.said; takes = emitted.takes }) (moved_by h.manual (mark_of b) (lines.Words emitted.words) l h)

word_offered : (b : ℕ) (w : Words) (h : Half) → IsText b
    → offer (comings.Byte b) (open_half (lines.Words w) h)
    ≡ (if (b == code "-") && turns_hyphens h && not (begins_word w) then hyphen (lines.Words w) (open_half (lines.Words w) h) else as_is (offered_at w.place (class_of b) (says.Byte b) w) (placed (mark_of b) h))
word_offered b w h is =
    let k = open_half (lines.Words w) h in
    ap (λ (x : Bool). if x && true then beginning k else in_words w b k) is.backslash
    ∙ ap (λ (x : Bool). if x || false then word_moved w b k else
    (if (b == code "-") && turns_hyphens k && not (begins_word w) then hyphen (lines.Words w) k else
    (if not (b == code "\n") then among_words w (class_of b) (says.Byte b) (gone_by b k) else
    (if is_ninth w then left (says.Byte (code "\"")) (record k { line = lines.Request }) else saying b lines.Start k)))) is.return
    ∙ ap (λ (x : Bool). if (b == code "-") && turns_hyphens k && not (begins_word w) then hyphen (lines.Words w) k else
    if not x then among_words w (class_of b) (says.Byte b) (gone_by b k) else
    if is_ninth w then left (says.Byte (code "\"")) (record k { line = lines.Request }) else saying b lines.Start k) is.newline
    ∙ ap (λ (m : Offered). if (b == code "-") && turns_hyphens h && not (begins_word w) then hyphen (lines.Words w) k else m) (as_offered_is (offered_at w.place (class_of b) (says.Byte b) w) b (lines.Words w) h is.newline)

-- where a word begins a hyphen is as any other
no_hyphen : (x y : Bool) → (x && y && false) ≡ false
no_hyphen true true = refl
no_hyphen true false = refl
no_hyphen false y = refl

pub begin_offered : (b : ℕ) (w : Words) (h : Half) → IsText b → begins_word w ≡ true
    → offer (comings.Byte b) (open_half (lines.Words w) h) ≡ as_is (offered_at w.place (class_of b) (says.Byte b) w) (placed (mark_of b) h)
begin_offered b w h is first =
    word_offered b w h is
    ∙ ap (λ (x : Bool). if (b == code "-") && turns_hyphens h && not x then hyphen (lines.Words w) (open_half (lines.Words w) h) else as_is (offered_at w.place (class_of b) (says.Byte b) w) (placed (mark_of b) h)) first
    ∙ ap (λ (x : Bool). if x then hyphen (lines.Words w) (open_half (lines.Words w) h) else as_is (offered_at w.place (class_of b) (says.Byte b) w) (placed (mark_of b) h)) (no_hyphen (b == code "-") (turns_hyphens h))

abbrev pub is_quote : Class → Bool
is_quote QuoteClass = true
is_quote c = false

-- ---- in a word, or between quotes

-- in a word without quotes, between quotes, or after the last quote
abbrev pub inside : Spot → Bool
inside (Flows (Among places.Inside w) h) = true
inside (Holds (Among places.Inside w) h) = true
inside p = false

abbrev pub in_quotes : Spot → Bool
in_quotes (Flows (Among places.Quoted w) h) = true
in_quotes (Flows (Among places.Opened w) h) = true
in_quotes (Holds (Among places.Quoted w) h) = true
in_quotes p = false

abbrev pub word_ends : Spot → Bool
word_ends (Flows (Among places.Inside w) h) = true
word_ends (Holds (Among places.Inside w) h) = true
word_ends (Flows (Among places.Closing w) h) = true
word_ends p = false

-- between words: after the ninth, where the font changes, the blank is held back
abbrev pub turned_ninth : Fonts → Bool → Bool
turned_ninth (fonts.Turn a b) ninth = ninth
turned_ninth f ninth = false

abbrev pub between : Spot → Bool
between (Flows (Among places.Between w) h) = not (turned_ninth w.fonts (is_ninth w))
between (Turns w h) = turned_ninth w.fonts (is_ninth w)
between p = false

pub inside_flow : (w : Words) → IsFlow inside (Among places.Inside w)
inside_flow w = record { flows = λ h. refl; holds = λ h. refl }

pub quoted_flow : (w : Words) → IsFlow in_quotes (Among places.Quoted w)
quoted_flow w = record { flows = λ h. refl; holds = λ h. refl }

sign_takes : (y : Bool) (P : Spot → Bool) (place : Place) (w : Words) (t : Target) (h : Half) → IsFlow P (Among place w)
    → Takes P t [] (code "-") (if not y then taken (says.Byte (code "-")) (open_half (lines.Words (words_at place w)) h) else hyphen_at (is_format h.table) h.before (open_half (lines.Words (words_at place w)) h))
sign_takes false P place w t h is = same_takes P t (code "-") (Flows (Among place w) h) _ (is.flows h) refl refl refl
sign_takes true P place w t h is = hyphen_takes (is_format h.table) h.before P (Among place w) t h is

goes_by : (x : Bool) (P : Spot → Bool) (place : Place) (w : Words) (t : Target) (b : ℕ) (h k : Half) (m : Offered) → IsFlow P (Among place w) → IsText b → (x ≡ true → (b == code "-") ≡ true)
    → m ≡ taken (says.Byte b) (open_half (lines.Words (words_at place w)) k)
    → Takes P t [] b (if x then hyphen (lines.Words (words_at place w)) (open_half (lines.Words (words_at place w)) h) else m)
goes_by true P place w t b h k m flow is dash offered =
    let v = words_at place w in
    subst (λ (c : ℕ). Takes P t [] c (hyphen (lines.Words v) (open_half (lines.Words v) h))) (sym (same_byte b (code "-") (dash refl))) (sign_takes (words_have v) P place w t h flow)
goes_by false P place w t b h k m flow is dash offered = same_takes P t b (Flows (Among place w) k) m (flow.flows k) is.ascii offered refl

first_of : (x y z : Bool) → (x && y && z) ≡ true → x ≡ true
first_of x y z p = and-first x y (and-first (x && y) z p)

-- a byte goes on it
goes_hears : (n : ℕ) (P : Spot → Bool) (place : Place) (w : Words) (t : Target) (b : ℕ) (h : Half) → IsFlow P (Among place w) → IsText b
    → as_is (offered_at place (class_of b) (says.Byte b) (words_at place w)) (placed (mark_of b) h) ≡ taken (says.Byte b) (open_half (lines.Words (words_at place w)) (placed (mark_of b) h))
    → Hears P (suc n) t (Flows (Among place w) h) b
goes_hears n P place w t b h flow is offered =
    let v = words_at place w in
    let x = (b == code "-") && turns_hyphens h && not (begins_word v) in
    hears_taken P n t (Flows (Among place w) h) b
    (takes_as P t [] b _ _ (word_offered b v h is) (goes_by x P place w t b h (placed (mark_of b) h) _ flow is (first_of (b == code "-") (turns_hyphens h) (not (begins_word v))) offered))

pub inside_hears : (n : ℕ) (t : Target) (b : ℕ) (w : Words) (h : Half) → IsText b → class_of b ≡ Other → Hears inside (suc n) t (Flows (Among places.Inside w) h) b
inside_hears n t b w h is class =
    goes_hears n inside places.Inside w t b h (inside_flow w) is
    (ap (λ (c : Class). as_is (offered_at places.Inside c (says.Byte b) (words_at places.Inside w)) (placed (mark_of b) h)) class)

quoted_offered : (c : Class) (b : ℕ) (w : Words) (k : Half) → is_quote c ≡ false → as_is (offered_at places.Quoted c (says.Byte b) (words_at places.Quoted w)) k ≡ taken (says.Byte b) (open_half (lines.Words (words_at places.Quoted w)) k)
quoted_offered Space b w k e = refl
quoted_offered Other b w k e = refl
quoted_offered QuoteClass b w k e = absurd (let no : true ≡ false = e in cc)

pub quoted_hears : (n : ℕ) (t : Target) (b : ℕ) (w : Words) (h : Half) → IsText b → is_quote (class_of b) ≡ false → Hears in_quotes (suc n) t (Flows (Among places.Quoted w) h) b
quoted_hears n t b w h is class =
    goes_hears n in_quotes places.Quoted w t b h (quoted_flow w) is (quoted_offered (class_of b) b w (placed (mark_of b) h) class)

-- ---- a blank ends a word

there_is : (w : Words) (f : Fonts) (x : Bool) → w.fonts ≡ f → is_ninth w ≡ x → turned_ninth w.fonts (is_ninth w) ≡ turned_ninth f x
there_is w f x e i = rw (e, i) refl

blank_takes : (f : Fonts) (x : Bool) (t : Target) (w : Words) (k : Half) → w.fonts ≡ f → is_ninth w ≡ x
    → Takes between t [] (code " ") (as_is (record { words = words_at places.Between w; said = blank_by f x (says.Byte (code " ")); takes = true }) k)
blank_takes (fonts.Turn a b) true t w k e i =
    record { next = Turns w k; there = there_is w (fonts.Turn a b) true e i; said = says.Nothing; pieces = []; offered = refl; out = refl; all = refl }
blank_takes (fonts.Turn a b) false t w k e i = same_takes between t (code " ") (Flows (Among places.Between w) k) _ (ap not (there_is w (fonts.Turn a b) false e i)) refl refl refl
blank_takes fonts.One x t w k e i = same_takes between t (code " ") (Flows (Among places.Between w) k) _ (ap not (there_is w fonts.One x e i)) refl refl refl
blank_takes (fonts.Same a) x t w k e i = same_takes between t (code " ") (Flows (Among places.Between w) k) _ (ap not (there_is w (fonts.Same a) x e i)) refl refl refl
blank_takes fonts.Tag x t w k e i = same_takes between t (code " ") (Flows (Among places.Between w) k) _ (ap not (there_is w fonts.Tag x e i)) refl refl refl

blank_text : IsText (code " ")
blank_text = record { ascii = refl; newline = refl; return = refl; backslash = refl }

abbrev pub ends : Place → Bool
ends places.Between = true
ends places.Inside = true
ends places.Closing = true
ends place = false

blank_offered : (place : Place) (w : Words) → ends place ≡ true → offered_at place Space (says.Byte (code " ")) (words_at place w) ≡ record { words = words_at places.Between w; said = blank_by w.fonts (is_ninth w) (says.Byte (code " ")); takes = true }
blank_offered places.Between w e = refl
blank_offered places.Inside w e = refl
blank_offered places.Closing w e = refl
blank_offered place w e = absurd (let no : false ≡ true = e in cc)

pub blank_hears : (n : ℕ) (t : Target) (place : Place) (w : Words) (h : Half) → ends place ≡ true → Hears between (suc n) t (Flows (Among place w) h) (code " ")
blank_hears n t place w h e =
    let k = placed (mark_of (code " ")) h in
    hears_taken between n t (Flows (Among place w) h) (code " ")
    (takes_as between t [] (code " ") _ _
    (word_offered (code " ") (words_at place w) h blank_text ∙ ap (λ (emitted : WordsEmitted). as_is emitted k) (blank_offered place w e))
    (blank_takes w.fonts (is_ninth w) t w k refl refl))

-- ---- a word begins

pub record Begun (p : Spot) (w : Words) : Type 0 where
  pub next : Words
  pub said : Target → Said
  pub pieces : Target → List Piece
  pub is : (t : Target) → begun (words_at places.Between w) ≡ record { words = words_at places.Begun next; said = said t; takes = false }
  pub out : (t : Target) → bytes_of t (said t) ≡ all_become t (pieces t)
  pub all : (t : Target) → held p ≡ all_were (pieces t)

after_nine : Words → Words
after_nine w = record { fonts = w.fonts; count = 9; second = not w.second; place = places.Begun }

one_more : Words → Words
one_more w = record { fonts = w.fonts; count = w.count + 1; second = not w.second; place = places.Begun }

begun_by : (x y : Bool) (w : Words) → nat_le 9 w.count ≡ x → (w.count == 8) ≡ y
    → begun (words_at places.Between w) ≡ (if x then record { words = words_at places.Begun (after_nine w); said = turned w.fonts w.second; takes = false }
    else record { words = words_at places.Begun (one_more w); said = if y then says.Byte (code "\"") else says.Nothing; takes = false })
unfolding after_nine one_more
begun_by x y w e f = rw (e, f) refl

quote_said : Bool → Said
quote_said y = if y then says.Byte (code "\"") else says.Nothing

quote_pieces : Bool → List Piece
quote_pieces y = if y then Quote ∷ [] else []

quote_out : (y : Bool) (t : Target) → bytes_of t (quote_said y) ≡ all_become t (quote_pieces y)
unfolding quote_said quote_pieces
quote_out true t = refl
quote_out false t = refl

quote_none : (y : Bool) → [] ≡ all_were (quote_pieces y)
unfolding quote_pieces
quote_none true = refl
quote_none false = refl

-- up to the ninth
few_begun : (y : Bool) (w : Words) (h : Half) → nat_le 9 w.count ≡ false → (w.count == 8) ≡ y → Begun (Flows (Among places.Between w) h) w
unfolding quote_said
few_begun y w h e f =
    record { next = one_more w; said = λ t. quote_said y; pieces = λ t. quote_pieces y; is = λ t. begun_by false y w e f; out = λ t. quote_out y t; all = λ t. quote_none y }

-- after it
same_begun : (w : Words) (h : Half) → nat_le 9 w.count ≡ true → turned w.fonts w.second ≡ says.Nothing → Begun (Flows (Among places.Between w) h) w
same_begun w h e n =
    record {
      next = after_nine w;
      said = λ t. says.Nothing;
      pieces = λ t. [];
      is = λ t. begun_by true (w.count == 8) w e refl ∙ ap (λ (s : Said). record { words = words_at places.Begun (after_nine w); said = s; takes = false }) n;
      out = λ t. refl;
      all = λ t. refl;
    }

turn_begun : (a b : ℕ) (w : Words) (h : Half) → w.fonts ≡ fonts.Turn a b → nat_le 9 w.count ≡ true → Begun (Turns w h) w
turn_begun a b w h f e =
    record {
      next = after_nine w;
      said = λ t. says.Font (if w.second then a else b);
      pieces = λ t. Turn (sent t (if w.second then a else b)) ∷ [];
      is = λ t. begun_by true (w.count == 8) w e refl ∙ ap (λ (g : Fonts). record { words = words_at places.Begun (after_nine w); said = turned g w.second; takes = false }) f;
      out = λ t. refl;
      all = λ t. refl;
    }

nine_begun : (f : Fonts) (w : Words) (h : Half) → w.fonts ≡ f → nat_le 9 w.count ≡ true → turned_ninth f true ≡ false → Begun (Flows (Among places.Between w) h) w
nine_begun (fonts.Turn a b) w h f e q = absurd (let wrong : true ≡ false = q in cc)
nine_begun fonts.One w h f e q = same_begun w h e (ap (λ (g : Fonts). turned g w.second) f)
nine_begun (fonts.Same a) w h f e q = same_begun w h e (ap (λ (g : Fonts). turned g w.second) f)
nine_begun fonts.Tag w h f e q = same_begun w h e (ap (λ (g : Fonts). turned g w.second) f)

pub flow_begun : (x : Bool) (w : Words) (h : Half) → nat_le 9 w.count ≡ x → not (turned_ninth w.fonts x) ≡ true → Begun (Flows (Among places.Between w) h) w
flow_begun true w h e q = nine_begun w.fonts w h refl e (is_not (turned_ninth w.fonts true) q)
flow_begun false w h e q = few_begun (w.count == 8) w h e refl

pub held_begun : (f : Fonts) (x : Bool) (w : Words) (h : Half) → w.fonts ≡ f → nat_le 9 w.count ≡ x → turned_ninth f x ≡ true → Begun (Turns w h) w
held_begun (fonts.Turn a b) true w h f e q = turn_begun a b w h f e
held_begun f x w h e i q = absurd (let wrong : false ≡ true = q in cc)

abbrev pub opens_word : Class → Bool
opens_word Space = false
opens_word c = true

pub begun_offered : (c : Class) (said : Said) (w : Words) → opens_word c ≡ true → offered_at places.Between c said (words_at places.Between w) ≡ begun (words_at places.Between w)
begun_offered Other said w e = refl
begun_offered QuoteClass said w e = refl
begun_offered Space said w e = absurd (let no : false ≡ true = e in cc)

-- the first byte is offered after what is said
begin_by : (n : ℕ) (P : Spot → Bool) (t : Target) (b : ℕ) (p : Spot) (w : Words) (h : Half) → half_of p ≡ open_half (lines.Words (words_at places.Between w)) h → Begun p w → IsText b → opens_word (class_of b) ≡ true
    → ((v : Words) (k : Half) → Hears P n t (Flows (Among places.Begun v) k) b) → Hears P (suc n) t p b
begin_by n P t b p w h there m is opens more =
    let k = placed (mark_of b) h in
    hears_left P n t p (Flows (Among places.Begun m.next) k) b (m.said t) (m.pieces t)
    (ap (offer (comings.Byte b)) there
    ∙ begin_offered b (words_at places.Between w) h is refl
    ∙ ap (λ (emitted : WordsEmitted). as_is emitted k) (begun_offered (class_of b) (says.Byte b) w opens ∙ m.is t))
    (m.out t) (m.all t ∙ sym (append-nil (all_were (m.pieces t)))) (more m.next k)

begin_hears : (n : ℕ) (P : Spot → Bool) (t : Target) (b : ℕ) → IsText b → opens_word (class_of b) ≡ true
    → ((v : Words) (k : Half) → Hears P n t (Flows (Among places.Begun v) k) b) → (p : Spot) → between p ≡ true → Hears P (suc n) t p b
begin_hears n P t b is opens more (Flows (Among places.Between w) h) there = begin_by n P t b _ w h refl (flow_begun (is_ninth w) w h refl there) is opens more
begin_hears n P t b is opens more (Turns w h) there = begin_by n P t b _ w h refl (held_begun w.fonts (is_ninth w) w h refl refl there) is opens more
begin_hears n P t b is opens more p there = absurd (let no : false ≡ true = there in cc)

-- without quotes
pub bare_hears : (t : Target) (b : ℕ) → IsText b → class_of b ≡ Other → (p : Spot) → between p ≡ true → Hears inside 6 t p b
bare_hears t b is class =
    begin_hears 5 inside t b is (ap opens_word class) (λ v k.
    hears_left inside 4 t (Flows (Among places.Begun v) k) (Flows (Among places.Inside v) (placed (mark_of b) k)) b says.Nothing []
    (begin_offered b (words_at places.Begun v) k is refl ∙ ap (λ (c : Class). as_is (offered_at places.Begun c (says.Byte b) (words_at places.Begun v)) (placed (mark_of b) k)) class)
    refl refl (inside_hears 3 t b v (placed (mark_of b) k) is class))

-- between quotes
quote_text : IsText (code "\"")
quote_text = record { ascii = refl; newline = refl; return = refl; backslash = refl }

quote_by : (P : Spot → Bool) (x : Bool) (t : Target) (next : Spot) → P next ≡ true → held next ≡ []
    → Takes P t [] (code "\"") (taken (if x then says.Nothing else says.Byte (code "\"")) (half_of next))
quote_by P true t next there none = record { next = next; there = there; said = says.Nothing; pieces = Unquote ∷ []; offered = refl; out = refl; all = ap (λ (xs : List ℕ). code "\"" ∷ xs) (sym none) }
quote_by P false t next there none = record { next = next; there = there; said = says.Byte (code "\""); pieces = Same (code "\"") ∷ []; offered = refl; out = refl; all = ap (λ (xs : List ℕ). code "\"" ∷ xs) (sym none) }

quote_takes : (x y : Bool) (t : Target) (v : Words) (k : Half)
    → Takes in_quotes t [] (code "\"") (as_is (record { words = words_at (if x then places.Opened else places.Quoted) v; said = if y then says.Nothing else says.Byte (code "\""); takes = true }) k)
quote_takes true y t v k = quote_by in_quotes y t (Flows (Among places.Opened v) k) refl refl
quote_takes false y t v k = quote_by in_quotes y t (Flows (Among places.Quoted v) k) refl refl

pub first_quote : (t : Target) (p : Spot) → between p ≡ true → Hears in_quotes 6 t p (code "\"")
first_quote t =
    begin_hears 5 in_quotes t (code "\"") quote_text refl (λ v k.
    hears_taken in_quotes 4 t (Flows (Among places.Begun v) k) (code "\"")
    (takes_as in_quotes t [] (code "\"") _ _ (begin_offered (code "\"") (words_at places.Begun v) k quote_text refl)
    (quote_takes (v.count == 1) (is_ninth v) t v (placed (mark_of (code "\"")) k))))

-- right after the first quote of the first word a blank is printed, and what follows it where it is empty
opened_said : Class → Said
opened_said Other = says.Nothing
opened_said c = says.Escape (code "&")

opened_pieces : Class → List Piece
opened_pieces Other = []
opened_pieces c = Printed ∷ []

opened_offered : (c : Class) (said : Said) (w : Words) (k : Half) → as_is (offered_at places.Opened c said (words_at places.Opened w)) k ≡ left (opened_said c) (open_half (lines.Words (words_at places.Quoted w)) k)
unfolding opened_said
opened_offered Space said w k = refl
opened_offered QuoteClass said w k = refl
opened_offered Other said w k = refl

opened_out : (c : Class) (t : Target) → bytes_of t (opened_said c) ≡ all_become t (opened_pieces c)
unfolding opened_said opened_pieces
opened_out Space t = refl
opened_out QuoteClass t = refl
opened_out Other t = refl

opened_all : (c : Class) → [] ≡ all_were (opened_pieces c) ++ []
unfolding opened_pieces
opened_all Space = refl
opened_all QuoteClass = refl
opened_all Other = refl

pub opened_hears : (P : Spot → Bool) (n : ℕ) (t : Target) (b : ℕ) (w : Words) (h : Half) → IsText b → ((k : Half) → Hears P n t (Flows (Among places.Quoted w) k) b) → Hears P (suc n) t (Flows (Among places.Opened w) h) b
opened_hears P n t b w h is more =
    let c = class_of b in
    let k = placed (mark_of b) h in
    hears_left P n t (Flows (Among places.Opened w) h) (Flows (Among places.Quoted w) k) b (opened_said c) (opened_pieces c)
    (begin_offered b (words_at places.Opened w) h is refl ∙ opened_offered c (says.Byte b) w k) (opened_out c t) (opened_all c) (more k)

pub quoted_byte : (t : Target) (b : ℕ) → IsText b → is_quote (class_of b) ≡ false → (p : Spot) → in_quotes p ≡ true → Hears in_quotes 6 t p b
quoted_byte t b is class (Flows (Among places.Quoted w) h) there = quoted_hears 5 t b w h is class
quoted_byte t b is class (Flows (Among places.Opened w) h) there = opened_hears in_quotes 5 t b w h is (λ k. quoted_hears 4 t b w k is class)
quoted_byte t b is class (Holds (Among places.Quoted w) h) there = held_hears in_quotes 5 t b (Among places.Quoted w) h refl (λ k. quoted_hears 4 t b w k is class)
quoted_byte t b is class p there = absurd (let no : false ≡ true = there in cc)

-- the last quote
closing : (n : ℕ) (t : Target) (w : Words) (h : Half) → Hears word_ends (suc n) t (Flows (Among places.Quoted w) h) (code "\"")
closing n t w h =
    let k = placed (mark_of (code "\"")) h in
    hears_taken word_ends n t (Flows (Among places.Quoted w) h) (code "\"")
    (takes_as word_ends t [] (code "\"") _ _ (word_offered (code "\"") (words_at places.Quoted w) h quote_text) (quote_by word_ends (is_ninth w) t (Flows (Among places.Closing w) k) refl refl))

pub last_quote : (t : Target) (p : Spot) → in_quotes p ≡ true → Hears word_ends 6 t p (code "\"")
last_quote t (Flows (Among places.Quoted w) h) there = closing 5 t w h
last_quote t (Flows (Among places.Opened w) h) there = opened_hears word_ends 5 t (code "\"") w h quote_text (λ k. closing 4 t w k)
last_quote t (Holds (Among places.Quoted w) h) there = held_hears word_ends 5 t (code "\"") (Among places.Quoted w) h refl (λ k. closing 4 t w k)
last_quote t p there = absurd (let no : false ≡ true = there in cc)

-- ---- the line's end

pub newline_rest : (n : ℕ) (t : Target) (h : Half) → Hears begins (suc n) t (Rests h) (code "\n")
newline_rest n t h = hears_taken begins n t (Rests h) (code "\n") (same_takes begins t (code "\n") (Starts (line_after h)) _ refl refl refl refl)

newline_offered : (x : Bool) (place : Place) (w : Words) (h : Half) → is_ninth w ≡ x → offer (comings.Byte (code "\n")) (open_half (lines.Words (words_at place w)) h)
    ≡ (if x then left (says.Byte (code "\"")) (open_half lines.Request h) else taken (says.Byte (code "\n")) (open_half lines.Start (line_after h)))
newline_offered x place w h e =
    ap (λ (y : Bool). if y then left (says.Byte (code "\"")) (open_half lines.Request h) else taken (says.Byte (code "\n")) (open_half lines.Start (line_after h))) e

newline_by : (x : Bool) (n : ℕ) (t : Target) (place : Place) (w : Words) (h : Half) → is_ninth w ≡ x → Hears begins (suc (suc n)) t (Flows (Among place w) h) (code "\n")
newline_by true n t place w h e =
    hears_left begins (suc n) t (Flows (Among place w) h) (Rests h) (code "\n") (says.Byte (code "\"")) (Quote ∷ []) (newline_offered true place w h e) refl refl (newline_rest n t h)
newline_by false n t place w h e =
    hears_taken begins (suc n) t (Flows (Among place w) h) (code "\n") (same_takes begins t (code "\n") (Starts (line_after h)) _ refl refl (newline_offered false place w h e) refl)

pub newline_hears : (n : ℕ) (t : Target) (place : Place) (w : Words) (h : Half) → Hears begins (suc (suc n)) t (Flows (Among place w) h) (code "\n")
newline_hears n t place w h = newline_by (is_ninth w) n t place w h refl

pub word_newline : (t : Target) (p : Spot) → word_ends p ≡ true → Hears begins 6 t p (code "\n")
word_newline t (Flows (Among places.Inside w) h) there = newline_hears 4 t places.Inside w h
word_newline t (Flows (Among places.Closing w) h) there = newline_hears 4 t places.Closing w h
word_newline t (Holds (Among places.Inside w) h) there = held_hears begins 5 t (code "\n") (Among places.Inside w) h refl (λ k. newline_hears 3 t places.Inside w k)
word_newline t p there = absurd (let no : false ≡ true = there in cc)

pub word_blank : (t : Target) (p : Spot) → word_ends p ≡ true → Hears between 6 t p (code " ")
word_blank t (Flows (Among places.Inside w) h) there = blank_hears 5 t places.Inside w h refl
word_blank t (Flows (Among places.Closing w) h) there = blank_hears 5 t places.Closing w h refl
word_blank t (Holds (Among places.Inside w) h) there = held_hears between 5 t (code " ") (Among places.Inside w) h refl (λ k. blank_hears 4 t places.Inside w k refl)
word_blank t p there = absurd (let no : false ≡ true = there in cc)

pub inside_byte : (t : Target) (b : ℕ) → IsText b → class_of b ≡ Other → (p : Spot) → inside p ≡ true → Hears inside 6 t p b
inside_byte t b is class (Flows (Among places.Inside w) h) there = inside_hears 5 t b w h is class
inside_byte t b is class (Holds (Among places.Inside w) h) there = held_hears inside 5 t b (Among places.Inside w) h refl (λ k. inside_hears 4 t b w k is class)
inside_byte t b is class p there = absurd (let no : false ≡ true = there in cc)

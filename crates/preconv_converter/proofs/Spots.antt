-- Where a page stands between the bytes of a line, whatever came before; and what a byte does there.
use Prim.Native.Char.{code}
use Rattle.std.proofs.Common.{◌≡◌, ℕ, suc, ◌+◌, List, [], ◌∷◌, ◌++◌, Bool, true, false, nat_lt, if◌then◌else◌, refl, sym, ◌∙◌, ap, append-nil, append_assoc}
use Rattle.preconv_characters.specs.declared.target.Target.{Target}
use Rattle.preconv_characters.specs.declared.said.Said.{Said}
use Rattle.preconv_characters.specs.declared.said.Said.TheVariants as says
use Rattle.preconv_lines.specs.declared.half.Half.{Half}
use Rattle.preconv_lines.specs.declared.half.Line.{Line}
use Rattle.preconv_lines.specs.declared.half.Line.TheVariants as lines
use Rattle.preconv_characters.specs.declared.words.Words.{Words}
use Rattle.preconv_characters.specs.declared.words.Place.{Place}
use Rattle.preconv_characters.specs.declared.words.Place.TheVariants.{Between}
use Rattle.preconv_characters.specs.Words.{words_at}
use Rattle.preconv_lines.specs.declared.half.Escape.TheVariants as escapes
use Rattle.preconv_lines.specs.declared.half.Kind.TheVariants as kinds
use Rattle.preconv_lines.specs.declared.half.Coming.TheVariants as comings
use Rattle.preconv_converter.specs.declared.reader.Reader.{Reader}
use Rattle.preconv_converter.specs.declared.reader.Pending.TheVariants as pendings
use Rattle.preconv_lines.specs.Half.{Offered, taken, left}
use Rattle.preconv_characters.specs.Saying.{bytes_of, sent}
use Rattle.preconv_lines.specs.Lines.{passing}
use Rattle.preconv_lines.specs.Offering.{offer, is_raw}
use Rattle.preconv_converter.specs.Reading.{Emitted, emitted, preceded, then_emitted, with_half, pending_with}
use Rattle.preconv_converter.specs.Reading.{heard_in, heard, is_lead, stray, read, fed}
use Rattle.preconv_converter.specs.Pieces.{Piece, was, becomes, all_were, all_become}
use Rattle.preconv_converter.proofs.Reading.{preceded-none, fed-append}

-- nothing is half read in a line; a hyphen, or the newline of a sentence that something closed, is held back; after the control
-- character; in a name
abbrev pub open_half : Line → Half → Half
open_half l h = record h { line = l; escape = escapes.Plain; kept = []; translating = false; quotes = false }

abbrev pub held_half : Line → Half → Half
held_half l h = record h { line = l; escape = escapes.Hyphen; kept = code "-" ∷ []; translating = false; quotes = false }

abbrev pub closed_half : Half → Half
closed_half h = record h { line = lines.Start; escape = escapes.Sentence; kept = code "\n" ∷ []; translating = false; quotes = false }

abbrev pub name_half : Line → List ℕ → Half → Half
name_half l name h = record h { line = l; name = name; conditional = false; escape = escapes.Plain; kept = []; translating = false; quotes = false }

abbrev pub begun_half : Line → Half → Half
begun_half l h = record h { line = l; escape = escapes.Begun; kept = code "\\" ∷ []; spelled = []; translating = false; quotes = false }

abbrev pub font_half : Line → Half → Half
font_half l h = record h { line = l; escape = escapes.Target kinds.Font; kept = code "\\" ∷ code "f" ∷ []; spelled = []; translating = false; quotes = false }

abbrev pub pair_half : Line → Half → Half
pair_half l h = record h { line = l; escape = escapes.Pair kinds.Glyph; kept = code "\\" ∷ code "(" ∷ []; spelled = []; translating = false; quotes = false }

abbrev pub one_half : Line → ℕ → Half → Half
one_half l a h = record h { line = l; escape = escapes.Pair kinds.Glyph; kept = code "\\" ∷ code "(" ∷ a ∷ []; spelled = a ∷ []; translating = false; quotes = false }

-- in a text line, in one of which nothing but fonts was read, or among words
pub data Flow : Type 0 where
  Text : Flow
  Faces : Flow
  Among : Place → Words → Flow

abbrev pub line_in : Flow → Line
line_in Text = lines.Text
line_in Faces = lines.Fonts
line_in (Among place w) = lines.Words (words_at place w)

-- where an escape stands: at the beginning of a line, or in it
pub data Where : Type 0 where
  First : Where
  In : Flow → Where

abbrev pub line_of_where : Where → Line
line_of_where First = lines.Start
line_of_where (In f) = line_in f

pub data Spot : Type 0 where
  Begins : Where → Half → Spot
  Fonts : Where → Half → Spot
  Pairs : Where → Half → Spot
  Ones : Where → ℕ → Half → Spot
  Starts : Half → Spot
  Flows : Flow → Half → Spot
  Rests : Half → Spot
  Stores : Half → Spot
  Holds : Flow → Half → Spot
  Closes : Half → Spot
  Controls : Half → Spot
  Turns : Words → Half → Spot
  TurnBegins : Words → Half → Spot
  RestBegins : Half → Spot
  Names : List ℕ → Half → Spot

abbrev pub half_of : Spot → Half
half_of (Starts h) = open_half lines.Start h
half_of (Flows f h) = open_half (line_in f) h
half_of (Rests h) = open_half lines.Request h
half_of (Stores h) = open_half lines.Stored h
half_of (Holds f h) = held_half (line_in f) h
half_of (Closes h) = closed_half h
half_of (Controls h) = name_half lines.Control [] h
half_of (Begins x h) = begun_half (line_of_where x) h
half_of (Fonts x h) = font_half (line_of_where x) h
half_of (Pairs x h) = pair_half (line_of_where x) h
half_of (Ones x a h) = one_half (line_of_where x) a h
half_of (RestBegins h) = begun_half lines.Request h
half_of (TurnBegins w h) = begun_half (lines.Words (words_at Between w)) h
half_of (Turns w h) = open_half (lines.Words (words_at Between w)) h
half_of (Names name h) = name_half lines.Name name h

-- what is held back
abbrev pub held : Spot → List ℕ
held (Holds f h) = code "-" ∷ []
held (Closes h) = code "\n" ∷ []
held (Names name h) = name
held (Begins x h) = code "\\" ∷ []
held (Fonts x h) = code "\\" ∷ code "f" ∷ []
held (Pairs x h) = code "\\" ∷ code "(" ∷ []
held (Ones x a h) = code "\\" ∷ code "(" ∷ a ∷ []
held (RestBegins h) = code "\\" ∷ []
held (TurnBegins w h) = code " " ∷ code "\\" ∷ []
held (Turns w h) = code " " ∷ []
held p = []

abbrev pub begins : Spot → Bool
begins (Starts h) = true
begins (Closes h) = true
begins p = false

abbrev pub in_text : Spot → Bool
in_text (Flows Text h) = true
in_text (Flows Faces h) = true
in_text (Holds Text h) = true
in_text p = false

abbrev pub in_rest : Spot → Bool
in_rest (Rests h) = true
in_rest (Stores h) = true
in_rest p = false

abbrev pub at : Target → Spot → Reader
at t p = record { half = half_of p; pending = pendings.Nothing; table = t }

-- ---- a byte is taken at once

pub record Takes (P : Spot → Bool) (t : Target) (back : List ℕ) (b : ℕ) (m : Offered) : Type 0 where
  pub next : Spot
  pub there : P next ≡ true
  pub said : Said
  pub pieces : List Piece
  pub offered : m ≡ taken said (half_of next)
  pub out : bytes_of t said ≡ all_become t pieces
  pub all : back ++ b ∷ [] ≡ all_were pieces ++ held next

-- it is offered at most so often
pub record Hears (P : Spot → Bool) (n : ℕ) (t : Target) (p : Spot) (b : ℕ) : Type 0 where
  pub next : Spot
  pub there : P next ≡ true
  pub pieces : List Piece
  pub steps : ℕ
  pub heard : heard_in n (comings.Byte b) (at t p) ≡ emitted (at t next) (all_become t pieces) steps
  pub all : held p ++ b ∷ [] ≡ all_were pieces ++ held next

pub hears_taken : (P : Spot → Bool) (n : ℕ) (t : Target) (p : Spot) (b : ℕ) → Takes P t (held p) b (offer (comings.Byte b) (half_of p)) → Hears P (suc n) t p b
hears_taken P n t p b k =
    let c = comings.Byte b in
    record {
      next = k.next;
      there = k.there;
      pieces = k.pieces;
      steps = 1;
      heard =
          ap (λ (m : Offered). preceded (bytes_of t m.said) 1 (if m.takes then emitted (with_half m.half (at t p)) [] 0 else heard_in n c (with_half m.half (at t p)))) k.offered
          ∙ ap (λ (xs : List ℕ). emitted (at t k.next) xs 1) (append-nil (bytes_of t k.said) ∙ k.out);
      all = k.all;
    }

pub all_become-append : (t : Target) (ps qs : List Piece) → all_become t (ps ++ qs) ≡ all_become t ps ++ all_become t qs
all_become-append t [] qs = refl
all_become-append t (p ∷ ps) qs = ap (λ (xs : List ℕ). becomes t p ++ xs) (all_become-append t ps qs) ∙ sym (append_assoc (becomes t p) (all_become t ps) (all_become t qs))

pub all_were-append : (ps qs : List Piece) → all_were (ps ++ qs) ≡ all_were ps ++ all_were qs
all_were-append [] qs = refl
all_were-append (p ∷ ps) qs = ap (λ (xs : List ℕ). was p ++ xs) (all_were-append ps qs) ∙ sym (append_assoc (was p) (all_were ps) (all_were qs))

-- what is held goes out, and then it is offered again
pub hears_left : (P : Spot → Bool) (n : ℕ) (t : Target) (p q : Spot) (b : ℕ) (said : Said) (ps : List Piece)
    → offer (comings.Byte b) (half_of p) ≡ left said (half_of q) → bytes_of t said ≡ all_become t ps → held p ≡ all_were ps ++ held q
    → Hears P n t q b → Hears P (suc n) t p b
hears_left P n t p q b said ps offered out all k =
    let c = comings.Byte b in
    record {
      next = k.next;
      there = k.there;
      pieces = ps ++ k.pieces;
      steps = 1 + k.steps;
      heard =
          ap (λ (m : Offered). preceded (bytes_of t m.said) 1 (if m.takes then emitted (with_half m.half (at t p)) [] 0 else heard_in n c (with_half m.half (at t p)))) offered
          ∙ ap (preceded (bytes_of t said) 1) k.heard
          ∙ ap (λ (xs : List ℕ). emitted (at t k.next) (xs ++ all_become t k.pieces) (1 + k.steps)) out
          ∙ ap (λ (xs : List ℕ). emitted (at t k.next) xs (1 + k.steps)) (sym (all_become-append t ps k.pieces));
      all =
          ap (λ (xs : List ℕ). xs ++ b ∷ []) all
          ∙ append_assoc (all_were ps) (held q) (b ∷ [])
          ∙ ap (λ (xs : List ℕ). all_were ps ++ xs) k.all
          ∙ sym (append_assoc (all_were ps) (all_were k.pieces) (held k.next))
          ∙ ap (λ (xs : List ℕ). xs ++ held k.next) (sym (all_were-append ps k.pieces));
    }

-- something goes out, and then it is taken
pub hears_twice : (P : Spot → Bool) (n : ℕ) (t : Target) (p q next : Spot) (b : ℕ) (said second : Said) (ps : List Piece) → P next ≡ true
    → offer (comings.Byte b) (half_of p) ≡ left said (half_of q) → offer (comings.Byte b) (half_of q) ≡ taken second (half_of next)
    → bytes_of t said ++ bytes_of t second ≡ all_become t ps → held p ++ b ∷ [] ≡ all_were ps ++ held next → Hears P (suc (suc n)) t p b
hears_twice P n t p q next b said second ps there one two out all =
    let c = comings.Byte b in
    record {
      next = next;
      there = there;
      pieces = ps;
      steps = 2;
      heard =
          ap (λ (m : Offered). preceded (bytes_of t m.said) 1 (if m.takes then emitted (with_half m.half (at t p)) [] 0 else heard_in (suc n) c (with_half m.half (at t p)))) one
          ∙ ap (λ (m : Offered). preceded (bytes_of t said) 1 (preceded (bytes_of t m.said) 1 (if m.takes then emitted (with_half m.half (at t q)) [] 0 else heard_in n c (with_half m.half (at t q))))) two
          ∙ ap (λ (xs : List ℕ). emitted (at t next) (bytes_of t said ++ xs) 2) (append-nil (bytes_of t second))
          ∙ ap (λ (xs : List ℕ). emitted (at t next) xs 2) out;
      all = all;
    }

-- ---- bytes are read one after another

pub record Reads (P : Spot → Bool) (t : Target) (p : Spot) (bytes : List ℕ) : Type 0 where
  pub next : Spot
  pub there : P next ≡ true
  pub pieces : List Piece
  pub steps : ℕ
  pub read : fed (at t p) bytes ≡ emitted (at t next) (all_become t pieces) steps
  pub all : held p ++ bytes ≡ all_were pieces ++ held next

pub no_raw : (p : Spot) → is_raw (half_of p).line ≡ false
no_raw (Starts h) = refl
no_raw (Flows Text h) = refl
no_raw (Flows Faces h) = refl
no_raw (Flows (Among place w) h) = refl
no_raw (Rests h) = refl
no_raw (Stores h) = refl
no_raw (Holds Text h) = refl
no_raw (Holds Faces h) = refl
no_raw (Holds (Among place w) h) = refl
no_raw (Closes h) = refl
no_raw (Controls h) = refl
no_raw (Begins First h) = refl
no_raw (Begins (In Text) h) = refl
no_raw (Begins (In Faces) h) = refl
no_raw (Begins (In (Among place w)) h) = refl
no_raw (Fonts First h) = refl
no_raw (Fonts (In Text) h) = refl
no_raw (Fonts (In Faces) h) = refl
no_raw (Fonts (In (Among place w)) h) = refl
no_raw (Pairs First h) = refl
no_raw (Pairs (In Text) h) = refl
no_raw (Pairs (In Faces) h) = refl
no_raw (Pairs (In (Among place w)) h) = refl
no_raw (Ones First a h) = refl
no_raw (Ones (In Text) a h) = refl
no_raw (Ones (In Faces) a h) = refl
no_raw (Ones (In (Among place w)) a h) = refl
no_raw (RestBegins h) = refl
no_raw (TurnBegins w h) = refl
no_raw (Turns w h) = refl
no_raw (Names name h) = refl

pub byte_read : (t : Target) (p : Spot) (b : ℕ) → nat_lt b 127 ≡ true → read b (at t p) ≡ heard_in 6 (comings.Byte b) (at t p)
unfolding heard
byte_read t p b ascii =
    let r = at t p in
    ap (λ (x : Bool). if x then emitted (with_half (passing b r.half) r) (sent t b ∷ []) 1 else preceded [] 0 (if nat_lt b 127 then heard (comings.Byte b) r else (if is_lead b then emitted (pending_with (pendings.One b) r) [] 0 else stray b r))) (no_raw p)
    ∙ ap (λ (x : Bool). preceded [] 0 (if x then heard (comings.Byte b) r else (if is_lead b then emitted (pending_with (pendings.One b) r) [] 0 else stray b r))) ascii
    ∙ preceded-none (heard_in 6 (comings.Byte b) r)

pub reads_none : (P : Spot → Bool) (t : Target) (p : Spot) → P p ≡ true → Reads P t p []
reads_none P t p there = record { next = p; there = there; pieces = []; steps = 0; read = refl; all = append-nil (held p) }

pub reads_byte : (P Q : Spot → Bool) (t : Target) (p : Spot) (b : ℕ) (bs : List ℕ) → nat_lt b 127 ≡ true → Hears Q 6 t p b
    → ((q : Spot) → Q q ≡ true → Reads P t q bs) → Reads P t p (b ∷ bs)
reads_byte P Q t p b bs ascii k more =
    let m = more k.next k.there in
    record {
      next = m.next;
      there = m.there;
      pieces = k.pieces ++ m.pieces;
      steps = k.steps + m.steps;
      read =
          ap (λ (u : Emitted). then_emitted u (λ s. fed s bs)) (byte_read t p b ascii ∙ k.heard)
          ∙ ap (preceded (all_become t k.pieces) k.steps) m.read
          ∙ ap (λ (xs : List ℕ). emitted (at t m.next) xs (k.steps + m.steps)) (sym (all_become-append t k.pieces m.pieces));
      all =
          sym (append_assoc (held p) (b ∷ []) bs)
          ∙ ap (λ (xs : List ℕ). xs ++ bs) k.all
          ∙ append_assoc (all_were k.pieces) (held k.next) bs
          ∙ ap (λ (xs : List ℕ). all_were k.pieces ++ xs) m.all
          ∙ sym (append_assoc (all_were k.pieces) (all_were m.pieces) (held m.next))
          ∙ ap (λ (xs : List ℕ). xs ++ held m.next) (sym (all_were-append k.pieces m.pieces));
    }

pub reads_both : (P Q : Spot → Bool) (t : Target) (p : Spot) (xs ys : List ℕ) → Reads Q t p xs
    → ((q : Spot) → Q q ≡ true → Reads P t q ys) → Reads P t p (xs ++ ys)
reads_both P Q t p xs ys k more =
    let m = more k.next k.there in
    record {
      next = m.next;
      there = m.there;
      pieces = k.pieces ++ m.pieces;
      steps = k.steps + m.steps;
      read =
          fed-append (at t p) xs ys
          ∙ ap (λ (u : Emitted). then_emitted u (λ s. fed s ys)) k.read
          ∙ ap (preceded (all_become t k.pieces) k.steps) m.read
          ∙ ap (λ (zs : List ℕ). emitted (at t m.next) zs (k.steps + m.steps)) (sym (all_become-append t k.pieces m.pieces));
      all =
          sym (append_assoc (held p) xs ys)
          ∙ ap (λ (zs : List ℕ). zs ++ ys) k.all
          ∙ append_assoc (all_were k.pieces) (held k.next) ys
          ∙ ap (λ (zs : List ℕ). all_were k.pieces ++ zs) m.all
          ∙ sym (append_assoc (all_were k.pieces) (all_were m.pieces) (held m.next))
          ∙ ap (λ (zs : List ℕ). zs ++ held m.next) (sym (all_were-append k.pieces m.pieces));
    }

-- ---- with nothing said

pub named : (t : Target) (p q : Spot) (b : ℕ) → nat_lt b 127 ≡ true → offer (comings.Byte b) (half_of p) ≡ taken says.Nothing (half_of q) → fed (at t p) (b ∷ []) ≡ emitted (at t q) [] 1
named t p q b ascii offered =
    ap (λ (u : Emitted). then_emitted u (λ s. emitted s [] 0)) (byte_read t p b ascii ∙ ap (λ (m : Offered). preceded (bytes_of t m.said) 1 (if m.takes then emitted (record (at t p) { half = m.half }) [] 0 else heard_in 5 (comings.Byte b) (record (at t p) { half = m.half }))) offered)

pub reads_exact : (P : Spot → Bool) (t : Target) (p q : Spot) (xs ys : List ℕ) (n : ℕ) → fed (at t p) xs ≡ emitted (at t q) [] n → held p ++ xs ≡ held q → Reads P t q ys → Reads P t p (xs ++ ys)
reads_exact P t p q xs ys n one back m =
    record {
      next = m.next;
      there = m.there;
      pieces = m.pieces;
      steps = n + m.steps;
      read = fed-append (at t p) xs ys ∙ ap (λ (u : Emitted). then_emitted u (λ s. fed s ys)) one ∙ ap (preceded [] n) m.read;
      all = sym (append_assoc (held p) xs ys) ∙ ap (λ (zs : List ℕ). zs ++ ys) back ∙ m.all;
    }

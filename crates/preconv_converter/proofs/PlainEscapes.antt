-- Escapes that go out as they are: those of two bytes, and fonts.
use Prim.Native.Char.{code}
use Rattle.std.proofs.Common.{get_or, ◌≡◌, ℕ, List, [], ◌∷◌, ◌++◌, Bool, true, false, ◌==◌, ◌&&◌, ◌||◌, nat_lt, if◌then◌else◌, refl, sym, ◌∙◌, ap, subst}
use Rattle.preconv_lines.specs.declared.half.Half.{Half}
use Rattle.preconv_characters.specs.declared.marks.Mark.TheVariants.{Other}
use Rattle.preconv_lines.specs.declared.half.Line.{Line}
use Rattle.preconv_lines.specs.declared.half.Line.TheVariants as lines
use Rattle.preconv_lines.specs.declared.half.Escape.{Escape}
use Rattle.preconv_lines.specs.declared.half.Escape.TheVariants as escapes
use Rattle.preconv_lines.specs.declared.half.Kind.TheVariants as kinds
use Rattle.preconv_lines.specs.declared.half.Coming.TheVariants as comings
use Rattle.preconv_characters.specs.declared.said.Said.{Said}
use Rattle.preconv_characters.specs.declared.said.Said.TheVariants as says
use Rattle.preconv_converter.specs.declared.reader.Reader.{Reader}
use Rattle.preconv_converter.specs.declared.reader.Pending.TheVariants.{Nothing, One}
use Rattle.preconv_lines.specs.Half.{Offered, taken, is_plain, without_escape, in_text}
use Rattle.preconv_lines.specs.Hyphens.{placed}
use Rattle.preconv_characters.specs.Words.{begins_word}
use Rattle.preconv_characters.specs.Saying.{bytes_of, sent}
use Rattle.preconv_lines.specs.Letters.{waits, made_way, letter}
use Rattle.preconv_lines.specs.Escapes.{in_escape}
use Rattle.preconv_lines.specs.Lines.{in_line, takes_escape, passing}
use Rattle.preconv_lines.specs.Offering.{offer, plain_byte, beginning, is_raw}
use Rattle.preconv_converter.specs.Reading.{Emitted, emitted, preceded, then_emitted, heard, heard_in}
use Rattle.preconv_converter.specs.Reading.{heard_byte, with_half, pending_with, read, fed, is_lead, stray}
use Rattle.preconv_converter.specs.Passing.{Passes}
use Rattle.preconv_converter.specs.Runs.{takes_plain_at, takes_plain_escape, is_kept, begins_kept}
use Rattle.preconv_converter.specs.Runs.{begins_font, is_font, after_font, after_kept}
use Rattle.preconv_converter.proofs.Plain.{and-first, and-second, is_not, nothing_pending}
use Rattle.preconv_characters.proofs.Tests.{is_one}
use Rattle.preconv_converter.proofs.AtOnce.{placed_as}

-- ---- an ASCII character that is taken at once

pub offers : (b : ℕ) (r : Reader) (said : Said) (h : Half) → r.pending ≡ Nothing → is_raw r.half.line ≡ false → nat_lt b 127 ≡ true
    → offer (comings.Byte b) r.half ≡ taken said h → read b r ≡ emitted (with_half h r) (bytes_of r.table said ++ []) 1
unfolding heard
offers b r said h none cooked ascii e =
    ap (λ (x : Bool). if x then emitted (with_half (passing b r.half) r) (sent r.table b ∷ []) 1 else heard_byte b r) cooked
    ∙ nothing_pending b r none
    ∙ ap (λ (x : Bool). if x then heard (comings.Byte b) r else (if is_lead b then emitted (pending_with (One b) r) [] 0 else stray b r)) ascii
    ∙ ap (λ (m : Offered). preceded (bytes_of r.table m.said) 1 (if m.takes then emitted (with_half m.half r) [] 0 else heard_in 5 (comings.Byte b) (with_half m.half r))) e

-- ---- where they may stand

backslash_at : (l : Line) → takes_plain_at l ≡ true → takes_escape l ≡ true
backslash_at lines.Start p = refl
backslash_at lines.Text p = refl
backslash_at lines.Request p = refl
backslash_at lines.Fonts p = refl
backslash_at (lines.Words words) p = refl
backslash_at line p = absurd (let no : false ≡ true = p in cc)

cooked_at : (l : Line) → takes_plain_at l ≡ true → is_raw l ≡ false
cooked_at lines.Start p = refl
cooked_at lines.Text p = refl
cooked_at lines.Request p = refl
cooked_at lines.Fonts p = refl
cooked_at (lines.Words words) p = refl
cooked_at line p = absurd (let no : false ≡ true = p in cc)

ready_at : (l : Line) → takes_plain_at l ≡ true → waits l ≡ false
ready_at lines.Start p = refl
ready_at lines.Text p = refl
ready_at lines.Request p = refl
ready_at lines.Fonts p = refl
ready_at (lines.Words words) p = is_not (begins_word words) p
ready_at line p = absurd (let no : false ≡ true = p in cc)

-- ---- after the backslash

begun : Half → Half
begun h = record h { escape = escapes.Begun; kept = code "\\" ∷ []; spelled = [] }

backslash_offered : (h : Half) → is_plain h.escape ≡ true → takes_plain_at h.line ≡ true → offer (comings.Byte (code "\\")) h ≡ taken says.Nothing (begun h)
unfolding begun
backslash_offered h plain at =
    ap (λ (x : Bool). if x then plain_byte (code "\\") h else in_escape (code "\\") h) plain
    ∙ ap (λ (x : Bool). if x then beginning h else in_line (code "\\") h) (backslash_at h.line at)

backslash_read : (r : Reader) → r.pending ≡ Nothing → is_plain r.half.escape ≡ true → takes_plain_at r.half.line ≡ true
    → read (code "\\") r ≡ emitted (with_half (begun r.half) r) [] 1
backslash_read r none plain at =
    offers (code "\\") r says.Nothing (begun r.half) none (cooked_at r.half.line at) refl (backslash_offered r.half plain at)

-- ---- an escape of two bytes

forgotten_by : (m : Bool) (h : Half) (e : Escape) (k s : List ℕ)
    → without_escape (placed_as m Other (record h { escape = e; kept = k; spelled = s })) ≡ without_escape (placed_as m Other h)
forgotten_by true h e k s = refl
forgotten_by false h e k s = refl

kept_half : (b : ℕ) (h : Half) → in_text (without_escape (placed Other (record h { escape = escapes.Begun; kept = code "\\" ∷ b ∷ []; spelled = [] }))) ≡ after_kept h
kept_half b h = ap in_text (forgotten_by h.manual h escapes.Begun (code "\\" ∷ b ∷ []) [])

KeptRead : Reader → ℕ → Type 0
KeptRead r b = read b (with_half (begun r.half) r) ≡ emitted (with_half (after_kept r.half) r) (code "\\" ∷ b ∷ []) 1

-- where its letter ends it
kept_by : (r : Reader) → r.pending ≡ Nothing → takes_plain_at r.half.line ≡ true → (b : ℕ) → nat_lt b 127 ≡ true
    → bytes_of r.table (says.Kept (code "\\" ∷ b ∷ [])) ≡ code "\\" ∷ b ∷ []
    → offer (comings.Byte b) (begun r.half) ≡ (if waits r.half.line then made_way r.half.line (begun r.half) else taken (says.Kept (code "\\" ∷ b ∷ [])) (in_text (without_escape (placed Other (record r.half { escape = escapes.Begun; kept = code "\\" ∷ b ∷ []; spelled = [] })))))
    → KeptRead r b
unfolding KeptRead begun
kept_by r none at b ascii sends ends =
    let h = record r.half { escape = escapes.Begun; kept = code "\\" ∷ []; spelled = [] } in
    let k = in_text (without_escape (placed Other (record r.half { escape = escapes.Begun; kept = code "\\" ∷ b ∷ []; spelled = [] }))) in
    offers b (with_half h r) (says.Kept (code "\\" ∷ b ∷ [])) (after_kept r.half) none (cooked_at r.half.line at) ascii
    (ends
    ∙ ap (λ (x : Bool). if x then made_way r.half.line h else taken (says.Kept (code "\\" ∷ b ∷ [])) k) (ready_at r.half.line at)
    ∙ ap (taken (says.Kept (code "\\" ∷ b ∷ []))) (kept_half b r.half))
    ∙ ap (λ (xs : List ℕ). emitted (with_half (after_kept r.half) r) (xs ++ []) 1) sends

-- ---- a font

named : Half → Half
named h = record h { escape = escapes.Target kinds.Font; kept = code "\\" ∷ code "f" ∷ []; spelled = [] }

letter_offered : (h : Half) → takes_plain_at h.line ≡ true → offer (comings.Byte (code "f")) (begun h) ≡ taken says.Nothing (named h)
unfolding begun named
letter_offered h at = ap (λ (x : Bool). if x then made_way h.line (begun h) else letter (code "f") (begun h)) (ready_at h.line at)

letter_read : (r : Reader) → r.pending ≡ Nothing → takes_plain_at r.half.line ≡ true
    → read (code "f") (with_half (begun r.half) r) ≡ emitted (with_half (named r.half) r) [] 1
unfolding begun
letter_read r none at =
    offers (code "f") (with_half (begun r.half) r) says.Nothing (named r.half) none (cooked_at r.half.line at) refl (letter_offered r.half at)

-- these four are its letters
pub by_letter : (P : ℕ → Type 0) → P (code "B") → P (code "I") → P (code "P") → P (code "R") → (c : ℕ) (w x y z : Bool) → (c == code "B") ≡ w → (c == code "I") ≡ x → (c == code "P") ≡ y → (c == code "R") ≡ z
    → (w || x || y || z) ≡ true → P c
by_letter P p q s t c true x y z e f g h is = subst P (sym (is_one c (code "B") e)) p
by_letter P p q s t c false true y z e f g h is = subst P (sym (is_one c (code "I") f)) q
by_letter P p q s t c false false true z e f g h is = subst P (sym (is_one c (code "P") g)) s
by_letter P p q s t c false false false true e f g h is = subst P (sym (is_one c (code "R") h)) t
by_letter P p q s t c false false false false e f g h is = absurd (let no : false ≡ true = is in cc)

pub by_kept : (P : ℕ → Type 0) → P (code "-") → P (code "&") → P (code "|") → P (code "c") → P (code "e") → (b : ℕ) (v w x y z : Bool) → (b == code "-") ≡ v → (b == code "&") ≡ w → (b == code "|") ≡ x → (b == code "c") ≡ y → (b == code "e") ≡ z
    → (v || w || x || y || z) ≡ true → P b
by_kept P o p q s t b true w x y z d e f g h is = subst P (sym (is_one b (code "-") d)) o
by_kept P o p q s t b false true x y z d e f g h is = subst P (sym (is_one b (code "&") e)) p
by_kept P o p q s t b false false true y z d e f g h is = subst P (sym (is_one b (code "|") f)) q
by_kept P o p q s t b false false false true z d e f g h is = subst P (sym (is_one b (code "c") g)) s
by_kept P o p q s t b false false false false true d e f g h is = subst P (sym (is_one b (code "e") h)) t
by_kept P o p q s t b false false false false false d e f g h is = absurd (let no : false ≡ true = is in cc)

kept_read : (r : Reader) → r.pending ≡ Nothing → takes_plain_at r.half.line ≡ true → (b : ℕ) → is_kept b ≡ true → KeptRead r b
unfolding begun
kept_read r none at b p =
    by_kept (KeptRead r) (kept_by r none at (code "-") refl refl refl) (kept_by r none at (code "&") refl refl refl)
    (kept_by r none at (code "|") refl refl refl) (kept_by r none at (code "c") refl refl refl) (kept_by r none at (code "e") refl refl refl)
    b (b == code "-") (b == code "&") (b == code "|") (b == code "c") (b == code "e") refl refl refl refl refl p

kept_fed : (r : Reader) (b : ℕ) → r.pending ≡ Nothing → is_plain r.half.escape ≡ true → takes_plain_at r.half.line ≡ true → is_kept b ≡ true
    → fed r (code "\\" ∷ b ∷ []) ≡ emitted (with_half (after_kept r.half) r) (code "\\" ∷ b ∷ []) 2
unfolding KeptRead
kept_fed r b none plain at p =
    ap (λ (t : Emitted). then_emitted t (λ s. fed s (b ∷ []))) (backslash_read r none plain at)
    ∙ ap (λ (t : Emitted). preceded [] 1 (then_emitted t (λ s. emitted s [] 0))) (kept_read r none at b p)

FontRead : Reader → ℕ → Type 0
FontRead r c = read c (with_half (named r.half) r) ≡ emitted (with_half (after_font c r.half) r) (code "\\" ∷ code "f" ∷ c ∷ []) 1

font_read : (r : Reader) → r.pending ≡ Nothing → takes_plain_at r.half.line ≡ true → (c : ℕ) → is_font c ≡ true → FontRead r c
unfolding FontRead named
font_read r none at c p =
    let s = with_half (named r.half) r in
    let cooked = cooked_at r.half.line at in
    by_letter (FontRead r) (offers (code "B") s (says.Font (code "B")) (after_font (code "B") r.half) none cooked refl refl) (offers (code "I") s (says.Font (code "I")) (after_font (code "I") r.half) none cooked refl refl)
    (offers (code "P") s (says.Font (code "P")) (after_font (code "P") r.half) none cooked refl refl) (offers (code "R") s (says.Font (code "R")) (after_font (code "R") r.half) none cooked refl refl)
    c (c == code "B") (c == code "I") (c == code "P") (c == code "R") refl refl refl refl p

font_fed : (r : Reader) (c : ℕ) → r.pending ≡ Nothing → is_plain r.half.escape ≡ true → takes_plain_at r.half.line ≡ true → is_font c ≡ true
    → fed r (code "\\" ∷ code "f" ∷ c ∷ []) ≡ emitted (with_half (after_font c r.half) r) (code "\\" ∷ code "f" ∷ c ∷ []) 3
unfolding FontRead
font_fed r c none plain at p =
    ap (λ (t : Emitted). then_emitted t (λ s. fed s (code "f" ∷ c ∷ []))) (backslash_read r none plain at)
    ∙ ap (λ (t : Emitted). preceded [] 1 (then_emitted t (λ s. fed s (c ∷ [])))) (letter_read r none at)
    ∙ ap (λ (t : Emitted). preceded [] 1 (preceded [] 1 (then_emitted t (λ s. emitted s [] 0)))) (font_read r none at c p)

-- ---- so they pass

plain_first : (x y : Bool) → (if x then y else false) ≡ true → x ≡ true
plain_first true y p = refl
plain_first false y p = absurd (let no : false ≡ true = p in cc)

plain_second : (x y : Bool) → (if x then y else false) ≡ true → y ≡ true
plain_second true y p = p
plain_second false y p = absurd (let no : false ≡ true = p in cc)

pub kept_passes : (bs : List ℕ) (r : Reader) → r.pending ≡ Nothing → takes_plain_escape r.half ≡ true → begins_kept bs ≡ true
    → Passes 2 bs r (with_half (after_kept r.half) r)
kept_passes [] r none may is = absurd (let no : false ≡ true = is in cc)
kept_passes (a ∷ []) r none may is = absurd (let no : false ≡ true = is in cc)
kept_passes (a ∷ b ∷ bs) r none may is =
    let P : ℕ → Type 0 = λ x. fed r (x ∷ b ∷ []) ≡ emitted (with_half (after_kept r.half) r) (x ∷ b ∷ []) 2 in
    let whole : P (code "\\") =
    kept_fed r b none (plain_first (is_plain r.half.escape) (takes_plain_at r.half.line) may) (plain_second (is_plain r.half.escape) (takes_plain_at r.half.line) may)
    (and-second (a == code "\\") (is_kept b) is) in
    subst P (sym (is_one a (code "\\") (and-first (a == code "\\") (is_kept b) is))) whole

pub font_passes : (bs : List ℕ) (r : Reader) → r.pending ≡ Nothing → takes_plain_escape r.half ≡ true → begins_font bs ≡ true
    → Passes 3 bs r (with_half (after_font (get_or bs 2 0) r.half) r)
font_passes [] r none may is = absurd (let no : false ≡ true = is in cc)
font_passes (a ∷ []) r none may is = absurd (let no : false ≡ true = is in cc)
font_passes (a ∷ b ∷ []) r none may is = absurd (let no : false ≡ true = is in cc)
font_passes (a ∷ b ∷ c ∷ bs) r none may is =
    let prefix = and-first ((a == code "\\") && (b == code "f")) (is_font c) is in
    let P : ℕ → ℕ → Type 0 = λ x y. fed r (x ∷ y ∷ c ∷ []) ≡ emitted (with_half (after_font c r.half) r) (x ∷ y ∷ c ∷ []) 3 in
    let whole : P (code "\\") (code "f") =
    font_fed r c none (plain_first (is_plain r.half.escape) (takes_plain_at r.half.line) may) (plain_second (is_plain r.half.escape) (takes_plain_at r.half.line) may)
    (and-second ((a == code "\\") && (b == code "f")) (is_font c) is) in
    let one : P a (code "f") = subst (λ (x : ℕ). P x (code "f")) (sym (is_one a (code "\\") (and-first (a == code "\\") (b == code "f") prefix))) whole in
    subst (P a) (sym (is_one b (code "f") (and-second (a == code "\\") (b == code "f") prefix))) one

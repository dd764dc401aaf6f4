-- A line that begins with a comment: its backslash is offered twice.
use Prim.Native.Char.{code}
use Rattle.std.proofs.Common.{◌≡◌, ℕ, List, [], ◌∷◌, take, Bool, true, false, ◌==◌, ◌&&◌, if◌then◌else◌, refl, sym, ◌∙◌, ap, subst}
use Rattle.preconv_lines.specs.declared.half.Half.{Half}
use Rattle.preconv_lines.specs.declared.half.Line.TheVariants as lines
use Rattle.preconv_characters.specs.declared.marks.Before.TheVariants.{Character}
use Rattle.preconv_characters.specs.declared.marks.Mark.TheVariants.{Stop, Other}
use Rattle.preconv_lines.specs.declared.half.Escape.TheVariants as escapes
use Rattle.preconv_lines.specs.declared.half.Coming.TheVariants as comings
use Rattle.preconv_characters.specs.declared.said.Said.TheVariants as says
use Rattle.preconv_converter.specs.declared.reader.Reader.{Reader}
use Rattle.preconv_converter.specs.declared.reader.Pending.TheVariants.{Nothing}
use Rattle.preconv_lines.specs.Half.{Offered, taken, left, is_plain, without_escape}
use Rattle.preconv_lines.specs.Hyphens.{placed}
use Rattle.preconv_characters.specs.Saying.{bytes_of}
use Rattle.preconv_lines.specs.Escapes.{in_escape}
use Rattle.preconv_lines.specs.Offering.{offer, plain_byte}
use Rattle.preconv_converter.specs.Reading.{Emitted, emitted, preceded, then_emitted, heard, heard_in}
use Rattle.preconv_converter.specs.Reading.{with_half, read, fed}
use Rattle.preconv_converter.specs.Runs.{begins_comment, after_comment}
use Rattle.preconv_converter.proofs.Plain.{and-first, and-second, nothing_pending}
use Rattle.preconv_converter.proofs.AtOnce.{placed_as, placed_escape}
use Rattle.preconv_converter.proofs.PlainEscapes.{offers}
use Rattle.preconv_characters.proofs.Tests.{is_one}
use Rattle.preconv_converter.proofs.Names.{after_dot, dot_read}

-- ---- after the dot, and after the backslash

after_blanks : Half → Half
after_blanks h = record (placed Stop h) { conditional = false; name = []; line = lines.Request }

escaped : Half → Half
escaped h = record (placed Stop h) { conditional = false; name = []; line = lines.Request; escape = escapes.Begun; kept = code "\\" ∷ []; spelled = [] }

blanks_offered : (h : Half) → is_plain h.escape ≡ true → offer (comings.Byte (code "\\")) (after_dot h) ≡ left (says.Kept []) (after_blanks h)
unfolding after_dot after_blanks
blanks_offered h plain =
    let k = record (placed Stop h) { conditional = false; name = []; line = lines.Control } in
    ap (λ (x : Bool). if x then plain_byte (code "\\") k else in_escape (code "\\") k) (placed_escape Stop h ∙ plain)

backslash_offered : (h : Half) → is_plain h.escape ≡ true → offer (comings.Byte (code "\\")) (after_blanks h) ≡ taken says.Nothing (escaped h)
unfolding after_blanks escaped
backslash_offered h plain =
    let k = record (placed Stop h) { conditional = false; name = []; line = lines.Request } in
    ap (λ (x : Bool). if x then plain_byte (code "\\") k else in_escape (code "\\") k) (placed_escape Stop h ∙ plain)

backslash_heard : (r : Reader) → is_plain r.half.escape ≡ true → heard (comings.Byte (code "\\")) (with_half (after_dot r.half) r) ≡ emitted (with_half (escaped r.half) r) [] 2
unfolding heard
backslash_heard r plain =
    let c = comings.Byte (code "\\") in
    ap (λ (m : Offered). preceded (bytes_of r.table m.said) 1 (if m.takes then emitted (with_half m.half r) [] 0 else heard_in 5 c (with_half m.half r))) (blanks_offered r.half plain)
    ∙ ap (λ (m : Offered). preceded [] 1 (preceded (bytes_of r.table m.said) 1 (if m.takes then emitted (with_half m.half r) [] 0 else heard_in 4 c (with_half m.half r)))) (backslash_offered r.half plain)

backslash_read : (r : Reader) → r.pending ≡ Nothing → is_plain r.half.escape ≡ true → read (code "\\") (with_half (after_dot r.half) r) ≡ emitted (with_half (escaped r.half) r) [] 2
unfolding after_dot
backslash_read r none plain =
    let s = with_half (record (placed Stop r.half) { conditional = false; name = []; line = lines.Control }) r in
    nothing_pending (code "\\") s none ∙ backslash_heard r plain

-- ---- after the quote

comment_by : (m : Bool) (h : Half) → record (without_escape (record (placed_as m Stop h) { conditional = false; name = []; line = lines.Request; escape = escapes.Begun; kept = code "\\" ∷ []; spelled = [] })) { before = Character Other; line = lines.Comment } ≡ after_comment h
comment_by true h = refl
comment_by false h = refl

quote_offered : (h : Half) → offer (comings.Byte (code "\"")) (escaped h) ≡ taken (says.Kept (code "\\" ∷ code "\"" ∷ [])) (after_comment h)
unfolding escaped
quote_offered h = ap (taken (says.Kept (code "\\" ∷ code "\"" ∷ []))) (comment_by h.manual h)

quote_read : (r : Reader) → r.pending ≡ Nothing → read (code "\"") (with_half (escaped r.half) r) ≡ emitted (with_half (after_comment r.half) r) (code "\\" ∷ code "\"" ∷ []) 1
unfolding escaped
quote_read r none =
    offers (code "\"") (with_half (escaped r.half) r) (says.Kept (code "\\" ∷ code "\"" ∷ [])) (after_comment r.half) none refl refl (quote_offered r.half)

comment_fed : (r : Reader) → r.pending ≡ Nothing → is_plain r.half.escape ≡ true → r.half.line ≡ lines.Start
    → fed r (code "." ∷ code "\\" ∷ code "\"" ∷ []) ≡ emitted (with_half (after_comment r.half) r) (code "." ∷ code "\\" ∷ code "\"" ∷ []) 4
comment_fed r none plain start =
    let dot = code "." ∷ [] in
    ap (λ (t : Emitted). then_emitted t (λ s. fed s (code "\\" ∷ code "\"" ∷ []))) (dot_read r none plain start)
    ∙ ap (λ (t : Emitted). preceded dot 1 (then_emitted t (λ s. fed s (code "\"" ∷ [])))) (backslash_read r none plain)
    ∙ ap (λ (t : Emitted). preceded dot 1 (preceded [] 2 (then_emitted t (λ s. emitted s [] 0)))) (quote_read r none)

pub comment_begun : (bs : List ℕ) (r : Reader) → r.pending ≡ Nothing → is_plain r.half.escape ≡ true → r.half.line ≡ lines.Start → begins_comment bs ≡ true
    → fed r (take 3 bs) ≡ emitted (with_half (after_comment r.half) r) (take 3 bs) 4
comment_begun [] r none plain start is = absurd (let no : false ≡ true = is in cc)
comment_begun (a ∷ []) r none plain start is = absurd (let no : false ≡ true = is in cc)
comment_begun (a ∷ b ∷ []) r none plain start is = absurd (let no : false ≡ true = is in cc)
comment_begun (a ∷ b ∷ c ∷ bs) r none plain start is =
    let prefix = and-first ((a == code ".") && (b == code "\\")) (c == code "\"") is in
    let P : ℕ → ℕ → ℕ → Type 0 = λ x y z. fed r (x ∷ y ∷ z ∷ []) ≡ emitted (with_half (after_comment r.half) r) (x ∷ y ∷ z ∷ []) 4 in
    let whole : P (code ".") (code "\\") (code "\"") = comment_fed r none plain start in
    let one : P a (code "\\") (code "\"") = subst (λ (x : ℕ). P x (code "\\") (code "\"")) (sym (is_one a (code ".") (and-first (a == code ".") (b == code "\\") prefix))) whole in
    let two : P a b (code "\"") = subst (λ (y : ℕ). P a y (code "\"")) (sym (is_one b (code "\\") (and-second (a == code ".") (b == code "\\") prefix))) one in
    subst (P a b) (sym (is_one c (code "\"") (and-second ((a == code ".") && (b == code "\\")) (c == code "\"") is))) two

-- A comment is taken at once: nothing changes but at its newline.
use Prim.Native.Char.{code}
use Rattle.std.proofs.Common.{◌≡◌, ℕ, zero, suc, ◌<◌, ◌≤◌, List, [], ◌∷◌, length, get_or, Bool, true, false, not, ◌==◌, nat_lt, if◌then◌else◌, refl, sym, ◌∙◌, ap, subst, add-one, arith}
use Rattle.std.specs.List.{prefix_len}
use Rattle.std.proofs.lemmas.List.Sums.{prefix_len_passes, prefix_len-le-length}
use Rattle.preconv_lines.specs.declared.half.Half.{Half}
use Rattle.preconv_lines.specs.declared.half.Line.{Line}
use Rattle.preconv_lines.specs.declared.half.Line.TheVariants as lines
use Rattle.preconv_converter.specs.declared.reader.Reader.{Reader}
use Rattle.preconv_lines.specs.Lines.{passing, line_passed}
use Rattle.preconv_lines.specs.Offering.{is_raw}
use Rattle.preconv_characters.specs.Saying.{sent}
use Rattle.preconv_converter.specs.Reading.{emitted, with_half, read, heard_byte}
use Rattle.preconv_converter.specs.Passing.{Passes}
use Rattle.preconv_converter.specs.Runs.{goes_on_comment, comment_at, comment_len}
use Rattle.preconv_converter.proofs.Plain.{and-first, and-second, is_not, Passes-more}
use Rattle.preconv_characters.proofs.SentWhole.{sent_is}
use Rattle.preconv_converter.proofs.Sent.{ascii-goes}

line_stays : (b : ℕ) (h : Half) → h.line ≡ lines.Comment → (b == code "\n") ≡ false → line_passed h.line b ≡ h.line
line_stays b h line p =
    ap (λ (l : Line). line_passed l b) line
    ∙ ap (λ (x : Bool). if x then lines.Start else lines.Comment) p
    ∙ sym line

half_stays : (b : ℕ) (h : Half) → h.line ≡ lines.Comment → (b == code "\n") ≡ false → passing b h ≡ h
half_stays b h line p = ap (λ (l : Line). record h { line = l }) (line_stays b h line p)

comment_step : (b : ℕ) (r : Reader) → r.half.line ≡ lines.Comment → goes_on_comment b ≡ true → read b r ≡ emitted r (b ∷ []) 1
comment_step b r line p =
    let ascii = and-first (nat_lt b 127) (not (b == code "\n")) p in
    let inside : (b == code "\n") ≡ false = is_not (b == code "\n") (and-second (nat_lt b 127) (not (b == code "\n")) p) in
    ap (λ (x : Bool). if x then emitted (with_half (passing b r.half) r) (sent r.table b ∷ []) 1 else heard_byte b r) (ap is_raw line)
    ∙ ap (λ (h : Half). emitted (with_half h r) (sent r.table b ∷ []) 1) (half_stays b r.half line inside)
    ∙ ap (λ (c : ℕ). emitted r (c ∷ []) 1) (sent_is r.table b (ascii-goes r.table b ascii))

comment_passes : (n : ℕ) (bs : List ℕ) (r : Reader) → r.half.line ≡ lines.Comment
    → ((i : ℕ) → i < n → goes_on_comment (get_or bs i 0) ≡ true) → n ≤ length bs → Passes n bs r r
comment_passes zero bs r line goes within = refl
comment_passes (suc n) bs r line goes within =
    let before : Passes n bs r r = comment_passes n bs r line (λ i below. goes i (omega arith)) (omega arith) in
    let P : ℕ → Type 0 = λ k. Passes k bs r r in
    subst P (add-one n)
    (Passes-more r r r bs n before (omega arith) (comment_step (get_or bs n 0) r line (goes n (omega arith))))

comment_by : (l : Line) (bs : List ℕ) → 0 < comment_at l bs → l ≡ lines.Comment
comment_by lines.Comment bs some = refl
comment_by line bs some = absurd (omega arith)

-- the bytes that only go on a comment
pub comment_all : (n : ℕ) (bs : List ℕ) (r : Reader) → n ≡ comment_len bs r.half → 0 < n → Passes n bs r r
comment_all n bs r is some =
    let has : 0 < comment_at r.half.line bs = subst (λ (k : ℕ). 0 < k) is some in
    let line = comment_by r.half.line bs has in
    let all : n ≡ prefix_len goes_on_comment bs = is ∙ ap (λ (l : Line). comment_at l bs) line in
    let within : prefix_len goes_on_comment bs ≤ length bs = prefix_len-le-length goes_on_comment bs in
    comment_passes n bs r line (λ i below. prefix_len_passes goes_on_comment bs i 0 (omega arith)) (omega arith)

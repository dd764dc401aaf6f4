-- A comment goes out as it is.
use Prim.Native.Char.{code}
use Rattle.std.proofs.Common.{◌≡◌, ℕ, suc, ◌+◌, List, [], ◌∷◌, ◌++◌, length, Bool, true, false, not, ◌==◌, nat_lt, if◌then◌else◌, refl, sym, ◌∙◌, ap, append-nil, arith}
use Rattle.std.specs.Prelude.{codes}
use Rattle.preconv_characters.specs.declared.target.Target.{Target}
use Rattle.preconv_characters.specs.declared.said.Said.TheVariants as says
use Rattle.preconv_lines.specs.declared.half.Half.{Half}
use Rattle.preconv_lines.specs.declared.half.Line.TheVariants as lines
use Rattle.preconv_characters.specs.declared.marks.Before.TheVariants as befores
use Rattle.preconv_characters.specs.declared.marks.Mark.TheVariants as marks
use Rattle.preconv_converter.specs.declared.reader.Reader.{Reader}
use Rattle.preconv_converter.specs.declared.reader.Pending.TheVariants as pendings
use Rattle.preconv_characters.specs.Saying.{sent}
use Rattle.preconv_converter.specs.Reading.{Emitted, emitted, preceded, then_emitted, fed}
use Rattle.preconv_converter.specs.Runs.{goes_on_comment}
use Rattle.preconv_converter.specs.Pieces.{Piece, Same, all_were, all_become}
use Rattle.preconv_converter.specs.WrittenLines.{each}
use Rattle.preconv_converter.proofs.Plain.{and-first, and-second, is_not}
use Rattle.preconv_characters.proofs.SentWhole.{sent_is}
use Rattle.preconv_converter.proofs.Sent.{ascii-goes}
use Rattle.preconv_converter.proofs.Spots.{open_half, Spot, Starts, Rests, Controls, RestBegins, begins, at}
use Rattle.preconv_converter.proofs.Spots.{hears_taken, hears_left, Reads, reads_byte, byte_read}

pub sames : List ℕ → List Piece
sames [] = []
sames (b ∷ bs) = Same b ∷ sames bs

pub sames_become : (t : Target) (bs : List ℕ) → all_become t (sames bs) ≡ bs
unfolding sames
sames_become t [] = refl
sames_become t (b ∷ bs) = ap (λ (xs : List ℕ). b ∷ xs) (sames_become t bs)

pub sames_were : (bs : List ℕ) → all_were (sames bs) ≡ bs
unfolding sames
sames_were [] = refl
sames_were (b ∷ bs) = ap (λ (xs : List ℕ). b ∷ xs) (sames_were bs)

in_comment : Target → Half → Reader
in_comment t h = record { half = open_half lines.Comment h; pending = pendings.Nothing; table = t }

passed : (x : Bool) (t : Target) (b : ℕ) (h : Half) → nat_lt b 127 ≡ true → emitted (record { half = open_half (if x then lines.Start else lines.Comment) h; pending = pendings.Nothing; table = t }) (sent t b ∷ []) 1
    ≡ emitted (record { half = open_half (if x then lines.Start else lines.Comment) h; pending = pendings.Nothing; table = t }) (b ∷ []) 1
passed x t b h ascii = ap (λ (c : ℕ). emitted (record { half = open_half (if x then lines.Start else lines.Comment) h; pending = pendings.Nothing; table = t }) (c ∷ []) 1) (sent_is t b (ascii-goes t b ascii))

add_one : (n : ℕ) → 1 + n ≡ suc n
add_one n = omega arith

comment_fed : (t : Target) (bs : List ℕ) (h : Half) → each goes_on_comment bs ≡ true → fed (in_comment t h) (bs ++ codes "\n") ≡ emitted (at t (Starts h)) (bs ++ codes "\n") (suc (length bs))
unfolding in_comment
comment_fed t [] h all = refl
comment_fed t (b ∷ bs) h all =
    let first = and-first (goes_on_comment b) (each goes_on_comment bs) all in
    let rest = bs ++ codes "\n" in
    ap (λ (x : Bool). then_emitted (emitted (record { half = open_half (if x then lines.Start else lines.Comment) h; pending = pendings.Nothing; table = t }) (sent t b ∷ []) 1) (λ s. fed s rest)) (is_not (b == code "\n") (and-second (nat_lt b 127) (not (b == code "\n")) first))
    ∙ ap (λ (u : Emitted). then_emitted u (λ s. fed s rest)) (passed false t b h (and-first (nat_lt b 127) (not (b == code "\n")) first))
    ∙ ap (preceded (b ∷ []) 1) (comment_fed t bs h (and-second (goes_on_comment b) (each goes_on_comment bs) all))
    ∙ ap (emitted (at t (Starts h)) (b ∷ rest)) (add_one (suc (length bs)))

noted : Half → Half
noted h = record h { spelled = []; before = befores.Character marks.Other }

quote_fed : (t : Target) (h : Half) (bs : List ℕ) → fed (at t (RestBegins h)) (code "\"" ∷ bs) ≡ preceded (code "\\" ∷ code "\"" ∷ []) 1 (fed (in_comment t (noted h)) bs)
unfolding in_comment noted
quote_fed t h bs = ap (λ (u : Emitted). then_emitted u (λ s. fed s bs)) (byte_read t (RestBegins h) (code "\"") refl)

quote_reads : (t : Target) (bs : List ℕ) (h : Half) → each goes_on_comment bs ≡ true → Reads begins t (RestBegins h) (code "\"" ∷ (bs ++ codes "\n"))
quote_reads t bs h all =
    let text = bs ++ codes "\n" in
    let whole = code "\\" ∷ code "\"" ∷ text in
    record {
      next = Starts (noted h);
      there = refl;
      pieces = sames whole;
      steps = 1 + suc (length bs);
      read =
          quote_fed t h text
          ∙ ap (preceded (code "\\" ∷ code "\"" ∷ []) 1) (comment_fed t bs (noted h) all)
          ∙ ap (λ (xs : List ℕ). emitted (at t (Starts (noted h))) xs (1 + suc (length bs))) (sym (sames_become t whole));
      all = sym (sames_were whole) ∙ sym (append-nil (all_were (sames whole)));
    }

rest_begun : Spot → Bool
rest_begun (RestBegins h) = true
rest_begun p = false

-- after the control character
pub comment_reads : (t : Target) (bs : List ℕ) (h : Half) → each goes_on_comment bs ≡ true → Reads begins t (Controls h) (code "\\" ∷ code "\"" ∷ (bs ++ codes "\n"))
unfolding rest_begun
comment_reads t bs h all =
    let k : Half = record h { name = []; conditional = false } in
    reads_byte begins rest_begun t (Controls h) (code "\\") (code "\"" ∷ (bs ++ codes "\n")) refl
    (hears_left rest_begun 5 t (Controls h) (Rests k) (code "\\") (says.Kept []) [] refl refl refl
    (hears_taken rest_begun 4 t (Rests k) (code "\\") (record { next = RestBegins k; there = refl; said = says.Nothing; pieces = []; offered = refl; out = refl; all = refl })))
    begun
  where
    begun : (q : Spot) → rest_begun q ≡ true → Reads begins t q (code "\"" ∷ (bs ++ codes "\n"))
    begun (RestBegins k) there = quote_reads t bs k all
    begun q there = absurd (let no : false ≡ true = there in cc)

-- A line of text says nothing.
use Rattle.std.proofs.Common.{◌≡◌, ◌==◌, ℕ, ◌+◌, ◌<◌, Bool, true, false, List, [], ◌∷◌, length, drop, get_or, refl, ap, sym, ◌∙◌, add-one, arith, if◌then◌else◌}
use Prim.Native.Char.{code}
use Rattle.tbl_setting.specs.Watching.{Watching, byte_heard, heard, is_text, line_ended, line_len, text_len, watching}
use Rattle.tbl_table.specs.Lists.{added}

unheard : (b : ℕ) (s : Watching) → (b == code "\n") ≡ false → is_text s.watch.line.items ≡ true → byte_heard b s ≡ s
unheard b s other text =
    let heard_more : Watching = watching (record s.watch { line = added b s.watch.line }) s.grid in
    ap (λ (x : Bool). if x then line_ended s else (if is_text s.watch.line.items then s else heard_more)) other
    ∙ ap (λ (x : Bool). if x then s else heard_more) text

after_one : (n b : ℕ) (bs : List ℕ) → drop (n + 1) (b ∷ bs) ≡ drop n bs
after_one n b bs = ap (λ (k : ℕ). drop k (b ∷ bs)) (add-one n)

-- so many bytes of it are passed
pub text_passed : (text : List ℕ) (s : Watching) → is_text s.watch.line.items ≡ true → heard (drop (line_len text) text) s ≡ heard text s
text_passed [] s is = refl
text_passed (b ∷ bs) s is = by_byte (text_passed bs s is) (b == code "\n") refl
  where
    by_byte : heard (drop (line_len bs) bs) s ≡ heard bs s → (x : Bool) → (b == code "\n") ≡ x
        → heard (drop (if x then 0 else line_len bs + 1) (b ∷ bs)) s ≡ heard bs (byte_heard b s)
    by_byte later true newline = refl
    by_byte later false other =
        ap (λ (l : List ℕ). heard l s) (after_one (line_len bs) b bs)
        ∙ later
        ∙ sym (ap (heard bs) (unheard b s other is))

-- what is reported of it
pub text_heard : (text : List ℕ) (s : Watching) (n : ℕ) → n ≡ text_len text s.watch → 0 < n → heard (drop n text) s ≡ heard text s
text_heard text s n is some = by_line (is_text s.watch.line.items) refl
  where
    by_line : (x : Bool) → is_text s.watch.line.items ≡ x → heard (drop n text) s ≡ heard text s
    by_line true text_line =
        ap (λ (k : ℕ). heard (drop k text) s) (is ∙ ap (λ (x : Bool). if x then line_len text else 0) text_line) ∙ text_passed text s text_line
    by_line false other =
        let none : n ≡ 0 = is ∙ ap (λ (x : Bool). if x then line_len text else 0) other in absurd (omega (arith, none, some))

-- one byte
pub one_heard : (text : List ℕ) (s t : Watching) → 0 < length text → t ≡ byte_heard (get_or text 0 0) s → heard (drop 1 text) t ≡ heard text s
one_heard [] s t some is = absurd (omega (arith, some))
one_heard (b ∷ bs) s t some is = ap (heard bs) is

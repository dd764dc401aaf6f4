-- Lines of a block, byte by byte.
use Rattle.std.proofs.Common.{◌≡◌, ◌==◌, ℕ, suc, ◌+◌, ◌-◌, ◌<◌, ◌≤◌, Bool, true, false, List, [], ◌∷◌, ◌++◌, length, get_or, take, drop, slice_range, sym, ap, arith, ◌∙◌, if◌then◌else◌}
use Rattle.std.proofs.Math.Seq.{drop-cons, drop-length, take-suc}
use Rattle.std.proofs.lemmas.List.{get_or-drop, length-drop, length-take-le}
use Rattle.std.proofs.lemmas.Bool.Decides.{nat_tests}
use Prim.Native.Char.{code}
use Rattle.tbl_blocks.specs.declared.blocks.Blocks.{Blocks}
use Rattle.tbl_blocks.specs.Words.{line_read, lines_from}

-- ---- a line so far

line_more : (text : List ℕ) (from at : ℕ) → from ≤ at → at < length text
    → slice_range text from at ++ get_or text at 0 ∷ [] ≡ slice_range text from (suc at)
line_more text from at order some =
    let within : at - from < length (drop from text) = omega (arith, order, some, length-drop from text) in
    let here : from + (at - from) ≡ at = omega (arith, order) in
    let count : suc (at - from) ≡ suc at - from = omega (arith, order) in
    let same : get_or (drop from text) (at - from) 0 ≡ get_or text at 0 = get_or-drop from text (at - from) 0 ∙ ap (λ (q : ℕ). get_or text q 0) here in
    ap (λ (b : ℕ). take (at - from) (drop from text) ++ b ∷ []) (sym same)
    ∙ sym (take-suc (drop from text) (at - from) 0 within)
    ∙ ap (λ (q : ℕ). take q (drop from text)) count

line_length : (text : List ℕ) (from at : ℕ) → from ≤ at → at ≤ length text → length (slice_range text from at) ≡ at - from
line_length text from at order some =
    let within : at - from ≤ length (drop from text) = omega (arith, order, some, length-drop from text) in
    length-take-le (at - from) (drop from text) within

no_line : (text : List ℕ) (at : ℕ) → slice_range text at at ≡ []
no_line text at = let none : at - at ≡ 0 = omega arith in ap (λ (q : ℕ). take q (drop at text)) none

choose_true : (b : Bool) (x y : Blocks) → b ≡ true → (if b then x else y) ≡ x
choose_true b x y h = ap (λ (c : Bool). if c then x else y) h

choose_false : (b : Bool) (x y : Blocks) → b ≡ false → (if b then x else y) ≡ y
choose_false b x y h = ap (λ (c : Bool). if c then x else y) h

-- ---- steps

-- another byte than a newline belongs to the line
pub line_goes_on : (text : List ℕ) (from at place : ℕ) (s r : Blocks) → from ≤ at → at < length text → (get_or text at 0 ≡ code "\n" → ⊥)
    → lines_from (slice_range text from at) place (drop at text) s ≡ r
    → lines_from (slice_range text from (at + 1)) place (drop (at + 1) text) s ≡ r
line_goes_on text from at place s r order some other before =
    let b : ℕ = get_or text at 0 in
    let bs : List ℕ = drop (suc at) text in
    let line : List ℕ = slice_range text from at in
    let one : suc at ≡ at + 1 = omega arith in
    let is : (get_or text at 0 == code "\n") ≡ false = grind (arith, nat_tests, other) in
    let open_text : lines_from line place (b ∷ bs) s ≡ r = ap (λ (q : List ℕ). lines_from line place q s) (sym (drop-cons text at 0 some)) ∙ before in
    let step : lines_from line place (b ∷ bs) s ≡ lines_from (line ++ b ∷ []) place bs s =
    choose_false (b == code "\n") (lines_from [] (place + length line + 1) bs (line_read line place s)) (lines_from (line ++ b ∷ []) place bs s) is in
    let longer : lines_from (slice_range text from (suc at)) place bs s ≡ r =
    ap (λ (q : List ℕ). lines_from q place bs s) (sym (line_more text from at order some)) ∙ (sym step ∙ open_text) in
    ap (λ (q : ℕ). lines_from (slice_range text from q) place (drop q text) s) (sym one) ∙ longer

-- a newline ends it
pub line_over : (text : List ℕ) (from next at place : ℕ) (s t r : Blocks) → from ≤ at → at < length text → get_or text at 0 ≡ code "\n" → next ≡ at + 1
    → t ≡ line_read (slice_range text from at) (place + from) s
    → lines_from (slice_range text from at) (place + from) (drop at text) s ≡ r
    → lines_from (slice_range text next (at + 1)) (place + next) (drop (at + 1) text) t ≡ r
line_over text from next at place s t r order some newline after now before =
    let b : ℕ = get_or text at 0 in
    let bs : List ℕ = drop (suc at) text in
    let line : List ℕ = slice_range text from at in
    let one : suc at ≡ at + 1 = omega arith in
    let is : (get_or text at 0 == code "\n") ≡ true = ap (λ (q : ℕ). q == code "\n") newline in
    let long : length line ≡ at - from = line_length text from at order (omega (arith, some)) in
    let there : place + from + length line + 1 ≡ place + (at + 1) = omega (arith, long, order) in
    let open_text : lines_from line (place + from) (b ∷ bs) s ≡ r = ap (λ (q : List ℕ). lines_from line (place + from) q s) (sym (drop-cons text at 0 some)) ∙ before in
    let step : lines_from line (place + from) (b ∷ bs) s ≡ lines_from [] (place + from + length line + 1) bs (line_read line (place + from) s) =
    choose_true (b == code "\n") (lines_from [] (place + from + length line + 1) bs (line_read line (place + from) s)) (lines_from (line ++ b ∷ []) (place + from) bs s) is in
    ap (λ (q : ℕ). lines_from (slice_range text q (at + 1)) (place + q) (drop (at + 1) text) t) after
    ∙ (ap (λ (q : List ℕ). lines_from q (place + (at + 1)) (drop (at + 1) text) t) (no_line text (at + 1))
    ∙ (ap (λ (q : ℕ). lines_from [] (place + (at + 1)) (drop q text) t) (sym one)
    ∙ (ap (λ (q : ℕ). lines_from [] q bs t) (sym there)
    ∙ (ap (lines_from [] (place + from + length line + 1) bs) now
    ∙ (sym step ∙ open_text)))))

-- the text ends, and with it its last line
pub last_line : (text : List ℕ) (from at place : ℕ) (s r : Blocks) → from < length text → at ≤ length text → length text ≤ at
    → lines_from (slice_range text from at) place (drop at text) s ≡ r
    → line_read (slice_range text from (length text)) place s ≡ r
last_line text from at place s r some within over before =
    let end : at ≡ length text = omega (arith, within, over) in
    let line : List ℕ = slice_range text from (length text) in
    let long : length line ≡ length text - from = line_length text from (length text) (omega (arith, some)) (omega arith) in
    let begun : (length line == 0) ≡ false = grind (arith, nat_tests, long, some) in
    sym (choose_false (length line == 0) s (line_read line place s) begun)
    ∙ (sym (ap (λ (q : List ℕ). lines_from line place q s) (drop-length text))
    ∙ (ap (λ (q : ℕ). lines_from (slice_range text from q) place (drop q text) s) (sym end)
    ∙ before))

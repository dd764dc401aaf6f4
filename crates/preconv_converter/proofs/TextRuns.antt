-- Runs of a text line, byte by byte.
use Rattle.std.proofs.Common.{◌≡◌, ℕ, zero, suc, ◌+◌, ◌<◌, ◌≤◌, List, [], ◌∷◌, length, get_or, drop, Bool, true, false, not, ◌&&◌, ◌||◌, if◌then◌else◌, cond, refl, sym, ◌∙◌, ap, subst, zero-add, arith}
use Rattle.std.specs.List.{prefix_len}
use Rattle.std.proofs.lemmas.List.{drop_more, get_or-drop}
use Rattle.document_stages.proofs.Steps.{drop_drop}
use Rattle.preconv_characters.specs.Marks.{is_stop}
use Rattle.preconv_converter.specs.Runs.{goes_on_text, goes_on_after, may_close, run_after}

within_by : (x : Bool) (n m : ℕ) → n ≤ m → (if x then suc n else 0) ≤ suc m
within_by true n m h = omega arith
within_by false n m h = omega arith

pub run_within : (a : ℕ) (bs : List ℕ) → run_after a bs ≤ length bs
run_within a [] = omega arith
run_within a (b ∷ bs) = within_by (goes_on_after a b) (run_after b bs) (length bs) (run_within b bs)

goes_by : (x : Bool) (a b : ℕ) (bs : List ℕ) (i : ℕ) → goes_on_after a b ≡ x
    → ((j : ℕ) → j < run_after b bs → goes_on_after (get_or (b ∷ bs) j 0) (get_or bs j 0) ≡ true)
    → i < (if x then suc (run_after b bs) else 0) → goes_on_after (get_or (a ∷ b ∷ bs) i 0) (get_or (b ∷ bs) i 0) ≡ true
goes_by true a b bs zero e rest h = e
goes_by true a b bs (suc j) e rest h = rest j (omega arith)
goes_by false a b bs i e rest h = absurd (omega arith)

-- each goes on after the one before
pub run_goes : (a : ℕ) (bs : List ℕ) (i : ℕ) → i < run_after a bs → goes_on_after (get_or (a ∷ bs) i 0) (get_or bs i 0) ≡ true
run_goes a [] i h = absurd (omega arith)
run_goes a (b ∷ bs) i h = goes_by (goes_on_after a b) a b bs i refl (λ j. run_goes b bs j) h

-- where the next one doesn't, it ends
pub run_stops : (a : ℕ) (bs : List ℕ) (n : ℕ) → (n < length bs → goes_on_after (get_or (a ∷ bs) n 0) (get_or bs n 0) ≡ false)
    → run_after (get_or (a ∷ bs) n 0) (drop n bs) ≡ 0
run_stops a [] zero e = refl
run_stops a [] (suc n) e = refl
run_stops a (b ∷ bs) zero e = ap (λ (x : Bool). if x then suc (run_after b bs) else 0) (e (omega arith))
run_stops a (b ∷ bs) (suc n) e = run_stops b bs n (λ below. e (omega arith))

prefix_by : (x : Bool) (a b : ℕ) (bs : List ℕ) (k : ℕ) → goes_on_text b ≡ x → run_after b bs ≡ k + run_after (get_or (b ∷ bs) k 0) (drop k bs)
    → run_after a (b ∷ bs) ≡ cond x (1 + k) 0 + run_after (get_or (a ∷ b ∷ bs) (cond x (1 + k) 0) 0) (drop (cond x (1 + k) 0) (b ∷ bs))
prefix_by true a b bs k e more =
    let P : ℕ → ℕ = λ j. j + run_after (get_or (a ∷ b ∷ bs) j 0) (drop j (b ∷ bs)) in
    let on : 1 + k ≡ suc k = omega arith in
    let first : run_after a (b ∷ bs) ≡ suc (run_after b bs) =
    ap (λ (x : Bool). if x || (may_close b && not (is_stop a)) then suc (run_after b bs) else 0) e in
    let rest : suc (k + run_after (get_or (b ∷ bs) k 0) (drop k bs)) ≡ suc k + run_after (get_or (b ∷ bs) k 0) (drop k bs) = omega arith in
    first ∙ ap suc more ∙ rest ∙ sym (ap P on)
prefix_by false a b bs k e more = sym (zero-add (run_after a (b ∷ bs)))

-- those come first that go on whatever stands before them
pub run_prefix : (a : ℕ) (bs : List ℕ)
    → run_after a bs ≡ prefix_len goes_on_text bs + run_after (get_or (a ∷ bs) (prefix_len goes_on_text bs) 0) (drop (prefix_len goes_on_text bs) bs)
run_prefix a [] = refl
run_prefix a (b ∷ bs) = prefix_by (goes_on_text b) a b bs (prefix_len goes_on_text bs) refl (run_prefix b bs)

-- one more goes on, and some after it
pub run_on : (a : ℕ) (bs : List ℕ) (n k : ℕ) → n < length bs → goes_on_after (get_or (a ∷ bs) n 0) (get_or bs n 0) ≡ true
    → k ≡ prefix_len goes_on_text (drop (n + 1) bs)
    → run_after (get_or (a ∷ bs) n 0) (drop n bs) ≡ 1 + k + run_after (get_or (a ∷ bs) (n + (1 + k)) 0) (drop (n + (1 + k)) bs)
run_on a bs n k below on is =
    let b = get_or bs n 0 in
    let rest = drop (n + 1) bs in
    let here : drop n bs ≡ b ∷ rest = drop_more bs n 0 below in
    let first : run_after (get_or (a ∷ bs) n 0) (drop n bs) ≡ suc (run_after b rest) =
    ap (run_after (get_or (a ∷ bs) n 0)) here ∙ ap (λ (x : Bool). if x then suc (run_after b rest) else 0) on in
    let F : ℕ → Type 0 = λ j. run_after b rest ≡ j + run_after (get_or (b ∷ rest) j 0) (drop j rest) in
    let prefix : run_after b rest ≡ k + run_after (get_or (b ∷ rest) k 0) (drop k rest) = subst F (sym is) (run_prefix b rest) in
    let last : get_or (b ∷ rest) k 0 ≡ get_or bs (n + k) 0 = ap (λ (xs : List ℕ). get_or xs k 0) (sym here) ∙ get_or-drop n bs k 0 in
    let at : n + (1 + k) ≡ suc (n + k) = omega arith in
    let place : n + 1 + k ≡ n + (1 + k) = omega arith in
    let left : drop k rest ≡ drop (n + (1 + k)) bs = drop_drop (n + 1) k bs ∙ ap (λ (j : ℕ). drop j bs) place in
    let tail : run_after (get_or (b ∷ rest) k 0) (drop k rest) ≡ run_after (get_or (a ∷ bs) (n + (1 + k)) 0) (drop (n + (1 + k)) bs) =
    ap (λ (x : ℕ). run_after x (drop k rest)) (last ∙ sym (ap (λ (j : ℕ). get_or (a ∷ bs) j 0) at))
    ∙ ap (run_after (get_or (a ∷ bs) (n + (1 + k)) 0)) left in
    let sum : suc (k + run_after (get_or (a ∷ bs) (n + (1 + k)) 0) (drop (n + (1 + k)) bs)) ≡ 1 + k + run_after (get_or (a ∷ bs) (n + (1 + k)) 0) (drop (n + (1 + k)) bs) = omega arith in
    first ∙ ap suc prefix ∙ ap (λ (x : ℕ). suc (k + x)) tail ∙ sum

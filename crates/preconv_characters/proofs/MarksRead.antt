-- The names of marks are read byte by byte.
use Rattle.std.proofs.Common.{◌≡◌, ℕ, ◌+◌, ◌-◌, ◌<◌, ◌≤◌, List, [], ◌∷◌, ◌++◌, length, take, drop, get_or, Bool, true, false, if◌then◌else◌, sym, ◌∙◌, ap, arith}
use Rattle.std.proofs.lemmas.List.{drop_more, drop_all, take_more, get_or-drop, length-drop}
use Rattle.preconv_characters.specs.declared.composed.Marked.{Marked}
use Rattle.preconv_characters.specs.Composed.{separates, mark_code, with_mark, with_marks}

step : (m r : Marked) (p xs : List ℕ) (i : ℕ) (x : Bool) → i < length xs → separates (get_or xs i 0) ≡ x → with_marks m p (drop i xs) ≡ r
    → (if x then with_marks (with_mark (mark_code p) m) [] (drop (i + 1) xs) else with_marks m (p ++ get_or xs i 0 ∷ []) (drop (i + 1) xs)) ≡ r
step m r p xs i x within is same =
    let b = get_or xs i 0 in
    let bs = drop (i + 1) xs in
    sym (ap (λ (t : Bool). if t then with_marks (with_mark (mark_code p) m) [] bs else with_marks m (p ++ b ∷ []) bs) is)
    ∙ sym (ap (with_marks m p) (drop_more xs i 0 within)) ∙ same

-- a separator ends it
pub name_ends : (m r : Marked) (xs : List ℕ) (s i : ℕ) → i < length xs → separates (get_or xs i 0) ≡ true → with_marks m (take (i - s) (drop s xs)) (drop i xs) ≡ r
    → with_marks (with_mark (mark_code (take (i - s) (drop s xs))) m) (take (i + 1 - (i + 1)) (drop (i + 1) xs)) (drop (i + 1) xs) ≡ r
name_ends m r xs s i within is same =
    let p = take (i - s) (drop s xs) in
    let none : i + 1 - (i + 1) ≡ 0 = omega arith in
    ap (λ (k : ℕ). with_marks (with_mark (mark_code p) m) (take k (drop (i + 1) xs)) (drop (i + 1) xs)) none
    ∙ step m r p xs i true within is same

-- any other byte is of it
pub name_goes_on : (m r : Marked) (xs : List ℕ) (s i : ℕ) → s ≤ i → i < length xs → separates (get_or xs i 0) ≡ false → with_marks m (take (i - s) (drop s xs)) (drop i xs) ≡ r
    → with_marks m (take (i + 1 - s) (drop s xs)) (drop (i + 1) xs) ≡ r
name_goes_on m r xs s i begun within is same =
    let p = take (i - s) (drop s xs) in
    let more : i + 1 - s ≡ (i - s) + 1 = omega arith in
    let there : s + (i - s) ≡ i = omega arith in
    let left : i - s < length (drop s xs) = omega (arith, length-drop s xs) in
    let longer : take (i + 1 - s) (drop s xs) ≡ p ++ get_or xs i 0 ∷ [] =
    ap (λ (k : ℕ). take k (drop s xs)) more ∙ take_more (drop s xs) (i - s) 0 left
    ∙ ap (λ (b : ℕ). p ++ b ∷ []) (get_or-drop s xs (i - s) 0 ∙ ap (λ (k : ℕ). get_or xs k 0) there) in
    ap (λ (q : List ℕ). with_marks m q (drop (i + 1) xs)) longer ∙ step m r p xs i false within is same

-- the last one has no end
pub last_name : (m r : Marked) (xs : List ℕ) (s i : ℕ) → length xs ≤ i → i ≤ length xs → with_marks m (take (i - s) (drop s xs)) (drop i xs) ≡ r
    → with_mark (mark_code (take (length xs - s) (drop s xs))) m ≡ r
last_name m r xs s i past within same =
    let at : length xs ≡ i = omega arith in
    ap (λ (k : ℕ). with_mark (mark_code (take (k - s) (drop s xs))) m) at
    ∙ sym (ap (with_marks m (take (i - s) (drop s xs))) (drop_all i xs past)) ∙ same

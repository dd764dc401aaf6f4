-- A byte more.
use Rattle.std.proofs.Common.{◌≡◌, ℕ, ◌+◌, ◌<◌, List, [], ◌∷◌, ◌++◌, length, take, get_or, ◌∙◌, refl, ap, sym, append_assoc, append-nil, arith}
use Rattle.std.proofs.lemmas.List.{take_more}
use Rattle.mdoc_converter.specs.Reading.{State, fed, read}
use Rattle.mdoc_converter.proofs.Reading.{fed-append_bytes, fed-append_state, fed-append_steps}

none-after : (n : ℕ) → n ≡ n + 0
none-after n = omega arith

-- what was read of so many bytes, and the next
pub fed-next_state : (s t u : State) (bs : List ℕ) (i b : ℕ) → i < length bs → t ≡ (fed s (take i bs)).state → b ≡ get_or bs i 0
    → u ≡ (read b t).state → u ≡ (fed s (take (i + 1) bs)).state
fed-next_state s t u bs i b within before is after =
    after ∙ ap (λ (x : ℕ). (read x t).state) is ∙ ap (λ (x : State). (read (get_or bs i 0) x).state) before
    ∙ sym (ap (λ (xs : List ℕ). (fed s xs).state) (take_more bs i 0 within) ∙ fed-append_state s (take i bs) (get_or bs i 0 ∷ []))

-- what came of them
pub fed-next_bytes : (s t : State) (bs first old new : List ℕ) (i b : ℕ) → i < length bs → t ≡ (fed s (take i bs)).state → b ≡ get_or bs i 0
    → old ≡ first ++ (fed s (take i bs)).bytes → new ≡ old ++ (read b t).bytes → new ≡ first ++ (fed s (take (i + 1) bs)).bytes
fed-next_bytes s t bs first old new i b within before is put after =
    let r = (fed s (take i bs)).state in
    let c = get_or bs i 0 in
    after ∙ ap (λ (x : ℕ). old ++ (read x t).bytes) is ∙ ap (λ (x : State). old ++ (read c x).bytes) before
    ∙ ap (λ (xs : List ℕ). xs ++ (read c r).bytes) put
    ∙ append_assoc first (fed s (take i bs)).bytes (read c r).bytes
    ∙ ap (λ (xs : List ℕ). first ++ ((fed s (take i bs)).bytes ++ xs)) (sym (append-nil (read c r).bytes))
    ∙ ap (λ (xs : List ℕ). first ++ xs) (sym (ap (λ (xs : List ℕ). (fed s xs).bytes) (take_more bs i 0 within) ∙ fed-append_bytes s (take i bs) (c ∷ [])))

-- in how many steps
pub fed-next_steps : (s t : State) (bs : List ℕ) (i b n k : ℕ) → i < length bs → t ≡ (fed s (take i bs)).state → b ≡ get_or bs i 0
    → n ≡ (fed s (take i bs)).steps → k ≡ (read b t).steps → n + k ≡ (fed s (take (i + 1) bs)).steps
fed-next_steps s t bs i b n k within before is counted more =
    let r = (fed s (take i bs)).state in
    let c = get_or bs i 0 in
    ap (λ (x : ℕ). x + k) counted ∙ ap (λ (x : ℕ). (fed s (take i bs)).steps + x) more
    ∙ ap (λ (x : ℕ). (fed s (take i bs)).steps + (read x t).steps) is
    ∙ ap (λ (x : State). (fed s (take i bs)).steps + (read c x).steps) before
    ∙ ap (λ (x : ℕ). (fed s (take i bs)).steps + x) (none-after (read c r).steps)
    ∙ sym (ap (λ (xs : List ℕ). (fed s xs).steps) (take_more bs i 0 within) ∙ fed-append_steps s (take i bs) (c ∷ []))

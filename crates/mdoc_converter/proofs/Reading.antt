-- Many bytes, one after another.
use Rattle.std.proofs.Common.{◌≡◌, ℕ, ◌+◌, List, [], ◌∷◌, ◌++◌, refl, sym, ◌∙◌, ap, append_assoc, arith}
use Rattle.mdoc_converter.specs.Reading.{State, Emitted, emitted, preceded, then_emitted, read, fed}

pub add_assoc : (a b c : ℕ) → a + (b + c) ≡ a + b + c
add_assoc a b c = omega arith

none_before : (n : ℕ) → 0 + n ≡ n
none_before n = omega arith

pub emitted-eq : (r s : State) (xs ys : List ℕ) (m n : ℕ) → r ≡ s → xs ≡ ys → m ≡ n → emitted r xs m ≡ emitted s ys n
emitted-eq r s xs ys m n p q e = cc

-- after nothing
pub preceded-none : (t : Emitted) → preceded [] 0 t ≡ t
preceded-none t = emitted-eq _ _ _ _ _ _ refl refl (none_before t.steps)

-- what comes of bytes in two parts
pub fed-append : (r : State) (xs ys : List ℕ) → fed r (xs ++ ys) ≡ then_emitted (fed r xs) (λ s. fed s ys)
fed-append r [] ys = sym (preceded-none (fed r ys))
fed-append r (x ∷ xs) ys =
    let t = read x r in
    let u = fed t.state xs in
    let v = fed u.state ys in
    let more : fed t.state (xs ++ ys) ≡ then_emitted u (λ s. fed s ys) = fed-append t.state xs ys in
    ap (preceded t.bytes t.steps) more
    ∙ emitted-eq _ _ _ _ _ _ refl (sym (append_assoc t.bytes u.bytes v.bytes)) (add_assoc t.steps u.steps v.steps)

pub fed-append_state : (r : State) (xs ys : List ℕ) → (fed r (xs ++ ys)).state ≡ (fed (fed r xs).state ys).state
fed-append_state r xs ys = ap (λ (t : Emitted). t.state) (fed-append r xs ys)

pub fed-append_bytes : (r : State) (xs ys : List ℕ) → (fed r (xs ++ ys)).bytes ≡ (fed r xs).bytes ++ (fed (fed r xs).state ys).bytes
fed-append_bytes r xs ys = ap (λ (t : Emitted). t.bytes) (fed-append r xs ys)

pub fed-append_steps : (r : State) (xs ys : List ℕ) → (fed r (xs ++ ys)).steps ≡ (fed r xs).steps + (fed (fed r xs).state ys).steps
fed-append_steps r xs ys = ap (λ (t : Emitted). t.steps) (fed-append r xs ys)

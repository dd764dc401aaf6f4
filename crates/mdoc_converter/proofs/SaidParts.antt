-- What goes out of a text, and in how many steps, is what comes of its parts.
use Rattle.std.proofs.Common.{◌≡◌, ℕ, ◌+◌, ◌*◌, ◌≤◌, List, [], ◌++◌, length, take, Bool, true, false, ◌∙◌, refl, ap, sym, append_assoc, append-nil, arith}
use Rattle.std.proofs.lemmas.List.{length-take}
use Rattle.document_stages.specs.Running.{at_most}
use Rattle.document_stages.proofs.Runs.{at_most-more}
use Rattle.mdoc_converter.specs.AtHand.{Passes}
use Rattle.mdoc_converter.specs.Reading.{State, Emitted, fed, finished}
use Rattle.mdoc_converter.specs.Staged.{counted, said, steps_said}
use Rattle.mdoc_converter.proofs.Reading.{add_assoc, fed-append_state, fed-append_bytes, fed-append_steps}

said-parts : (s : State) (ends : Bool) (xs ys : List ℕ) → said s ends (xs ++ ys) ≡ (fed s xs).bytes ++ said (fed s xs).state ends ys
said-parts s true xs ys =
    ap (λ (z : List ℕ). z ++ (finished (fed s (xs ++ ys)).state).bytes) (fed-append_bytes s xs ys)
    ∙ ap (λ (t : State). ((fed s xs).bytes ++ (fed (fed s xs).state ys).bytes) ++ (finished t).bytes) (fed-append_state s xs ys)
    ∙ append_assoc (fed s xs).bytes (fed (fed s xs).state ys).bytes (finished (fed (fed s xs).state ys).state).bytes
said-parts s false xs ys = fed-append_bytes s xs ys

-- the same of what was half read then and what was put
pub said-taken : (s t : State) (xs waits items : List ℕ) → t ≡ (fed s xs).state → items ≡ waits ++ (fed s xs).bytes
    → (ends : Bool) → (ys : List ℕ) → waits ++ said s ends (xs ++ ys) ≡ items ++ said t ends ys
said-taken s t xs waits items is out ends ys =
    ap (λ (z : List ℕ). waits ++ z) (said-parts s ends xs ys) ∙ sym (append_assoc waits (fed s xs).bytes (said (fed s xs).state ends ys))
    ∙ ap (λ (z : List ℕ). z ++ said (fed s xs).state ends ys) (sym out) ∙ ap (λ (z : State). items ++ said z ends ys) (sym is)

-- of bytes that pass
pub said-passing : (s : State) (xs waits items : List ℕ) → Passes s xs → items ≡ waits ++ xs
    → (ends : Bool) → (ys : List ℕ) → waits ++ said s ends (xs ++ ys) ≡ items ++ said s ends ys
said-passing s xs waits items passes out =
    said-taken s s xs waits items (sym (ap (λ (x : Emitted). x.state) passes))
    (out ∙ sym (ap (λ (x : Emitted). waits ++ x.bytes) passes))

steps-parts : (s : State) (ends : Bool) (xs ys : List ℕ) → steps_said s ends (xs ++ ys) ≡ (fed s xs).steps + steps_said (fed s xs).state ends ys
steps-parts s true xs ys =
    ap (λ (k : ℕ). k + (finished (fed s (xs ++ ys)).state).steps) (fed-append_steps s xs ys)
    ∙ ap (λ (t : State). ((fed s xs).steps + (fed (fed s xs).state ys).steps) + (finished t).steps) (fed-append_state s xs ys)
    ∙ sym (add_assoc (fed s xs).steps (fed (fed s xs).state ys).steps (finished (fed (fed s xs).state ys).state).steps)
steps-parts s false xs ys = fed-append_steps s xs ys

pub counted-taken : (n n' k : ℕ) (s t : State) (xs : List ℕ) → t ≡ (fed s xs).state → k ≡ (fed s xs).steps → n' ≡ at_most (n + k)
    → (ends : Bool) → (ys : List ℕ) → counted n s ends (xs ++ ys) ≡ counted n' t ends ys
counted-taken n n' k s t xs is steps all ends ys =
    ap (λ (m : ℕ). at_most (n + m)) (steps-parts s ends xs ys)
    ∙ at_most-more n (fed s xs).steps (steps_said (fed s xs).state ends ys)
    ∙ ap (λ (m : ℕ). at_most (at_most (n + m) + steps_said (fed s xs).state ends ys)) (sym steps)
    ∙ ap (λ (m : ℕ). at_most (m + steps_said (fed s xs).state ends ys)) (sym all)
    ∙ ap (λ (z : State). at_most (n' + steps_said z ends ys)) (sym is)

pub counted-passing : (n n' k : ℕ) (s : State) (bytes : List ℕ) → k ≤ length bytes → Passes s (take k bytes) → n' ≡ at_most (n + k)
    → (ends : Bool) → (ys : List ℕ) → counted n s ends (take k bytes ++ ys) ≡ counted n' s ends ys
counted-passing n n' k s bytes within passes all =
    let count : k ≡ length (take k bytes) = (let cut = length-take k bytes in omega (arith, cut, within)) in
    counted-taken n n' k s s (take k bytes) (sym (ap (λ (x : Emitted). x.state) passes)) (count ∙ sym (ap (λ (x : Emitted). x.steps) passes)) all

pub counted-ended : (n n' k : ℕ) (s t : State) → k ≡ (finished s).steps → n' ≡ at_most (n + k) → counted n s true [] ≡ counted n' t false []
counted-ended n n' k s t steps all = omega (arith, steps, all)

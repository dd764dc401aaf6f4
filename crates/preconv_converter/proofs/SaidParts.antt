-- What goes out of a text, and in how many steps, is what comes of its parts.
use Rattle.std.proofs.Common.{◌≡◌, ℕ, ◌+◌, ◌<◌, List, [], ◌++◌, length, take, get_or, Bool, true, false, ◌∙◌, ap, sym, subst, append_assoc, append-nil, arith}
use Rattle.document_stages.specs.Running.{at_most}
use Rattle.document_stages.proofs.Runs.{at_most-more}
use Rattle.preconv_converter.specs.declared.reader.Reader.{Reader}
use Rattle.preconv_converter.specs.Reading.{Takes, fed, finished, pending_heard, read}
use Rattle.preconv_converter.specs.Staged.{counted, said, steps_said}
use Rattle.preconv_converter.proofs.Reading.{fed-append_reader, fed-append_bytes, fed-append_steps}
use Rattle.preconv_converter.proofs.Taking.{Takes-byte}

said-parts : (r : Reader) (ends : Bool) (xs ys : List ℕ) → said r ends (xs ++ ys) ≡ (fed r xs).bytes ++ said (fed r xs).reader ends ys
said-parts r true xs ys =
    ap (λ (z : List ℕ). z ++ finished (fed r (xs ++ ys)).reader) (fed-append_bytes r xs ys)
    ∙ ap (λ (s : Reader). ((fed r xs).bytes ++ (fed (fed r xs).reader ys).bytes) ++ finished s) (fed-append_reader r xs ys)
    ∙ append_assoc (fed r xs).bytes (fed (fed r xs).reader ys).bytes (finished (fed (fed r xs).reader ys).reader)
said-parts r false xs ys = fed-append_bytes r xs ys

plus_assoc : (a b c : ℕ) → a + b + c ≡ a + (b + c)
plus_assoc a b c = omega arith

steps-parts : (r : Reader) (ends : Bool) (xs ys : List ℕ) → steps_said r ends (xs ++ ys) ≡ (fed r xs).steps + steps_said (fed r xs).reader ends ys
steps-parts r true xs ys =
    ap (λ (k : ℕ). k + (pending_heard (fed r (xs ++ ys)).reader).steps) (fed-append_steps r xs ys)
    ∙ ap (λ (s : Reader). ((fed r xs).steps + (fed (fed r xs).reader ys).steps) + (pending_heard s).steps) (fed-append_reader r xs ys)
    ∙ plus_assoc (fed r xs).steps (fed (fed r xs).reader ys).steps (pending_heard (fed (fed r xs).reader ys).reader).steps
steps-parts r false xs ys = fed-append_steps r xs ys

-- ---- those that were taken

pub said-taken : (n : ℕ) (bytes : List ℕ) (r s : Reader) (waits items : List ℕ) (k : ℕ) → Takes n bytes r s waits items k
    → (ends : Bool) → (ys : List ℕ) → waits ++ said r ends (take n bytes ++ ys) ≡ items ++ said s ends ys
said-taken n bytes r s waits items k t ends ys =
    let xs = take n bytes in
    ap (λ (z : List ℕ). waits ++ z) (said-parts r ends xs ys) ∙ sym (append_assoc waits (fed r xs).bytes (said (fed r xs).reader ends ys))
    ∙ ap (λ (z : List ℕ). z ++ said (fed r xs).reader ends ys) (sym t.out) ∙ ap (λ (z : Reader). items ++ said z ends ys) (sym t.reader)

pub counted-taken : (m m' n : ℕ) (bytes : List ℕ) (r s : Reader) (waits items : List ℕ) (k : ℕ) → Takes n bytes r s waits items k → m' ≡ at_most (m + k)
    → (ends : Bool) → (ys : List ℕ) → counted m r ends (take n bytes ++ ys) ≡ counted m' s ends ys
counted-taken m m' n bytes r s waits items k t all ends ys =
    let xs = take n bytes in
    ap (λ (j : ℕ). at_most (m + j)) (steps-parts r ends xs ys)
    ∙ at_most-more m (fed r xs).steps (steps_said (fed r xs).reader ends ys)
    ∙ ap (λ (j : ℕ). at_most (at_most (m + j) + steps_said (fed r xs).reader ends ys)) (sym t.made)
    ∙ ap (λ (j : ℕ). at_most (j + steps_said (fed r xs).reader ends ys)) (sym all)
    ∙ ap (λ (z : Reader). at_most (m' + steps_said z ends ys)) (sym t.reader)

-- the first byte, where none was taken before
pub taken-first : (bytes : List ℕ) (r s u : Reader) (waits between items : List ℕ) (len n k j : ℕ) → n ≡ 0
    → Takes n (take len bytes) r s waits between k → 0 < length bytes
    → u ≡ (read (get_or bytes 0 0) s).reader → items ≡ between ++ (read (get_or bytes 0 0) s).bytes → j ≡ (read (get_or bytes 0 0) s).steps
    → Takes 1 bytes r u waits items j
taken-first bytes r s u waits between items len n k j zero t some reader out steps =
    let none : Takes 0 (take len bytes) r s waits between k = subst (λ i. Takes i (take len bytes) r s waits between k) zero t in
    let same : s ≡ r = none.reader in
    let stays : between ≡ waits = none.out ∙ append-nil waits in
    let b = get_or bytes 0 0 in
    Takes-byte bytes r u waits items j some (reader ∙ ap (λ (z : Reader). (read b z).reader) same)
    (out ∙ ap (λ (w : List ℕ). w ++ (read b s).bytes) stays ∙ ap (λ (z : Reader). waits ++ (read b z).bytes) same)
    (steps ∙ ap (λ (z : Reader). (read b z).steps) same)

-- ---- the end

pub counted-ended : (m m' k : ℕ) (r s : Reader) → k ≡ (pending_heard r).steps → m' ≡ at_most (m + k) → counted m r true [] ≡ counted m' s false []
counted-ended m m' k r s steps all = omega (arith, steps, all)

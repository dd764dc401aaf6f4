-- Many bytes, one after another.
use Rattle.std.proofs.Common.{◌≡◌, ℕ, ◌+◌, List, [], ◌∷◌, ◌++◌, refl, sym, ◌∙◌, ap, append_assoc, arith}
use Rattle.utf8_converter.specs.declared.reader.Reader.{Reader}
use Rattle.utf8_converter.specs.Reading.{Emitted, emitted, preceded, then_emitted, read, fed}

add_assoc : (a b c : ℕ) → a + (b + c) ≡ a + b + c
add_assoc a b c = omega arith

none_before : (n : ℕ) → 0 + n ≡ n
none_before n = omega arith

pub emitted-eq : (r s : Reader) (xs ys : List ℕ) (m n : ℕ) → r ≡ s → xs ≡ ys → m ≡ n → emitted r xs m ≡ emitted s ys n
emitted-eq r s xs ys m n p q e = cc

-- after nothing
pub preceded-none : (t : Emitted) → preceded [] 0 t ≡ t
preceded-none t = emitted-eq _ _ _ _ _ _ refl refl (none_before t.strays)

-- what comes of bytes in two parts
pub fed-append : (r : Reader) (xs ys : List ℕ) → fed r (xs ++ ys) ≡ then_emitted (fed r xs) (λ s. fed s ys)
fed-append r [] ys = sym (preceded-none (fed r ys))
fed-append r (x ∷ xs) ys =
    let t = read x r in
    let u = fed t.reader xs in
    let v = fed u.reader ys in
    let more : fed t.reader (xs ++ ys) ≡ then_emitted u (λ s. fed s ys) = fed-append t.reader xs ys in
    ap (preceded t.bytes t.strays) more
    ∙ emitted-eq _ _ _ _ _ _ refl (sym (append_assoc t.bytes u.bytes v.bytes)) (add_assoc t.strays u.strays v.strays)

pub fed-append_reader : (r : Reader) (xs ys : List ℕ) → (fed r (xs ++ ys)).reader ≡ (fed (fed r xs).reader ys).reader
fed-append_reader r xs ys = ap (λ (t : Emitted). t.reader) (fed-append r xs ys)

pub fed-append_bytes : (r : Reader) (xs ys : List ℕ) → (fed r (xs ++ ys)).bytes ≡ (fed r xs).bytes ++ (fed (fed r xs).reader ys).bytes
fed-append_bytes r xs ys = ap (λ (t : Emitted). t.bytes) (fed-append r xs ys)

pub fed-append_strays : (r : Reader) (xs ys : List ℕ) → (fed r (xs ++ ys)).strays ≡ (fed r xs).strays + (fed (fed r xs).reader ys).strays
fed-append_strays r xs ys = ap (λ (t : Emitted). t.strays) (fed-append r xs ys)

-- What several writes to known bytes come to.
use Rattle.std.proofs.Common.{◌≡◌, ℕ, ◌+◌, ◌-◌, ◌<◌, ◌≤◌, Bool, false, List, [], ◌∷◌, ◌++◌, Option, length, append_assoc, ap, ◌∙◌, take, drop, arith, sym, refl, subst, length-drop, take-append-drop}
use Rattle.std.specs.Io.KnownBytes.{Appends, Keeps}
use Rattle.std.proofs.KnownBytes.{Appends-trans, Appends-kept}
use Rattle.std.proofs.Math.Seq.{take-add}
use Rattle.std.proofs.lemmas.List.{take_rest}
use Rattle.nr_units.specs.Sink.{AppendsPrefix, passed_on_with}

-- a prefix and n bytes more
pub prefix_grows : (a b c : Option (List ℕ)) (bs : List ℕ) (done n : ℕ) → done ≤ length bs → n ≤ length (take (length bs - done) (drop done bs))
    → Appends a b (take done bs) → Appends b c (take n (take (length bs - done) (drop done bs)))
    → (done + n ≤ length bs) × Appends a c (take (done + n) bs)
prefix_grows a b c bs done n h k p q =
    let e = take_rest bs done in
    let k' = subst (λ xs. n ≤ length xs) e k in
    let q' = subst (λ xs. Appends b c (take n xs)) e q in
    (omega (arith, length-drop done bs), subst (Appends a c) (sym (take-add done n bs)) (Appends-trans a b c _ _ p q'))

-- an error that took nothing leaves a prefix
pub prefix_stays : (a b c : Option (List ℕ)) (bs : List ℕ) (done : ℕ) → Appends a b (take done bs) → Keeps b c → AppendsPrefix a c bs
prefix_stays a b c bs done p q = (take done bs, drop done bs, sym (take-append-drop done bs), Appends-kept a b c _ p q)

-- a prefix of some bytes is a prefix of these and more
pub AppendsPrefix-append : (a b : Option (List ℕ)) (bs cs : List ℕ) → AppendsPrefix a b bs → AppendsPrefix a b (bs ++ cs)
AppendsPrefix-append a b bs cs p = (p.0, p.1 ++ cs, ap (λ l. l ++ cs) p.2 ∙ append_assoc p.0 p.1 cs, p.3)

-- what was written whole, and then a prefix of the next bytes, is a prefix of all
pub AppendsPrefix-after : (a b c : Option (List ℕ)) (bs cs : List ℕ) → Appends a b bs → AppendsPrefix b c cs → AppendsPrefix a c (bs ++ cs)
AppendsPrefix-after a b c bs cs p q =
    (bs ++ q.0, q.1, ap (λ l. bs ++ l) q.2 ∙ sym (append_assoc bs q.0 q.1), Appends-trans a b c bs q.0 p q.3)

-- where a byte came, it is not known to be passed on
pub passed_on_with-some : (before : Bool) (bs : List ℕ) → 0 < length bs → passed_on_with before bs ≡ false
passed_on_with-some before [] some = absurd (omega arith)
passed_on_with-some before (b ∷ bs) some = refl

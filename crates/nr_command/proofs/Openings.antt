-- Texts that are opened one after the other.
use Rattle.std.proofs.Common.{◌≡◌, ℕ, ◌+◌, ◌≤◌, List, [], ◌∷◌, ◌++◌, length, take, drop, Option, Some, None, slice_get, Result, Ok, Err, IsOk, is_ok, if◌then◌else◌, zero, suc, refl, ap, ◌∙◌, append_assoc, add-one, arith}
use Rattle.std.specs.List.{AllZip}
use Rattle.nr_command.specs.Opening.{Asks}
use Rattle.std.proofs.lemmas.List.{take_all}

-- a fact of two lists, place by place, with one more item each
pub AllZip-last : {A B : Type 0} (R : A → B → Type 0) (xs : List A) (ys : List B) (x : A) (y : B) → AllZip R xs ys → R x y → AllZip R (xs ++ x ∷ []) (ys ++ y ∷ [])
AllZip-last R [] [] x y all here = (here, tt)
AllZip-last R [] (z ∷ ys) x y all here = absurd all
AllZip-last R (z ∷ xs) [] x y all here = absurd all
AllZip-last R (z ∷ xs) (w ∷ ys) x y all here = (all.0, AllZip-last R xs ys x y all.1 here)

-- of equal lists
pub AllZip-same : {A B : Type 0} (R : A → B → Type 0) (xs xs' : List A) (ys ys' : List B) → xs' ≡ xs → ys' ≡ ys → AllZip R xs ys → AllZip R xs' ys'
AllZip-same R xs xs' ys ys' e f all = rw e (rw f all)

-- a call that succeeded
pub if_ok : {T E A : Type 0} (r : Result T E) (a b : A) → IsOk r → (if is_ok r then a else b) ≡ a
if_ok (Ok x) a b ok = refl
if_ok (Err e) a b ok = cc

-- the prefix that ends with the item at a place
take-get_suc : {A : Type 0} (xs : List A) (n : ℕ) (x : A) → slice_get xs n ≡ Some x → take (suc n) xs ≡ take n xs ++ x ∷ []
take-get_suc [] n x e = cc
take-get_suc (y ∷ xs) zero x e = cc
take-get_suc (y ∷ xs) (suc n) x e = ap (λ l. y ∷ l) (take-get_suc xs n x e)

pub take-get : {A : Type 0} (xs : List A) (n : ℕ) (x : A) → slice_get xs n ≡ Some x → take (n + 1) xs ≡ take n xs ++ x ∷ []
take-get xs n x e = ap (λ k. take k xs) (add-one n) ∙ take-get_suc xs n x e

-- a list parted at an item
pub parted_at : {A : Type 0} (xs : List A) (n : ℕ) (x : A) → slice_get xs n ≡ Some x → xs ≡ take n xs ++ x ∷ drop (suc n) xs
parted_at [] n x e = cc
parted_at (y ∷ xs) zero x e = cc
parted_at (y ∷ xs) (suc n) x e = ap (λ l. y ∷ l) (parted_at xs n x e)

-- after the last place there is no more
pub take-none : {A : Type 0} (xs : List A) (n : ℕ) → slice_get xs n ≡ None → take n xs ≡ xs
take-none [] n e = take_all n [] (omega arith)
take-none (y ∷ xs) zero e = cc
take-none (y ∷ xs) (suc n) e = ap (λ l. y ∷ l) (take-none xs n e)

-- some were asked for, and then some more
pub Asks-then : {A : Type 0} (a b c : Option (List A)) (xs ys : List A) → Asks a b xs → Asks b c ys → Asks a c (xs ++ ys)
Asks-then None b c xs ys p q = tt
Asks-then (Some x) None c xs ys p q = absurd p
Asks-then (Some x) (Some y) None xs ys p q = absurd q
Asks-then (Some x) (Some y) (Some z) xs ys p q = q ∙ ap (λ l. l ++ ys) p ∙ append_assoc x xs ys

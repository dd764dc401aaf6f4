-- What goes out of several parts.
use Rattle.std.proofs.Common.{◌≡◌, ℕ, zero, suc, ◌+◌, ◌<◌, List, [], ◌∷◌, ◌++◌, length, take, drop, get_or, Bool, true, Option, Result, Ok, Err, OnOk, OnErr, codes, append_assoc, refl, sym, ap, subst, ◌∙◌}
use Rattle.std.proofs.KnownBytes.{Appends-trans}
use Rattle.std.proofs.lemmas.Grind.{flat_map-append}
use Rattle.std.proofs.lemmas.List.{append-nil, take_more}
use Rattle.std.specs.Io.KnownBytes.{Appends}
use Rattle.std.specs.List.{flat_map}
use Rattle.nr_units.proofs.Prefixes.{AppendsPrefix-after}
use Rattle.nr_units.specs.Sink.{AppendsPrefix}
use Rattle.filters_complaints.specs.Lines.{more_lines, place_text}

pub place_is : (p n l p' n' l' : List ℕ) → p ≡ p' → n ≡ n' → l ≡ l' → place_text p n l ≡ place_text p' n' l'
place_is p n l p' n' l' a b c = ap (λ x. place_text x n l) a ∙ ap (λ x. place_text p' x l) b ∙ ap (λ x. place_text p' n' x) c

last : {X : Type 0} (f : X → List ℕ) (xs : List X) (x : X) → flat_map f (xs ++ x ∷ []) ≡ flat_map f xs ++ f x
last f xs x = flat_map-append f xs (x ∷ []) ∙ ap (λ l. flat_map f xs ++ l) (append-nil (f x))

rest : {X : Type 0} (f : X → List ℕ) (xs : List X) (i : ℕ) → flat_map f xs ≡ flat_map f (take i xs) ++ flat_map f (drop i xs)
rest f xs zero = refl
rest f [] (suc i) = refl
rest f (x ∷ xs) (suc i) = ap (λ l. f x ++ l) (rest f xs i) ∙ sym (append_assoc (f x) (flat_map f (take i xs)) (flat_map f (drop i xs)))

-- one line more
pub lines-more : {X : Type 0} (f : X → List ℕ) (xs : List X) (i : ℕ) (x : X) → i < length xs → x ≡ get_or xs i x
    → flat_map f (take (i + 1) xs) ≡ flat_map f (take i xs) ++ f x
lines-more f xs i x within is =
    ap (flat_map f) (take_more xs i x within) ∙ (last f (take i xs) (get_or xs i x) ∙ ap (λ y. flat_map f (take i xs) ++ f y) (sym is))

-- those before a line, the line, and those after it
pub lines-at : {X : Type 0} (f : X → List ℕ) (xs : List X) (i : ℕ) (x : X) → i < length xs → x ≡ get_or xs i x
    → flat_map f xs ≡ (flat_map f (take i xs) ++ f x) ++ flat_map f (drop (i + 1) xs)
lines-at f xs i x within is = rest f xs (i + 1) ∙ ap (λ l. l ++ flat_map f (drop (i + 1) xs)) (lines-more f xs i x within is)

-- ---- parts of a line

pub more_is : (p n p' n' : List ℕ) (missed : Bool) → p ≡ p' → n ≡ n' → missed ≡ true
    → p ++ (codes ": " ++ (n ++ codes ": and more\n")) ≡ more_lines p' n' missed
more_is p n p' n' missed a b is =
    ap (λ x. x ++ (codes ": " ++ (n ++ codes ": and more\n"))) a
    ∙ (ap (λ x. p' ++ (codes ": " ++ (x ++ codes ": and more\n"))) b ∙ ap (more_lines p' n') (sym is))

-- ---- one after the other

pub ok_is : {T E : Type 0} (r : Result T E) (a b : Option (List ℕ)) (xs ys : List ℕ) → xs ≡ ys → OnOk r (Appends a b xs) → OnOk r (Appends a b ys)
ok_is r a b xs ys same ok = subst (λ (zs : List ℕ). OnOk r (Appends a b zs)) same ok

pub err_is : {T E : Type 0} (r : Result T E) (a b : Option (List ℕ)) (xs ys : List ℕ) → xs ≡ ys → OnErr r (AppendsPrefix a b xs) → OnErr r (AppendsPrefix a b ys)
err_is r a b xs ys same err = subst (λ (zs : List ℕ). OnErr r (AppendsPrefix a b zs)) same err

pub ok_after : {T E : Type 0} (r : Result T E) (a b c : Option (List ℕ)) (xs ys : List ℕ) → Appends a b xs → OnOk r (Appends b c ys) → OnOk r (Appends a c (xs ++ ys))
ok_after (Ok x) a b c xs ys first next = Appends-trans a b c xs ys first next
ok_after (Err e) a b c xs ys first next = next

pub err_after : {T E : Type 0} (r : Result T E) (a b c : Option (List ℕ)) (xs ys : List ℕ) → Appends a b xs → OnErr r (AppendsPrefix b c ys)
    → OnErr r (AppendsPrefix a c (xs ++ ys))
err_after (Ok x) a b c xs ys first next = next
err_after (Err e) a b c xs ys first next = AppendsPrefix-after a b c xs ys first next

-- What goes out of a text is what goes out of its parts.
use Rattle.std.proofs.Common.{◌≡◌, ℕ, List, [], ◌∷◌, ◌++◌, Bool, true, false, refl, sym, ◌∙◌, ap, append_assoc}
use Rattle.utf8_own_characters.specs.declared.listening.Listener.{Listener}
use Rattle.utf8_own_characters.specs.Listening.{after, read}
use Rattle.utf8_own_characters.specs.Table.{Characters}
use Rattle.utf8_own_characters.proofs.Letters.{after-append}
use Rattle.utf8_own_stage.specs.declared.points.Place.{Place}
use Rattle.utf8_own_stage.specs.Coding.{said, said_of, said_last, place_after, place_after_all, coding}

pub place-append : (l : Listener) (p : Place) (xs ys : List ℕ) → place_after_all l p (xs ++ ys) ≡ place_after_all (after l xs) (place_after_all l p xs) ys
place-append l p [] ys = refl
place-append l p (x ∷ xs) ys = place-append (read l x).listener (place_after p (read l x)) xs ys

pub said-append : (t : Characters) (l : Listener) (p : Place) (xs ys : List ℕ)
    → said_of t l p (xs ++ ys) ≡ said_of t l p xs ++ said_of t (after l xs) (place_after_all l p xs) ys
said-append t l p [] ys = refl
said-append t l p (x ∷ xs) ys =
    let m = (read l x).listener in
    let q = place_after p (read l x) in
    ap (λ (z : List ℕ). said t p (read l x) ++ z) (said-append t m q xs ys)
    ∙ sym (append_assoc (said t p (read l x)) (said_of t m q xs) (said_of t (after m xs) (place_after_all m q xs) ys))

pub coding-parts : (t : Characters) (l : Listener) (p : Place) (ends : Bool) (xs ys : List ℕ)
    → coding t l p ends (xs ++ ys) ≡ said_of t l p xs ++ coding t (after l xs) (place_after_all l p xs) ends ys
coding-parts t l p false xs ys = said-append t l p xs ys
coding-parts t l p true xs ys =
    let m = after l xs in
    let q = place_after_all l p xs in
    ap (λ (z : List ℕ). z ++ said_last t (place_after_all l p (xs ++ ys)) (after l (xs ++ ys)).held) (said-append t l p xs ys)
    ∙ ap (λ (z : Listener). (said_of t l p xs ++ said_of t m q ys) ++ said_last t (place_after_all l p (xs ++ ys)) z.held) (after-append l xs ys)
    ∙ ap (λ (z : Place). (said_of t l p xs ++ said_of t m q ys) ++ said_last t z (after m ys).held) (place-append l p xs ys)
    ∙ append_assoc (said_of t l p xs) (said_of t m q ys) (said_last t (place_after_all m q ys) (after m ys).held)

-- of what was put, and what the listener and the place became
pub coding-taken : (t : Characters) (l m : Listener) (p q : Place) (xs waits items : List ℕ) → m ≡ after l xs → q ≡ place_after_all l p xs
    → items ≡ waits ++ said_of t l p xs → (ends : Bool) (ys : List ℕ) → waits ++ coding t l p ends (xs ++ ys) ≡ items ++ coding t m q ends ys
coding-taken t l m p q xs waits items heard placed out ends ys =
    ap (λ (z : List ℕ). waits ++ z) (coding-parts t l p ends xs ys)
    ∙ sym (append_assoc waits (said_of t l p xs) (coding t (after l xs) (place_after_all l p xs) ends ys))
    ∙ ap (λ (z : List ℕ). z ++ coding t (after l xs) (place_after_all l p xs) ends ys) (sym out)
    ∙ ap (λ (z : Listener). items ++ coding t z (place_after_all l p xs) ends ys) (sym heard)
    ∙ ap (λ (z : Place). items ++ coding t m z ends ys) (sym placed)

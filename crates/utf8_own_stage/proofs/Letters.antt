-- A letter of three bytes is put at once: of the first two comes nothing.
use Rattle.std.proofs.Common.{◌≡◌, ℕ, ◌≤◌, List, [], ◌∷◌, ◌++◌, ◌+◌, take, drop, get_or, true, sym, ◌∙◌, ap, append-nil, append_assoc}
use Rattle.utf8_own_characters.specs.declared.listening.Listener.{Listener}
use Rattle.utf8_own_characters.specs.declared.listening.Listened.{Listened}
use Rattle.utf8_own_characters.specs.Listening.{after, is_three, read}
use Rattle.utf8_own_characters.specs.Table.{Characters}
use Rattle.utf8_own_characters.proofs.Letters.{parted, three_quiet}
use Rattle.utf8_own_stage.specs.declared.points.Place.{Place}
use Rattle.utf8_own_stage.specs.Coding.{place_after, place_after_all, said, said_of}
use Rattle.utf8_own_stage.proofs.Parts.{place-append, said-append}

-- ---- so of a letter comes what comes of its last byte

pub record Comes (l : Listener) (a b c : ℕ) : Type 0 where
  pub said : (t : Characters) (p : Place) → said_of t l p (a ∷ b ∷ c ∷ []) ≡ said t p (read (read (read l a).listener b).listener c)
  pub place : (p : Place) → place_after_all l p (a ∷ b ∷ c ∷ []) ≡ place_after p (read (read (read l a).listener b).listener c)

three_come : (l : Listener) (a b c : ℕ) → is_three a b c ≡ true → Comes l a b c
three_come l a b c three =
    let q = three_quiet l a b c three in
    record {
      said = λ t p.
          ap (λ (x : Listened). said t p x ++ said_of t x.listener (place_after p x) (b ∷ c ∷ [])) q.first
          ∙ ap (λ (x : Listened). said t p x ++ (said t (place_after p x) (read x.listener c) ++ [])) q.second
          ∙ append-nil (said t p (read q.two c))
          ∙ ap (λ (x : Listened). said t p (read x.listener c)) (sym q.second)
          ∙ ap (λ (x : Listened). said t p (read (read x.listener b).listener c)) (sym q.first);
      place = λ p.
          ap (λ (x : Listened). place_after_all x.listener (place_after p x) (b ∷ c ∷ [])) q.first
          ∙ ap (λ (x : Listened). place_after (place_after p x) (read x.listener c)) q.second
          ∙ ap (λ (x : Listened). place_after p (read x.listener c)) (sym q.second)
          ∙ ap (λ (x : Listened). place_after p (read (read x.listener b).listener c)) (sym q.first);
    }

pub letter_comes : (l : Listener) (bs : List ℕ) → is_three (get_or bs 0 0) (get_or bs 1 0) (get_or bs 2 0) ≡ true
    → Comes l (get_or bs 0 0) (get_or bs 1 0) (get_or bs 2 0)
letter_comes l bs three = three_come l (get_or bs 0 0) (get_or bs 1 0) (get_or bs 2 0) three

-- ---- more of a text was put: of what is left after n bytes, the first j of k

pub more_placed : (l m : Listener) (p q : Place) (bs : List ℕ) (n k j : ℕ) → j ≤ k → m ≡ after l (take j (take k (drop n bs)))
    → q ≡ place_after_all l p (take j (take k (drop n bs)))
    → place_after_all m q (drop (n + j) bs) ≡ place_after_all l p (drop n bs)
more_placed l m p q bs n k j few listened placed =
    ap (λ (z : Listener). place_after_all z q (drop (n + j) bs)) listened
    ∙ ap (λ (z : Place). place_after_all (after l (take j (take k (drop n bs)))) z (drop (n + j) bs)) placed
    ∙ sym (place-append l p (take j (take k (drop n bs))) (drop (n + j) bs))
    ∙ ap (place_after_all l p) (parted bs n k j few)

pub more_said : (t : Characters) (l m : Listener) (p q : Place) (bs : List ℕ) (n k j : ℕ) (out items : List ℕ) → j ≤ k
    → m ≡ after l (take j (take k (drop n bs))) → q ≡ place_after_all l p (take j (take k (drop n bs)))
    → items ≡ out ++ said_of t l p (take j (take k (drop n bs)))
    → items ++ said_of t m q (drop (n + j) bs) ≡ out ++ said_of t l p (drop n bs)
more_said t l m p q bs n k j out items few listened placed put =
    let xs = take j (take k (drop n bs)) in
    let ys = drop (n + j) bs in
    ap (λ (zs : List ℕ). zs ++ said_of t m q ys) put
    ∙ append_assoc out (said_of t l p xs) (said_of t m q ys)
    ∙ ap (λ (z : Listener). out ++ (said_of t l p xs ++ said_of t z q ys)) listened
    ∙ ap (λ (z : Place). out ++ (said_of t l p xs ++ said_of t (after l xs) z ys)) placed
    ∙ ap (λ (zs : List ℕ). out ++ zs) (sym (said-append t l p xs ys) ∙ ap (said_of t l p) (parted bs n k j few))

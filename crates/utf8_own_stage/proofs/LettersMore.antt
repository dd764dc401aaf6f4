-- Letters of three bytes one after another: of each comes what was held before it.
use Rattle.std.proofs.Common.{◌≡◌, ℕ, List, [], ◌∷◌, ◌++◌, ◌+◌, suc, zero, length, take, drop, get_or, refl, sym, ◌∙◌, ap, append-nil, arith, ◌<◌}
use Rattle.std.proofs.lemmas.List.{take_more}
use Rattle.utf8_own_characters.specs.declared.listening.Listener.{Listener}
use Rattle.utf8_own_characters.specs.declared.listening.Listened.{Listened}
use Rattle.utf8_own_characters.specs.Listening.{after}
use Rattle.utf8_own_characters.specs.Table.{Characters}
use Rattle.utf8_own_characters.proofs.Letters.{after-append, prefix_three}
use Rattle.utf8_own_stage.specs.declared.points.Place.{Place}
use Rattle.utf8_own_stage.specs.Coding.{after_cluster, place_after, place_after_all, said, said_cluster, said_of}
use Rattle.utf8_own_stage.specs.Letters.{Begins, holding}
use Rattle.utf8_own_stage.proofs.Letters.{letter_comes}
use Rattle.utf8_own_stage.specs.Points.{first_place}
use Rattle.utf8_own_stage.proofs.Parts.{place-append, said-append}

take_none : (j : ℕ) → take {A = ℕ} j [] ≡ []
take_none zero = refl
take_none (suc j) = refl

pub take_plus : (i j : ℕ) (xs : List ℕ) → take (i + j) xs ≡ take i xs ++ take j (drop i xs)
take_plus zero j xs = let none : 0 + j ≡ j = omega arith in ap (λ (n : ℕ). take n xs) none
take_plus (suc i) j [] = let more : suc i + j ≡ suc (i + j) = omega arith in ap (λ (n : ℕ). take n []) more ∙ sym (take_none j)
take_plus (suc i) j (x ∷ xs) =
    let more : suc i + j ≡ suc (i + j) = omega arith in
    ap (λ (n : ℕ). take n (x ∷ xs)) more ∙ ap (λ (zs : List ℕ). x ∷ zs) (take_plus i j xs)

-- ---- of one letter

pub record OfLetter (l : Listener) (p : Place) (bs : List ℕ) (c : ℕ) : Type 0 where
  pub heard : after l (take 3 bs) ≡ holding c
  pub placed : place_after_all l p (take 3 bs) ≡ after_cluster p l.held
  pub said : (t : Characters) → said_of t l p (take 3 bs) ≡ said_cluster t p l.held

pub of_letter : (l : Listener) (p : Place) (bs : List ℕ) (c : ℕ) → Begins bs c → OfLetter l p bs c
of_letter l p bs c is =
    let comes = letter_comes l bs is.three in
    let prefix = prefix_three bs is.long in
    record {
      heard = ap (after l) prefix ∙ ap (λ (x : Listened). x.listener) (is.letter l);
      placed = ap (place_after_all l p) prefix ∙ comes.place p ∙ ap (place_after p) (is.letter l);
      said = λ t. ap (said_of t l p) prefix ∙ comes.said t p ∙ ap (said t p) (is.letter l) ∙ append-nil (said_cluster t p l.held);
    }

-- ---- of the first n bytes of a text, and of a letter after them

pub record After (l m : Listener) (p q : Place) (bs : List ℕ) (n : ℕ) : Type 0 where
  pub heard : m ≡ after l (take n bs)
  pub placed : q ≡ place_after_all l p (take n bs)

pub after_more : (l m : Listener) (p q : Place) (bs : List ℕ) (n : ℕ) (c : ℕ) → After l m p q bs n → Begins (drop n bs) c
    → After l (holding c) p (after_cluster q m.held) bs (n + 3)
after_more l m p q bs n c so is =
    let one = of_letter m q (drop n bs) c is in
    record {
      heard =
          sym one.heard
          ∙ ap (λ (x : Listener). after x (take 3 (drop n bs))) so.heard
          ∙ sym (after-append l (take n bs) (take 3 (drop n bs)))
          ∙ ap (after l) (sym (take_plus n 3 bs));
      placed =
          sym one.placed
          ∙ ap (λ (x : Listener). place_after_all x q (take 3 (drop n bs))) so.heard
          ∙ ap (λ (x : Place). place_after_all (after l (take n bs)) x (take 3 (drop n bs))) so.placed
          ∙ sym (place-append l p (take n bs) (take 3 (drop n bs)))
          ∙ ap (place_after_all l p) (sym (take_plus n 3 bs));
    }

pub said_more : (t : Characters) (l m : Listener) (p q : Place) (bs : List ℕ) (n : ℕ) (c : ℕ) → After l m p q bs n → Begins (drop n bs) c
    → said_of t l p (take n bs) ++ said_cluster t q m.held ≡ said_of t l p (take (n + 3) bs)
said_more t l m p q bs n c so is =
    ap (λ (zs : List ℕ). said_of t l p (take n bs) ++ zs) (sym ((of_letter m q (drop n bs) c is).said t))
    ∙ ap (λ (x : Listener). said_of t l p (take n bs) ++ said_of t x q (take 3 (drop n bs))) so.heard
    ∙ ap (λ (x : Place). said_of t l p (take n bs) ++ said_of t (after l (take n bs)) x (take 3 (drop n bs))) so.placed
    ∙ sym (said-append t l p (take n bs) (take 3 (drop n bs)))
    ∙ ap (said_of t l p) (sym (take_plus n 3 bs))

-- ---- of the first letter and those after it

pub heard_rest : (l : Listener) (bs : List ℕ) (c n : ℕ) → Begins bs c → after (holding c) (take n (drop 3 bs)) ≡ after l (take (3 + n) bs)
heard_rest l bs c n is =
    ap (λ (x : Listener). after x (take n (drop 3 bs))) (sym ((of_letter l first_place bs c is).heard))
    ∙ sym (after-append l (take 3 bs) (take n (drop 3 bs)))
    ∙ ap (after l) (sym (take_plus 3 n bs))

pub placed_rest : (l : Listener) (p : Place) (bs : List ℕ) (c n : ℕ) → Begins bs c
    → place_after_all (holding c) (after_cluster p l.held) (take n (drop 3 bs)) ≡ place_after_all l p (take (3 + n) bs)
placed_rest l p bs c n is =
    let one = of_letter l p bs c is in
    ap (λ (x : Listener). place_after_all x (after_cluster p l.held) (take n (drop 3 bs))) (sym one.heard)
    ∙ ap (λ (x : Place). place_after_all (after l (take 3 bs)) x (take n (drop 3 bs))) (sym one.placed)
    ∙ sym (place-append l p (take 3 bs) (take n (drop 3 bs)))
    ∙ ap (place_after_all l p) (sym (take_plus 3 n bs))

pub said_rest : (t : Characters) (l : Listener) (p : Place) (bs : List ℕ) (c n : ℕ) → Begins bs c
    → said_cluster t p l.held ++ said_of t (holding c) (after_cluster p l.held) (take n (drop 3 bs)) ≡ said_of t l p (take (3 + n) bs)
said_rest t l p bs c n is =
    let one = of_letter l p bs c is in
    ap (λ (zs : List ℕ). zs ++ said_of t (holding c) (after_cluster p l.held) (take n (drop 3 bs))) (sym (one.said t))
    ∙ ap (λ (x : Listener). said_of t l p (take 3 bs) ++ said_of t x (after_cluster p l.held) (take n (drop 3 bs))) (sym one.heard)
    ∙ ap (λ (x : Place). said_of t l p (take 3 bs) ++ said_of t (after l (take 3 bs)) x (take n (drop 3 bs))) (sym one.placed)
    ∙ sym (said-append t l p (take 3 bs) (take n (drop 3 bs)))
    ∙ ap (said_of t l p) (sym (take_plus 3 n bs))

-- ---- of one more byte

pub after_one : (l m : Listener) (p q : Place) (bs : List ℕ) (n : ℕ) → n < length bs → After l m p q bs n
    → After l (after m (get_or bs n 0 ∷ [])) p (place_after_all m q (get_or bs n 0 ∷ [])) bs (n + 1)
after_one l m p q bs n inside so =
    let one : List ℕ = get_or bs n 0 ∷ [] in
    let more = take_more bs n 0 inside in
    record {
      heard =
          ap (λ (x : Listener). after x one) so.heard
          ∙ sym (after-append l (take n bs) one)
          ∙ ap (after l) (sym more);
      placed =
          ap (λ (x : Listener). place_after_all x q one) so.heard
          ∙ ap (λ (x : Place). place_after_all (after l (take n bs)) x one) so.placed
          ∙ sym (place-append l p (take n bs) one)
          ∙ ap (place_after_all l p) (sym more);
    }

pub said_one : (t : Characters) (l m : Listener) (p q : Place) (bs : List ℕ) (n : ℕ) → n < length bs → After l m p q bs n
    → said_of t l p (take n bs) ++ said_of t m q (get_or bs n 0 ∷ []) ≡ said_of t l p (take (n + 1) bs)
said_one t l m p q bs n inside so =
    let one : List ℕ = get_or bs n 0 ∷ [] in
    ap (λ (x : Listener). said_of t l p (take n bs) ++ said_of t x q one) so.heard
    ∙ ap (λ (x : Place). said_of t l p (take n bs) ++ said_of t (after l (take n bs)) x one) so.placed
    ∙ sym (said-append t l p (take n bs) one)
    ∙ ap (said_of t l p) (sym (take_more bs n 0 inside))

-- of these bytes nothing was read
pub after_none : (l : Listener) (p : Place) (bs : List ℕ) → After l l p p bs 0
after_none l p bs = record { heard = refl; placed = refl }

-- Bytes that are gathered, a few after others.
use Rattle.std.proofs.Common.{◌≡◌, ℕ, ◌+◌, ◌-◌, ◌≤◌, List, [], ◌∷◌, ◌++◌, take, replicate, drop, Option, Result, Ok, Err, OnErr, sym, ap, ◌∙◌, append_assoc, append-nil, arith}
use Rattle.std.proofs.Math.Seq.{take-add}
use Rattle.std.proofs.lemmas.List.{take-append-drop, replicate_more, replicate-append-replicate}
use Rattle.std.proofs.lemmas.List.Concat.{flat_map-append}
use Rattle.std.specs.List.{flat_map}
use Rattle.nr_units.proofs.Prefixes.{AppendsPrefix-append}
use Rattle.std.proofs.KnownBytes.{Appends-trans}
use Rattle.nr_units.specs.Sink.{AppendsPrefix}
use Rattle.nr_page.specs.Gathering.{Gathers, GathersOrFails}

pub Gathers-push : {a b : Option (List ℕ)} {p q xs : List ℕ} → Gathers a b p q xs → (ys : List ℕ) → Gathers a b p (q ++ ys) (xs ++ ys)
Gathers-push {a} {b} {p} {q} {xs} h ys = record {
  out = h.out;
  went_out = h.went_out;
  all = sym (append_assoc p xs ys) ∙ ap (λ l. l ++ ys) h.all ∙ append_assoc h.out q ys;
}

pub Gathers-append : {a b c : Option (List ℕ)} {p q r xs ys : List ℕ} → Gathers a b p q xs → Gathers b c q r ys → Gathers a c p r (xs ++ ys)
Gathers-append {a} {b} {c} {p} {q} {r} {xs} {ys} g h = record {
  out = g.out ++ h.out;
  went_out = Appends-trans a b c g.out h.out g.went_out h.went_out;
  all = sym (append_assoc p xs ys) ∙ ap (λ l. l ++ ys) g.all ∙ append_assoc g.out q ys ∙ ap (λ l. g.out ++ l) h.all ∙ sym (append_assoc g.out h.out r);
}

-- bytes were gathered and then others, the last of which are still pending
pub Gathers-both : {a b c : Option (List ℕ)} {p q r xs ys : List ℕ} (s zs all : List ℕ) → Gathers a b p q xs → Gathers b c q r ys
    → s ≡ r ++ zs → all ≡ (xs ++ ys) ++ zs → Gathers a c p s all
Gathers-both s zs all g h left_is all_is = rw (left_is, all_is) (Gathers-push (Gathers-append g h) zs)

-- bytes were gathered, and of those that came then only a prefix went out
pub Gathers-prefix : (a b c : Option (List ℕ)) (p q xs ys rest all : List ℕ) → Gathers a b p q xs → AppendsPrefix b c (q ++ ys) → all ≡ (xs ++ ys) ++ rest
    → AppendsPrefix a c (p ++ all)
Gathers-prefix a b c p q xs ys rest all g h all_is =
    let whole : AppendsPrefix a c (p ++ (xs ++ ys)) = (
      g.out ++ h.0,
      h.1,
      sym (append_assoc p xs ys) ∙ ap (λ l. l ++ ys) g.all ∙ append_assoc g.out q ys ∙ ap (λ l. g.out ++ l) h.2 ∙ sym (append_assoc g.out h.0 h.1),
      Appends-trans a b c g.out h.0 g.went_out h.3,
    ) in
    rw (all_is, ← append_assoc p (xs ++ ys) rest) (AppendsPrefix-append a c (p ++ (xs ++ ys)) rest whole)

-- what a function gives for the first elements, and for some more
pub flat_map-take-add : {X : Type 0} (f : X → List ℕ) (cells : List X) (i n : ℕ) → flat_map f (take (i + n) cells) ≡ (flat_map f (take i cells) ++ []) ++ flat_map f (take (i + n - i) (drop i cells))
flat_map-take-add f cells i n =
    let n_is : i + n - i ≡ n = omega arith in
    ap (flat_map f) (take-add i n cells) ∙ flat_map-append f (take i cells) (take n (drop i cells))
    ∙ rw (append-nil (flat_map f (take i cells)), n_is)

-- what it gives for the first elements is a prefix of what it gives for all
pub flat_map-take-prefix : {X : Type 0} (f : X → List ℕ) (cells : List X) (i : ℕ) → flat_map f cells ≡ (flat_map f (take i cells) ++ []) ++ flat_map f (drop i cells)
flat_map-take-prefix f cells i = ap (flat_map f) (sym (take-append-drop i cells)) ∙ flat_map-append f (take i cells) (drop i cells) ∙ rw (append-nil (flat_map f (take i cells)))

pub replicate-more : (n y : ℕ) → replicate (n + 1) y ≡ (replicate n y ++ []) ++ y ∷ []
replicate-more n y = rw (append-nil (replicate n y)) (sym (replicate_more n y))

pub replicate-prefix : (i n y : ℕ) → i ≤ n → replicate n y ≡ (replicate i y ++ []) ++ replicate (n - i) y
replicate-prefix i n y h =
    let all : i + (n - i) ≡ n = omega arith in
    rw (append-nil (replicate i y)) (ap (λ m. replicate m y) (sym all) ∙ sym (replicate-append-replicate i (n - i) y))

-- what failed before bytes were all there took a prefix of what was to follow too
pub prefix_of_more : (a b : Option (List ℕ)) (p xs ys : List ℕ) → AppendsPrefix a b (p ++ xs) → AppendsPrefix a b (p ++ (xs ++ ys))
prefix_of_more a b p xs ys h = rw (← append_assoc p xs ys) (AppendsPrefix-append a b (p ++ xs) ys h)

-- bytes were gathered, and then a call ended the work
pub GathersOrFails-last : {E : Type 0} (a b c : Option (List ℕ)) (p q r xs ys all : List ℕ) (result : Result (Unit {0}) E) → Gathers a b p q xs → GathersOrFails b c q r ys result
    → all ≡ xs ++ ys → GathersOrFails a c p r all result
GathersOrFails-last a b c p q r xs ys all (Ok x) g h is = rw is (Gathers-append g h)
GathersOrFails-last a b c p q r xs ys all (Err e) g h is = Gathers-prefix a b c p q xs ys [] all g h (is ∙ sym (append-nil (xs ++ ys)))

-- a call that failed after bytes were gathered, with none pending at first
pub OnErr-GathersOrFails : {E : Type 0} (a b c : Option (List ℕ)) (q r bs : List ℕ) (result : Result (Unit {0}) E) → Gathers a b [] q bs → GathersOrFails b c q r [] result
    → OnErr result (AppendsPrefix a c bs)
OnErr-GathersOrFails a b c q r bs (Ok x) g h = tt
OnErr-GathersOrFails a b c q r bs (Err e) g h = GathersOrFails-last a b c [] q r bs [] bs (Err e) g h (sym (append-nil bs))

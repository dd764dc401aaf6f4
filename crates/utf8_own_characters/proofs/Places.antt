-- A cluster is found where it stands.
use Rattle.std.proofs.Common.{◌≡◌, ℕ, zero, suc, ◌+◌, ◌-◌, ◌*◌, ◌/◌, ◌%◌, ◌<◌, ◌≤◌, List, [], ◌∷◌, ◌++◌, length, Bool, true, false, not, ◌==◌, ◌&&◌, ◌||◌, nat_lt, if◌then◌else◌, Option, None, Some, slice_get, refl, sym, ◌∙◌, ap, subst, arith}
use Rattle.std.proofs.Math.Nat.{mod-lt}
use Rattle.std.proofs.lemmas.Nat.{div_below}
use Rattle.utf8_own_characters.specs.declared.cluster.Cluster.{Cluster}
use Rattle.utf8_own_characters.specs.Cluster as of
use Rattle.utf8_own_characters.specs.Cluster.{single, is_ascii, is_wide}
use Rattle.utf8_own_characters.specs.Table.{place_from, place_of, is_none, is_among, is_distinct, all_narrow, all_wide}
use Rattle.utf8_own_characters.proofs.Tests.{and_first, and_second, and_true, or_second, or_true, or_left, not_true, not_both, if_not, if_so, some_of, no_some, same_is, is_same}

-- ---- clusters that are the same

abbrev made : ℕ → ℕ → ℕ → ℕ → Cluster
made l f s t = record { letter = l; first_mark = f; second_mark = s; third_mark = t }

same_made : (l l' f f' s s' t t' : ℕ) → l ≡ l' → f ≡ f' → s ≡ s' → t ≡ t' → made l f s t ≡ made l' f' s' t'
same_made l l' f f' s s' t t' p q r u =
    ap (λ (x : ℕ). made x f s t) p ∙ ap (λ (x : ℕ). made l' x s t) q
    ∙ ap (λ (x : ℕ). made l' f' x t) r ∙ ap (λ (x : ℕ). made l' f' s' x) u

pub same_cluster : (a b : Cluster) → of.is_same a b ≡ true → a ≡ b
same_cluster a b e =
    let A = a.letter == b.letter in
    let B = a.first_mark == b.first_mark in
    let C = a.second_mark == b.second_mark in
    let D = a.third_mark == b.third_mark in
    let abc = and_first (A && B && C) D e in
    let ab = and_first (A && B) C abc in
    same_made a.letter b.letter a.first_mark b.first_mark a.second_mark b.second_mark a.third_mark b.third_mark
    (is_same a.letter b.letter (and_first A B ab))
    (is_same a.first_mark b.first_mark (and_second A B ab))
    (is_same a.second_mark b.second_mark (and_second (A && B) C abc))
    (is_same a.third_mark b.third_mark (and_second (A && B && C) D e))

same_self : (a : Cluster) → of.is_same a a ≡ true
same_self a =
    let A = a.letter == a.letter in
    let B = a.first_mark == a.first_mark in
    let C = a.second_mark == a.second_mark in
    let D = a.third_mark == a.third_mark in
    and_true (A && B && C) D
    (and_true (A && B) C (and_true A B (same_is a.letter a.letter refl) (same_is a.first_mark a.first_mark refl)) (same_is a.second_mark a.second_mark refl))
    (same_is a.third_mark a.third_mark refl)

pub cluster_same : (a b : Cluster) → a ≡ b → of.is_same a b ≡ true
cluster_same a b e = let P : Cluster → Type 0 = λ x. of.is_same a x ≡ true in subst P e (same_self a)

none_by : (c : Cluster) (x : Bool) → is_none c ≡ x → is_ascii c ≡ false → x ≡ false
none_by c false e p = refl
none_by c true e p =
    let P : Cluster → Type 0 = λ k. is_ascii k ≡ false in
    let q : is_ascii (single 0) ≡ false = subst P (same_cluster c (single 0) e) p in
    absurd (let no : true ≡ false = q in cc)

-- NUL is a character of ASCII
pub not_none : (c : Cluster) → is_ascii c ≡ false → is_none c ≡ false
not_none c p = none_by c (is_none c) refl p

-- ---- what is found stands there

record Found (k : ℕ) (xs : List Cluster) (c : Cluster) (b : ℕ) : Type 0 where
  at : ℕ
  is : b ≡ k + at
  there : slice_get xs at ≡ Some c

found_by : (t : Bool) (k : ℕ) (x : Cluster) (xs : List Cluster) (c : Cluster) (b : ℕ) → of.is_same x c ≡ t
    → (if t then Some k else place_from (k + 1) xs c) ≡ Some b
    → (place_from (k + 1) xs c ≡ Some b → Found (k + 1) xs c b) → Found k (x ∷ xs) c b
found_by true k x xs c b e p later =
    let q : k ≡ b = some_of k b p in record { at = zero; is = omega arith; there = ap Some (same_cluster x c e) }
found_by false k x xs c b e p later =
    let f = later p in let q : b ≡ k + 1 + f.at = f.is in record { at = suc f.at; is = omega arith; there = f.there }

found : (k : ℕ) (xs : List Cluster) (c : Cluster) (b : ℕ) → place_from k xs c ≡ Some b → Found k xs c b
found k [] c b p = no_some b p
found k (x ∷ xs) c b p = found_by (of.is_same x c) k x xs c b refl p (found (k + 1) xs c b)

pub stands_there : (xs : List Cluster) (c : Cluster) (n : ℕ) → place_of xs c ≡ Some n → slice_get xs n ≡ Some c
stands_there xs c n p =
    let f = found 0 xs c n p in
    let e : f.at ≡ n = (let q : n ≡ 0 + f.at = f.is in omega arith) in
    let P : ℕ → Type 0 = λ k. slice_get xs k ≡ Some c in
    subst P e f.there

-- ---- what stands once is found at its place

among : (xs : List Cluster) (i : ℕ) (c : Cluster) → slice_get xs i ≡ Some c → is_among c xs ≡ true
among [] i c p = no_some c p
among (x ∷ xs) zero c p = or_left (of.is_same x c) (is_among c xs) (cluster_same x c (some_of x c p))
among (x ∷ xs) (suc i) c p = or_true (of.is_same x c) (is_among c xs) (among xs i c p)

unlike_by : (t : Bool) (x : Cluster) (xs : List Cluster) (i : ℕ) (c : Cluster) → of.is_same x c ≡ t → is_none c ≡ false
    → is_none x || not (is_among x xs) ≡ true → slice_get xs i ≡ Some c → t ≡ false
unlike_by false x xs i c e some differs p = refl
unlike_by true x xs i c e some differs p =
    let P : Cluster → Type 0 = λ k. is_none k || not (is_among k xs) ≡ true in
    not_both (is_among c xs) (among xs i c p)
    (not_true (is_among c xs) (or_second (is_none c) (not (is_among c xs)) some (subst P (same_cluster x c e) differs)))

first_at : (k : ℕ) (xs : List Cluster) (i : ℕ) (c : Cluster) → is_distinct xs ≡ true → is_none c ≡ false → slice_get xs i ≡ Some c
    → place_from k xs c ≡ Some (k + i)
first_at k [] i c differ some p = no_some c p
first_at k (x ∷ xs) zero c differ some p =
    let same : k ≡ k + zero = omega arith in
    if_so (of.is_same x c) (Some k) (place_from (k + 1) xs c) (cluster_same x c (some_of x c p)) ∙ ap Some same
first_at k (x ∷ xs) (suc i) c differ some p =
    let here = and_first (is_none x || not (is_among x xs)) (is_distinct xs) differ in
    let rest = and_second (is_none x || not (is_among x xs)) (is_distinct xs) differ in
    let same : k + 1 + i ≡ k + suc i = omega arith in
    if_not (of.is_same x c) (Some k) (place_from (k + 1) xs c) (unlike_by (of.is_same x c) x xs i c refl some here p)
    ∙ first_at (k + 1) xs i c rest some p ∙ ap Some same

pub place_there : (xs : List Cluster) (i : ℕ) (c : Cluster) → is_distinct xs ≡ true → is_none c ≡ false → slice_get xs i ≡ Some c
    → place_of xs c ≡ Some i
place_there xs i c differ some p =
    let same : 0 + i ≡ i = omega arith in first_at 0 xs i c differ some p ∙ ap Some same

-- ---- widths

pub narrow_there : (xs : List Cluster) (i : ℕ) (c : Cluster) → all_narrow xs ≡ true → slice_get xs i ≡ Some c → is_wide c ≡ false
narrow_there [] i c are p = no_some c p
narrow_there (x ∷ xs) zero c are p =
    let P : Cluster → Type 0 = λ k. is_wide k ≡ false in
    subst P (some_of x c p) (not_true (is_wide x) (and_first (not (is_wide x)) (all_narrow xs) are))
narrow_there (x ∷ xs) (suc i) c are p = narrow_there xs i c (and_second (not (is_wide x)) (all_narrow xs) are) p

pub wide_there : (xs : List Cluster) (i : ℕ) (c : Cluster) → all_wide xs ≡ true → slice_get xs i ≡ Some c → is_wide c ≡ true
wide_there [] i c are p = no_some c p
wide_there (x ∷ xs) zero c are p =
    let P : Cluster → Type 0 = λ k. is_wide k ≡ true in
    subst P (some_of x c p) (and_first (is_wide x) (all_wide xs) are)
wide_there (x ∷ xs) (suc i) c are p = wide_there xs i c (and_second (is_wide x) (all_wide xs) are) p

no_place_by : (o : Option ℕ) (xs : List Cluster) (c : Cluster) → place_of xs c ≡ o → all_narrow xs ≡ true → is_wide c ≡ true → o ≡ None
no_place_by None xs c e are wide = refl
no_place_by (Some n) xs c e are wide = not_both (is_wide c) wide (narrow_there xs n c are (stands_there xs c n e))

-- a wide one is not among the narrow ones
pub no_narrow_place : (xs : List Cluster) (c : Cluster) → all_narrow xs ≡ true → is_wide c ≡ true → place_of xs c ≡ None
no_narrow_place xs c are wide = no_place_by (place_of xs c) xs c refl are wide

-- ---- a place among pairs

pub record Halved (p l t : ℕ) : Type 0 where
  pub some : 0 < t
  pub row : p / t < l
  pub column : p % t < t
  pub whole : p / t * t + p % t ≡ p

halved_by : (p l t : ℕ) → 0 < t → p < l * t → Halved p l t
halved_by p l t some below =
    let low : p % t < t = mod-lt p some in
    record { some = some; row = div_below p t l some below; column = low; whole = omega arith }

pub halved : (p w l t : ℕ) → p < w → w ≤ l * t → Halved p l t
halved p w l zero below enough = absurd (let e : l * zero ≡ 0 = omega arith in omega arith)
halved p w l (suc t) below enough =
    let some : 0 < suc t = omega arith in let low : p < l * suc t = omega arith in halved_by p l (suc t) some low

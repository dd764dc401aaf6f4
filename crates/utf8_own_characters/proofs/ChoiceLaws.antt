-- What is promised of a choice.
use Rattle.std.proofs.Common.{◌≡◌, ℕ, zero, suc, ◌+◌, ◌-◌, ◌*◌, ◌/◌, ◌<◌, ◌≤◌, List, [], ◌∷◌, ◌++◌, length, Bool, true, false, not, ◌&&◌, ◌||◌, nat_le, if◌then◌else◌, refl, sym, ◌∙◌, ap, subst, arith, length-append}
use Rattle.std.proofs.lemmas.Bool.Decides.{nat_tests}
use Rattle.std.proofs.Math.Nat.{mul-le-mul, mul-le-mul_right, le_trans}
use Rattle.utf8_own_characters.specs.declared.cluster.Cluster.{Cluster}
use Rattle.utf8_own_characters.specs.declared.counting.Count.{Count}
use Rattle.utf8_own_characters.specs.Cluster.{is_same, is_wide}
use Rattle.utf8_own_characters.specs.Table.{Characters, Good, is_none, is_among, is_distinct, all_narrow, all_wide}
use Rattle.utf8_own_characters.specs.Counting.{is_counted, is_once}
use Rattle.utf8_own_characters.specs.Choosing.{pairs_in, has_room, Choice, choice, nothing, fits, with_cluster, added, chosen, left_out, IsFewest, table_of, ChoiceIsGood, is_in, each_is_somewhere, NoneIsLost, narrow_count, wide_count, AllFit, AreSides, FewestAreSides}
use Rattle.utf8_own_characters.proofs.Tests.{and_first, and_second, and_true, or_true, or_left, or_none, or_false_first, or_false_second, not_true, not_so, not_both, if_not, if_so, le_so, le_is}
use Rattle.utf8_own_characters.proofs.Places.{same_cluster, cluster_same}

-- ---- tests

pub or_case : (x y z : Bool) → (x ≡ true → z ≡ true) → (y ≡ true → z ≡ true) → x || y ≡ true → z ≡ true
or_case true y z f g p = f refl
or_case false y z f g p = g p

unlike_by : (a b : Cluster) (x : Bool) → is_same b a ≡ x → is_same a b ≡ false → x ≡ false
unlike_by a b false e p = refl
unlike_by a b true e p = not_both (is_same a b) (cluster_same a b (sym (same_cluster b a e))) p

unlike : (a b : Cluster) → is_same a b ≡ false → is_same b a ≡ false
unlike a b p = unlike_by a b (is_same b a) refl p

-- ---- one more at the end

among_other : (d : Cluster) (xs : List Cluster) (c : Cluster) → is_same c d ≡ false → is_among d (xs ++ c ∷ []) ≡ is_among d xs
among_other d [] c e = or_none (is_same c d) false e refl
among_other d (x ∷ xs) c e = ap (λ (b : Bool). is_same x d || b) (among_other d xs c e)

among_kept : (d : Cluster) (xs : List Cluster) (c : Cluster) → is_among d xs ≡ true → is_among d (xs ++ c ∷ []) ≡ true
among_kept d [] c p = absurd (let no : false ≡ true = p in cc)
among_kept d (x ∷ xs) c p =
    or_case (is_same x d) (is_among d xs) (is_same x d || is_among d (xs ++ c ∷ []))
    (λ h. or_left (is_same x d) (is_among d (xs ++ c ∷ [])) h)
    (λ h. or_true (is_same x d) (is_among d (xs ++ c ∷ [])) (among_kept d xs c h)) p

among_last : (xs : List Cluster) (c : Cluster) → is_among c (xs ++ c ∷ []) ≡ true
among_last [] c = or_left (is_same c c) false (cluster_same c c refl)
among_last (x ∷ xs) c = or_true (is_same x c) (is_among c (xs ++ c ∷ [])) (among_last xs c)

narrow_more : (xs : List Cluster) (c : Cluster) → all_narrow xs ≡ true → is_wide c ≡ false → all_narrow (xs ++ c ∷ []) ≡ true
narrow_more [] c p e = and_true (not (is_wide c)) true (not_so (is_wide c) e) refl
narrow_more (x ∷ xs) c p e =
    and_true (not (is_wide x)) (all_narrow (xs ++ c ∷ [])) (and_first (not (is_wide x)) (all_narrow xs) p)
    (narrow_more xs c (and_second (not (is_wide x)) (all_narrow xs) p) e)

wide_more : (xs : List Cluster) (c : Cluster) → all_wide xs ≡ true → is_wide c ≡ true → all_wide (xs ++ c ∷ []) ≡ true
wide_more [] c p e = and_true (is_wide c) true e refl
wide_more (x ∷ xs) c p e =
    and_true (is_wide x) (all_wide (xs ++ c ∷ [])) (and_first (is_wide x) (all_wide xs) p)
    (wide_more xs c (and_second (is_wide x) (all_wide xs) p) e)

distinct_more : (xs : List Cluster) (c : Cluster) → is_distinct xs ≡ true → is_among c xs ≡ false → is_distinct (xs ++ c ∷ []) ≡ true
distinct_more [] c p e = and_true (is_none c || true) true (or_true (is_none c) true refl) refl
distinct_more (x ∷ xs) c p e =
    let apart = unlike x c (or_false_first (is_same x c) (is_among c xs) e) in
    let P : Bool → Type 0 = λ b. is_none x || not b ≡ true in
    and_true (is_none x || not (is_among x (xs ++ c ∷ []))) (is_distinct (xs ++ c ∷ []))
    (subst P (sym (among_other x xs c apart)) (and_first (is_none x || not (is_among x xs)) (is_distinct xs) p))
    (distinct_more xs c (and_second (is_none x || not (is_among x xs)) (is_distinct xs) p) (or_false_second (is_same x c) (is_among c xs) e))

-- ---- a choice that is sound

record Sound (k : Choice) : Type 0 where
  room : fits k ≡ true
  narrow : all_narrow k.narrow ≡ true
  wide : all_wide k.wide ≡ true
  narrow_once : is_distinct k.narrow ≡ true
  wide_once : is_distinct k.wide ≡ true

abbrev pub more_wide : Choice → Cluster → Choice
more_wide k c = record k { wide = k.wide ++ c ∷ [] }

abbrev pub more_narrow : Choice → Cluster → Choice
more_narrow k c = record k { narrow = k.narrow ++ c ∷ [] }

sound_with_by : (k : Choice) (c : Cluster) (x : Bool) → is_wide c ≡ x → Sound k → is_in k c ≡ false
    → fits (if x then more_wide k c else more_narrow k c) ≡ true → Sound (if x then more_wide k c else more_narrow k c)
sound_with_by k c true e s out room = record {
  room = room;
  narrow = s.narrow;
  wide = wide_more k.wide c s.wide e;
  narrow_once = s.narrow_once;
  wide_once = distinct_more k.wide c s.wide_once (or_false_second (is_among c k.narrow) (is_among c k.wide) out);
}
sound_with_by k c false e s out room = record {
  room = room;
  narrow = narrow_more k.narrow c s.narrow e;
  wide = s.wide;
  narrow_once = distinct_more k.narrow c s.narrow_once (or_false_first (is_among c k.narrow) (is_among c k.wide) out);
  wide_once = s.wide_once;
}

sound_added_by : (k : Choice) (c : Cluster) (x : Bool) → fits (with_cluster k c) ≡ x → Sound k → is_in k c ≡ false
    → Sound (if x then with_cluster k c else k)
sound_added_by k c true e s out = sound_with_by k c (is_wide c) refl s out e
sound_added_by k c false e s out = s

sound_added : (k : Choice) (c : Cluster) → Sound k → is_in k c ≡ false → Sound (added k c)
sound_added k c s out = sound_added_by k c (fits (with_cluster k c)) refl s out

in_other_by : (k : Choice) (c d : Cluster) (x : Bool) → is_same c d ≡ false → is_in (if x then more_wide k c else more_narrow k c) d ≡ is_in k d
in_other_by k c d true e = ap (λ (b : Bool). is_among d k.narrow || b) (among_other d k.wide c e)
in_other_by k c d false e = ap (λ (b : Bool). b || is_among d k.wide) (among_other d k.narrow c e)

in_added_by : (k : Choice) (c d : Cluster) (x : Bool) → is_same c d ≡ false → is_in (if x then with_cluster k c else k) d ≡ is_in k d
in_added_by k c d true e = in_other_by k c d (is_wide c) e
in_added_by k c d false e = refl

in_added : (k : Choice) (c d : Cluster) → is_same c d ≡ false → is_in (added k c) d ≡ is_in k d
in_added k c d e = in_added_by k c d (fits (with_cluster k c)) e

none_in : Choice → List Count → Bool
none_in k [] = true
none_in k (x ∷ xs) = not (is_in k x.cluster) && none_in k xs

none_added : (k : Choice) (c : Cluster) (xs : List Count) → none_in k xs ≡ true → is_counted xs c ≡ false → none_in (added k c) xs ≡ true
unfolding none_in
none_added k c [] p e = refl
none_added k c (x ∷ xs) p e =
    let apart = unlike x.cluster c (or_false_first (is_same x.cluster c) (is_counted xs c) e) in
    let P : Bool → Type 0 = λ b. not b ≡ true in
    and_true (not (is_in (added k c) x.cluster)) (none_in (added k c) xs)
    (subst P (sym (in_added k c x.cluster apart)) (and_first (not (is_in k x.cluster)) (none_in k xs) p))
    (none_added k c xs (and_second (not (is_in k x.cluster)) (none_in k xs) p) (or_false_second (is_same x.cluster c) (is_counted xs c) e))

sound_chosen : (k : Choice) (xs : List Count) → Sound k → is_once xs ≡ true → none_in k xs ≡ true → Sound (chosen k xs)
unfolding none_in
sound_chosen k [] s once none = s
sound_chosen k (x ∷ xs) s once none =
    let first = not_true (is_counted xs x.cluster) (and_first (not (is_counted xs x.cluster)) (is_once xs) once) in
    let out = not_true (is_in k x.cluster) (and_first (not (is_in k x.cluster)) (none_in k xs) none) in
    sound_chosen (added k x.cluster) xs (sound_added k x.cluster s out) (and_second (not (is_counted xs x.cluster)) (is_once xs) once)
    (none_added k x.cluster xs (and_second (not (is_in k x.cluster)) (none_in k xs) none) first)

none_in_nothing : (xs : List Count) → none_in nothing xs ≡ true
unfolding none_in
none_in_nothing [] = refl
none_in_nothing (x ∷ xs) = none_in_nothing xs

sound_nothing : Sound nothing
sound_nothing = record { room = refl; narrow = refl; wide = refl; narrow_once = refl; wide_once = refl }

le_is_not : (a b : ℕ) → nat_le a b ≡ false → b < a
le_is_not a b h = grind (arith, nat_tests)

no_order : {A : Type 0} (a b : ℕ) → a ≤ b → b < a → A
no_order a b p q = absurd (omega arith)

few_by : (n w h : ℕ) (x : Bool) → nat_le h (128 - n) ≡ x → n ≤ 128 → w ≤ pairs_in (128 - n) → IsFewest h w → n + h ≤ 128
few_by n w h true e within _ _ = let low : h ≤ 128 - n = le_is h (128 - n) e in omega arith
few_by n w h false e within enough fewest =
    let high : 128 - n < h = le_is_not h (128 - n) e in
    let less : pairs_in (128 - n) < w = fewest.least (128 - n) high in
    no_order w (pairs_in (128 - n)) enough less

has_few : (n w h : ℕ) → has_room n w ≡ true → IsFewest h w → n + h ≤ 128
has_few n w h room fewest =
    few_by n w h (nat_le h (128 - n)) refl (le_is n 128 (and_first (nat_le n 128) (nat_le w (pairs_in (128 - n))) room))
    (le_is w (pairs_in (128 - n)) (and_second (nat_le n 128) (nat_le w (pairs_in (128 - n))) room)) fewest

pub choice_is_good : ChoiceIsGood
choice_is_good xs halves once fewest =
    let k = chosen nothing xs in
    let s = sound_chosen nothing xs sound_nothing once (none_in_nothing xs) in
    record {
      few = has_few (length k.narrow) (length k.wide) halves s.room fewest;
      enough = fewest.enough;
      narrow = s.narrow;
      wide = s.wide;
      narrow_once = s.narrow_once;
      wide_once = s.wide_once;
    }

-- ---- none is lost

in_kept_by : (k : Choice) (c d : Cluster) (x : Bool) → is_in k d ≡ true → is_in (if x then more_wide k c else more_narrow k c) d ≡ true
in_kept_by k c d true p =
    let N = is_among d k.narrow in let W = is_among d (k.wide ++ c ∷ []) in
    or_case N (is_among d k.wide) (N || W) (λ h. or_left N W h) (λ h. or_true N W (among_kept d k.wide c h)) p
in_kept_by k c d false p =
    let N = is_among d (k.narrow ++ c ∷ []) in let W = is_among d k.wide in
    or_case (is_among d k.narrow) W (N || W) (λ h. or_left N W (among_kept d k.narrow c h)) (λ h. or_true N W h) p

in_kept_added_by : (k : Choice) (c d : Cluster) (x : Bool) → is_in k d ≡ true → is_in (if x then with_cluster k c else k) d ≡ true
in_kept_added_by k c d true p = in_kept_by k c d (is_wide c) p
in_kept_added_by k c d false p = p

in_chosen : (k : Choice) (xs : List Count) (d : Cluster) → is_in k d ≡ true → is_in (chosen k xs) d ≡ true
in_chosen k [] d p = p
in_chosen k (x ∷ xs) d p =
    in_chosen (added k x.cluster) xs d (in_kept_added_by k x.cluster d (fits (with_cluster k x.cluster)) p)

in_with_by : (k : Choice) (c : Cluster) (x : Bool) → is_in (if x then more_wide k c else more_narrow k c) c ≡ true
in_with_by k c true = or_true (is_among c k.narrow) (is_among c (k.wide ++ c ∷ [])) (among_last k.wide c)
in_with_by k c false = or_left (is_among c (k.narrow ++ c ∷ [])) (is_among c k.wide) (among_last k.narrow c)

somewhere_more : (k : Choice) (out : List Cluster) (c : Cluster) (xs : List Count)
    → each_is_somewhere k out xs ≡ true → each_is_somewhere k (c ∷ out) xs ≡ true
somewhere_more k out c [] p = refl
somewhere_more k out c (x ∷ xs) p =
    let d = x.cluster in
    let A = is_in k d in let B = is_among d (c ∷ out) in
    and_true (A || B) (each_is_somewhere k (c ∷ out) xs)
    (or_case A (is_among d out) (A || B) (λ h. or_left A B h) (λ h. or_true A B (or_true (is_same c d) (is_among d out) h))
    (and_first (A || is_among d out) (each_is_somewhere k out xs) p))
    (somewhere_more k out c xs (and_second (A || is_among d out) (each_is_somewhere k out xs) p))

lost_by : (k : Choice) (x : Count) (xs : List Count) (b : Bool) → fits (with_cluster k x.cluster) ≡ b
    → ((m : Choice) → each_is_somewhere (chosen m xs) (left_out m xs) xs ≡ true)
    → each_is_somewhere (chosen (if b then with_cluster k x.cluster else k) xs)
    (if b then left_out (if b then with_cluster k x.cluster else k) xs else x.cluster ∷ left_out (if b then with_cluster k x.cluster else k) xs)
    (x ∷ xs) ≡ true
lost_by k x xs true e later =
    let m = with_cluster k x.cluster in
    let A = is_in (chosen m xs) x.cluster in let B = is_among x.cluster (left_out m xs) in
    and_true (A || B) (each_is_somewhere (chosen m xs) (left_out m xs) xs)
    (or_left A B (in_chosen m xs x.cluster (in_with_by k x.cluster (is_wide x.cluster)))) (later m)
lost_by k x xs false e later =
    let out = x.cluster ∷ left_out k xs in
    let A = is_in (chosen k xs) x.cluster in let B = is_among x.cluster out in
    and_true (A || B) (each_is_somewhere (chosen k xs) out xs)
    (or_true A B (or_left (is_same x.cluster x.cluster) (is_among x.cluster (left_out k xs)) (cluster_same x.cluster x.cluster refl)))
    (somewhere_more (chosen k xs) (left_out k xs) x.cluster xs (later k))

somewhere : (xs : List Count) (k : Choice) → each_is_somewhere (chosen k xs) (left_out k xs) xs ≡ true
somewhere [] k = refl
somewhere (x ∷ xs) k = lost_by k x xs (fits (with_cluster k x.cluster)) refl (somewhere xs)

pub none_is_lost : NoneIsLost
none_is_lost xs = somewhere xs nothing

-- ---- where all have room

pub pairs_grow : (s s' : ℕ) → s ≤ s' → pairs_in s ≤ pairs_in s'
pairs_grow s s' h =
    let a : s / 2 ≤ s' / 2 = omega arith in
    let b : s - s / 2 ≤ s' - s' / 2 = omega arith in
    mul-le-mul a b

pub room_shrinks : (n n' w w' : ℕ) → n ≤ n' → w ≤ w' → has_room n' w' ≡ true → has_room n w ≡ true
room_shrinks n n' w w' h g room =
    let within : n' ≤ 128 = le_is n' 128 (and_first (nat_le n' 128) (nat_le w' (pairs_in (128 - n'))) room) in
    let enough : w' ≤ pairs_in (128 - n') = le_is w' (pairs_in (128 - n')) (and_second (nat_le n' 128) (nat_le w' (pairs_in (128 - n'))) room) in
    let fewer : 128 - n' ≤ 128 - n = omega arith in
    and_true (nat_le n 128) (nat_le w (pairs_in (128 - n))) (le_so n 128 (omega arith))
    (le_so w (pairs_in (128 - n)) (le_trans (le_trans g enough) (pairs_grow (128 - n') (128 - n) fewer)))

pub record Counts (k m : Choice) (n w : ℕ) : Type 0 where
  pub narrow : length m.narrow ≡ length k.narrow + n
  pub wide : length m.wide ≡ length k.wide + w

pub counts_by : (k : Choice) (c : Cluster) (x : Bool)
    → Counts k (if x then more_wide k c else more_narrow k c) (if x then 0 else 1) (if x then 1 else 0)
counts_by k c true = record { narrow = omega arith; wide = length-append k.wide (c ∷ []) }
counts_by k c false = record { narrow = length-append k.narrow (c ∷ []); wide = omega arith }

left_by : (k : Choice) (x : Count) (xs : List Count) (b : Bool) → fits (with_cluster k x.cluster) ≡ b → b ≡ true
    → left_out (with_cluster k x.cluster) xs ≡ []
    → (if b then left_out (if b then with_cluster k x.cluster else k) xs else x.cluster ∷ left_out (if b then with_cluster k x.cluster else k) xs) ≡ []
left_by k x xs true e so later = later
left_by k x xs false e so later = absurd (let no : false ≡ true = so in cc)

all_fit_from : (xs : List Count) (k : Choice) → has_room (length k.narrow + narrow_count xs) (length k.wide + wide_count xs) ≡ true → left_out k xs ≡ []
all_fit_from [] k room = refl
all_fit_from (x ∷ xs) k room =
    let m = with_cluster k x.cluster in
    let n = if is_wide x.cluster then 0 else 1 in
    let w = if is_wide x.cluster then 1 else 0 in
    let counts = counts_by k x.cluster (is_wide x.cluster) in
    let narrow : length m.narrow ≡ length k.narrow + n = counts.narrow in
    let wide : length m.wide ≡ length k.wide + w = counts.wide in
    let N = length k.narrow + (n + narrow_count xs) in
    let W = length k.wide + (w + wide_count xs) in
    let here : fits m ≡ true = room_shrinks (length m.narrow) N (length m.wide) W (omega arith) (omega arith) room in
    let rest : has_room (length m.narrow + narrow_count xs) (length m.wide + wide_count xs) ≡ true =
    room_shrinks (length m.narrow + narrow_count xs) N (length m.wide + wide_count xs) W (omega arith) (omega arith) room in
    left_by k x xs (fits m) refl here (all_fit_from xs m rest)

pub all_fit : AllFit
all_fit xs room =
    let n : 0 + narrow_count xs ≡ narrow_count xs = omega arith in
    let w : 0 + wide_count xs ≡ wide_count xs = omega arith in
    all_fit_from xs nothing (ap (λ (a : ℕ). has_room a (0 + wide_count xs)) n ∙ ap (λ (b : ℕ). has_room (narrow_count xs) b) w ∙ room)

-- ---- leads and trails

fewer_rows : (l L a : ℕ) → l < L → L ≤ a + 1 → l * (a + 1) ≤ a * L
fewer_rows l L a h g =
    let more : l + 1 ≤ L = omega arith in
    let wider : (l + 1) * (a + 1) ≤ L * (a + 1) = mul-le-mul_right (a + 1) more in
    omega arith

below_least : (h wide : ℕ) → IsFewest (h + 1) wide → (h / 2) * (h - h / 2) < wide
below_least h wide fewest = fewest.least h (omega arith)

sides_by : (h wide : ℕ) → IsFewest h wide → AreSides h wide
sides_by zero wide fewest =
    let none : wide ≤ pairs_in 0 = fewest.enough in
    record { reach = none; fewer_trails = λ t low. absurd (omega arith); fewer_leads = λ l low. absurd (omega arith) }
sides_by (suc h) wide fewest =
    let least : pairs_in h < wide = fewest.least h (omega arith) in
    let L = suc h / 2 in let T = suc h - suc h / 2 in
    let a = h / 2 in
    let trails : T ≡ a + 1 = omega arith in
    let leads : h - h / 2 ≡ L = omega arith in
    let low : L ≤ T = omega arith in
    let below : a * L < wide = (let P : ℕ → Type 0 = λ k. a * k < wide in subst P leads least) in
    record {
      reach = le_trans fewest.enough (mul-le-mul_right T low);
      fewer_trails = λ t h'. (
          let x : t ≤ a = omega arith in let y : t ≤ L = omega arith in
          let product : t * t ≤ a * L = mul-le-mul x y in omega arith);
      fewer_leads = λ l h'. (
          let g : L ≤ a + 1 = omega arith in
          let product : l * (a + 1) ≤ a * L = fewer_rows l L a h' g in
          let P : ℕ → Type 0 = λ k. l * k < wide in
          let small : l * (a + 1) < wide = omega arith in
          subst P (sym trails) small);
    }

pub fewest_are_sides : FewestAreSides
fewest_are_sides h wide fewest = sides_by h wide fewest

-- ---- the table of a choice

pub wide_few : (xs : List Count) → is_once xs ≡ true → length (chosen nothing xs).wide ≤ 4096
wide_few xs once =
    let k = chosen nothing xs in
    let s = sound_chosen nothing xs sound_nothing once (none_in_nothing xs) in
    let n = length k.narrow in let w = length k.wide in
    let enough : w ≤ pairs_in (128 - n) = le_is w (pairs_in (128 - n)) (and_second (nat_le n 128) (nat_le w (pairs_in (128 - n))) s.room) in
    let low : 128 - n ≤ 128 = omega arith in
    le_trans enough (pairs_grow (128 - n) 128 low)

pub table_is_good : (xs : List Count) (narrow wide : List Cluster) (halves : ℕ) (t : Characters) → choice narrow wide ≡ chosen nothing xs
    → is_once xs ≡ true → IsFewest halves (length wide) → t ≡ table_of (choice narrow wide) halves → Good t
table_is_good xs narrow wide halves t cells once fewest made =
    let F : Choice → Type 0 = λ k. IsFewest halves (length k.wide) in
    let G : Choice → Type 0 = λ k. Good (table_of k halves) in
    let T : Characters → Type 0 = λ k. Good k in
    subst T (sym made) (subst G (sym cells) (choice_is_good xs halves once (subst F cells fewest)))

pub wide_len : (xs : List Count) (narrow wide : List Cluster) → choice narrow wide ≡ chosen nothing xs → is_once xs ≡ true → length wide ≤ 4096
wide_len xs narrow wide cells once =
    let P : Choice → Type 0 = λ k. length k.wide ≤ 4096 in subst P (sym cells) (wide_few xs once)

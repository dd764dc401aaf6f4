-- Where a cluster has no room, none of those after it that are as wide has.
use Rattle.std.proofs.Common.{◌≡◌, ℕ, ◌+◌, ◌≤◌, List, [], ◌∷◌, ◌++◌, length, Bool, true, false, not, ◌&&◌, ◌||◌, if◌then◌else◌, refl, sym, ◌∙◌, ap, subst, arith, length-append}
use Rattle.utf8_own_characters.specs.declared.cluster.Cluster.{Cluster}
use Rattle.utf8_own_characters.specs.declared.counting.Count.{Count}
use Rattle.utf8_own_characters.specs.Cluster.{is_same, is_wide}
use Rattle.utf8_own_characters.specs.Table.{is_among}
use Rattle.utf8_own_characters.specs.Choosing.{has_room, Choice, fits, with_cluster, added, left_out, is_as_wide, as_wide_are_left, FirstComeFirst}
use Rattle.utf8_own_characters.proofs.Tests.{and_first, and_second, and_true, or_true, or_left, not_so, not_both}
use Rattle.utf8_own_characters.proofs.Places.{cluster_same}
use Rattle.utf8_own_characters.proofs.ChoiceLaws.{or_case, room_shrinks, Counts, counts_by, more_wide, more_narrow}

-- ---- what has no room has none later

record Grown (k m : Choice) : Type 0 where
  narrow : length k.narrow ≤ length m.narrow
  wide : length k.wide ≤ length m.wide

grown_with : (k : Choice) (c : Cluster) → Grown k (with_cluster k c)
grown_with k c =
    let n = if is_wide c then 0 else 1 in
    let w = if is_wide c then 1 else 0 in
    let counts = counts_by k c (is_wide c) in
    let narrow : length (with_cluster k c).narrow ≡ length k.narrow + n = counts.narrow in
    let wide : length (with_cluster k c).wide ≡ length k.wide + w = counts.wide in
    record { narrow = omega arith; wide = omega arith }

refused_by : (k m : Choice) (c : Cluster) (w b : Bool) → Grown k m → fits (if w then more_wide m c else more_narrow m c) ≡ b
    → fits (if w then more_wide k c else more_narrow k c) ≡ false → b ≡ false
refused_by k m c w false g e p = refl
refused_by k m c true true g e p =
    let a : length (k.wide ++ c ∷ []) ≡ length k.wide + 1 = length-append k.wide (c ∷ []) in
    let b : length (m.wide ++ c ∷ []) ≡ length m.wide + 1 = length-append m.wide (c ∷ []) in
    let narrow = g.narrow in let wide = g.wide in
    not_both (fits (more_wide k c))
    (room_shrinks (length k.narrow) (length m.narrow) (length (k.wide ++ c ∷ [])) (length (m.wide ++ c ∷ [])) narrow (omega arith) e) p
refused_by k m c false true g e p =
    let a : length (k.narrow ++ c ∷ []) ≡ length k.narrow + 1 = length-append k.narrow (c ∷ []) in
    let b : length (m.narrow ++ c ∷ []) ≡ length m.narrow + 1 = length-append m.narrow (c ∷ []) in
    let narrow = g.narrow in let wide = g.wide in
    not_both (fits (more_narrow k c))
    (room_shrinks (length (k.narrow ++ c ∷ [])) (length (m.narrow ++ c ∷ [])) (length k.wide) (length m.wide) (omega arith) wide e) p

refused : (k m : Choice) (c : Cluster) → Grown k m → fits (with_cluster k c) ≡ false → fits (with_cluster m c) ≡ false
refused k m c g p = refused_by k m c (is_wide c) (fits (with_cluster m c)) g refl p

-- ---- clusters that are as wide have room together

as_long : (xs : List Cluster) (c d : Cluster) → length (xs ++ c ∷ []) ≡ length (xs ++ d ∷ [])
as_long xs c d = length-append xs (c ∷ []) ∙ sym (length-append xs (d ∷ []))

same_fit : (k : Choice) (c d : Cluster) (w : Bool)
    → fits (if w then more_wide k c else more_narrow k c) ≡ fits (if w then more_wide k d else more_narrow k d)
same_fit k c d true = ap (λ (n : ℕ). has_room (length k.narrow) n) (as_long k.wide c d)
same_fit k c d false = ap (λ (n : ℕ). has_room n (length k.wide)) (as_long k.narrow c d)

as_wide_same : (w v : Bool) (c : Cluster) → is_wide c ≡ v → is_as_wide w c ≡ true → v ≡ w
as_wide_same true v c e p = sym e ∙ p
as_wide_same false true c e p = absurd (let P : Bool → Type 0 = λ b. not b ≡ true in let no : false ≡ true = subst P e p in cc)
as_wide_same false false c e p = refl

fits_as : (k : Choice) (c d : Cluster) → is_as_wide (is_wide c) d ≡ true → fits (with_cluster k d) ≡ fits (with_cluster k c)
fits_as k c d p =
    ap (λ (w : Bool). fits (if w then more_wide k d else more_narrow k d)) (as_wide_same (is_wide c) (is_wide d) d refl p)
    ∙ same_fit k d c (is_wide c)

other_by : (k : Choice) (c d : Cluster) (t : Bool) → is_as_wide (is_wide c) d ≡ t → fits (with_cluster k d) ≡ true → fits (with_cluster k c) ≡ false → t ≡ false
other_by k c d false e has none = refl
other_by k c d true e has none = not_both (fits (with_cluster k d)) has (fits_as k c d e ∙ none)

other_wide : (k : Choice) (c d : Cluster) → fits (with_cluster k d) ≡ true → fits (with_cluster k c) ≡ false → is_as_wide (is_wide c) d ≡ false
other_wide k c d has none = other_by k c d (is_as_wide (is_wide c) d) refl has none

-- ---- one more that is left

left_more : (w : Bool) (c : Cluster) (out : List Cluster) (xs : List Count) → as_wide_are_left w out xs ≡ true → as_wide_are_left w (c ∷ out) xs ≡ true
left_more w c out [] p = refl
left_more w c out (x ∷ xs) p =
    let N = not (is_as_wide w x.cluster) in
    let A = is_among x.cluster out in
    let B = is_among x.cluster (c ∷ out) in
    and_true (N || B) (as_wide_are_left w (c ∷ out) xs)
    (or_case N A (N || B) (λ h. or_left N B h) (λ h. or_true N B (or_true (is_same c x.cluster) A h)) (and_first (N || A) (as_wide_are_left w out xs) p))
    (left_more w c out xs (and_second (N || A) (as_wide_are_left w out xs) p))

after_by : (k : Choice) (x y : Count) (ys : List Count) (b : Bool) → fits (with_cluster k y.cluster) ≡ b → fits (with_cluster k x.cluster) ≡ false
    → ((m : Choice) → fits (with_cluster m x.cluster) ≡ false → as_wide_are_left (is_wide x.cluster) (left_out m ys) ys ≡ true)
    → as_wide_are_left (is_wide x.cluster)
    (if b then left_out (if b then with_cluster k y.cluster else k) ys else y.cluster ∷ left_out (if b then with_cluster k y.cluster else k) ys)
    (y ∷ ys) ≡ true
after_by k x y ys true e none later =
    let m = with_cluster k y.cluster in
    let w = is_wide x.cluster in
    let N = not (is_as_wide w y.cluster) in
    and_true (N || is_among y.cluster (left_out m ys)) (as_wide_are_left w (left_out m ys) ys)
    (or_left N (is_among y.cluster (left_out m ys)) (not_so (is_as_wide w y.cluster) (other_wide k x.cluster y.cluster e none)))
    (later m (refused k m x.cluster (grown_with k y.cluster) none))
after_by k x y ys false e none later =
    let out = y.cluster ∷ left_out k ys in
    let w = is_wide x.cluster in
    let N = not (is_as_wide w y.cluster) in
    and_true (N || is_among y.cluster out) (as_wide_are_left w out ys)
    (or_true N (is_among y.cluster out) (or_left (is_same y.cluster y.cluster) (is_among y.cluster (left_out k ys)) (cluster_same y.cluster y.cluster refl)))
    (left_more w y.cluster (left_out k ys) ys (later k none))

pub first_come_first : FirstComeFirst
first_come_first k x [] none = refl
first_come_first k x (y ∷ ys) none = after_by k x y ys (fits (with_cluster k y.cluster)) refl none (λ m p. first_come_first m x ys p)

-- Where all that were counted have room, the table has them.
use Rattle.std.proofs.Common.{◌≡◌, ℕ, zero, suc, ◌+◌, ◌-◌, ◌<◌, ◌≤◌, List, [], ◌∷◌, length, Bool, true, false, ◌&&◌, ◌||◌, nat_le, nat_lt, is_some, if◌then◌else◌, Option, None, Some, refl, sym, ◌∙◌, ap, subst, arith}
use Rattle.std.specs.List.{insert}
use Rattle.utf8_own_characters.specs.declared.cluster.Cluster.{Cluster}
use Rattle.utf8_own_characters.specs.declared.counting.Count.{Count}
use Rattle.utf8_own_characters.specs.declared.table.Code.{Code}
use Rattle.utf8_own_characters.specs.declared.table.Code.TheVariants.{One}
use Rattle.utf8_own_characters.specs.Choosing.{Choice, chosen, each_is_somewhere, has_room, is_in, left_out, narrow_count, nothing, pairs_in, table_of, wide_count}
use Rattle.utf8_own_characters.specs.Cluster.{is_ascii, is_same, is_wide}
use Rattle.utf8_own_characters.specs.Counting.{counted, counted_within, is_counted, raised}
use Rattle.utf8_own_characters.specs.Covering.{AllAreCovered, taking_place}
use Rattle.utf8_own_characters.specs.Looking.{noted, seen, takes_place}
use Rattle.utf8_own_characters.specs.Ranking.{place_for, ranked, ranked_onto}
use Rattle.utf8_own_characters.specs.Table.{Characters, code, code_at, covers, is_among, place_from, place_of}
use Rattle.utf8_own_characters.proofs.ChoiceLaws.{all_fit, none_is_lost, or_case, pairs_grow}
use Rattle.utf8_own_characters.proofs.Places.{cluster_same, same_cluster}
use Rattle.utf8_own_characters.proofs.Ranked.{keeps_all}
use Rattle.utf8_own_characters.proofs.Tests.{and_first, and_second, and_true, if_so, le_is, lt_so, or_left, or_true}

-- ---- what was counted stays counted

self_by : (t : Bool) (x : Count) (xs : List Count) (c : Cluster) → is_same x.cluster c ≡ t → is_counted (counted xs c) c ≡ true
    → is_counted (if t then raised x ∷ xs else x ∷ counted xs c) c ≡ true
self_by true x xs c e later = or_left (is_same x.cluster c) (is_counted xs c) e
self_by false x xs c e later = or_true (is_same x.cluster c) (is_counted (counted xs c) c) later

counted_self : (xs : List Count) (c : Cluster) → is_counted (counted xs c) c ≡ true
counted_self [] c = or_left (is_same c c) false (cluster_same c c refl)
counted_self (x ∷ xs) c = self_by (is_same x.cluster c) x xs c refl (counted_self xs c)

kept_by : (t : Bool) (x : Count) (xs : List Count) (c d : Cluster) → is_same x.cluster d || is_counted xs d ≡ true
    → (is_counted xs d ≡ true → is_counted (counted xs c) d ≡ true) → is_counted (if t then raised x ∷ xs else x ∷ counted xs c) d ≡ true
kept_by true x xs c d p later = p
kept_by false x xs c d p later =
    let A = is_same x.cluster d in
    let B = is_counted (counted xs c) d in
    or_case A (is_counted xs d) (A || B) (λ h. or_left A B h) (λ h. or_true A B (later h)) p

counted_kept : (xs : List Count) (c d : Cluster) → is_counted xs d ≡ true → is_counted (counted xs c) d ≡ true
counted_kept [] c d p = absurd (let no : false ≡ true = p in cc)
counted_kept (x ∷ xs) c d p = kept_by (is_same x.cluster c) x xs c d p (counted_kept xs c d)

longer_by : (t : Bool) (x : Count) (xs : List Count) (c : Cluster) → length xs ≤ length (counted xs c)
    → length (x ∷ xs) ≤ length (if t then raised x ∷ xs else x ∷ counted xs c)
longer_by true x xs c later = omega arith
longer_by false x xs c later = omega arith

counted_longer : (xs : List Count) (c : Cluster) → length xs ≤ length (counted xs c)
counted_longer [] c = omega arith
counted_longer (x ∷ xs) c = longer_by (is_same x.cluster c) x xs c (counted_longer xs c)

-- ---- what comes where there is room

-- it stays, and there are no fewer
record Grows (xs ys : List Count) : Type 0 where
  longer : length xs ≤ length ys
  kept : (d : Cluster) → is_counted xs d ≡ true → is_counted ys d ≡ true

grows_by : (t : Bool) (xs ys : List Count) → Grows xs ys → Grows xs (if t then ys else xs)
grows_by true xs ys grows = grows
grows_by false xs ys grows = record { longer = omega arith; kept = λ d p. p }

noted_grows : (room : ℕ) (xs : List Count) (c : Cluster) → Grows xs (noted room xs (Some c))
noted_grows room xs c =
    grows_by (takes_place c) xs (counted_within room xs c)
    (grows_by (is_counted xs c || nat_lt (length xs) room) xs (counted xs c)
    (record { longer = counted_longer xs c; kept = counted_kept xs c }))

seen_grows : (room : ℕ) (xs : List Count) (cs : List Cluster) → Grows xs (seen room xs cs)
seen_grows room xs [] = record { longer = omega arith; kept = λ d p. p }
seen_grows room xs (c ∷ cs) =
    let one = noted_grows room xs c in
    let others = seen_grows room (noted room xs (Some c)) cs in
    let more = one.longer in
    let all = others.longer in
    record { longer = omega (arith, more, all); kept = λ d p. others.kept d (one.kept d p) }

noted_self : (room : ℕ) (xs : List Count) (c : Cluster) → takes_place c ≡ true → length xs < room → is_counted (noted room xs (Some c)) c ≡ true
noted_self room xs c takes more =
    let has = or_true (is_counted xs c) (nat_lt (length xs) room) (lt_so (length xs) room more) in
    let is : noted room xs (Some c) ≡ counted xs c =
    if_so (takes_place c) (counted_within room xs c) xs takes
    ∙ if_so (is_counted xs c || nat_lt (length xs) room) (counted xs c) xs has in
    subst (λ (ys : List Count). is_counted ys c ≡ true) (sym is) (counted_self xs c)

-- each of these is counted
all_counted : List Count → List Cluster → Bool
all_counted xs [] = true
all_counted xs (c ∷ cs) = is_counted xs c && all_counted xs cs

seen_by : (t : Bool) (room : ℕ) (xs : List Count) (c : Cluster) (cs : List Cluster) → takes_place c ≡ t
    → length (seen room (noted room xs (Some c)) cs) < room → all_counted (seen room (noted room xs (Some c)) cs) (taking_place cs) ≡ true
    → all_counted (seen room (noted room xs (Some c)) cs) (if t then c ∷ taking_place cs else taking_place cs) ≡ true
unfolding all_counted
seen_by true room xs c cs e few later =
    let ys = noted room xs (Some c) in
    let zs = seen room ys cs in
    let one = (noted_grows room xs c).longer in
    let others = (seen_grows room ys cs).longer in
    let more : length xs < room = omega (arith, one, others, few) in
    and_true (is_counted zs c) (all_counted zs (taking_place cs)) ((seen_grows room ys cs).kept c (noted_self room xs c e more)) later
seen_by false room xs c cs e few later = later

seen_all : (room : ℕ) (xs : List Count) (cs : List Cluster) → length (seen room xs cs) < room → all_counted (seen room xs cs) (taking_place cs) ≡ true
unfolding all_counted
seen_all room xs [] few = refl
seen_all room xs (c ∷ cs) few = seen_by (takes_place c) room xs c cs refl few (seen_all room (noted room xs (Some c)) cs few)

ranked_all : (xs : List Count) (cs : List Cluster) → all_counted xs cs ≡ true → all_counted (ranked xs) cs ≡ true
unfolding all_counted
ranked_all xs [] p = refl
ranked_all xs (c ∷ cs) p =
    and_true (is_counted (ranked xs) c) (all_counted (ranked xs) cs) (keeps_all xs c ∙ and_first (is_counted xs c) (all_counted xs cs) p)
    (ranked_all xs cs (and_second (is_counted xs c) (all_counted xs cs) p))

-- ---- ranks leave as many of each width

total : (Cluster → ℕ) → List Count → ℕ
total f [] = 0
total f (x ∷ xs) = f x.cluster + total f xs

swapped : (a b c r : ℕ) → r ≡ b + c → a + r ≡ b + (a + c)
swapped a b c r e = omega arith

moved : (a b c i : ℕ) → i ≡ a + b → i + c ≡ b + (a + c)
moved a b c i e = omega arith

total_insert : (f : Cluster → ℕ) (k : ℕ) (ys : List Count) (x : Count) → total f (insert ys k x) ≡ f x.cluster + total f ys
unfolding total
total_insert f zero ys x = refl
total_insert f (suc k) [] x = refl
total_insert f (suc k) (y ∷ ys) x = swapped (f y.cluster) (f x.cluster) (total f ys) (total f (insert ys k x)) (total_insert f k ys x)

total_onto : (f : Cluster → ℕ) (ys xs : List Count) → total f (ranked_onto ys xs) ≡ total f ys + total f xs
unfolding total
total_onto f ys [] = omega arith
total_onto f ys (x ∷ xs) =
    total_onto f (insert ys (place_for ys x) x) xs
    ∙ moved (f x.cluster) (total f ys) (total f xs) (total f (insert ys (place_for ys x) x)) (total_insert f (place_for ys x) ys x)

total_ranked : (f : Cluster → ℕ) (xs : List Count) → total f (ranked xs) ≡ total f xs
unfolding total
total_ranked f xs = let e = total_onto f [] xs in omega (arith, e)

one_narrow : Cluster → ℕ
one_narrow c = if is_wide c then 0 else 1

one_wide : Cluster → ℕ
one_wide c = if is_wide c then 1 else 0

narrow_total : (xs : List Count) → narrow_count xs ≡ total one_narrow xs
unfolding total one_narrow
narrow_total [] = refl
narrow_total (x ∷ xs) = ap (λ (n : ℕ). (if is_wide x.cluster then 0 else 1) + n) (narrow_total xs)

wide_total : (xs : List Count) → wide_count xs ≡ total one_wide xs
unfolding total one_wide
wide_total [] = refl
wide_total (x ∷ xs) = ap (λ (n : ℕ). (if is_wide x.cluster then 1 else 0) + n) (wide_total xs)

ranked_room : (xs : List Count) → has_room (narrow_count xs) (wide_count xs) ≡ true → has_room (narrow_count (ranked xs)) (wide_count (ranked xs)) ≡ true
ranked_room xs room =
    let narrow : narrow_count (ranked xs) ≡ narrow_count xs = narrow_total (ranked xs) ∙ total_ranked one_narrow xs ∙ sym (narrow_total xs) in
    let wide : wide_count (ranked xs) ≡ wide_count xs = wide_total (ranked xs) ∙ total_ranked one_wide xs ∙ sym (wide_total xs) in
    ap (λ (n : ℕ). has_room n (wide_count (ranked xs))) narrow ∙ ap (λ (n : ℕ). has_room (narrow_count xs) n) wide ∙ room

-- no more than 128 of one column and 4096 of two have room
length_by : (t : Bool) (n w l : ℕ) → l ≡ n + w → l + 1 ≡ ((if t then 0 else 1) + n) + ((if t then 1 else 0) + w)
length_by true n w l e = omega arith
length_by false n w l e = omega arith

length_is : (xs : List Count) → length xs ≡ narrow_count xs + wide_count xs
length_is [] = refl
length_is (x ∷ xs) =
    let e : length (x ∷ xs) ≡ length xs + 1 = omega arith in
    e ∙ length_by (is_wide x.cluster) (narrow_count xs) (wide_count xs) (length xs) (length_is xs)

few_have_room : (n w : ℕ) → has_room n w ≡ true → n + w ≤ 4224
few_have_room n w room =
    let narrow = le_is n 128 (and_first (nat_le n 128) (nat_le w (pairs_in (128 - n))) room) in
    let wide = le_is w (pairs_in (128 - n)) (and_second (nat_le n 128) (nat_le w (pairs_in (128 - n))) room) in
    let most : pairs_in (128 - n) ≤ 4096 = pairs_grow (128 - n) 128 (omega arith) in
    omega (arith, narrow, wide, most)

few_counted : (room : ℕ) (xs : List Count) → 4224 < room → has_room (narrow_count xs) (wide_count xs) ≡ true → length xs < room
few_counted room xs wide fits =
    let e = length_is xs in
    let few = few_have_room (narrow_count xs) (wide_count xs) fits in
    omega (arith, e, few, wide)

-- ---- each is in the table

or_empty : (b : Bool) → b || false ≡ true → b ≡ true
or_empty true p = refl
or_empty false p = p

in_table : (k : Choice) (xs : List Count) (c : Cluster) → each_is_somewhere k [] xs ≡ true → is_counted xs c ≡ true → is_in k c ≡ true
in_table k [] c all p = absurd (let no : false ≡ true = p in cc)
in_table k (x ∷ xs) c all p =
    let A = is_in k x.cluster || false in
    let B = each_is_somewhere k [] xs in
    or_case (is_same x.cluster c) (is_counted xs c) (is_in k c)
    (λ h. subst (λ (d : Cluster). is_in k d ≡ true) (same_cluster x.cluster c h) (or_empty (is_in k x.cluster) (and_first A B all)))
    (λ h. in_table k xs c (and_second A B all) h) p

place_by : (t : Bool) (k : ℕ) (xs : List Cluster) (c : Cluster) → t || is_among c xs ≡ true
    → (is_among c xs ≡ true → is_some (place_from (k + 1) xs c) ≡ true) → is_some (if t then Some k else place_from (k + 1) xs c) ≡ true
place_by true k xs c p later = refl
place_by false k xs c p later = later p

place_some : (k : ℕ) (xs : List Cluster) (c : Cluster) → is_among c xs ≡ true → is_some (place_from k xs c) ≡ true
place_some k [] c p = absurd (let no : false ≡ true = p in cc)
place_some k (x ∷ xs) c p = place_by (is_same x c) k xs c p (place_some (k + 1) xs c)

code_wide : (t : Characters) (p : Option ℕ) → is_some p ≡ true → is_some (code_at t None p) ≡ true
code_wide t None e = absurd (let no : false ≡ true = e in cc)
code_wide t (Some q) e = refl

code_some : (t : Characters) (n w : Option ℕ) → is_some n ≡ true → is_some (code_at t n w) ≡ true
code_some t None w e = absurd (let no : false ≡ true = e in cc)
code_some t (Some q) w e = refl

code_other : (t : Characters) (n w : Option ℕ) → is_some w ≡ true → is_some (code_at t n w) ≡ true
code_other t None w e = code_wide t w e
code_other t (Some q) w e = refl

code_by : (b : Bool) (t : Characters) (c : Cluster) → is_some (code_at t (place_of t.narrow c) (place_of t.wide c)) ≡ true
    → is_some (if b then Some (One c.letter) else code_at t (place_of t.narrow c) (place_of t.wide c)) ≡ true
code_by true t c p = refl
code_by false t c p = p

has_code : (k : Choice) (halves : ℕ) (c : Cluster) → is_in k c ≡ true → is_some (code (table_of k halves) c) ≡ true
has_code k halves c p =
    let t = table_of k halves in
    let n = place_of k.narrow c in
    let w = place_of k.wide c in
    code_by (is_ascii c) t c
    (or_case (is_among c k.narrow) (is_among c k.wide) (is_some (code_at t n w))
    (λ h. code_some t n w (place_some 0 k.narrow c h)) (λ h. code_other t n w (place_some 0 k.wide c h)) p)

covered : (k : Choice) (halves : ℕ) (xs : List Count) (cs : List Cluster) → each_is_somewhere k [] xs ≡ true → all_counted xs cs ≡ true
    → covers (table_of k halves) cs ≡ true
unfolding all_counted
covered k halves xs [] all p = refl
covered k halves xs (c ∷ cs) all p =
    let t = table_of k halves in
    and_true (is_some (code t c)) (covers t cs)
    (has_code k halves c (in_table k xs c all (and_first (is_counted xs c) (all_counted xs cs) p)))
    (covered k halves xs cs all (and_second (is_counted xs c) (all_counted xs cs) p))

pub all_are_covered : AllAreCovered
all_are_covered room before cs halves wide fits =
    let few = few_counted room (seen room before cs) wide fits in
    let ys = ranked (seen room before cs) in
    let none : left_out nothing ys ≡ [] = all_fit ys (ranked_room (seen room before cs) fits) in
    let all = subst (λ (out : List Cluster). each_is_somewhere (chosen nothing ys) out ys ≡ true) none (none_is_lost ys) in
    covered (chosen nothing ys) halves ys (taking_place cs) all (ranked_all (seen room before cs) (taking_place cs) (seen_all room before cs few))

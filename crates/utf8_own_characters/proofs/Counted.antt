-- Where a cluster is counted.
use Rattle.std.proofs.Common.{◌≡◌, ℕ, zero, suc, ◌+◌, ◌<◌, List, [], ◌∷◌, ◌++◌, length, Bool, true, false, not, ◌&&◌, ◌||◌, nat_lt, if◌then◌else◌, Option, None, Some, slice_get, set, refl, sym, ◌∙◌, ap, subst, arith}
use Rattle.std.proofs.lemmas.Option.{slice_get_within}
use Rattle.utf8_own_characters.specs.declared.cluster.Cluster.{Cluster}
use Rattle.utf8_own_characters.specs.declared.counting.Count.{Count}
use Rattle.utf8_own_characters.specs.Cluster.{is_same}
use Rattle.utf8_own_characters.specs.Counting.{raised, first_time, counted, is_counted, counted_within, is_once, count_from}
use Rattle.utf8_own_characters.proofs.Tests.{no_some, and_first, and_second, and_true, or_true, or_left, or_none, or_false_first, or_false_second, not_true, not_so, not_both, if_not, if_so, some_of}
use Rattle.utf8_own_characters.proofs.Places.{same_cluster, cluster_same}

pub record CountedAt (k : ℕ) (xs : List Count) (c : Cluster) (b : ℕ) : Type 0 where
  pub at : ℕ
  pub is : b ≡ k + at
  pub count : Count
  pub there : slice_get xs at ≡ Some count
  pub known : is_counted xs c ≡ true
  pub raises : counted xs c ≡ set xs at (raised count)

counted_by : (t : Bool) (k : ℕ) (x : Count) (xs : List Count) (c : Cluster) (b : ℕ) → is_same x.cluster c ≡ t
    → (if t then Some k else count_from (k + 1) xs c) ≡ Some b
    → (count_from (k + 1) xs c ≡ Some b → CountedAt (k + 1) xs c b) → CountedAt k (x ∷ xs) c b
counted_by true k x xs c b e p later =
    let q : k ≡ b = some_of k b p in
    record {
      at = zero;
      is = omega arith;
      count = x;
      there = refl;
      known = or_left (is_same x.cluster c) (is_counted xs c) e;
      raises = if_so (is_same x.cluster c) (raised x ∷ xs) (x ∷ counted xs c) e;
    }
counted_by false k x xs c b e p later =
    let f = later p in let q : b ≡ k + 1 + f.at = f.is in
    record {
      at = suc f.at;
      is = omega arith;
      count = f.count;
      there = f.there;
      known = or_true (is_same x.cluster c) (is_counted xs c) f.known;
      raises = if_not (is_same x.cluster c) (raised x ∷ xs) (x ∷ counted xs c) e ∙ ap {B = List Count} (λ (k : List Count). x ∷ k) f.raises;
    }

pub counted_at : (k : ℕ) (xs : List Count) (c : Cluster) (b : ℕ) → count_from k xs c ≡ Some b → CountedAt k xs c b
counted_at k [] c b p = no_some b p
counted_at k (x ∷ xs) c b p = counted_by (is_same x.cluster c) k x xs c b refl p (counted_at (k + 1) xs c b)

pub record IsNew (xs : List Count) (c : Cluster) : Type 0 where
  pub unknown : is_counted xs c ≡ false
  pub last : counted xs c ≡ xs ++ first_time c ∷ []

new_by : (t : Bool) (k : ℕ) (x : Count) (xs : List Count) (c : Cluster) → is_same x.cluster c ≡ t
    → (if t then Some k else count_from (k + 1) xs c) ≡ None
    → (count_from (k + 1) xs c ≡ None → IsNew xs c) → IsNew (x ∷ xs) c
new_by true k x xs c e p later = no_some k (sym p)
new_by false k x xs c e p later =
    let f = later p in
    record {
      unknown = or_none (is_same x.cluster c) (is_counted xs c) e f.unknown;
      last = if_not (is_same x.cluster c) (raised x ∷ xs) (x ∷ counted xs c) e ∙ ap {B = List Count} (λ (k : List Count). x ∷ k) f.last;
    }

pub is_new : (k : ℕ) (xs : List Count) (c : Cluster) → count_from k xs c ≡ None → IsNew xs c
is_new k [] c p = record { unknown = refl; last = refl }
is_new k (x ∷ xs) c p = new_by (is_same x.cluster c) k x xs c refl p (is_new (k + 1) xs c)

-- ---- a cluster that is counted once is found at its place

known_there : (xs : List Count) (i : ℕ) (x : Count) (c : Cluster) → slice_get xs i ≡ Some x → is_same x.cluster c ≡ true → is_counted xs c ≡ true
known_there [] i x c p e = no_some x p
known_there (y ∷ ys) zero x c p e =
    let P : Count → Type 0 = λ k. is_same k.cluster c ≡ true in
    or_left (is_same y.cluster c) (is_counted ys c) (subst P (sym (some_of y x p)) e)
known_there (y ∷ ys) (suc i) x c p e = or_true (is_same y.cluster c) (is_counted ys c) (known_there ys i x c p e)

other_by : (t : Bool) (y : Count) (ys : List Count) (c : Cluster) → is_same y.cluster c ≡ t → is_counted ys c ≡ true → is_counted ys y.cluster ≡ false → t ≡ false
other_by false y ys c e known first = refl
other_by true y ys c e known first =
    let P : Cluster → Type 0 = λ k. is_counted ys k ≡ true in
    not_both (is_counted ys y.cluster) (subst P (sym (same_cluster y.cluster c e)) known) first

once_from : (k : ℕ) (xs : List Count) (i : ℕ) (x : Count) (c : Cluster) → is_once xs ≡ true → slice_get xs i ≡ Some x → is_same x.cluster c ≡ true
    → count_from k xs c ≡ Some (k + i)
once_from k [] i x c once p e = no_some x p
once_from k (y ∷ ys) zero x c once p e =
    let P : Count → Type 0 = λ n. is_same n.cluster c ≡ true in
    let same : k ≡ k + zero = omega arith in
    if_so (is_same y.cluster c) (Some k) (count_from (k + 1) ys c) (subst P (sym (some_of y x p)) e) ∙ ap Some same
once_from k (y ∷ ys) (suc i) x c once p e =
    let first = not_true (is_counted ys y.cluster) (and_first (not (is_counted ys y.cluster)) (is_once ys) once) in
    let rest = and_second (not (is_counted ys y.cluster)) (is_once ys) once in
    let same : k + 1 + i ≡ k + suc i = omega arith in
    if_not (is_same y.cluster c) (Some k) (count_from (k + 1) ys c) (other_by (is_same y.cluster c) y ys c refl (known_there ys i x c p e) first)
    ∙ once_from (k + 1) ys i x c rest p e ∙ ap Some same

pub once_there : (xs : List Count) (i : ℕ) (x : Count) (c : Cluster) → is_once xs ≡ true → slice_get xs i ≡ Some x → is_same x.cluster c ≡ true
    → count_from 0 xs c ≡ Some i
once_there xs i x c once p e = let same : 0 + i ≡ i = omega arith in once_from 0 xs i x c once p e ∙ ap Some same

-- ---- each stays counted once

apart_by : (a b : Cluster) (t : Bool) → is_same b a ≡ t → is_same a b ≡ false → t ≡ false
apart_by a b false e p = refl
apart_by a b true e p = not_both (is_same a b) (cluster_same a b (sym (same_cluster b a e))) p

unknown_by : (t : Bool) (y : Count) (ys : List Count) (c d : Cluster) → is_same y.cluster d || is_counted ys d ≡ false
    → is_counted (counted ys c) d ≡ false → is_counted (if t then raised y ∷ ys else y ∷ counted ys c) d ≡ false
unknown_by true y ys c d p later = p
unknown_by false y ys c d p later = or_none (is_same y.cluster d) (is_counted (counted ys c) d) (or_false_first (is_same y.cluster d) (is_counted ys d) p) later

unknown_still : (xs : List Count) (c d : Cluster) → is_counted xs d ≡ false → is_same c d ≡ false → is_counted (counted xs c) d ≡ false
unknown_still [] c d p e = or_none (is_same c d) false e refl
unknown_still (y ∷ ys) c d p e =
    unknown_by (is_same y.cluster c) y ys c d p (unknown_still ys c d (or_false_second (is_same y.cluster d) (is_counted ys d) p) e)

once_by : (t : Bool) (y : Count) (ys : List Count) (c : Cluster) → is_same y.cluster c ≡ t → is_once (y ∷ ys) ≡ true
    → is_once (counted ys c) ≡ true → is_once (if t then raised y ∷ ys else y ∷ counted ys c) ≡ true
once_by true y ys c e once later = once
once_by false y ys c e once later =
    let first = not_true (is_counted ys y.cluster) (and_first (not (is_counted ys y.cluster)) (is_once ys) once) in
    let apart = apart_by y.cluster c (is_same c y.cluster) refl e in
    and_true (not (is_counted (counted ys c) y.cluster)) (is_once (counted ys c))
    (not_so (is_counted (counted ys c) y.cluster) (unknown_still ys c y.cluster first apart)) later

pub once_counted : (xs : List Count) (c : Cluster) → is_once xs ≡ true → is_once (counted xs c) ≡ true
once_counted [] c once = refl
once_counted (y ∷ ys) c once =
    once_by (is_same y.cluster c) y ys c refl once (once_counted ys c (and_second (not (is_counted ys y.cluster)) (is_once ys) once))

within_by : (t : Bool) (xs : List Count) (c : Cluster) → is_once xs ≡ true → is_once (if t then counted xs c else xs) ≡ true
within_by true xs c once = once_counted xs c once
within_by false xs c once = once

pub once_within : (room : ℕ) (xs : List Count) (c : Cluster) → is_once xs ≡ true → is_once (counted_within room xs c) ≡ true
once_within room xs c once = within_by (is_counted xs c || nat_lt (length xs) room) xs c once

pub counted_if : (xs : List Count) (i : ℕ) (x : Count) (c : Cluster) (r : Bool) → is_once xs ≡ true → slice_get xs i ≡ Some x → r ≡ is_same x.cluster c → r ≡ true
    → count_from 0 xs c ≡ Some i
counted_if xs i x c r once p e t = once_there xs i x c once p (sym e ∙ t)

-- ---- what comes of a cluster

pub within_known : (room : ℕ) (xs : List Count) (c : Cluster) → is_counted xs c ≡ true → counted_within room xs c ≡ counted xs c
within_known room xs c known =
    if_so (is_counted xs c || nat_lt (length xs) room) (counted xs c) xs (or_left (is_counted xs c) (nat_lt (length xs) room) known)

pub within_new : (room : ℕ) (xs : List Count) (c : Cluster) → nat_lt (length xs) room ≡ true → counted_within room xs c ≡ counted xs c
within_new room xs c some =
    if_so (is_counted xs c || nat_lt (length xs) room) (counted xs c) xs (or_true (is_counted xs c) (nat_lt (length xs) room) some)

pub within_full : (room : ℕ) (xs : List Count) (c : Cluster) → is_counted xs c ≡ false → nat_lt (length xs) room ≡ false → counted_within room xs c ≡ xs
within_full room xs c unknown full =
    if_not (is_counted xs c || nat_lt (length xs) room) (counted xs c) xs (or_none (is_counted xs c) (nat_lt (length xs) room) unknown full)

pub record KnownAt (xs : List Count) (c : Cluster) (p : ℕ) : Type 0 where
  pub count : Count
  pub there : slice_get xs p ≡ Some count
  pub within : p < length xs
  pub known : is_counted xs c ≡ true
  pub raises : counted xs c ≡ set xs p (raised count)

known_by : (xs : List Count) (c : Cluster) (p : ℕ) (f : CountedAt 0 xs c p) → f.at ≡ p → KnownAt xs c p
known_by xs c p f e =
    let P : ℕ → Type 0 = λ n. slice_get xs n ≡ Some f.count in
    let Q : ℕ → Type 0 = λ n. counted xs c ≡ set xs n (raised f.count) in
    let there = subst P e f.there in
    record { count = f.count; there = there; within = slice_get_within xs p f.count there; known = f.known; raises = subst Q e f.raises }

pub known_at : (xs : List Count) (c : Cluster) (p : ℕ) → count_from 0 xs c ≡ Some p → KnownAt xs c p
known_at xs c p e =
    let f = counted_at 0 xs c p e in
    let same : f.at ≡ p = (let q : p ≡ 0 + f.at = f.is in omega arith) in
    known_by xs c p f same

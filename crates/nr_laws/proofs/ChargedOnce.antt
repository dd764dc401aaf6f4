-- In a run the levels that read the text of a name are charged no more for it than the name is.
use Rattle.std.specs.Prelude.{is_some, drop}
use Rattle.std.proofs.lemmas.List.Sums.{sum_by-cons}
use Rattle.std.proofs.Common.{◌≡◌, ℕ, ◌+◌, ◌≤◌, Bool, true, false, if◌then◌else◌, List, [], ◌∷◌, length, Option, None, Some, refl, ap, sym, subst, ◌∙◌, arith}
use Rattle.nr_symbol_tables.specs.Table.{Named, is_same, is_before, find, put, replaced, inserted, without}
use Rattle.nr_symbol_tables.proofs.Order.{same_itself, same_is}
use Rattle.nr_store.specs.declared.element.Element.{Element}
use Rattle.nr_store.specs.Store.{Means, Act, Words, Shared, is_named, is_read, share, shared_by, without_name, with_name, renamed_by, words}
use Rattle.nr_laws.proofs.SingleMoves.{charge_after, charge_under}

-- of each name
abbrev pub AreOnce : List (Named Means) → List Shared → Type 0
AreOnce names texts = (name : List ℕ) → charge_after name texts ≤ charge_under (find name names)

-- ---- of two

true-is : {A : Type 0} (c : Bool) (x y : A) → c ≡ true → (if c then x else y) ≡ x
true-is true x y is = refl
true-is false x y is = absurd (let wrong : false ≡ true = is in cc)

false-is : {A : Type 0} (c : Bool) (x y : A) → c ≡ false → (if c then x else y) ≡ y
false-is true x y is = absurd (let wrong : true ≡ false = is in cc)
false-is false x y is = refl

-- ---- what has a name, once another name has another text

module _ (name x : List ℕ) (other : is_same name x ≡ false) where
  -- a name that is the first is not the second
  is-other : (n : List ℕ) → is_same n name ≡ true → is_same n x ≡ false
  is-other n is = subst (λ m. is_same m x ≡ false) (sym (same_is n name is)) other

  replaced-other : (m : Means) (ns : List (Named Means)) → find x (replaced name m ns) ≡ find x ns
  replaced-other m [] = refl
  replaced-other m (n ∷ ns) = by (is_same n.name name) refl (replaced-other m ns)
    where
      by : (c : Bool) → is_same n.name name ≡ c → find x (replaced name m ns) ≡ find x ns → find x (if c then record { name = name; value = m } ∷ ns else n ∷ replaced name m ns) ≡ find x (n ∷ ns)
      by true is rest =
          false-is (is_same name x) (Some m) (find x ns) other ∙ sym (false-is (is_same n.name x) (Some n.value) (find x ns) (is-other n.name is))
      by false is rest = ap (λ (o : Option Means). if is_same n.name x then Some n.value else o) rest

  inserted-other : (m : Means) (ns : List (Named Means)) → find x (inserted name m ns) ≡ find x ns
  inserted-other m [] = false-is (is_same name x) (Some m) None other
  inserted-other m (n ∷ ns) = by (is_before name n.name) (inserted-other m ns)
    where
      by : (c : Bool) → find x (inserted name m ns) ≡ find x ns → find x (if c then record { name = name; value = m } ∷ (n ∷ ns) else n ∷ inserted name m ns) ≡ find x (n ∷ ns)
      by true rest = false-is (is_same name x) (Some m) (find x (n ∷ ns)) other
      by false rest = ap (λ (o : Option Means). if is_same n.name x then Some n.value else o) rest

  put-other : (m : Means) (ns : List (Named Means)) → find x (put name m ns) ≡ find x ns
  put-other m ns = by (is_some (find name ns))
    where
      by : (c : Bool) → find x (if c then replaced name m ns else inserted name m ns) ≡ find x ns
      by true = replaced-other m ns
      by false = inserted-other m ns

  without-other : (ns : List (Named Means)) → find x (without name ns) ≡ find x ns
  without-other [] = refl
  without-other (n ∷ ns) = by (is_same n.name name) refl (without-other ns)
    where
      by : (c : Bool) → is_same n.name name ≡ c → find x (without name ns) ≡ find x ns → find x (if c then ns else n ∷ without name ns) ≡ find x (n ∷ ns)
      by true is rest = sym (false-is (is_same n.name x) (Some n.value) (find x ns) (is-other n.name is))
      by false is rest = ap (λ (o : Option Means). if is_same n.name x then Some n.value else o) rest

-- what has the name that was put
replaced-same : (name : List ℕ) (m : Means) (ns : List (Named Means)) → is_some (find name ns) ≡ true → find name (replaced name m ns) ≡ Some m
replaced-same name m [] some = absurd (let wrong : false ≡ true = some in cc)
replaced-same name m (n ∷ ns) some = by (is_same n.name name) refl (replaced-same name m ns)
  where
    by : (c : Bool) → is_same n.name name ≡ c → (is_some (find name ns) ≡ true → find name (replaced name m ns) ≡ Some m)
        → find name (if c then record { name = name; value = m } ∷ ns else n ∷ replaced name m ns) ≡ Some m
    by true is more = true-is (is_same name name) (Some m) (find name ns) (same_itself name name refl)
    by false is more =
        let rest : is_some (find name ns) ≡ true = sym (ap (λ (o : Option Means). is_some o) (false-is (is_same n.name name) (Some n.value) (find name ns) is)) ∙ some in
        false-is (is_same n.name name) (Some n.value) (find name (replaced name m ns)) is ∙ more rest

inserted-same : (name : List ℕ) (m : Means) (ns : List (Named Means)) → is_some (find name ns) ≡ false → find name (inserted name m ns) ≡ Some m
inserted-same name m [] none = true-is (is_same name name) (Some m) None (same_itself name name refl)
inserted-same name m (n ∷ ns) none = by (is_before name n.name) (is_same n.name name) refl (inserted-same name m ns)
  where
    by : (c d : Bool) → is_same n.name name ≡ d → (is_some (find name ns) ≡ false → find name (inserted name m ns) ≡ Some m)
        → find name (if c then record { name = name; value = m } ∷ (n ∷ ns) else n ∷ inserted name m ns) ≡ Some m
    by true d is more = true-is (is_same name name) (Some m) (find name (n ∷ ns)) (same_itself name name refl)
    by false true is more =
        absurd (let wrong : true ≡ false = sym (ap (λ (o : Option Means). is_some o) (true-is (is_same n.name name) (Some n.value) (find name ns) is)) ∙ none in cc)
    by false false is more =
        let rest : is_some (find name ns) ≡ false = sym (ap (λ (o : Option Means). is_some o) (false-is (is_same n.name name) (Some n.value) (find name ns) is)) ∙ none in
        false-is (is_same n.name name) (Some n.value) (find name (inserted name m ns)) is ∙ more rest

put-same : (name : List ℕ) (m : Means) (ns : List (Named Means)) → find name (put name m ns) ≡ Some m
put-same name m ns = by (is_some (find name ns)) refl
  where
    by : (c : Bool) → is_some (find name ns) ≡ c → find name (if c then replaced name m ns else inserted name m ns) ≡ Some m
    by true is = replaced-same name m ns is
    by false is = inserted-same name m ns is

-- ---- what levels are charged for a name

-- what one text adds
abbrev for_text : List ℕ → Shared → ℕ
for_text name t = if is_named name t.name then t.share else 0

more : (name : List ℕ) (t : Shared) (ts : List Shared) → charge_after name (t ∷ ts) ≡ for_text name t + charge_after name ts
more name t ts = sum_by-cons (for_text name) t ts

-- a text that no longer has some name
head-less : (x : List ℕ) (c : Bool) (o : Option (List ℕ)) (n : ℕ) → (if is_named x (if c then None else o) then n else 0) ≤ (if is_named x o then n else 0)
head-less x true o n = omega arith
head-less x false o n = omega arith

afterwards-less : (x name : List ℕ) (ts : List Shared) → charge_after x (renamed_by (without_name name) ts) ≤ charge_after x ts
afterwards-less x name [] = omega arith
afterwards-less x name (t ∷ ts) =
    let u : Shared = record t { name = without_name name t.name } in
    omega (arith, more x t ts, more x u (renamed_by (without_name name) ts), head-less x (is_named name t.name) t.name t.share, afterwards-less x name ts)

head-gone : (name : List ℕ) (o : Option (List ℕ)) (n : ℕ) (c : Bool) → is_named name o ≡ c → (if is_named name (if c then None else o) then n else 0) ≡ 0
head-gone name o n true is = refl
head-gone name o n false is = false-is (is_named name o) n 0 is

afterwards-gone : (name : List ℕ) (ts : List Shared) → charge_after name (renamed_by (without_name name) ts) ≡ 0
afterwards-gone name [] = refl
afterwards-gone name (t ∷ ts) =
    let u : Shared = record t { name = without_name name t.name } in
    omega (arith, more name u (renamed_by (without_name name) ts), head-gone name t.name t.share (is_named name t.name) refl, afterwards-gone name ts)

not-read : (name : List ℕ) (ts : List Shared) → is_read name ts ≡ false → charge_after name ts ≡ 0
not-read name [] none = refl
not-read name (t ∷ ts) none = by (is_named name t.name) refl (not-read name ts)
  where
    by : (c : Bool) → is_named name t.name ≡ c → (is_read name ts ≡ false → charge_after name ts ≡ 0) → charge_after name (t ∷ ts) ≡ 0
    by true is before = absurd (let wrong : true ≡ false = sym (true-is (is_named name t.name) true (is_read name ts) is) ∙ none in cc)
    by false is before =
        let rest : is_read name ts ≡ false = sym (false-is (is_named name t.name) true (is_read name ts) is) ∙ none in
        omega (arith, more name t ts, false-is (is_named name t.name) t.share 0 is, before rest)

-- ---- they stay so

pub once-removed : (name : List ℕ) (ns : List (Named Means)) (ts : List Shared) → AreOnce ns ts → AreOnce (without name ns) (renamed_by (without_name name) ts)
once-removed name ns ts once x = by (is_same name x) refl
  where
    by : (c : Bool) → is_same name x ≡ c → charge_after x (renamed_by (without_name name) ts) ≤ charge_under (find x (without name ns))
    by true is = let none = subst (λ y. charge_after y (renamed_by (without_name name) ts) ≡ 0) (same_is name x is) (afterwards-gone name ts) in omega (arith, none)
    by false is = omega (arith, once x, afterwards-less x name ts, ap charge_under (without-other name x is ns))

pub once-named : (name : List ℕ) (m : Means) (ns : List (Named Means)) (ts : List Shared) → AreOnce ns ts → AreOnce (put name m ns) (renamed_by (without_name name) ts)
once-named name m ns ts once x = by (is_same name x) refl
  where
    by : (c : Bool) → is_same name x ≡ c → charge_after x (renamed_by (without_name name) ts) ≤ charge_under (find x (put name m ns))
    by true is = let none = subst (λ y. charge_after y (renamed_by (without_name name) ts) ≡ 0) (same_is name x is) (afterwards-gone name ts) in omega (arith, none)
    by false is = omega (arith, once x, afterwards-less x name ts, ap charge_under (put-other name x is m ns))

-- one name takes what another had

module _ (from to : List ℕ) where
  head-to : (o : Option (List ℕ)) (n : ℕ) (c : Bool) → is_named from o ≡ c → (if is_named to (if c then Some to else without_name to o) then n else 0) ≤ (if is_named from o then n else 0)
  head-to o n true is = omega (arith, true-is (is_same to to) n 0 (same_itself to to refl), true-is (is_named from o) n 0 is)
  head-to o n false is = omega (arith, head-gone to o n (is_named to o) refl)

  afterwards-to : (ts : List Shared) → charge_after to (renamed_by (with_name from to) ts) ≤ charge_after from ts
  afterwards-to [] = omega arith
  afterwards-to (t ∷ ts) =
      let u : Shared = record t { name = with_name from to t.name } in
      omega (arith, more from t ts, more to u (renamed_by (with_name from to) ts), head-to t.name t.share (is_named from t.name) refl, afterwards-to ts)

  head-from : is_same to from ≡ false → (o : Option (List ℕ)) (n : ℕ) (c : Bool) → is_named from o ≡ c → (if is_named from (if c then Some to else without_name to o) then n else 0) ≤ 0
  head-from apart o n true is = omega (arith, false-is (is_same to from) n 0 apart)
  head-from apart o n false is = omega (arith, head-less from (is_named to o) o n, false-is (is_named from o) n 0 is)

  afterwards-from : is_same to from ≡ false → (ts : List Shared) → charge_after from (renamed_by (with_name from to) ts) ≤ 0
  afterwards-from apart [] = omega arith
  afterwards-from apart (t ∷ ts) =
      let u : Shared = record t { name = with_name from to t.name } in
      omega (arith, more from u (renamed_by (with_name from to) ts), head-from apart t.name t.share (is_named from t.name) refl, afterwards-from apart ts)

  head-other : (x : List ℕ) → is_same to x ≡ false → (o : Option (List ℕ)) (n : ℕ) (c : Bool) → (if is_named x (if c then Some to else without_name to o) then n else 0) ≤ (if is_named x o then n else 0)
  head-other x apart o n true = omega (arith, false-is (is_same to x) n 0 apart)
  head-other x apart o n false = head-less x (is_named to o) o n

  afterwards-other : (x : List ℕ) → is_same to x ≡ false → (ts : List Shared) → charge_after x (renamed_by (with_name from to) ts) ≤ charge_after x ts
  afterwards-other x apart [] = omega arith
  afterwards-other x apart (t ∷ ts) =
      let u : Shared = record t { name = with_name from to t.name } in
      omega (arith, more x t ts, more x u (renamed_by (with_name from to) ts), head-other x apart t.name t.share (is_named from t.name), afterwards-other x apart ts)

same-both : (a b : List ℕ) → is_same b a ≡ true → is_same a b ≡ true
same-both a b is = same_itself a b (sym (same_is b a is))

pub once-moved : (from to : List ℕ) (m : Means) (ns : List (Named Means)) (ts : List Shared) → is_same from to ≡ false → find from ns ≡ Some m → AreOnce ns ts
    → AreOnce (put to m (without from ns)) (renamed_by (with_name from to) ts)
once-moved from to m ns ts apart has once x = by (is_same to x) (is_same from x) refl refl
  where
    after : List Shared
    after = renamed_by (with_name from to) ts

    other-way : (c : Bool) → is_same to from ≡ c → c ≡ false
    other-way true is = absurd (let wrong : true ≡ false = sym (same-both from to is) ∙ apart in cc)
    other-way false is = refl

    by : (c d : Bool) → is_same to x ≡ c → is_same from x ≡ d → charge_after x (renamed_by (with_name from to) ts) ≤ charge_under (find x (put to m (without from ns)))
    by true d is-to is-from =
        subst (λ y. charge_after y (renamed_by (with_name from to) ts) ≤ charge_under (find y (put to m (without from ns)))) (same_is to x is-to)
        (omega (arith, afterwards-to from to ts, once from, ap charge_under has, ap charge_under (put-same to m (without from ns))))
    by false true is-to is-from =
        let none : charge_after x (renamed_by (with_name from to) ts) ≤ 0 =
        subst (λ y. charge_after y (renamed_by (with_name from to) ts) ≤ 0) (same_is from x is-from) (afterwards-from from to (other-way (is_same to from) refl ∙ refl) ts) in
        omega (arith, none)
    by false false is-to is-from =
        omega (arith, once x, afterwards-other from to x is-to ts, ap charge_under (put-other to x is-to m (without from ns)), ap charge_under (without-other from x is-from ns))

-- another level reads the text of a name

word-is : (o : Option Means) (text : List Element) → words o ≡ Some text → charge_under o ≡ 48 + length text
word-is None text is = absurd (let wrong : None ≡ Some text = is in cc)
word-is (Some (Act r)) text is = absurd (let wrong : None ≡ Some text = is in cc)
word-is (Some (Words ws)) text is = let same : ws ≡ text = cc in ap (λ (xs : List Element). 48 + length xs) same

pub once-read : (name : List ℕ) (text : List Element) (ns : List (Named Means)) (ts : List Shared) → words (find name ns) ≡ Some text → AreOnce ns ts → AreOnce ns (shared_by name text ts ∷ ts)
once-read name text ns ts has once x = by (is_same name x) refl
  where
    t : Shared
    t = shared_by name text ts

    reading : (c : Bool) → is_read name ts ≡ c → (if c then 0 else share text) + charge_after name ts ≤ charge_under (find name ns)
    reading true is = omega (arith, once name)
    reading false is = omega (arith, not-read name ts is, word-is (find name ns) text has)

    by : (c : Bool) → is_same name x ≡ c → charge_after x (shared_by name text ts ∷ ts) ≤ charge_under (find x ns)
    by true is =
        subst (λ y. charge_after y (shared_by name text ts ∷ ts) ≤ charge_under (find y ns)) (same_is name x is)
        (omega (arith, more name (shared_by name text ts) ts, true-is (is_same name name) (if is_read name ts then 0 else share text) 0 (same_itself name name refl), reading (is_read name ts) refl))
    by false is = omega (arith, more x (shared_by name text ts) ts, false-is (is_same name x) (if is_read name ts then 0 else share text) 0 is, once x)

-- a text of its own, and one level less

pub once-own : (n : ℕ) (ns : List (Named Means)) (ts : List Shared) → AreOnce ns ts → AreOnce ns (record { name = None; share = n } ∷ ts)
once-own n ns ts once x = let t : Shared = record { name = None; share = n } in omega (arith, more x t ts, once x)

less : (x : List ℕ) (ts : List Shared) → charge_after x (drop 1 ts) ≤ charge_after x ts
less x [] = omega arith
less x (t ∷ ts) = omega (arith, more x t ts)

pub once-dropped : (ns : List (Named Means)) (ts : List Shared) → AreOnce ns ts → AreOnce ns (drop 1 ts)
once-dropped ns ts once x = omega (arith, once x, less x ts)

pub once-none : (ns : List (Named Means)) → AreOnce ns []
once-none ns x = omega arith

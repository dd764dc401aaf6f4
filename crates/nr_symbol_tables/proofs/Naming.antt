-- Lemmas on lists of what has names: what is found in them, and in which order they are.
use Rattle.std.proofs.Common.{◌≡◌, ◌≢◌, ℕ, zero, suc, ◌<◌, List, [], ◌∷◌, ◌++◌, length, get_or, set, false, Some, None, is_some, refl, ap, sym, subst, ◌∙◌, inl, inr, arith}
use Rattle.std.specs.Prelude.{Option, cond}
use Rattle.std.proofs.lemmas.Bool.{cases_Bool, cond-true, cond-false}
use Rattle.nr_symbol_tables.specs.Table.{Named, is_same, is_before, find, put, replaced, inserted, without}
use Rattle.nr_symbol_tables.specs.Rows.{in_order, AreApart, names, name_in}
use Rattle.nr_symbol_tables.specs.Laws.{find-put_same, find-put_other, find-without_other}
use Rattle.nr_symbol_tables.proofs.Order.{IsBefore, same_itself, same_is, apart_not_same, same_or_not, after_apart, comes_before, comes_after, before_trans, before_or_after}

-- ---- what is found, whatever the order

found_first : {X : Type 0} (n : Named X) (ns : List (Named X)) (name : List ℕ) → n.name ≡ name → find name (n ∷ ns) ≡ Some n.value
found_first n ns name is = cond-true (is_same n.name name) (Some n.value) (find name ns) (same_itself n.name name is)

found_later : {X : Type 0} (n : Named X) (ns : List (Named X)) (name : List ℕ) → n.name ≢ name → find name (n ∷ ns) ≡ find name ns
found_later n ns name other = cond-false (is_same n.name name) (Some n.value) (find name ns) (apart_not_same n.name name other)

-- what is not there has another name than each that is
none_first : {X : Type 0} (n : Named X) (ns : List (Named X)) (name : List ℕ) → find name (n ∷ ns) ≡ None → n.name ≢ name
none_first n ns name none is = let wrong : Some n.value ≡ None = sym (found_first n ns name is) ∙ none in cc

none_later : {X : Type 0} (n : Named X) (ns : List (Named X)) (name : List ℕ) → find name (n ∷ ns) ≡ None → find name ns ≡ None
none_later n ns name none = sym (found_later n ns name (none_first n ns name none)) ∙ none

pub find_in_order : {X : Type 0} (name : List ℕ) (ns : List (Named X)) → find name (in_order ns) ≡ find name ns
find_in_order name [] = refl
find_in_order name (n ∷ ns) = elim (same_or_not n.name name) [
  | inl is ↦ subst (λ m. find m (put n.name n.value (in_order ns)) ≡ Some n.value) is (find-put_same n.name n.value (in_order ns)) ∙ sym (found_first n ns name is)
  | inr other ↦ find-put_other n.name name n.value (in_order ns) (λ is. other (sym is)) ∙ find_in_order name ns ∙ sym (found_later n ns name other)
]

-- a name stands at a place
pub find_at : {X : Type 0} (name : List ℕ) (ns : List (Named X)) (p : ℕ) (d : Named X) → AreApart ns → p < length ns → name_in (names ns) p ≡ name → find name ns ≡ Some (get_or ns p d).value
find_at name [] p d apart inside is = absurd (omega arith)
find_at name (n ∷ ns) zero d apart inside is = found_first n ns name is
find_at name (n ∷ ns) (suc p) d apart inside is =
    let later = find_at name ns p d apart.1 (omega arith) is in
    let other : n.name ≢ name = λ same. (let wrong : Some (get_or ns p d).value ≡ None = sym later ∙ subst (λ m. find m ns ≡ None) same apart.0 in cc) in
    found_later n ns name other ∙ later

pub find_nowhere : {X : Type 0} (name : List ℕ) (ns : List (Named X)) → ((k : ℕ) → k < length (names ns) → name_in (names ns) k ≡ name → ⊥) → find name ns ≡ None
find_nowhere name [] none = refl
find_nowhere name (n ∷ ns) none = found_later n ns name (none 0 (omega arith)) ∙ find_nowhere name ns (λ k below. none (suc k) (omega arith))

-- ---- one more at the end

pub find_more_same : {X : Type 0} (ns : List (Named X)) (n : Named X) → find n.name ns ≡ None → find n.name (ns ++ n ∷ []) ≡ Some n.value
find_more_same [] n none = found_first n [] n.name refl
find_more_same (m ∷ ms) n none = found_later m (ms ++ n ∷ []) n.name (none_first m ms n.name none) ∙ find_more_same ms n (none_later m ms n.name none)

pub find_more_other : {X : Type 0} (name : List ℕ) (ns : List (Named X)) (n : Named X) → n.name ≢ name → find name (ns ++ n ∷ []) ≡ find name ns
find_more_other name [] n other = found_later n [] name other
find_more_other name (m ∷ ms) n other = ap (λ o. cond (is_same m.name name) (Some m.value) o) (find_more_other name ms n other)

pub apart_more : {X : Type 0} (ns : List (Named X)) (n : Named X) → AreApart ns → find n.name ns ≡ None → AreApart (ns ++ n ∷ [])
apart_more [] n apart none = (refl, apart)
apart_more (m ∷ ms) n apart none =
    (find_more_other m.name ms n (λ is. none_first m ms n.name none (sym is)) ∙ apart.0, apart_more ms n apart.1 (none_later m ms n.name none))

-- the last is found, where no two are one
find_more_last : {X : Type 0} (ns : List (Named X)) (n : Named X) (name : List ℕ) → n.name ≡ name → AreApart (ns ++ n ∷ []) → find name (ns ++ n ∷ []) ≡ Some n.value
find_more_last [] n name is apart = found_first n [] name is
find_more_last (m ∷ ms) n name is apart =
    let later = find_more_last ms n name is apart.1 in
    let other : m.name ≢ name = λ same. (let wrong : Some n.value ≡ None = sym later ∙ subst (λ x. find x (ms ++ n ∷ []) ≡ None) same apart.0 in cc) in
    found_later m (ms ++ n ∷ []) name other ∙ later

pub apart_fewer : {X : Type 0} (ns : List (Named X)) (n : Named X) → AreApart (ns ++ n ∷ []) → AreApart ns
apart_fewer [] n apart = apart.1
apart_fewer (m ∷ ms) n apart =
    let other : n.name ≢ m.name = λ is. (let wrong : Some n.value ≡ None = sym (find_more_last ms n m.name is apart.1) ∙ apart.0 in cc) in
    (sym (find_more_other m.name ms n other) ∙ apart.0, apart_fewer ms n apart.1)

pub last_apart : {X : Type 0} (ns : List (Named X)) (n : Named X) → AreApart (ns ++ n ∷ []) → find n.name ns ≡ None
last_apart [] n apart = refl
last_apart (m ∷ ms) n apart =
    let other : m.name ≢ n.name = λ is. (let wrong : Some n.value ≡ None = sym (find_more_last ms n m.name (sym is) apart.1) ∙ apart.0 in cc) in
    found_later m ms n.name other ∙ last_apart ms n apart.1

-- ---- one in the place of another

pub find_set_same : {X : Type 0} (ns : List (Named X)) (p : ℕ) (n : Named X) → AreApart ns → p < length ns → name_in (names ns) p ≡ n.name → find n.name (set ns p n) ≡ Some n.value
find_set_same [] p n apart inside is = absurd (omega arith)
find_set_same (m ∷ ms) zero n apart inside is = found_first n ms n.name refl
find_set_same (m ∷ ms) (suc p) n apart inside is =
    let other : m.name ≢ n.name = λ same. (let wrong : Some (get_or ms p m).value ≡ None = sym (find_at n.name ms p m apart.1 (omega arith) is) ∙ subst (λ x. find x ms ≡ None) same apart.0 in cc) in
    found_later m (set ms p n) n.name other ∙ find_set_same ms p n apart.1 (omega arith) is

pub find_set_new : {X : Type 0} (ns : List (Named X)) (p : ℕ) (n : Named X) → p < length ns → find n.name ns ≡ None → find n.name (set ns p n) ≡ Some n.value
find_set_new [] p n inside none = absurd (omega arith)
find_set_new (m ∷ ms) zero n inside none = found_first n ms n.name refl
find_set_new (m ∷ ms) (suc p) n inside none = found_later m (set ms p n) n.name (none_first m ms n.name none) ∙ find_set_new ms p n (omega arith) (none_later m ms n.name none)

pub find_set_other : {X : Type 0} (name : List ℕ) (ns : List (Named X)) (p : ℕ) (n : Named X) → p < length ns → name_in (names ns) p ≢ name → n.name ≢ name → find name (set ns p n) ≡ find name ns
find_set_other name [] p n inside was other = absurd (omega arith)
find_set_other name (m ∷ ms) zero n inside was other = found_later n ms name other ∙ sym (found_later m ms name was)
find_set_other name (m ∷ ms) (suc p) n inside was other = ap (λ o. cond (is_same m.name name) (Some m.value) o) (find_set_other name ms p n (omega arith) was other)

pub find_set_gone : {X : Type 0} (name : List ℕ) (ns : List (Named X)) (p : ℕ) (n : Named X) → AreApart ns → p < length ns → name_in (names ns) p ≡ name → n.name ≢ name → find name (set ns p n) ≡ None
find_set_gone name [] p n apart inside is other = absurd (omega arith)
find_set_gone name (m ∷ ms) zero n apart inside is other = found_later n ms name other ∙ subst (λ x. find x ms ≡ None) is apart.0
find_set_gone name (m ∷ ms) (suc p) n apart inside is other =
    let first_other : m.name ≢ name = λ same. (let wrong : Some (get_or ms p m).value ≡ None = sym (find_at name ms p m apart.1 (omega arith) is) ∙ subst (λ x. find x ms ≡ None) same apart.0 in cc) in
    found_later m (set ms p n) name first_other ∙ find_set_gone name ms p n apart.1 (omega arith) is other

pub apart_set_same : {X : Type 0} (ns : List (Named X)) (p : ℕ) (n : Named X) → AreApart ns → p < length ns → name_in (names ns) p ≡ n.name → AreApart (set ns p n)
apart_set_same [] p n apart inside is = absurd (omega arith)
apart_set_same (m ∷ ms) zero n apart inside is = (subst (λ x. find x ms ≡ None) is apart.0, apart.1)
apart_set_same (m ∷ ms) (suc p) n apart inside is =
    let found = find_at n.name ms p m apart.1 (omega arith) is in
    let other : n.name ≢ m.name = λ same. (let wrong : Some (get_or ms p m).value ≡ None = sym found ∙ subst (λ x. find x ms ≡ None) (sym same) apart.0 in cc) in
    (find_set_other m.name ms p n (omega arith) (λ same. other (sym is ∙ same)) other ∙ apart.0, apart_set_same ms p n apart.1 (omega arith) is)

pub apart_set_new : {X : Type 0} (ns : List (Named X)) (p : ℕ) (n : Named X) → AreApart ns → p < length ns → find n.name ns ≡ None → AreApart (set ns p n)
apart_set_new [] p n apart inside none = absurd (omega arith)
apart_set_new (m ∷ ms) zero n apart inside none = (none_later m ms n.name none, apart.1)
apart_set_new (m ∷ ms) (suc p) n apart inside none =
    let other : n.name ≢ m.name = λ same. none_first m ms n.name none (sym same) in (
      elim (same_or_not (name_in (names ms) p) m.name) [
        | inl same ↦ find_set_gone m.name ms p n apart.1 (omega arith) same other
        | inr apart_there ↦ find_set_other m.name ms p n (omega arith) apart_there other ∙ apart.0
      ],
      apart_set_new ms p n apart.1 (omega arith) (none_later m ms n.name none),
    )

-- ---- the order

-- a name comes before each of these
abbrev AllAfter : {X : Type 0} → List ℕ → List (Named X) → Type 0
AllAfter name [] = Unit {0}
AllAfter name (n ∷ ns) = IsBefore name n.name × AllAfter name ns

-- the names ascend
abbrev pub Ascends : {X : Type 0} → List (Named X) → Type 0
Ascends [] = Unit {0}
Ascends (n ∷ ns) = AllAfter n.name ns × Ascends ns

after_more : {X : Type 0} (a b : List ℕ) (ns : List (Named X)) → IsBefore a b → AllAfter b ns → AllAfter a ns
after_more a b [] lower all = all
after_more a b (n ∷ ns) lower all = (before_trans a b n.name lower all.0, after_more a b ns lower all.1)

-- none of them is the name that comes before all
none_after : {X : Type 0} (name : List ℕ) (ns : List (Named X)) → AllAfter name ns → find name ns ≡ None
none_after name [] all = refl
none_after name (n ∷ ns) all = cond-false (is_same n.name name) (Some n.value) (find name ns) (after_apart n.name name all.0) ∙ none_after name ns all.1

inserted_after : {X : Type 0} (a name : List ℕ) (x : X) (ns : List (Named X)) → IsBefore a name → AllAfter a ns → AllAfter a (inserted name x ns)
inserted_after a name x [] lower all = (lower, all)
inserted_after a name x (n ∷ ns) lower all = elim (cases_Bool (is_before name n.name)) [
  | inl here ↦ subst (λ l. AllAfter a l) (sym (cond-true (is_before name n.name) (record { name = name; value = x } ∷ (n ∷ ns)) (n ∷ inserted name x ns) here)) (lower, all)
  | inr later ↦ subst (λ l. AllAfter a l) (sym (cond-false (is_before name n.name) (record { name = name; value = x } ∷ (n ∷ ns)) (n ∷ inserted name x ns) later)) (all.0, inserted_after a name x ns lower all.1)
]

-- a name that is replaced among those after one comes after it too
replaced_up : {X : Type 0} (a name : List ℕ) (x : X) (ns : List (Named X)) → AllAfter a ns → AllAfter a (replaced name x ns)
replaced_up a name x [] all = all
replaced_up a name x (n ∷ ns) all = elim (cases_Bool (is_same n.name name)) [
  | inl hit ↦ subst (λ l. AllAfter a l) (sym (cond-true (is_same n.name name) (record { name = name; value = x } ∷ ns) (n ∷ replaced name x ns) hit)) (subst (λ m. IsBefore a m) (same_is n.name name hit) all.0, all.1)
  | inr miss ↦ subst (λ l. AllAfter a l) (sym (cond-false (is_same n.name name) (record { name = name; value = x } ∷ ns) (n ∷ replaced name x ns) miss)) (all.0, replaced_up a name x ns all.1)
]

ascends-replaced : {X : Type 0} (name : List ℕ) (x : X) (ns : List (Named X)) → Ascends ns → Ascends (replaced name x ns)
ascends-replaced name x [] up = up
ascends-replaced name x (n ∷ ns) up = elim (cases_Bool (is_same n.name name)) [
  | inl hit ↦ subst (λ l. Ascends l) (sym (cond-true (is_same n.name name) (record { name = name; value = x } ∷ ns) (n ∷ replaced name x ns) hit)) (subst (λ m. AllAfter m ns) (same_is n.name name hit) up.0, up.1)
  | inr miss ↦ subst (λ l. Ascends l) (sym (cond-false (is_same n.name name) (record { name = name; value = x } ∷ ns) (n ∷ replaced name x ns) miss)) (replaced_up n.name name x ns up.0, ascends-replaced name x ns up.1)
]

ascends-inserted : {X : Type 0} (name : List ℕ) (x : X) (ns : List (Named X)) → find name ns ≡ None → Ascends ns → Ascends (inserted name x ns)
ascends-inserted name x [] none up = (up, up)
ascends-inserted name x (n ∷ ns) none up = elim (before_or_after name n.name (λ is. none_first n ns name none (sym is))) [
  | inl low ↦ subst (λ l. Ascends l) (sym (cond-true (is_before name n.name) (record { name = name; value = x } ∷ (n ∷ ns)) (n ∷ inserted name x ns) (comes_before name n.name low))) ((low, after_more name n.name ns low up.0), up)
  | inr high ↦ subst (λ l. Ascends l) (sym (cond-false (is_before name n.name) (record { name = name; value = x } ∷ (n ∷ ns)) (n ∷ inserted name x ns) (comes_after name n.name high)))
      (inserted_after n.name name x ns high up.0, ascends-inserted name x ns (none_later n ns name none) up.1)
]

nothing_found : {X : Type 0} (o : Option X) → is_some o ≡ false → o ≡ None
nothing_found None h = refl
nothing_found (Some x) h = cc

pub ascends-put : {X : Type 0} (name : List ℕ) (x : X) (ns : List (Named X)) → Ascends ns → Ascends (put name x ns)
ascends-put name x ns up = elim (cases_Bool (is_some (find name ns))) [
  | inl some ↦ subst (λ l. Ascends l) (sym (cond-true (is_some (find name ns)) (replaced name x ns) (inserted name x ns) some)) (ascends-replaced name x ns up)
  | inr none ↦ subst (λ l. Ascends l) (sym (cond-false (is_some (find name ns)) (replaced name x ns) (inserted name x ns) none)) (ascends-inserted name x ns (nothing_found (find name ns) none) up)
]

pub ascends-in_order : {X : Type 0} (ns : List (Named X)) → Ascends (in_order ns)
ascends-in_order [] = tt
ascends-in_order (n ∷ ns) = ascends-put n.name n.value (in_order ns) (ascends-in_order ns)

without_after : {X : Type 0} (a name : List ℕ) (ns : List (Named X)) → AllAfter a ns → AllAfter a (without name ns)
without_after a name [] all = all
without_after a name (n ∷ ns) all = elim (cases_Bool (is_same n.name name)) [
  | inl hit ↦ subst (λ l. AllAfter a l) (sym (cond-true (is_same n.name name) ns (n ∷ without name ns) hit)) all.1
  | inr miss ↦ subst (λ l. AllAfter a l) (sym (cond-false (is_same n.name name) ns (n ∷ without name ns) miss)) (all.0, without_after a name ns all.1)
]

pub ascends-without : {X : Type 0} (name : List ℕ) (ns : List (Named X)) → Ascends ns → Ascends (without name ns)
ascends-without name [] up = up
ascends-without name (n ∷ ns) up = elim (cases_Bool (is_same n.name name)) [
  | inl hit ↦ subst (λ l. Ascends l) (sym (cond-true (is_same n.name name) ns (n ∷ without name ns) hit)) up.1
  | inr miss ↦ subst (λ l. Ascends l) (sym (cond-false (is_same n.name name) ns (n ∷ without name ns) miss)) (without_after n.name name ns up.0, ascends-without name ns up.1)
]

pub find-without_same : {X : Type 0} (name : List ℕ) (ns : List (Named X)) → Ascends ns → find name (without name ns) ≡ None
find-without_same name [] up = refl
find-without_same name (n ∷ ns) up = elim (cases_Bool (is_same n.name name)) [
  | inl hit ↦ ap (find name) (cond-true (is_same n.name name) ns (n ∷ without name ns) hit) ∙ subst (λ m. find m ns ≡ None) (same_is n.name name hit) (none_after n.name ns up.0)
  | inr miss ↦ ap (find name) (cond-false (is_same n.name name) ns (n ∷ without name ns) miss) ∙ cond-false (is_same n.name name) (Some n.value) (find name (without name ns)) miss ∙ find-without_same name ns up.1
]

-- ---- where the same is found under each name, two lists in order are one

some_value : {X : Type 0} (x y : X) → Some x ≡ Some y → x ≡ y
some_value x y is = cc

-- the first name of a list comes before no name of the other
not_first : {X : Type 0} (n : Named X) (ns : List (Named X)) (m : Named X) (ms : List (Named X)) → Ascends (m ∷ ms) → find n.name (n ∷ ns) ≡ find n.name (m ∷ ms) → IsBefore n.name m.name → ⊥
not_first n ns m ms up same lower =
    let none : find n.name (m ∷ ms) ≡ None = none_after n.name (m ∷ ms) (lower, after_more n.name m.name ms lower up.0) in
    let wrong : Some n.value ≡ None = sym (found_first n ns n.name refl) ∙ same ∙ none in
    cc

named_is : {X : Type 0} (n m : Named X) → n.name ≡ m.name → n.value ≡ m.value → n ≡ m
named_is n m names values = ap (λ x. record { name = x; value = n.value }) names ∙ ap (λ v. record { name = m.name; value = v }) values

pub same_finds : {X : Type 0} (ns ms : List (Named X)) → Ascends ns → Ascends ms → ((name : List ℕ) → find name ns ≡ find name ms) → ns ≡ ms
same_finds [] [] up up' same = refl
same_finds [] (m ∷ ms) up up' same = absurd (let wrong : None ≡ Some m.value = same m.name ∙ found_first m ms m.name refl in cc)
same_finds (n ∷ ns) [] up up' same = absurd (let wrong : Some n.value ≡ None = sym (found_first n ns n.name refl) ∙ same n.name in cc)
same_finds (n ∷ ns) (m ∷ ms) up up' same = elim (same_or_not n.name m.name) [
  | inr other ↦ elim (before_or_after n.name m.name other) [
    | inl low ↦ absurd (not_first n ns m ms up' (same n.name) low)
    | inr high ↦ absurd (not_first m ms n ns up (sym (same m.name)) high)
  ]
  | inl is ↦ (
      let values : n.value ≡ m.value = some_value n.value m.value (sym (found_first n ns m.name is) ∙ same m.name ∙ found_first m ms m.name refl) in
      let rest : (name : List ℕ) → find name ns ≡ find name ms = λ name. elim (same_or_not n.name name) [
        | inl here ↦ subst (λ x. find x ns ≡ None) here (none_after n.name ns up.0) ∙ sym (subst (λ x. find x ms ≡ None) (sym is ∙ here) (none_after m.name ms up'.0))
        | inr away ↦ sym (found_later n ns name away) ∙ same name ∙ found_later m ms name (λ e. away (is ∙ e))
      ] in
      let firsts : n ≡ m = named_is n m is values in
      ap (λ x. x ∷ ns) firsts ∙ ap (λ l. m ∷ l) (same_finds ns ms up.1 up'.1 rest))
]

-- ---- how many

length-inserted : {X : Type 0} (name : List ℕ) (x : X) (ns : List (Named X)) → length (inserted name x ns) ≡ suc (length ns)
length-inserted name x [] = refl
length-inserted name x (n ∷ ns) = elim (cases_Bool (is_before name n.name)) [
  | inl here ↦ ap length (cond-true (is_before name n.name) (record { name = name; value = x } ∷ (n ∷ ns)) (n ∷ inserted name x ns) here)
  | inr later ↦ ap length (cond-false (is_before name n.name) (record { name = name; value = x } ∷ (n ∷ ns)) (n ∷ inserted name x ns) later) ∙ ap suc (length-inserted name x ns)
]

pub length-in_order : {X : Type 0} (ns : List (Named X)) → AreApart ns → length (in_order ns) ≡ length ns
length-in_order [] apart = refl
length-in_order (n ∷ ns) apart =
    let none : is_some (find n.name (in_order ns)) ≡ false = ap is_some (find_in_order n.name ns ∙ apart.0) in
    ap length (cond-false (is_some (find n.name (in_order ns))) (replaced n.name n.value (in_order ns)) (inserted n.name n.value (in_order ns)) none)
    ∙ length-inserted n.name n.value (in_order ns) ∙ ap suc (length-in_order ns apart.1)

-- ---- what the calls of a table make of its list

pub in_order_set : {X : Type 0} (name : List ℕ) (x : X) (ns : List (Named X)) (p : ℕ) → AreApart ns → p < length ns → name_in (names ns) p ≡ name
    → in_order (set ns p (record { name = name; value = x })) ≡ put name x (in_order ns)
in_order_set name x ns p apart inside is =
    let n : Named _ = record { name = name; value = x } in
    same_finds (in_order (set ns p n)) (put name x (in_order ns)) (ascends-in_order (set ns p n)) (ascends-put name x (in_order ns) (ascends-in_order ns))
    (λ m. find_in_order m (set ns p n) ∙ elim (same_or_not name m) [
      | inl same ↦ subst (λ y. find y (set ns p n) ≡ find y (put name x (in_order ns))) same (find_set_same ns p n apart inside is ∙ sym (find-put_same name x (in_order ns)))
      | inr other ↦ find_set_other m ns p n inside (λ e. other (sym is ∙ e)) other ∙ sym (find_in_order m ns) ∙ sym (find-put_other name m x (in_order ns) (λ e. other (sym e)))
    ])

pub in_order_more : {X : Type 0} (name : List ℕ) (x : X) (ns : List (Named X)) → find name ns ≡ None → in_order (ns ++ record { name = name; value = x } ∷ []) ≡ put name x (in_order ns)
in_order_more name x ns none =
    let n : Named _ = record { name = name; value = x } in
    same_finds (in_order (ns ++ n ∷ [])) (put name x (in_order ns)) (ascends-in_order (ns ++ n ∷ [])) (ascends-put name x (in_order ns) (ascends-in_order ns))
    (λ m. find_in_order m (ns ++ n ∷ []) ∙ elim (same_or_not name m) [
      | inl same ↦ subst (λ y. find y (ns ++ n ∷ []) ≡ find y (put name x (in_order ns))) same (find_more_same ns n none ∙ sym (find-put_same name x (in_order ns)))
      | inr other ↦ find_more_other m ns n other ∙ sym (find_in_order m ns) ∙ sym (find-put_other name m x (in_order ns) (λ e. other (sym e)))
    ])

-- the last goes
pub in_order_popped : {X : Type 0} (ns : List (Named X)) (n : Named X) → AreApart (ns ++ n ∷ []) → in_order ns ≡ without n.name (in_order (ns ++ n ∷ []))
in_order_popped ns n apart =
    let all = ns ++ n ∷ [] in
    let up = ascends-in_order all in
    same_finds (in_order ns) (without n.name (in_order all)) (ascends-in_order ns) (ascends-without n.name (in_order all) up)
    (λ m. find_in_order m ns ∙ elim (same_or_not n.name m) [
      | inl same ↦ subst (λ y. find y ns ≡ find y (without n.name (in_order all))) same (last_apart ns n apart ∙ sym (find-without_same n.name (in_order all) up))
      | inr other ↦ sym (find_more_other m ns n other) ∙ sym (find_in_order m all) ∙ sym (find-without_other n.name m (in_order all) (λ e. other (sym e)))
    ])

-- another goes, and the last comes into its place
pub in_order_replaced : {X : Type 0} (name : List ℕ) (ns : List (Named X)) (n : Named X) (p : ℕ) → AreApart (ns ++ n ∷ []) → p < length ns → name_in (names ns) p ≡ name
    → in_order (set ns p n) ≡ without name (in_order (ns ++ n ∷ []))
in_order_replaced name ns n p apart inside is =
    let all = ns ++ n ∷ [] in
    let up = ascends-in_order all in
    let fewer = apart_fewer ns n apart in
    let none = last_apart ns n apart in
    let found = find_at name ns p n fewer inside is in
    let off : n.name ≢ name = λ e. (let wrong : Some (get_or ns p n).value ≡ None = sym found ∙ subst (λ y. find y ns ≡ None) e none in cc) in
    same_finds (in_order (set ns p n)) (without name (in_order all)) (ascends-in_order (set ns p n)) (ascends-without name (in_order all) up)
    (λ m. find_in_order m (set ns p n) ∙ elim (same_or_not name m) [
      | inl same ↦ subst (λ y. find y (set ns p n) ≡ find y (without name (in_order all))) same (find_set_gone name ns p n fewer inside is off ∙ sym (find-without_same name (in_order all) up))
      | inr other ↦ elim (same_or_not n.name m) [
        | inl last ↦ subst (λ y. find y (set ns p n) ≡ find y (without name (in_order all))) last
            (find_set_new ns p n inside none ∙ sym (find_more_same ns n none) ∙ sym (find_in_order n.name all) ∙ sym (find-without_other name n.name (in_order all) off))
        | inr away ↦ find_set_other m ns p n inside (λ e. other (sym is ∙ e)) away ∙ sym (find_more_other m ns n away) ∙ sym (find_in_order m all) ∙ sym (find-without_other name m (in_order all) (λ e. other (sym e)))
      ]
    ])

-- what is not there can't go
pub in_order_kept : {X : Type 0} (name : List ℕ) (ns : List (Named X)) → find name ns ≡ None → in_order ns ≡ without name (in_order ns)
in_order_kept name ns none =
    let up = ascends-in_order ns in
    same_finds (in_order ns) (without name (in_order ns)) up (ascends-without name (in_order ns) up)
    (λ m. elim (same_or_not name m) [
      | inl same ↦ subst (λ y. find y (in_order ns) ≡ find y (without name (in_order ns))) same (find_in_order name ns ∙ none ∙ sym (find-without_same name (in_order ns) up))
      | inr other ↦ sym (find-without_other name m (in_order ns) (λ e. other (sym e)))
    ])

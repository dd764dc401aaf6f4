-- Lemmas on the texts that levels read, and the names that hold them.
use Rattle.std.proofs.Common.{◌≡◌, ◌≢◌, ℕ, ◌+◌, ◌<◌, ◌≤◌, true, false, List, [], ◌∷◌, ◌++◌, sum_by, Option, Some, None, refl, ap, ap₂, sym, ◌∙◌, inl, inr, eqb, ◌⊎◌, arith}
use Rattle.std.specs.Prelude.{nat_lt, if◌then◌else◌}
use Rattle.std.specs.declared.cmp.Ordering.{Ordering}
use Rattle.std.specs.declared.cmp.Ordering.TheVariants.{Less, Equal, Greater}
use Rattle.std.specs.Ordering.{is_eq}
use Rattle.std.specs.FinMap.{slice_cmp-IsAntisymmetric, nat_cmp-IsAntisymmetric}
use Rattle.std.proofs.lemmas.Cmp.{nat_list_cmp_total, tied_itself}
use Rattle.std.proofs.lemmas.List.Sums.{sum_by-cons}
use Rattle.std.proofs.lemmas.Bool.{cases_Bool, cases_lt, cases_eq, eq-eqb, ne_eqb, cond-true, cond-false, lt-ltb, le-ltb}
use Rattle.nr_units.specs.Name.{name_order}
use Rattle.nr_pool.specs.Texts.{Texts, text, holders}
use Rattle.nr_symbol_tables.specs.Table.{is_same, Named, find, put, without}
use Rattle.nr_symbol_tables.specs.Laws.{find-put_same, find-put_other, find-without_other}
use Rattle.nr_levels.specs.Levels.{Source, Text, Own, Mark as Marked, Open}
use Rattle.nr_store.specs.declared.element.Element.{Element}
use Rattle.nr_store.specs.declared.named.Sense.{Sense}
use Rattle.nr_store.specs.declared.named.Sense.TheVariants as senses
use Rattle.nr_store.specs.Senses.{text_id, ids_of_sense}
use Rattle.nr_store.specs.Store.{Shared, loose, text_charge, share, is_named, without_name, with_name, renamed_by, is_read, shared_by, own_text}
use Rattle.nr_store.specs.Holders.{one, count, ids_of_source, ids_of, values, name_by, name_for, text_in, texts_in, AreNamed, lone}
use Rattle.nr_store.proofs.Counting.{one_same, one_other, count-cons, count-append}
use Rattle.nr_store.proofs.Naming.{ones, put_sum, put_sum_new, without_sum, without_none, count-values, find_counts}

-- ---- names that are one

same_itself : (a b : List ℕ) → a ≡ b → is_same a b ≡ true
same_itself a b same = ap is_eq (ap (name_order a) (sym same) ∙ tied_itself nat_list_cmp_total a)

tied : (o : Ordering) → is_eq o ≡ true → o ≡ Equal
tied Less h = let no : ⊥ = cc in absurd no
tied Equal h = refl
tied Greater h = let no : ⊥ = cc in absurd no

same_is : (a b : List ℕ) → is_same a b ≡ true → a ≡ b
same_is a b same = slice_cmp-IsAntisymmetric nat_cmp-IsAntisymmetric a b (tied (name_order a b) same)

not_same : (a b : List ℕ) → is_same a b ≡ false → a ≢ b
not_same a b missed same = let hit = same_itself a b same in let no : ⊥ = cc in absurd no

known : {X : Type 0} → (o : Option X) → (o ≡ None) ⊎ ((x : X) × (o ≡ Some x))
known None = inl refl
known (Some x) = inr (x, refl)

-- ---- the name of a text

no_name_by : (k : ℕ) (m : Sense) (name : List ℕ) (ns : List (Named Sense)) → count k (ids_of_sense m ++ values ns) ≡ 0 → name_for k ns ≡ None → name_by m name k (name_for k ns) ≡ None
no_name_by k (senses.Request r) name ns none rest = rest
no_name_by k (senses.Text id) name ns none rest = elim (cases_eq id k) [
  | inl same ↦ absurd (omega (arith, count-cons k id (values ns), one_same k id same, none))
  | inr apart ↦ cond-false (eqb id k) (Some name) (name_for k ns) (ne_eqb id k apart) ∙ rest
]

pub no_name : (k : ℕ) (ns : List (Named Sense)) → count k (values ns) ≡ 0 → name_for k ns ≡ None
no_name k [] none = refl
no_name k (n ∷ ns) none = no_name_by k n.value n.name ns none (no_name k ns (omega (arith, count-append k (ids_of_sense n.value) (values ns), none)))

uncounted_by : (k : ℕ) (m : Sense) (name : List ℕ) (ns : List (Named Sense)) → name_by m name k (name_for k ns) ≡ None → (name_for k ns ≡ None → count k (values ns) ≡ 0) → count k (ids_of_sense m ++ values ns) ≡ 0
uncounted_by k (senses.Request r) name ns none rest = rest none
uncounted_by k (senses.Text id) name ns none rest = elim (cases_eq id k) [
  | inl same ↦ let is : Some name ≡ None = sym (cond-true (eqb id k) (Some name) (name_for k ns) (eq-eqb id k same)) ∙ none in let no : ⊥ = cc in absurd no
  | inr apart ↦
      let afterwards = rest (sym (cond-false (eqb id k) (Some name) (name_for k ns) (ne_eqb id k apart)) ∙ none) in
      omega (arith, count-cons k id (values ns), one_other k id apart, afterwards)
]

pub uncounted : (k : ℕ) (ns : List (Named Sense)) → name_for k ns ≡ None → count k (values ns) ≡ 0
uncounted k [] none = refl
uncounted k (n ∷ ns) none = uncounted_by k n.value n.name ns none (uncounted k ns)

passed_by : (k : ℕ) (m : Sense) (name : List ℕ) (rest : Option (List ℕ)) → ones k m ≡ 0 → name_by m name k rest ≡ rest
passed_by k (senses.Request r) name rest none = refl
passed_by k (senses.Text id) name rest none = elim (cases_eq id k) [
  | inl same ↦ absurd (omega (arith, count-cons k id [], one_same k id same, none))
  | inr apart ↦ cond-false (eqb id k) (Some name) rest (ne_eqb id k apart)
]

pub found_name : (k : ℕ) (name : List ℕ) (ns : List (Named Sense)) → find name ns ≡ Some (senses.Text k) → count k (values ns) ≤ 1 → name_for k ns ≡ Some name
found_name k name [] is one = let no : ⊥ = cc in absurd no
found_name k name (n ∷ ns) is one = elim (cases_Bool (is_same n.name name)) [
  | inl hit ↦
      let here : Some n.value ≡ Some (senses.Text k) = sym (cond-true (is_same n.name name) (Some n.value) (find name ns) hit) ∙ is in
      let same : n.value ≡ senses.Text k = cc in
      ap (λ m. name_by m n.name k (name_for k ns)) same ∙ cond-true (eqb k k) (Some n.name) (name_for k ns) (eq-eqb k k refl) ∙ ap Some (same_is n.name name hit)
  | inr missed ↦
      let there : find name ns ≡ Some (senses.Text k) = sym (cond-false (is_same n.name name) (Some n.value) (find name ns) missed) ∙ is in
      let counted = find_counts name k ns (ap text_id there) in
      let all = count-append k (ids_of_sense n.value) (values ns) in
      passed_by k n.value n.name (name_for k ns) (omega (arith, counted, all, one)) ∙ found_name k name ns there (omega (arith, counted, all, one))
]

-- ---- a name that is given something else, or taken away

module _ (ns after : List (Named Sense)) (name : List ℕ) (named : AreNamed ns) (single : (k : ℕ) → count k (values after) ≤ 1) (others : (other : List ℕ) → other ≢ name → find other after ≡ find other ns)
    (k : ℕ) (gone : find name ns ≡ Some (senses.Text k) → count k (values after) ≡ 0) (fewer : count k (values after) ≤ count k (values ns)) where
  lost_by : (o : Option (List ℕ)) → name_for k ns ≡ o → name_for k after ≡ without_name name o
  lost_by None is = no_name k after (omega (arith, fewer, uncounted k ns is))
  lost_by (Some n) is = elim (cases_Bool (is_same n name)) [
    | inl hit ↦ no_name k after (gone (ap (λ x. find x ns) (sym (same_is n name hit)) ∙ named.found k n is)) ∙ sym (cond-true (is_same n name) None (Some n) hit)
    | inr missed ↦ found_name k n after (others n (not_same n name missed) ∙ named.found k n is) (single k) ∙ sym (cond-false (is_same n name) None (Some n) missed)
  ]

  pub name_lost : name_for k after ≡ without_name name (name_for k ns)
  name_lost = lost_by (name_for k ns) refl

  still_by : (o : Option (List ℕ)) (n : List ℕ) → name_for k ns ≡ o → without_name name o ≡ Some n → find n after ≡ Some (senses.Text k)
  still_by None n is some = let no : ⊥ = cc in absurd no
  still_by (Some m) n is some = elim (cases_Bool (is_same m name)) [
    | inl hit ↦ let none : None ≡ Some n = sym (cond-true (is_same m name) None (Some m) hit) ∙ some in let no : ⊥ = cc in absurd no
    | inr missed ↦
        let kept : Some m ≡ Some n = sym (cond-false (is_same m name) None (Some m) missed) ∙ some in
        let same : m ≡ n = cc in
        ap (λ x. find x after) (sym same) ∙ others m (not_same m name missed) ∙ named.found k m is
  ]

  pub still_found : (n : List ℕ) → name_for k after ≡ Some n → find n after ≡ Some (senses.Text k)
  still_found n is = still_by (name_for k ns) n refl (sym name_lost ∙ is)

-- a name that is taken away
module _ (name : List ℕ) (ns : List (Named Sense)) (named : AreNamed ns) where
  without_fewer : (k : ℕ) → count k (values (without name ns)) ≤ count k (values ns)
  without_fewer k =
      let now = count-values k (without name ns) in
      let was = count-values k ns in
      elim (known (find name ns)) [
        | inl none ↦ let same = ap (λ es. count k (values es)) (without_none name ns none) in omega arith
        | inr some ↦ let sum = without_sum (ones k) name some.0 ns some.1 in omega arith
      ]

  without_gone : (k : ℕ) → find name ns ≡ Some (senses.Text k) → count k (values (without name ns)) ≡ 0
  without_gone k some =
      let now = count-values k (without name ns) in
      let was = count-values k ns in
      let sum = without_sum (ones k) name (senses.Text k) ns some in
      let few = named.single k in
      omega (arith, now, was, sum, few, count-cons k k [], one_same k k refl)

  without_single : (k : ℕ) → count k (values (without name ns)) ≤ 1
  without_single k = omega (arith, without_fewer k, named.single k)

  pub name_for-without : (k : ℕ) → name_for k (without name ns) ≡ without_name name (name_for k ns)
  name_for-without k = name_lost ns (without name ns) name named without_single (λ other apart. find-without_other name other ns apart) k (without_gone k) (without_fewer k)

  pub without_named : AreNamed (without name ns)
  without_named = record {
    single = without_single;
    found = λ k n is. still_found ns (without name ns) name named without_single (λ other apart. find-without_other name other ns apart) k (without_gone k) (without_fewer k) n is;
  }

ones-le : (k : ℕ) (m : Sense) → ones k m ≤ 1
ones-le k (senses.Request r) = omega arith
ones-le k (senses.Text id) = elim (cases_eq id k) [
  | inl same ↦ omega (arith, count-cons k id [], one_same k id same)
  | inr apart ↦ omega (arith, count-cons k id [], one_other k id apart)
]

one_of : (k : ℕ) (m : Sense) → 0 < ones k m → m ≡ senses.Text k
one_of k (senses.Request r) some = absurd (omega (arith, some))
one_of k (senses.Text id) some = elim (cases_eq id k) [
  | inl same ↦ ap senses.Text same
  | inr apart ↦ absurd (omega (arith, count-cons k id [], one_other k id apart, some))
]

-- a name that is given this, which no name had
module _ (name : List ℕ) (m : Sense) (ns : List (Named Sense)) (named : AreNamed ns) (free : (k : ℕ) → 0 < ones k m → count k (values ns) ≡ 0) where
  put_most : (k : ℕ) → count k (values (put name m ns)) ≤ ones k m + count k (values ns)
  put_most k =
      let now = count-values k (put name m ns) in
      let was = count-values k ns in
      elim (known (find name ns)) [
        | inl none ↦ let sum = put_sum_new (ones k) name m ns none in omega arith
        | inr some ↦ let sum = put_sum (ones k) name m some.0 ns some.1 in omega arith
      ]

  put_single : (k : ℕ) → count k (values (put name m ns)) ≤ 1
  put_single k =
      let most = put_most k in
      let few = named.single k in
      let this = ones-le k m in
      elim (cases_lt 0 (ones k m)) [
        | inl some ↦ let none = free k some in omega arith
        | inr none ↦ omega arith
      ]

  put_gone : (k : ℕ) → ones k m ≡ 0 → find name ns ≡ Some (senses.Text k) → count k (values (put name m ns)) ≡ 0
  put_gone k other some =
      let now = count-values k (put name m ns) in
      let was = count-values k ns in
      let sum = put_sum (ones k) name m (senses.Text k) ns some in
      let few = named.single k in
      omega (arith, now, was, sum, few, other, count-cons k k [], one_same k k refl)

  pub name_for-put_other : (k : ℕ) → ones k m ≡ 0 → name_for k (put name m ns) ≡ without_name name (name_for k ns)
  name_for-put_other k other = name_lost ns (put name m ns) name named put_single (λ n apart. find-put_other name n m ns apart) k (put_gone k other) (omega (arith, put_most k, other))

  pub name_for-put_same : (k : ℕ) → m ≡ senses.Text k → name_for k (put name m ns) ≡ Some name
  name_for-put_same k is = found_name k name (put name m ns) (find-put_same name m ns ∙ ap Some is) (put_single k)

  pub put_named : AreNamed (put name m ns)
  put_named = record {
    single = put_single;
    found = λ k n is. elim (cases_lt 0 (ones k m)) [
      | inl some ↦
          let this = one_of k m some in
          let named_so : Some name ≡ Some n = sym (name_for-put_same k this) ∙ is in
          let same : name ≡ n = cc in
          ap (λ x. find x (put name m ns)) (sym same) ∙ find-put_same name m ns ∙ ap Some this
      | inr none ↦ still_found ns (put name m ns) name named put_single (λ x apart. find-put_other name x m ns apart) k (put_gone k (omega (arith, none))) (omega (arith, put_most k, none)) n is
    ];
  }

-- what has the one name is given the other
module _ (from to : List ℕ) (m : Sense) (ns : List (Named Sense)) (named : AreNamed ns) (was : find from ns ≡ Some m) where
  moved_free : (k : ℕ) → 0 < ones k m → count k (values (without from ns)) ≡ 0
  moved_free k some = without_gone from ns named k (was ∙ ap Some (one_of k m some))

  pub moved_named : AreNamed (put to m (without from ns))
  moved_named = put_named to m (without from ns) (without_named from ns named) moved_free

  other_by : (k : ℕ) (o : Option (List ℕ)) → name_for k ns ≡ o → ones k m ≡ 0 → without_name to (without_name from o) ≡ with_name from to o
  other_by k None is other = refl
  other_by k (Some n) is other = elim (cases_Bool (is_same n from)) [
    | inl hit ↦
        let there : Some (senses.Text k) ≡ Some m = sym (ap (λ x. find x ns) (sym (same_is n from hit)) ∙ named.found k n is) ∙ was in
        let same : senses.Text k ≡ m = cc in
        let this = ap (ones k) same in
        absurd (omega (arith, this, other, count-cons k k [], one_same k k refl))
    | inr missed ↦ ap (without_name to) (cond-false (is_same n from) None (Some n) missed) ∙ sym (cond-false (is_same n from) (Some to) (without_name to (Some n)) missed)
  ]

  pub name_for-moved : (k : ℕ) → name_for k (put to m (without from ns)) ≡ with_name from to (name_for k ns)
  name_for-moved k = elim (cases_lt 0 (ones k m)) [
    | inl some ↦
        let this = one_of k m some in
        name_for-put_same to m (without from ns) (without_named from ns named) moved_free k this
        ∙ sym (cond-true (is_same from from) (Some to) (without_name to (Some from)) (same_itself from from refl))
        ∙ ap (with_name from to) (sym (found_name k from ns (was ∙ ap Some this) (named.single k)))
    | inr none ↦
        let other : ones k m ≡ 0 = omega (arith, none) in
        name_for-put_other to m (without from ns) (without_named from ns named) moved_free k other
        ∙ ap (without_name to) (name_for-without from ns named k) ∙ other_by k (name_for k ns) refl other
  ]

-- ---- the texts of levels where names change

module _ (f : Option (List ℕ) → Option (List ℕ)) (none : f None ≡ None) (p : Texts Element) (ns after : List (Named Sense)) where
  source_named : {K : Type 0} (older : List ℕ) (s : Source K) (ts us : List Shared) → ((k : ℕ) → 0 < count k (ids_of_source s) → name_for k after ≡ f (name_for k ns)) → ts ≡ renamed_by f us
      → text_in p after older s ++ ts ≡ renamed_by f (text_in p ns older s ++ us)
  source_named older (Text id place) ts us names rest =
      ap₂ (λ n (vs : List Shared). record { name = n; share = if nat_lt 0 (count id older) then 0 else share (text p id) } ∷ vs) (names id (omega (arith, count-cons id id [], one_same id id refl))) rest
  source_named older (Own bytes) ts us names rest = ap₂ (λ n (vs : List Shared). record { name = n; share = 0 } ∷ vs) (sym none) rest
  source_named older (Marked mode) ts us names rest = rest

  pub texts_named : {K : Type 0} (ls : List (Open K)) → ((k : ℕ) → 0 < count k (ids_of ls) → name_for k after ≡ f (name_for k ns)) → texts_in p after ls ≡ renamed_by f (texts_in p ns ls)
  texts_named [] names = refl
  texts_named (l ∷ ls) names =
      source_named (ids_of ls) l.source (texts_in p after ls) (texts_in p ns ls) (λ k some. names k (omega (arith, some, count-append k (ids_of_source l.source) (ids_of ls))))
      (texts_named ls (λ k some. names k (omega (arith, some, count-append k (ids_of_source l.source) (ids_of ls)))))

-- ---- whether a level reads the text of a name

module _ (p : Texts Element) (name : List ℕ) (id : ℕ) (ns : List (Named Sense)) (named : AreNamed ns) (is : find name ns ≡ Some (senses.Text id)) where
  other_named : (k : ℕ) (o : Option (List ℕ)) → name_for k ns ≡ o → k ≢ id → is_named name o ≡ false
  other_named k None so apart = refl
  other_named k (Some n) so apart = elim (cases_Bool (is_same n name)) [
    | inl hit ↦
        let there : Some (senses.Text k) ≡ Some (senses.Text id) = sym (ap (λ x. find x ns) (sym (same_is n name hit)) ∙ named.found k n so) ∙ is in
        let same : k ≡ id = cc in
        absurd (apart same)
    | inr missed ↦ missed
  ]

  source_read : {K : Type 0} (older : List ℕ) (s : Source K) (ids : List ℕ) (ts : List Shared) → is_read name ts ≡ nat_lt 0 (count id ids) → is_read name (text_in p ns older s ++ ts) ≡ nat_lt 0 (count id (ids_of_source s ++ ids))
  source_read older (Text k place) ids ts rest = elim (cases_eq k id) [
    | inl same ↦
        let this : name_for k ns ≡ Some name = ap (λ j. name_for j ns) same ∙ found_name id name ns is (named.single id) in
        cond-true (is_named name (name_for k ns)) true (is_read name ts) (ap (is_named name) this ∙ same_itself name name refl)
        ∙ sym (lt-ltb 0 (count id (k ∷ ids)) (omega (arith, count-cons id k ids, one_same id k same)))
    | inr apart ↦
        let same : count id (k ∷ ids) ≡ count id ids = omega (arith, count-cons id k ids, one_other id k apart) in
        cond-false (is_named name (name_for k ns)) true (is_read name ts) (other_named k (name_for k ns) refl apart) ∙ rest ∙ ap (nat_lt 0) (sym same)
  ]
  source_read older (Own bytes) ids ts rest = rest
  source_read older (Marked mode) ids ts rest = rest

  pub texts_read : {K : Type 0} (ls : List (Open K)) → is_read name (texts_in p ns ls) ≡ nat_lt 0 (count id (ids_of ls))
  texts_read [] = refl
  texts_read (l ∷ ls) = source_read (ids_of ls) l.source (ids_of ls) (texts_in p ns ls) (texts_read ls)

  pub shared_is : {K : Type 0} (ls : List (Open K)) → record { name = name_for id ns; share = if nat_lt 0 (count id (ids_of ls)) then 0 else share (text p id) } ≡ shared_by name (text p id) (texts_in p ns ls)
  shared_is ls = ap₂ (λ (n : Option (List ℕ)) b. record { name = n; share = if b then 0 else share (text p id) }) (found_name id name ns is (named.single id)) (sym (texts_read ls))

-- ---- what the texts of levels are charged

abbrev pub texts_charge : {K : Type 0} → Texts Element → List (Named Sense) → List (Open K) → ℕ
texts_charge p ns ls = sum_by text_charge (texts_in p ns ls)

-- what a source adds to it
abbrev pub source_charge : {K : Type 0} → Texts Element → List (Named Sense) → List ℕ → Source K → ℕ
source_charge p ns older (Text id place) = loose (name_for id ns) (if nat_lt 0 (count id older) then 0 else share (text p id))
source_charge p ns older (Own bytes) = 0
source_charge p ns older (Marked mode) = 0

charged_source : {K : Type 0} (p : Texts Element) (ns : List (Named Sense)) (older : List ℕ) (s : Source K) (ts : List Shared) → sum_by text_charge (text_in p ns older s ++ ts) ≡ source_charge p ns older s + sum_by text_charge ts
charged_source p ns older (Text id place) ts = sum_by-cons text_charge (record { name = name_for id ns; share = if nat_lt 0 (count id older) then 0 else share (text p id) }) ts
charged_source p ns older (Own bytes) ts = sum_by-cons text_charge own_text ts
charged_source p ns older (Marked mode) ts = omega arith

pub charged_level : {K : Type 0} (p : Texts Element) (ns : List (Named Sense)) (l : Open K) (ls : List (Open K)) → texts_charge p ns (l ∷ ls) ≡ source_charge p ns (ids_of ls) l.source + texts_charge p ns ls
charged_level p ns l ls = charged_source p ns (ids_of ls) l.source (texts_in p ns ls)

-- a text that a name holds is charged with the name alone
free_by : (k n : ℕ) (ns : List (Named Sense)) (o : Option (List ℕ)) → name_for k ns ≡ o → 0 < count k (values ns) → loose o n ≡ 0
free_by k n ns None is some = absurd (omega (arith, some, uncounted k ns is))
free_by k n ns (Some name) is some = refl

pub named_free : (k n : ℕ) (ns : List (Named Sense)) → 0 < count k (values ns) → loose (name_for k ns) n ≡ 0
named_free k n ns some = free_by k n ns (name_for k ns) refl some

pub unnamed_pays : (k n : ℕ) (ns : List (Named Sense)) → count k (values ns) ≡ 0 → loose (name_for k ns) n ≡ n
unnamed_pays k n ns none = ap (λ o. loose o n) (no_name k ns none)

pub again_free : (n : ℕ) (k : ℕ) (older : List ℕ) → 0 < count k older → (if nat_lt 0 (count k older) then 0 else n) ≡ 0
again_free n k older some = cond-true _ _ _ (lt-ltb 0 (count k older) some)

pub first_pays : (n : ℕ) (k : ℕ) (older : List ℕ) → count k older ≡ 0 → (if nat_lt 0 (count k older) then 0 else n) ≡ n
first_pays n k older none = cond-false _ _ _ (le-ltb 0 (count k older) (omega (arith, none)))

-- the same texts are held by names
module _ (p : Texts Element) (ns after : List (Named Sense)) where
  source_same : {K : Type 0} (older : List ℕ) (s : Source K) → ((k : ℕ) → 0 < count k (ids_of_source s) → count k (values ns) ≡ count k (values after)) → source_charge p after older s ≡ source_charge p ns older s
  source_same older (Text id place) same =
      let is = same id (omega (arith, count-cons id id [], one_same id id refl)) in
      let n = if nat_lt 0 (count id older) then 0 else share (text p id) in
      elim (cases_lt 0 (count id (values ns))) [
        | inl some ↦ named_free id n after (omega (arith, is, some)) ∙ sym (named_free id n ns some)
        | inr none ↦ unnamed_pays id n after (omega (arith, is, none)) ∙ sym (unnamed_pays id n ns (omega (arith, none)))
      ]
  source_same older (Own bytes) same = refl
  source_same older (Marked mode) same = refl

  pub charge_same : {K : Type 0} (ls : List (Open K)) → ((k : ℕ) → 0 < count k (ids_of ls) → count k (values ns) ≡ count k (values after)) → texts_charge p after ls ≡ texts_charge p ns ls
  charge_same [] same = refl
  charge_same (l ∷ ls) same =
      let rest = charge_same ls (λ k some. same k (omega (arith, some, count-append k (ids_of_source l.source) (ids_of ls)))) in
      let this = source_same (ids_of ls) l.source (λ k some. same k (omega (arith, some, count-append k (ids_of_source l.source) (ids_of ls)))) in
      charged_level p after l ls ∙ ap₂ (λ a b. a + b) this rest ∙ sym (charged_level p ns l ls)

-- what one adds to it that no name holds any more
abbrev pub unheld : Texts Element → ℕ → List ℕ → ℕ
unheld p id ids = if nat_lt 0 (count id ids) then share (text p id) else 0

pub unheld_none : (p : Texts Element) (id : ℕ) (ids : List ℕ) → count id ids ≡ 0 → unheld p id ids ≡ 0
unheld_none p id ids none = cond-false _ _ _ (le-ltb 0 (count id ids) (omega (arith, none)))

pub unheld_some : (p : Texts Element) (id : ℕ) (ids : List ℕ) → 0 < count id ids → unheld p id ids ≡ share (text p id)
unheld_some p id ids some = cond-true _ _ _ (lt-ltb 0 (count id ids) some)

-- one name lets a text go
module _ (p : Texts Element) (ns after : List (Named Sense)) (old : ℕ) (single : count old (values ns) ≤ 1) where
  source_lost : {K : Type 0} (older : List ℕ) (s : Source K) → ((k : ℕ) → 0 < count k (ids_of_source s) → count k (values ns) ≡ one k old + count k (values after))
      → source_charge p after older s + unheld p old older ≡ source_charge p ns older s + unheld p old (ids_of_source s ++ older)
  source_lost older (Text id place) lost =
      let is = lost id (omega (arith, count-cons id id [], one_same id id refl)) in
      let n = if nat_lt 0 (count id older) then 0 else share (text p id) in
      elim (cases_eq old id) [
        | inl same ↦
            let this = one_same id old same in
            let one_is : count old (values ns) ≡ count id (values ns) = ap (λ j. count j (values ns)) same in
            let older_is : count old older ≡ count id older = ap (λ j. count j older) same in
            let text_is : share (text p old) ≡ share (text p id) = ap (λ j. share (text p j)) same in
            let was = named_free id n ns (omega (arith, is, this)) in
            let now = unnamed_pays id n after (omega (arith, is, this, one_is, single)) in
            let all = unheld_some p old (id ∷ older) (omega (arith, count-cons old id older, one_same old id (sym same))) in
            elim (cases_lt 0 (count id older)) [
              | inl again ↦ let free = again_free (share (text p id)) id older again in let there = unheld_some p old older (omega (arith, again, older_is)) in omega (arith, was, now, all, free, there, text_is)
              | inr first ↦ let pays = first_pays (share (text p id)) id older (omega (arith, first)) in let there = unheld_none p old older (omega (arith, first, older_is)) in omega (arith, was, now, all, pays, there, text_is)
            ]
        | inr apart ↦
            let this = one_other id old apart in
            let counted : count old (id ∷ older) ≡ count old older = omega (arith, count-cons old id older, one_other old id (λ e. apart (sym e))) in
            let same_unheld : unheld p old (id ∷ older) ≡ unheld p old older = ap (λ c. if nat_lt 0 c then share (text p old) else 0) counted in
            elim (cases_lt 0 (count id (values ns))) [
              | inl some ↦ let was = named_free id n ns some in let now = named_free id n after (omega (arith, is, this, some)) in omega (arith, was, now, same_unheld)
              | inr none ↦ let was = unnamed_pays id n ns (omega (arith, none)) in let now = unnamed_pays id n after (omega (arith, is, this, none)) in omega (arith, was, now, same_unheld)
            ]
      ]
  source_lost older (Own bytes) lost = refl
  source_lost older (Marked mode) lost = refl

  pub charge_lost : {K : Type 0} (ls : List (Open K)) → ((k : ℕ) → 0 < count k (ids_of ls) → count k (values ns) ≡ one k old + count k (values after)) → texts_charge p after ls ≡ texts_charge p ns ls + unheld p old (ids_of ls)
  charge_lost [] lost = refl
  charge_lost (l ∷ ls) lost =
      let rest = charge_lost ls (λ k some. lost k (omega (arith, some, count-append k (ids_of_source l.source) (ids_of ls)))) in
      let this = source_lost (ids_of ls) l.source (λ k some. lost k (omega (arith, some, count-append k (ids_of_source l.source) (ids_of ls)))) in
      omega (arith, charged_level p after l ls, charged_level p ns l ls, rest, this)

-- what is lost of a text's charge where a name lets it go, and what levels then pay
pub lone_is : (p : Texts Element) (id : ℕ) (ids : List ℕ) → holders p id ≡ 1 + count id ids → lone p id + unheld p id ids ≡ share (text p id)
lone_is p id ids held = elim (cases_lt 0 (count id ids)) [
  | inl some ↦
      let gone : lone p id ≡ 0 = cond-false _ _ _ (ne_eqb (holders p id) 1 (λ one. absurd (omega (arith, one, held, some)))) in
      omega (arith, gone, unheld_some p id ids some)
  | inr none ↦
      let last : lone p id ≡ share (text p id) = cond-true _ _ _ (eq-eqb (holders p id) 1 (omega (arith, held, none))) in
      omega (arith, last, unheld_none p id ids (omega (arith, none)))
]

-- Lemmas on names.
use Rattle.std.proofs.Common.{◌≡◌, ℕ, ◌+◌, ◌<◌, List, [], ◌∷◌, map, sum_by, Option, Some, None, is_some, refl, ap, sym, ◌∙◌, inl, inr, arith}
use Rattle.std.specs.Option.{option_map}
use Rattle.std.proofs.lemmas.List.Sums.{sum_by-cons}
use Rattle.std.proofs.lemmas.Bool.{cases_Bool, cond-true, cond-false}
use Rattle.nr_symbol_tables.specs.Table.{is_same, is_before, Named, find, put, replaced, inserted, without}
use Rattle.nr_store.specs.declared.named.Sense.{Sense}
use Rattle.nr_store.specs.declared.named.Sense.TheVariants as senses
use Rattle.nr_store.specs.Senses.{text_id, ids_of_sense}
use Rattle.nr_pool.specs.Texts.{Texts}
use Rattle.nr_levels.specs.Levels.{Levels}
use Rattle.nr_store.specs.declared.element.Element.{Element}
use Rattle.nr_store.specs.declared.element.Draft.{Draft}
use Rattle.nr_store.specs.declared.named.Meaning.{Meaning}
use Rattle.nr_store.specs.declared.named.Meaning.TheVariants as meanings
use Rattle.nr_store.specs.Store.{Stored, meaning_of}
use Rattle.nr_store.specs.Holders.{Beside, means_of, stored_of, count, values}
use Rattle.nr_store.proofs.Counting.{one_same, count-cons, count-append}

-- the names with f of their values
abbrev pub over : {X Y : Type 0} → (X → Y) → Named X → Named Y
over f n = record { name = n.name; value = f n.value }

pub find-map : {X Y : Type 0} (f : X → Y) (name : List ℕ) (ns : List (Named X)) → find name (map (over f) ns) ≡ option_map f (find name ns)
find-map f name [] = refl
find-map f name (n ∷ ns) = elim (cases_Bool (is_same n.name name)) [
  | inl hit ↦ cond-true (is_same n.name name) (Some (f n.value)) (find name (map (over f) ns)) hit ∙ ap (option_map f) (sym (cond-true (is_same n.name name) (Some n.value) (find name ns) hit))
  | inr missed ↦ cond-false (is_same n.name name) (Some (f n.value)) (find name (map (over f) ns)) missed ∙ find-map f name ns ∙ ap (option_map f) (sym (cond-false (is_same n.name name) (Some n.value) (find name ns) missed))
]

pub is_text : (m : Sense) (id : ℕ) → text_id (Some m) ≡ Some id → ids_of_sense m ≡ id ∷ []
is_text (senses.Request r) id is = let no : ⊥ = cc in absurd no
is_text (senses.Text j) id is = let same : j ≡ id = cc in ap (λ k. k ∷ []) same

-- the text of a name is among the values
pub find_counts : (name : List ℕ) (id : ℕ) (ns : List (Named Sense)) → text_id (find name ns) ≡ Some id → 0 < count id (values ns)
find_counts name id [] is = let no : ⊥ = cc in absurd no
find_counts name id (n ∷ ns) is =
    let all = count-append id (ids_of_sense n.value) (values ns) in
    elim (cases_Bool (is_same n.name name)) [
      | inl hit ↦
          let here = is_text n.value id (ap text_id (sym (cond-true (is_same n.name name) (Some n.value) (find name ns) hit)) ∙ is) in
          let this : count id (ids_of_sense n.value) ≡ count id (id ∷ []) = ap (count id) here in
          omega (arith, one_same id id refl, count-cons id id [])
      | inr missed ↦
          let there = find_counts name id ns (ap text_id (sym (cond-false (is_same n.name name) (Some n.value) (find name ns) missed)) ∙ is) in
          omega arith
    ]

-- ---- f of the values, where a name is given another value

replaced-map : {X Y : Type 0} (f : X → Y) (name : List ℕ) (x : X) (ns : List (Named X)) → map (over f) (replaced name x ns) ≡ replaced name (f x) (map (over f) ns)
replaced-map f name x [] = refl
replaced-map f name x (n ∷ ns) = elim (cases_Bool (is_same n.name name)) [
  | inl hit ↦ ap (map (over f)) (cond-true (is_same n.name name) _ _ hit) ∙ sym (cond-true (is_same n.name name) _ _ hit)
  | inr missed ↦ ap (map (over f)) (cond-false (is_same n.name name) _ _ missed) ∙ ap (λ ms. over f n ∷ ms) (replaced-map f name x ns) ∙ sym (cond-false (is_same n.name name) _ _ missed)
]

inserted-map : {X Y : Type 0} (f : X → Y) (name : List ℕ) (x : X) (ns : List (Named X)) → map (over f) (inserted name x ns) ≡ inserted name (f x) (map (over f) ns)
inserted-map f name x [] = refl
inserted-map f name x (n ∷ ns) = elim (cases_Bool (is_before name n.name)) [
  | inl hit ↦ ap (map (over f)) (cond-true (is_before name n.name) _ _ hit) ∙ sym (cond-true (is_before name n.name) _ _ hit)
  | inr missed ↦ ap (map (over f)) (cond-false (is_before name n.name) _ _ missed) ∙ ap (λ ms. over f n ∷ ms) (inserted-map f name x ns) ∙ sym (cond-false (is_before name n.name) _ _ missed)
]

pub is_some-map : {X Y : Type 0} (f : X → Y) (o : Option X) → is_some (option_map f o) ≡ is_some o
is_some-map f None = refl
is_some-map f (Some x) = refl

pub put-map : {X Y : Type 0} (f : X → Y) (name : List ℕ) (x : X) (ns : List (Named X)) → map (over f) (put name x ns) ≡ put name (f x) (map (over f) ns)
put-map f name x ns =
    let there : is_some (find name (map (over f) ns)) ≡ is_some (find name ns) = ap is_some (find-map f name ns) ∙ is_some-map f (find name ns) in
    elim (cases_Bool (is_some (find name ns))) [
      | inl hit ↦ ap (map (over f)) (cond-true (is_some (find name ns)) _ _ hit) ∙ replaced-map f name x ns ∙ sym (cond-true (is_some (find name (map (over f) ns))) _ _ (there ∙ hit))
      | inr missed ↦ ap (map (over f)) (cond-false (is_some (find name ns)) _ _ missed) ∙ inserted-map f name x ns ∙ sym (cond-false (is_some (find name (map (over f) ns))) _ _ (there ∙ missed))
    ]

pub without-map : {X Y : Type 0} (f : X → Y) (name : List ℕ) (ns : List (Named X)) → map (over f) (without name ns) ≡ without name (map (over f) ns)
without-map f name [] = refl
without-map f name (n ∷ ns) = elim (cases_Bool (is_same n.name name)) [
  | inl hit ↦ ap (map (over f)) (cond-true (is_same n.name name) _ _ hit) ∙ sym (cond-true (is_same n.name name) _ _ hit)
  | inr missed ↦ ap (map (over f)) (cond-false (is_same n.name name) _ _ missed) ∙ ap (λ ms. over f n ∷ ms) (without-map f name ns) ∙ sym (cond-false (is_same n.name name) _ _ missed)
]

-- ---- sums over the values

abbrev pub sum_of : {X : Type 0} → (X → ℕ) → List (Named X) → ℕ
sum_of f ns = sum_by (λ (n : Named _). f n.value) ns

replaced_sum : {X : Type 0} (f : X → ℕ) (name : List ℕ) (x y : X) (ns : List (Named X)) → find name ns ≡ Some y → sum_of f (replaced name x ns) + f y ≡ f x + sum_of f ns
replaced_sum f name x y [] is = let no : ⊥ = cc in absurd no
replaced_sum f name x y (n ∷ ns) is =
    let g = λ (m : Named _). f m.value in
    let old = sum_by-cons g n ns in
    elim (cases_Bool (is_same n.name name)) [
      | inl hit ↦
          let here : Some n.value ≡ Some y = sym (cond-true (is_same n.name name) (Some n.value) (find name ns) hit) ∙ is in
          let same : n.value ≡ y = cc in
          let was : f n.value ≡ f y = ap f same in
          let now : sum_of f (replaced name x (n ∷ ns)) ≡ f x + sum_of f ns = ap (sum_by g) (cond-true (is_same n.name name) _ _ hit) ∙ sum_by-cons g (record { name = name; value = x }) ns in
          omega arith
      | inr missed ↦
          let rest = replaced_sum f name x y ns (sym (cond-false (is_same n.name name) (Some n.value) (find name ns) missed) ∙ is) in
          let now : sum_of f (replaced name x (n ∷ ns)) ≡ f n.value + sum_of f (replaced name x ns) = ap (sum_by g) (cond-false (is_same n.name name) _ _ missed) ∙ sum_by-cons g n (replaced name x ns) in
          omega arith
    ]

inserted_sum : {X : Type 0} (f : X → ℕ) (name : List ℕ) (x : X) (ns : List (Named X)) → sum_of f (inserted name x ns) ≡ f x + sum_of f ns
inserted_sum f name x [] = sum_by-cons (λ (m : Named _). f m.value) (record { name = name; value = x }) []
inserted_sum f name x (n ∷ ns) =
    let g = λ (m : Named _). f m.value in
    let old = sum_by-cons g n ns in
    elim (cases_Bool (is_before name n.name)) [
      | inl hit ↦ ap (sum_by g) (cond-true (is_before name n.name) _ _ hit) ∙ sum_by-cons g (record { name = name; value = x }) (n ∷ ns)
      | inr missed ↦
          let rest = inserted_sum f name x ns in
          let now : sum_of f (inserted name x (n ∷ ns)) ≡ f n.value + sum_of f (inserted name x ns) = ap (sum_by g) (cond-false (is_before name n.name) _ _ missed) ∙ sum_by-cons g n (inserted name x ns) in
          omega arith
    ]

pub put_sum_new : {X : Type 0} (f : X → ℕ) (name : List ℕ) (x : X) (ns : List (Named X)) → find name ns ≡ None → sum_of f (put name x ns) ≡ f x + sum_of f ns
put_sum_new f name x ns none = ap (sum_of f) (cond-false (is_some (find name ns)) _ _ (ap is_some none)) ∙ inserted_sum f name x ns

pub put_sum : {X : Type 0} (f : X → ℕ) (name : List ℕ) (x y : X) (ns : List (Named X)) → find name ns ≡ Some y → sum_of f (put name x ns) + f y ≡ f x + sum_of f ns
put_sum f name x y ns some =
    let is = ap (sum_of f) (cond-true (is_some (find name ns)) (replaced name x ns) (inserted name x ns) (ap is_some some)) in
    let sum = replaced_sum f name x y ns some in
    omega arith

pub without_sum : {X : Type 0} (f : X → ℕ) (name : List ℕ) (y : X) (ns : List (Named X)) → find name ns ≡ Some y → sum_of f (without name ns) + f y ≡ sum_of f ns
without_sum f name y [] is = let no : ⊥ = cc in absurd no
without_sum f name y (n ∷ ns) is =
    let g = λ (m : Named _). f m.value in
    let old = sum_by-cons g n ns in
    elim (cases_Bool (is_same n.name name)) [
      | inl hit ↦
          let here : Some n.value ≡ Some y = sym (cond-true (is_same n.name name) (Some n.value) (find name ns) hit) ∙ is in
          let same : n.value ≡ y = cc in
          let was : f n.value ≡ f y = ap f same in
          let now : sum_of f (without name (n ∷ ns)) ≡ sum_of f ns = ap (sum_by g) (cond-true (is_same n.name name) ns (n ∷ without name ns) hit) in
          omega arith
      | inr missed ↦
          let rest = without_sum f name y ns (sym (cond-false (is_same n.name name) (Some n.value) (find name ns) missed) ∙ is) in
          let now : sum_of f (without name (n ∷ ns)) ≡ f n.value + sum_of f (without name ns) = ap (sum_by g) (cond-false (is_same n.name name) ns (n ∷ without name ns) missed) ∙ sum_by-cons g n (without name ns) in
          omega arith
    ]

pub without_none : {X : Type 0} (name : List ℕ) (ns : List (Named X)) → find name ns ≡ None → without name ns ≡ ns
without_none name [] none = refl
without_none name (n ∷ ns) none = elim (cases_Bool (is_same n.name name)) [
  | inl hit ↦ let here : Some n.value ≡ None = sym (cond-true (is_same n.name name) (Some n.value) (find name ns) hit) ∙ none in let no : ⊥ = cc in absurd no
  | inr missed ↦ cond-false (is_same n.name name) ns (n ∷ without name ns) missed ∙ ap (λ ms. n ∷ ms) (without_none name ns (sym (cond-false (is_same n.name name) (Some n.value) (find name ns) missed) ∙ none))
]

-- how often what a name stands for holds a text
abbrev pub ones : ℕ → Sense → ℕ
ones k m = count k (ids_of_sense m)

pub count-values : (k : ℕ) (ns : List (Named Sense)) → count k (values ns) ≡ sum_of (ones k) ns
count-values k [] = refl
count-values k (n ∷ ns) =
    count-append k (ids_of_sense n.value) (values ns) ∙ ap (λ m. ones k n.value + m) (count-values k ns) ∙ sym (sum_by-cons (λ (m : Named Sense). ones k m.value) n ns)

-- ---- what a caller is emitted of a name

abbrev pub returned : Option Sense → Meaning
returned None = meanings.Unknown
returned (Some (senses.Request r)) = meanings.Request r
returned (Some (senses.Text id)) = meanings.Text

same_returned : (p : Texts Element) (o : Option Sense) → meaning_of (option_map (means_of p) o) ≡ returned o
same_returned p None = refl
same_returned p (Some (senses.Request r)) = refl
same_returned p (Some (senses.Text id)) = refl

pub named_returned : {K : Type 0} (p : Texts Element) (names : List (Named Sense)) (drafts : List Draft) (levels : Levels K) (beside : Beside) (limit : ℕ) (name : List ℕ) (o : Option Sense) (v : Stored K) → stored_of p names drafts levels beside limit ≡ v
    → o ≡ find name names → returned o ≡ meaning_of (find name v.names)
named_returned p names drafts levels beside limit name o v view was =
    ap returned was ∙ sym (same_returned p (find name names)) ∙ sym (ap meaning_of (find-map (means_of p) name names)) ∙ ap (λ (w : Stored _). meaning_of (find name w.names)) view

-- What a name has after a change.
use Rattle.std.specs.Prelude.{◌≡◌, ◌≢◌, ℕ, true, false, List, [], ◌∷◌, cond, Some, is_some, refl}
use Rattle.std.proofs.Common.{ap, sym, ◌∙◌, inl, inr}
use Rattle.std.specs.declared.cmp.Ordering.{Ordering}
use Rattle.std.specs.declared.cmp.Ordering.TheVariants.{Less, Equal, Greater}
use Rattle.std.specs.Ordering.{is_eq}
use Rattle.std.specs.FinMap.{slice_cmp-IsAntisymmetric, nat_cmp-IsAntisymmetric}
use Rattle.std.proofs.lemmas.Cmp.{nat_list_cmp_total, tied_itself}
use Rattle.nr_units.specs.Name.{name_order}
use Rattle.std.proofs.lemmas.Bool.{cases_Bool, cond-true, cond-false}
use Rattle.nr_symbol_tables.specs.Table.{is_same, is_before, Named, find, put, replaced, inserted, without}

same_itself : (a b : List ℕ) → a ≡ b → is_same a b ≡ true
same_itself a b same = ap is_eq (ap (name_order a) (sym same) ∙ tied_itself nat_list_cmp_total a)

tied : (o : Ordering) → is_eq o ≡ true → o ≡ Equal
tied Less h = let no : ⊥ = cc in absurd no
tied Equal h = refl
tied Greater h = let no : ⊥ = cc in absurd no

same_is : (a b : List ℕ) → is_same a b ≡ true → a ≡ b
same_is a b same = slice_cmp-IsAntisymmetric nat_cmp-IsAntisymmetric a b (tied (name_order a b) same)

apart_not_same : (a b : List ℕ) → a ≢ b → is_same a b ≡ false
apart_not_same a b apart = elim (cases_Bool (is_same a b)) [
  | inl same ↦ absurd (apart (same_is a b same))
  | inr other ↦ other
]

-- the first entry's name is not the other one
other_missed : (n name other : List ℕ) → other ≢ name → is_same n name ≡ true → is_same n other ≡ false
other_missed n name other apart hit = apart_not_same n other (λ same. apart (sym same ∙ same_is n name hit))

find-replaced_same : {X : Type 0} (name : List ℕ) (x : X) (ns : List (Named X))
    → is_some (find name ns) ≡ true → find name (replaced name x ns) ≡ Some x
find-replaced_same name x [] some = let no : ⊥ = cc in absurd no
find-replaced_same name x (n ∷ ns) some = elim (cases_Bool (is_same n.name name)) [
  | inl hit ↦ ap (find name) (cond-true (is_same n.name name) _ _ hit) ∙ cond-true (is_same name name) _ _
      (same_itself name name refl)
  | inr missed ↦
      ap (find name) (cond-false (is_same n.name name) _ (n ∷ replaced name x ns) missed)
      ∙ cond-false (is_same n.name name) _ _ missed
      ∙ find-replaced_same name x ns
      (ap is_some (sym (cond-false (is_same n.name name) (Some n.value) (find name ns) missed)) ∙ some)
]

find-replaced_other : {X : Type 0} (name other : List ℕ) (x : X) (ns : List (Named X)) → other ≢ name
    → find other (replaced name x ns) ≡ find other ns
find-replaced_other name other x [] apart = refl
find-replaced_other name other x (n ∷ ns) apart = elim (cases_Bool (is_same n.name name)) [
  | inl hit ↦
      ap (find other) (cond-true (is_same n.name name) (record { name = name; value = x } ∷ ns) _ hit)
      ∙ cond-false (is_same name other) _ _ (apart_not_same name other (λ same. apart (sym same)))
      ∙ sym (cond-false (is_same n.name other) _ _ (other_missed n.name name other apart hit))
  | inr missed ↦
      ap (find other) (cond-false (is_same n.name name) _ (n ∷ replaced name x ns) missed)
      ∙ ap (λ o. cond (is_same n.name other) (Some n.value) o) (find-replaced_other name other x ns apart)
]

find-inserted_same : {X : Type 0} (name : List ℕ) (x : X) (ns : List (Named X))
    → is_some (find name ns) ≡ false → find name (inserted name x ns) ≡ Some x
find-inserted_same name x [] none = cond-true (is_same name name) _ _ (same_itself name name refl)
find-inserted_same name x (n ∷ ns) none = elim (cases_Bool (is_before name n.name)) [
  | inl low ↦ ap (find name) (cond-true (is_before name n.name) _ _ low) ∙ cond-true (is_same name name) _ _
      (same_itself name name refl)
  | inr high ↦ elim (cases_Bool (is_same n.name name)) [
    | inl hit ↦ let some : is_some (Some n.value)
        ≡ false = ap is_some (sym (cond-true (is_same n.name name) (Some n.value) (find name ns) hit))
        ∙ none in let no : ⊥ = cc in absurd no
    | inr missed ↦
        ap (find name) (cond-false (is_before name n.name) _ (n ∷ inserted name x ns) high)
        ∙ cond-false (is_same n.name name) _ _ missed
        ∙ find-inserted_same name x ns
        (ap is_some (sym (cond-false (is_same n.name name) (Some n.value) (find name ns) missed)) ∙ none)
  ]
]

find-inserted_other : {X : Type 0} (name other : List ℕ) (x : X) (ns : List (Named X)) → other ≢ name
    → find other (inserted name x ns) ≡ find other ns
find-inserted_other name other x [] apart =
    cond-false (is_same name other) _ _ (apart_not_same name other (λ same. apart (sym same)))
find-inserted_other name other x (n ∷ ns) apart = elim (cases_Bool (is_before name n.name)) [
  | inl low
      ↦ ap (find other) (cond-true (is_before name n.name) (record { name = name; value = x } ∷ (n ∷ ns)) _
      low) ∙ cond-false (is_same name other) _ _ (apart_not_same name other (λ same. apart (sym same)))
  | inr high ↦
      ap (find other) (cond-false (is_before name n.name) _ (n ∷ inserted name x ns) high)
      ∙ ap (λ o. cond (is_same n.name other) (Some n.value) o) (find-inserted_other name other x ns apart)
]

-- what was given to a name is there
pub find-put_same : {X : Type 0} (name : List ℕ) (x : X) (ns : List (Named X))
    → find name (put name x ns) ≡ Some x
find-put_same name x ns = elim (cases_Bool (is_some (find name ns))) [
  | inl some
      ↦ ap (find name) (cond-true (is_some (find name ns)) (replaced name x ns) (inserted name x ns) some)
      ∙ find-replaced_same name x ns some
  | inr none
      ↦ ap (find name) (cond-false (is_some (find name ns)) (replaced name x ns) (inserted name x ns) none)
      ∙ find-inserted_same name x ns none
]

-- each other name keeps what it has
pub find-put_other : {X : Type 0} (name other : List ℕ) (x : X) (ns : List (Named X)) → other ≢ name
    → find other (put name x ns) ≡ find other ns
find-put_other name other x ns apart = elim (cases_Bool (is_some (find name ns))) [
  | inl some
      ↦ ap (find other) (cond-true (is_some (find name ns)) (replaced name x ns) (inserted name x ns) some)
      ∙ find-replaced_other name other x ns apart
  | inr none
      ↦ ap (find other) (cond-false (is_some (find name ns)) (replaced name x ns) (inserted name x ns) none)
      ∙ find-inserted_other name other x ns apart
]

pub find-without_other : {X : Type 0} (name other : List ℕ) (ns : List (Named X)) → other ≢ name
    → find other (without name ns) ≡ find other ns
find-without_other name other [] apart = refl
find-without_other name other (n ∷ ns) apart = elim (cases_Bool (is_same n.name name)) [
  | inl hit ↦ ap (find other) (cond-true (is_same n.name name) ns (n ∷ without name ns) hit)
      ∙ sym (cond-false (is_same n.name other) _ _ (other_missed n.name name other apart hit))
  | inr missed ↦
      ap (find other) (cond-false (is_same n.name name) ns (n ∷ without name ns) missed)
      ∙ ap (λ o. cond (is_same n.name other) (Some n.value) o) (find-without_other name other ns apart)
]

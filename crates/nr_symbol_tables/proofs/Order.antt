-- Lemmas on the order of names.
use Rattle.std.proofs.Common.{◌≡◌, ◌≢◌, ◌⊎◌, ℕ, List, true, false, refl, ap, sym, ◌∙◌, inl, inr}
use Rattle.std.specs.declared.cmp.Ordering.{Ordering}
use Rattle.std.specs.declared.cmp.Ordering.TheVariants.{Less, Equal, Greater}
use Rattle.std.specs.Ordering.{ordering_reverse, is_eq, is_lt}
use Rattle.std.specs.FinMap.{slice_cmp-IsAntisymmetric, nat_cmp-IsAntisymmetric}
use Rattle.std.proofs.lemmas.Bool.{cases_Bool}
use Rattle.std.proofs.lemmas.Cmp.{nat_list_cmp_total, tied_itself}
use Rattle.nr_units.specs.Name.{name_order}
use Rattle.nr_symbol_tables.specs.Table.{is_same, is_before}

-- a name comes before another
abbrev pub IsBefore : List ℕ → List ℕ → Type 0
IsBefore a b = name_order a b ≡ Less

pub same_itself : (a b : List ℕ) → a ≡ b → is_same a b ≡ true
same_itself a b same = ap is_eq (ap (name_order a) (sym same) ∙ tied_itself nat_list_cmp_total a)

tied : (o : Ordering) → is_eq o ≡ true → o ≡ Equal
tied Less h = cc
tied Equal h = refl
tied Greater h = cc

pub same_is : (a b : List ℕ) → is_same a b ≡ true → a ≡ b
same_is a b same = slice_cmp-IsAntisymmetric nat_cmp-IsAntisymmetric a b (tied (name_order a b) same)

pub same_or_not : (a b : List ℕ) → (a ≡ b) ⊎ (a ≢ b)
same_or_not a b = elim (cases_Bool (is_same a b)) [
  | inl same ↦ inl (same_is a b same)
  | inr other ↦ inr (λ same. (let wrong : true ≡ false = sym (same_itself a b same) ∙ other in cc))
]

pub apart_not_same : (a b : List ℕ) → a ≢ b → is_same a b ≡ false
apart_not_same a b apart = elim (cases_Bool (is_same a b)) [
  | inl same ↦ absurd (apart (same_is a b same))
  | inr other ↦ other
]

-- the other way round
afterwards : (a b : List ℕ) → IsBefore b a → name_order a b ≡ Greater
afterwards a b before = nat_list_cmp_total.antisymm a b ∙ ap ordering_reverse before

before : (a b : List ℕ) → name_order b a ≡ Greater → IsBefore a b
before a b afterwards = nat_list_cmp_total.antisymm a b ∙ ap ordering_reverse afterwards

pub after_apart : (a b : List ℕ) → IsBefore b a → is_same a b ≡ false
after_apart a b before = ap is_eq (afterwards a b before)

pub comes_before : (a b : List ℕ) → IsBefore a b → is_before a b ≡ true
comes_before a b before = ap is_lt before

pub comes_after : (a b : List ℕ) → IsBefore b a → is_before a b ≡ false
comes_after a b before = ap is_lt (afterwards a b before)

pub before_trans : (a b c : List ℕ) → IsBefore a b → IsBefore b c → IsBefore a c
before_trans a b c = nat_list_cmp_total.trans a b c

pub equal_is : (a b : List ℕ) → name_order a b ≡ Equal → a ≡ b
equal_is a b = slice_cmp-IsAntisymmetric nat_cmp-IsAntisymmetric a b

-- of two names one comes before the other
ordered : (a b : List ℕ) (o : Ordering) → name_order a b ≡ o → a ≢ b → IsBefore a b ⊎ IsBefore b a
ordered a b Less is apart = inl is
ordered a b Equal is apart = absurd (apart (equal_is a b is))
ordered a b Greater is apart = inr (before b a is)

pub before_or_after : (a b : List ℕ) → a ≢ b → IsBefore a b ⊎ IsBefore b a
before_or_after a b apart = ordered a b (name_order a b) refl apart

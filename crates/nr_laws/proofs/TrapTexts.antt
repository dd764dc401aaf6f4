-- The next trap whose macro springs names a text.
use Rattle.std.specs.Ordering.{int_eq}
use Rattle.std.proofs.lemmas.Bool.{cond-true, cond-false}
use Rattle.std.proofs.lemmas.Bool.Decides.{Decides-int_eq}
use Rattle.std.proofs.Common.{◌≡◌, ℕ, Bool, true, false, cond, List, [], ◌∷◌, Some, ℤ, pos, refl, ap, sym, ◌∙◌}
use Rattle.nr_symbol_tables.specs.Trap.{on_page}
use Rattle.nr_symbol_tables.specs.declared.trap.Trap.{Trap}
use Rattle.nr_formatter.specs.Pages.{macro_at, names_text, is_text, springs_at, springing_traps, next_springing}
use Rattle.nr_formatter.specs.declared.formatter.Formatter.{Formatter}
use Rattle.nr_formatter.proofs.Nearest.{at_kept, macro_found}

module _ (kept : ℤ → Bool) (length place : ℤ) (name : List ℕ) where
  -- the macro that is found at a place among traps of some places is found there among all
  abbrev Is : List Trap → Type 0
  Is ts = (kept place ≡ true) × (macro_at length place ts ≡ Some name)

  one_more : (t : Trap) (ts : List Trap) (here : Bool) → int_eq (on_page t.place length) place ≡ here → (here ≡ true → Some t.name ≡ Some name) → (here ≡ false → macro_at length place ts ≡ Some name)
      → macro_at length place (t ∷ ts) ≡ Some name
  one_more t ts true is named afterwards = cond-true (int_eq (on_page t.place length) place) (Some t.name) (macro_at length place ts) is ∙ named refl
  one_more t ts false is named afterwards = cond-false (int_eq (on_page t.place length) place) (Some t.name) (macro_at length place ts) is ∙ afterwards refl

  -- one that is kept
  kept_first : (t : Trap) (ts : List Trap) (here : Bool) → int_eq (on_page t.place length) place ≡ here → kept (on_page t.place length) ≡ true
      → (macro_at length place (at_kept kept length ts) ≡ Some name → Is ts) → macro_at length place (t ∷ at_kept kept length ts) ≡ Some name → Is (t ∷ ts)
  kept_first t ts true is keeps rest found =
      let there : on_page t.place length ≡ place = (Decides-int_eq (on_page t.place length) place).0 is in
      let named : Some t.name ≡ Some name = sym (cond-true (int_eq (on_page t.place length) place) (Some t.name) (macro_at length place (at_kept kept length ts)) is) ∙ found in
      (sym (ap kept there) ∙ keeps, one_more t ts true is (λ e. named) (λ e. let wrong : ⊥ = cc in absurd wrong))
  kept_first t ts false is keeps rest found =
      let afterwards = rest (sym (cond-false (int_eq (on_page t.place length) place) (Some t.name) (macro_at length place (at_kept kept length ts)) is) ∙ found) in
      (afterwards.0, one_more t ts false is (λ e. let wrong : ⊥ = cc in absurd wrong) (λ e. afterwards.1))

  -- one that is not
  dropped_first : (t : Trap) (ts : List Trap) (here : Bool) → int_eq (on_page t.place length) place ≡ here → kept (on_page t.place length) ≡ false → Is ts → Is (t ∷ ts)
  dropped_first t ts true is drops found =
      let there : on_page t.place length ≡ place = (Decides-int_eq (on_page t.place length) place).0 is in
      let wrong : true ≡ false = sym found.0 ∙ sym (ap kept there) ∙ drops in absurd (cc)
  dropped_first t ts false is drops found = (found.0, one_more t ts false is (λ e. let wrong : ⊥ = cc in absurd wrong) (λ e. found.1))

  kept_by : (t : Trap) (ts : List Trap) (v : Bool) → kept (on_page t.place length) ≡ v → (macro_at length place (at_kept kept length ts) ≡ Some name → Is ts)
      → macro_at length place (cond v (t ∷ at_kept kept length ts) (at_kept kept length ts)) ≡ Some name → Is (t ∷ ts)
  kept_by t ts true keeps rest found = kept_first t ts (int_eq (on_page t.place length) place) refl keeps rest found
  kept_by t ts false drops rest found = dropped_first t ts (int_eq (on_page t.place length) place) refl drops (rest found)

  kept_named : (ts : List Trap) → macro_at length place (at_kept kept length ts) ≡ Some name → Is ts
  kept_named [] found = let wrong : ⊥ = cc in absurd wrong
  kept_named (t ∷ ts) found = kept_by t ts (kept (on_page t.place length)) refl (kept_named ts) found

pub springing_named : (f : Formatter) (t : Trap) → next_springing f ≡ Some t → names_text t.name f ≡ true
springing_named f t is =
    let bottom = pos f.settings.pages.page_length in
    let named = kept_named (springs_at f) bottom t.place t.name f.store.traps (macro_found (pos f.paper.place) bottom (springing_traps f) t is) in
    sym (ap (λ m. is_text m f) named.1) ∙ named.0

-- Lemmas on a text that is begun as a copy.
use Rattle.std.proofs.Common.{◌≡◌, ℕ, ◌+◌, ◌<◌, ◌≤◌, List, ◌∷◌, ◌++◌, length, Option, Some, Ok, Err, refl, ap, ap₂, ◌∙◌, subst, arith}
use Rattle.std.specs.List.{slice_get}
use Rattle.nr_vectors.specs.Items.{Items}
use Rattle.nr_pool.specs.Texts.{Texts, no_text, text, used, IsOpen, opened, with_text}
use Rattle.nr_symbol_tables.specs.Rows.{SymbolTable}
use Rattle.nr_levels.specs.Levels.{Levels}
use Rattle.nr_store.specs.declared.named.Sense.{Sense}
use Rattle.nr_store.specs.declared.element.Element.{Element}
use Rattle.nr_store.specs.declared.element.Diversion.{Diversion}
use Rattle.nr_store.specs.declared.element.Draft.{Draft}
use Rattle.nr_store.specs.Store.{Stored, weight, afforded, begun, added}
use Rattle.nr_store.specs.Holders.{Beside, stored_of, IsStore}
use Rattle.nr_store.proofs.Keeping.{room_for_elements}
use Rattle.nr_store.proofs.Building.{Within, unaffordable, affordable, charge_of-begun, text_begun, begun_is, begun_stands, added_is, added_stands}

module _ {K X : Type 0} (charge limit : ℕ) (v : Stored K) (t : List Element) (dv : Option Diversion) (x : X) (h : Within v charge limit) where
  pub begin_refused : limit < charge + weight t → afforded (begun t dv v) x ≡ Err (record {})
  begin_refused above =
      let all = charge_of-begun t dv v in
      let charged = h.charged in
      let same = h.same_limit in
      unaffordable (begun t dv v) x (omega arith)

  pub begin_afforded : charge + weight t ≤ limit → afforded (begun t dv v) x ≡ Ok x
  begin_afforded room =
      let all = charge_of-begun t dv v in
      let charged = h.charged in
      let same = h.same_limit in
      affordable (begun t dv v) x (omega arith)

module _ {K : Type 0} (p : Texts Element) (names : SymbolTable Sense) (drafts : Items Draft) (levels : Levels K) (beside : Beside) (charge limit id from : ℕ) (dv : Option Diversion) (h : IsStore p names drafts levels beside charge limit)
    (free : slice_get p.texts id ≡ Some no_text) (there : IsOpen p from) (room : charge + weight (text p from) ≤ limit) where
  abbrev new : Draft
  new = record { id = id; diversion = dv }

  abbrev with : Items Draft
  with = record drafts { items = new ∷ drafts.items }

  begins : IsStore (opened p id) names with levels beside (charge + 48) limit
  begins = begun_stands p names drafts levels beside charge limit id dv h free (omega arith)

  same : text (opened p id) from ≡ text p from
  same = text_begun p names drafts levels beside charge limit id dv h free from there

  pub copy_fits : (opened p id).capacity < used (opened p id) + length (text (opened p id) from) → ⊥
  copy_fits full =
      let long = ap length same in
      let fits = room_for_elements (opened p id) names with levels beside (charge + 48) limit (length (text p from)) begins (omega arith) in
      omega arith

  pub copied_stands : IsStore (with_text (opened p id) id (text (opened p id) id ++ text (opened p id) from)) names with levels beside (charge + weight (text p from)) limit
  copied_stands =
      let long = ap length same in
      let cost : charge + 48 + length (text (opened p id) from) ≡ charge + weight (text p from) = omega arith in
      subst (λ n. IsStore (with_text (opened p id) id (text (opened p id) id ++ text (opened p id) from)) names with levels beside n limit) cost
      (added_stands (opened p id) names with levels beside (charge + 48) limit new drafts.items (text (opened p id) from) begins refl (omega arith))

  pub copied_is : stored_of (with_text (opened p id) id (text (opened p id) id ++ text (opened p id) from)) names.entries (new ∷ drafts.items) levels beside limit
      ≡ begun (text p from) dv (stored_of p names.entries drafts.items levels beside limit)
  copied_is =
      added_is (opened p id) names with levels beside (charge + 48) limit new drafts.items (text (opened p id) from) begins refl
      ∙ ap₂ added same (begun_is p names drafts levels beside charge limit id dv h free)

-- Lemmas on diversions.
use Rattle.std.proofs.Common.{◌≡◌, ℕ, zero, ◌+◌, List, [], ◌∷◌, map, drop, Option, Some, None, is_some, false, refl, ap, sym, ◌∙◌}
use Rattle.std.specs.List.{slice_get}
use Rattle.std.specs.Option.{option_map}
use Rattle.std.proofs.lemmas.List.{drop_more}
use Rattle.std.proofs.lemmas.Option.{slice_get_within, get_or_from_slice_get}
use Rattle.nr_pool.specs.Texts.{Texts}
use Rattle.nr_symbol_tables.specs.Table.{Named}
use Rattle.nr_symbol_tables.specs.declared.trap.Trap.{Trap}
use Rattle.nr_levels.specs.Levels.{Levels}
use Rattle.nr_store.specs.declared.named.Sense.{Sense}
use Rattle.nr_store.specs.declared.element.Element.{Element}
use Rattle.nr_store.specs.declared.element.Diversion.{Diversion}
use Rattle.nr_store.specs.declared.element.Draft.{Draft}
use Rattle.nr_store.specs.Store.{Stored, Built, on_newest, first_of, innermost, trapped, newest_diversion, ended_by, diversion_ended}
use Rattle.nr_store.specs.Holders.{Beside, built_of, stored_of}
use Rattle.nr_store.proofs.Building.{cons_of}

pub rest_at : {X : Type 0} (xs : List X) (n : ℕ) (x : X) → slice_get xs n ≡ Some x → drop n xs ≡ x ∷ drop (n + 1) xs
rest_at xs n x is = drop_more xs n x (slice_get_within xs n x is) ∙ ap (λ y. y ∷ drop (n + 1) xs) (get_or_from_slice_get xs n x x is)

-- the diversion that was opened last, among drafts
abbrev pub open_in : List Draft → Option Diversion
open_in [] = None
open_in (d ∷ ds) = first_of d.diversion (open_in ds)

pub innermost_is : (p : Texts Element) (ds : List Draft) → innermost (map (built_of p) ds) ≡ open_in ds
innermost_is p [] = refl
innermost_is p (d ∷ ds) = ap (first_of d.diversion) (innermost_is p ds)

none_of : (o rest : Option Diversion) → is_some o ≡ false → first_of o rest ≡ rest
none_of None rest none = refl
none_of (Some d) rest none = let no : ⊥ = cc in absurd no

pub not_here : (ds : List Draft) (n : ℕ) (d : Draft) (all : Option Diversion) → slice_get ds n ≡ Some d → is_some d.diversion ≡ false → open_in (drop n ds) ≡ all → open_in (drop (n + 1) ds) ≡ all
not_here ds n d all is none before = sym (ap open_in (rest_at ds n d is) ∙ none_of d.diversion (open_in (drop (n + 1) ds)) none) ∙ before

some_of : (o rest : Option Diversion) → is_some o ≡ is_some (Some zero) → first_of o rest ≡ o
some_of None rest some = let no : ⊥ = cc in absurd no
some_of (Some d) rest some = refl

pub here : (ds : List Draft) (n : ℕ) (d : Draft) (all : Option Diversion) → slice_get ds n ≡ Some d → is_some d.diversion ≡ is_some (Some zero) → open_in (drop n ds) ≡ all → d.diversion ≡ all
here ds n d all is some before = sym (some_of d.diversion (open_in (drop (n + 1) ds)) some) ∙ sym (ap open_in (rest_at ds n d is)) ∙ before

module _ {K : Type 0} (p : Texts Element) (names : List (Named Sense)) (drafts : List Draft) (levels : Levels K) (beside : Beside) (limit : ℕ) (d : Draft) (v : Stored K) (view : stored_of p names drafts levels beside limit ≡ v) (top : slice_get drafts 0 ≡ Some d) where
  first : v.building ≡ built_of p d ∷ map (built_of p) (drop 1 drafts)
  first = ap (λ (w : Stored K). w.building) (sym view) ∙ ap (map (built_of p)) (cons_of drafts d top)

  pub newest_is : newest_diversion v.building ≡ d.diversion
  newest_is = ap newest_diversion first

  -- it is not one
  pub untrapped : (trap : Option Trap) → d.diversion ≡ None → v ≡ trapped trap v
  untrapped trap none =
      let f = λ (b : Built). record b { diversion = option_map (λ (e : Diversion). record e { trap = trap }) b.diversion } in
      let b = built_of p d in
      let bs = map (built_of p) (drop 1 drafts) in
      let same : f b ≡ b = ap (λ o. record { text = b.text; diversion = option_map (λ (e : Diversion). record e { trap = trap }) o }) none ∙ ap (λ o. record { text = b.text; diversion = o }) (sym none) in
      sym (ap (λ ls. record v { building = on_newest f ls }) first ∙ ap (λ c. record v { building = c ∷ bs }) same ∙ ap (λ ls. record v { building = ls }) (sym first))

  pub not_ended : d.diversion ≡ None → v ≡ diversion_ended v
  not_ended none = sym (ap (λ o. ended_by o v) (newest_is ∙ none))

  pub ended_is : (e : Diversion) → d.diversion ≡ Some e → diversion_ended v ≡ ended_by (Some e) v
  ended_is e some = ap (λ o. ended_by o v) (newest_is ∙ some)

-- Lemmas on a run of elements that is taken at once.
use Rattle.std.proofs.Common.{◌≡◌, ℕ, ◌+◌, ◌^◌, ◌<◌, ◌≤◌, List, [], ◌∷◌, ◌++◌, length, map, sum_by, refl, ap, ap₂, sym, ◌∙◌, subst, arith}
use Rattle.std.proofs.lemmas.List.{drop-drop, drop-map, length-drop, length-map}
use Rattle.std.proofs.lemmas.List.Sums.{sum_by-cons}
use Rattle.nr_vectors.specs.Items.{Items}
use Rattle.nr_pool.specs.Texts.{Texts, text}
use Rattle.nr_symbol_tables.specs.Table.{Named}
use Rattle.nr_symbol_tables.specs.Rows.{SymbolTable}
use Rattle.nr_levels.specs.Levels.{Source, Text, Own, Mark as Marked, Open, Levels}
use Rattle.nr_levels.specs.Further.{further, further_on, Reaches, NewestReaches}
use Rattle.nr_store.specs.declared.named.Sense.{Sense}
use Rattle.nr_store.specs.declared.element.Element.{Element}
use Rattle.nr_store.specs.declared.element.Element.TheVariants.{Byte}
use Rattle.nr_store.specs.declared.element.Draft.{Draft}
use Rattle.nr_store.specs.Store.{Read, level_charge, text_charge, charge_of}
use Rattle.nr_store.specs.Windows.{rest_in, rest_of, level_after, levels_after, run_left}
use Rattle.nr_store.proofs.Keeping.{text_small, charged_once}
use Rattle.nr_store.specs.Holders.{Beside, level_in, level_of, stored_of, ids_of_source, ids_of, values, draft_ids, text_in, texts_in, IsHeld, Pays, AllPay, IsStore}

-- ---- the level further on

source_after : {K : Type 0} (p : Texts Element) (n : ℕ) (s : Source K) (l : Open K) → level_in p (further n s) (record l { source = further n s }) ≡ level_after n (level_in p s l)
source_after p n (Text id place) l = ap (λ xs. Read (record { rest = xs; old = l.old; charge = l.charge; resume = l.resume })) (sym (drop-drop n place (text p id)))
source_after p n (Own bytes) l = ap (λ xs. Read (record { rest = xs; old = l.old; charge = l.charge; resume = l.resume })) (sym (drop-map Byte n bytes))
source_after p n (Marked mode) l = refl

newest_after : {K : Type 0} (p : Texts Element) (n : ℕ) (ls : List (Open K)) → map (level_of p) (further_on n ls) ≡ levels_after n (map (level_of p) ls)
newest_after p n [] = refl
newest_after p n (l ∷ ls) = ap (λ k. k ∷ map (level_of p) ls) (source_after p n l.source l)

-- ---- it has so many elements

source_reaches : {K : Type 0} (p : Texts Element) (n : ℕ) (s : Source K) (l : Open K) → ((k : ℕ) → length (text p k) < 2 ^ 32) → n ≤ length (rest_in (level_in p s l)) → Reaches n s
source_reaches p n (Text id place) l small within = λ some. let long = length-drop place (text p id) in omega (arith, long, small id, some, within)
source_reaches p n (Own bytes) l small within = let long = length-map bytes Byte in omega arith
source_reaches p n (Marked mode) l small within = omega arith

levels_reach : {K : Type 0} (p : Texts Element) (n : ℕ) (ls : List (Open K)) → ((k : ℕ) → length (text p k) < 2 ^ 32) → n ≤ length (rest_of (map (level_of p) ls)) → NewestReaches n ls
levels_reach p n [] small within = omega arith
levels_reach p n (l ∷ ls) small within = source_reaches p n l.source l small within

-- ---- what stays

further_ids : {K : Type 0} (n : ℕ) (s : Source K) → ids_of_source (further n s) ≡ ids_of_source s
further_ids n (Text id place) = refl
further_ids n (Own bytes) = refl
further_ids n (Marked mode) = refl

further_pays : {K : Type 0} (n charge : ℕ) (s : Source K) → Pays s charge → Pays (further n s) charge
further_pays n charge (Text id place) pays = pays
further_pays n charge (Own bytes) pays = pays
further_pays n charge (Marked mode) pays = pays

further_text : {K : Type 0} (p : Texts Element) (names : List (Named Sense)) (n : ℕ) (older : List ℕ) (s : Source K) → text_in p names older (further n s) ≡ text_in p names older s
further_text p names n older (Text id place) = refl
further_text p names n older (Own bytes) = refl
further_text p names n older (Marked mode) = refl

on_texts : {K : Type 0} (p : Texts Element) (names : List (Named Sense)) (n : ℕ) (ls : List (Open K)) → texts_in p names (further_on n ls) ≡ texts_in p names ls
on_texts p names n [] = refl
on_texts p names n (l ∷ ls) = ap (λ ts. ts ++ texts_in p names ls) (further_text p names n (ids_of ls) l.source)

further_charge : {K : Type 0} (p : Texts Element) (n : ℕ) (s : Source K) (l : Open K) → level_charge (level_in p (further n s) (record l { source = further n s })) ≡ level_charge (level_in p s l)
further_charge p n (Text id place) l = refl
further_charge p n (Own bytes) l = refl
further_charge p n (Marked mode) l = refl

on_ids : {K : Type 0} (n : ℕ) (ls : List (Open K)) → ids_of (further_on n ls) ≡ ids_of ls
on_ids n [] = refl
on_ids n (l ∷ ls) = ap (λ ks. ks ++ ids_of ls) (further_ids n l.source)

pub run_is : {K : Type 0} (p : Texts Element) (names : SymbolTable Sense) (drafts : Items Draft) (levels : Levels K) (beside : Beside) (limit n : ℕ)
    → stored_of p names.entries drafts.items (record levels { levels = further_on n levels.levels }) beside limit ≡ run_left n (stored_of p names.entries drafts.items levels beside limit)
run_is p names drafts levels beside limit n =
    ap₂ (λ ks ts. record (stored_of p names.entries drafts.items levels beside limit) { levels = ks; texts = ts }) (newest_after p n levels.levels) (on_texts p names.entries n levels.levels)

on_pays : {K : Type 0} (n : ℕ) (ls : List (Open K)) → AllPay ls → AllPay (further_on n ls)
on_pays n [] pays = pays
on_pays n (l ∷ ls) pays = (further_pays n l.charge l.source pays.0, pays.1)

on_charge : {K : Type 0} (p : Texts Element) (n : ℕ) (ls : List (Open K)) → sum_by level_charge (map (level_of p) (further_on n ls)) ≡ sum_by level_charge (map (level_of p) ls)
on_charge p n [] = refl
on_charge p n (l ∷ ls) =
    let m = record l { source = further n l.source } in
    sum_by-cons level_charge (level_of p m) (map (level_of p) ls) ∙ ap (λ k. k + sum_by level_charge (map (level_of p) ls)) (further_charge p n l.source l) ∙ sym (sum_by-cons level_charge (level_of p l) (map (level_of p) ls))

on_length : {K : Type 0} (n : ℕ) (ls : List (Open K)) → length (further_on n ls) ≡ length ls
on_length n [] = refl
on_length n (l ∷ ls) = refl

module _ {K : Type 0} (p : Texts Element) (names : SymbolTable Sense) (drafts : Items Draft) (levels : Levels K) (beside : Beside) (charge limit n : ℕ) (h : IsStore p names drafts levels beside charge limit) where
  pub run_reaches : n ≤ length (rest_of (map (level_of p) levels.levels)) → NewestReaches n levels.levels
  run_reaches within =
      levels_reach p n levels.levels (λ k. text_small p names drafts levels beside charge limit k h) within

  pub run_stands : IsStore p names drafts (record levels { levels = further_on n levels.levels }) beside charge limit
  run_stands =
      let held = subst (λ ks. IsHeld p (values names.entries ++ (draft_ids drafts.items ++ ks))) (sym (on_ids n levels.levels)) h.held in
      let pays = on_pays n levels.levels h.pays in
      let charged : charge ≡ charge_of (stored_of p names.entries drafts.items (record levels { levels = further_on n levels.levels }) beside limit) =
      let was = h.charged in let same = on_charge p n levels.levels in let texts = ap (λ ts. sum_by text_charge ts) (on_texts p names.entries n levels.levels) in omega arith in
      record {
        held = held;
        alone = h.alone;
        pays = pays;
        named = h.named;
        few_acts = h.few_acts;
        charged = charged;
        once = charged_once p names.entries drafts.items (record levels { levels = further_on n levels.levels }) beside charge limit held h.alone pays h.named charged;
        within = h.within;
        deep = let deep = h.deep in let same = on_length n levels.levels in omega arith;
        small = h.small;
        elements_suffice = h.elements_suffice;
        slots_suffice = h.slots_suffice;
        names_suffice = h.names_suffice;
        drafts_suffice = h.drafts_suffice;
        bytes_suffice = h.bytes_suffice;
        beside_suffices = h.beside_suffices;
      }

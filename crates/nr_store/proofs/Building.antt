-- Lemmas on texts that are being built.
use Rattle.std.proofs.Common.{◌≡◌, ◌≢◌, ℕ, ◌+◌, ◌*◌, ◌<◌, ◌≤◌, List, [], ◌∷◌, ◌++◌, length, map, drop, sum_by, Option, None, Some, Ok, Err, refl, ap, ap₂, sym, ◌∙◌, subst, inl, inr, arith}
use Rattle.std.specs.List.{slice_get}
use Rattle.std.proofs.lemmas.List.{length-set, length-append, length-map}
use Rattle.std.proofs.lemmas.List.Sums.{sum_by-cons}
use Rattle.std.proofs.lemmas.Bool.{cases_eq, cond-true, cond-false, lt-ltb, le-ltb}
use Rattle.std.proofs.lemmas.Option.{slice_get_within, get_or_from_slice_get}
use Rattle.nr_vectors.specs.Items.{Items}
use Rattle.nr_pool.specs.Texts.{Held, Texts, no_text, text, holders, opened, with_text}
use Rattle.nr_pool.specs.Laws.{within_of_open, entry-with_entry_same, entry-with_entry_other, text-with_text_same, text-with_text_other, holders-with_text}
use Rattle.nr_symbol_tables.specs.Table.{Named}
use Rattle.nr_symbol_tables.specs.Rows.{SymbolTable}
use Rattle.nr_levels.specs.Levels.{Open, Levels}
use Rattle.nr_store.specs.declared.named.Sense.{Sense}
use Rattle.nr_store.specs.declared.element.Element.{Element}
use Rattle.nr_store.specs.declared.element.Diversion.{Diversion}
use Rattle.nr_store.specs.declared.element.Draft.{Draft}
use Rattle.nr_store.specs.declared.refusal.Refusal.TheVariants as refusals
use Rattle.nr_store.specs.Store.{Stored, Built, charge_of, weight, afforded, checked, begun, longer, on_newest, added}
use Rattle.nr_store.specs.Holders.{Beside, built_of, level_of, stored_of, count, ids_of, values, draft_ids, held_ids, IsHeld, IsStore}
use Rattle.nr_store.proofs.Counting.{AddsOne, one_same, one_other, count-cons, count-append, held_opened, held_text}
use Rattle.nr_store.proofs.Keeping.{Keeps, same_view, charged_once}

-- a list whose first item is known
pub cons_of : {X : Type 0} (xs : List X) (x : X) → slice_get xs 0 ≡ Some x → xs ≡ x ∷ drop 1 xs
cons_of [] x is = cc
cons_of (y ∷ ys) x is = let same : y ≡ x = cc in ap (λ z. z ∷ ys) same

-- ---- answers

pub unaffordable : {K X : Type 0} (v : Stored K) (x : X) → v.limit < charge_of v → afforded v x ≡ Err (record {})
unaffordable v x above = cond-true _ _ _ (lt-ltb v.limit (charge_of v) above)

pub affordable : {K X : Type 0} (v : Stored K) (x : X) → charge_of v ≤ v.limit → afforded v x ≡ Ok x
affordable v x within = cond-false _ _ _ (le-ltb v.limit (charge_of v) within)

pub refused : {K X : Type 0} (v : Stored K) (x : X) → v.limit < charge_of v → checked v x ≡ Err refusals.Stored
refused v x above = cond-true _ _ _ (lt-ltb v.limit (charge_of v) above)

pub too_deep : {K X : Type 0} (v : Stored K) (x : X) → charge_of v ≤ v.limit → v.deepest < length v.levels → checked v x ≡ Err refusals.Depth
too_deep v x within deeper = cond-false _ _ _ (le-ltb v.limit (charge_of v) within) ∙ cond-true _ _ _ (lt-ltb v.deepest (length v.levels) deeper)

pub admitted : {K X : Type 0} (v : Stored K) (x : X) → charge_of v ≤ v.limit → length v.levels ≤ v.deepest → checked v x ≡ Ok x
admitted v x within deep = cond-false _ _ _ (le-ltb v.limit (charge_of v) within) ∙ cond-false _ _ _ (le-ltb v.deepest (length v.levels) deep)

-- ---- what is within its limits

pub record Within {K : Type 0} (v : Stored K) (charge limit : ℕ) : Type 0 where
  pub charged : charge_of v ≡ charge
  pub same_limit : v.limit ≡ limit
  pub within : charge ≤ limit
  pub deep : length v.levels ≤ v.deepest

pub is_within : {K : Type 0} (p : Texts Element) (names : SymbolTable Sense) (drafts : Items Draft) (levels : Levels K) (beside : Beside) (charge limit : ℕ) (v : Stored K) → IsStore p names drafts levels beside charge limit
    → stored_of p names.entries drafts.items levels beside limit ≡ v → Within v charge limit
is_within p names drafts levels beside charge limit v h view =
    let same_most : levels.most ≡ v.deepest = ap (λ (w : Stored _). w.deepest) view in
    let long : length (map (level_of p) levels.levels) ≡ length v.levels = ap (λ (w : Stored _). length w.levels) view in
    let mapped = length-map levels.levels (level_of p) in
    let deep = h.deep in
    record { charged = sym (ap charge_of view) ∙ sym h.charged; same_limit = sym (ap (λ (w : Stored _). w.limit) view); within = h.within; deep = omega arith }

-- ---- where no text is being built

none_built : (p : Texts Element) (drafts : List Draft) (built : List Built) → map (built_of p) drafts ≡ built → slice_get drafts 0 ≡ None → built ≡ []
none_built p [] built same none = sym same
none_built p (d ∷ ds) built same none = cc

pub nothing_built : {K : Type 0} (f : Built → Built) (p : Texts Element) (drafts : List Draft) (v : Stored K) → map (built_of p) drafts ≡ v.building → slice_get drafts 0 ≡ None
    → record v { building = on_newest f v.building } ≡ v
nothing_built {K} f p drafts v same none =
    let empty = none_built p drafts v.building same none in
    ap (λ (bs : List Built). let w : Stored K = record v { building = on_newest f bs } in w) empty ∙ sym (ap (λ (bs : List Built). let w : Stored K = record v { building = bs } in w) empty)

pub nothing_afforded : {K X : Type 0} (x : X) (v new : Stored K) (charge limit : ℕ) → new ≡ v → Within v charge limit → afforded new x ≡ Ok x
nothing_afforded x v new charge limit same w =
    let charged = w.charged in
    let limits = w.same_limit in
    let within = w.within in
    ap (λ (u : Stored _). afforded u x) same ∙ affordable v x (omega arith)

-- ---- charges

pub charge_of-begun : {K : Type 0} (t : List Element) (dv : Option Diversion) (v : Stored K) → charge_of (begun t dv v) ≡ charge_of v + weight t
charge_of-begun t dv v = let one = sum_by-cons (λ (b : Built). weight b.text) (record { text = t; diversion = dv }) v.building in omega arith

pub charge_of-grown : {K : Type 0} (xs : List Element) (b : Built) (bs : List Built) (dv : Option Diversion) (v : Stored K) → v.building ≡ b ∷ bs
    → charge_of (record v { building = record { text = b.text ++ xs; diversion = dv } ∷ bs }) ≡ charge_of v + length xs
charge_of-grown xs b bs dv v is =
    let cost = λ (c : Built). weight c.text in
    let before : sum_by cost v.building ≡ weight b.text + sum_by cost bs = ap (sum_by cost) is ∙ sum_by-cons cost b bs in
    let after = sum_by-cons cost (record { text = b.text ++ xs; diversion = dv }) bs in
    omega (arith, length-append b.text xs)

-- ---- a text more

pub adds_building : {K : Type 0} (id : ℕ) (names : List (Named Sense)) (building : List ℕ) (levels : List (Open K)) → AddsOne id (held_ids names building levels) (held_ids names (id ∷ building) levels)
adds_building id names building levels = record {
  counts = λ k.
      let less = count-append k (values names) (building ++ ids_of levels) in
      let more = count-append k (values names) (id ∷ (building ++ ids_of levels)) in
      let this = count-cons k id (building ++ ids_of levels) in
      omega arith;
}

pub view_building : {K : Type 0} (p q : Texts Element) (names : List (Named Sense)) (drafts : List Draft) (levels : Levels K) (beside : Beside) (limit : ℕ) (d : Draft) (t : List Element)
    → Keeps p q (held_ids names (draft_ids drafts) levels.levels) → text q d.id ≡ t
    → stored_of q names (d ∷ drafts) levels beside limit ≡ record (stored_of p names drafts levels beside limit) { building = record { text = t; diversion = d.diversion } ∷ map (built_of p) drafts }
view_building p q names drafts levels beside limit d t keeps is =
    ap₂ (λ (v : Stored _) u. record v { building = record { text = u; diversion = d.diversion } ∷ v.building }) (same_view p q names drafts levels beside limit keeps) is

-- ---- begin

abbrev fresh_text : Held Element
fresh_text = record { elements = []; holders = 1 }

module _ {K : Type 0} (p : Texts Element) (names : SymbolTable Sense) (drafts : Items Draft) (levels : Levels K) (beside : Beside) (charge limit id : ℕ) (dv : Option Diversion) (h : IsStore p names drafts levels beside charge limit)
    (free : slice_get p.texts id ≡ Some no_text) where
  abbrev new : Draft
  new = record { id = id; diversion = dv }

  within : id < length p.texts
  within = slice_get_within p.texts id no_text free

  unheld : holders p id ≡ 0
  unheld = ap (λ (u : Held _). u.holders) (get_or_from_slice_get p.texts id no_text no_text free)

  not_held : (k : ℕ) → 0 < holders p k → k ≢ id
  not_held k some same = let none : holders p k ≡ 0 = ap (holders p) same ∙ unheld in omega arith

  pub text_begun : (k : ℕ) → 0 < holders p k → text (opened p id) k ≡ text p k
  text_begun k some = ap (λ (u : Held _). u.elements) (entry-with_entry_other p id k fresh_text (not_held k some))

  kept_begun : Keeps p (opened p id) (held_ids names.entries (draft_ids drafts.items) levels.levels)
  kept_begun = record {
    kept = λ k some.
        let held = h.held.held k in
        ap (λ (u : Held _). u.elements) (entry-with_entry_other p id k fresh_text (not_held k (omega arith)));
  }

  pub begun_is : stored_of (opened p id) names.entries (new ∷ drafts.items) levels beside limit ≡ begun [] dv (stored_of p names.entries drafts.items levels beside limit)
  begun_is =
      view_building p (opened p id) names.entries drafts.items levels beside limit new [] kept_begun (ap (λ (u : Held _). u.elements) (entry-with_entry_same p id fresh_text within))

  pub begun_stands : charge + 48 ≤ limit → IsStore (opened p id) names (record drafts { items = new ∷ drafts.items }) levels beside (charge + 48) limit
  begun_stands room =
      let held = held_opened p id (held_ids names.entries (draft_ids drafts.items) levels.levels) (held_ids names.entries (id ∷ draft_ids drafts.items) levels.levels) h.held free
      (adds_building id names.entries (draft_ids drafts.items) levels.levels) in
      let alone : (k : ℕ) → 0 < count k (draft_ids (new ∷ drafts.items)) → holders (opened p id) k ≡ 1 = λ k some. elim (cases_eq k id) [
        | inl same ↦ ap (holders (opened p id)) same ∙ ap (λ (u : Held _). u.holders) (entry-with_entry_same p id fresh_text within)
        | inr apart ↦
            let other = one_other k id (λ e. apart (sym e)) in
            let count_is = count-cons k id (draft_ids drafts.items) in
            ap (λ (u : Held _). u.holders) (entry-with_entry_other p id k fresh_text apart) ∙ h.alone k (omega arith)
      ] in
      let charged : charge + 48 ≡ charge_of (stored_of (opened p id) names.entries (new ∷ drafts.items) levels beside limit) =
      let was = h.charged in
      let more = charge_of-begun [] dv (stored_of p names.entries drafts.items levels beside limit) in
      let is = ap charge_of begun_is in
      omega arith in
      record {
        held = held;
        alone = alone;
        pays = h.pays;
        named = h.named;
        few_acts = h.few_acts;
        charged = charged;
        once = charged_once (opened p id) names.entries (new ∷ drafts.items) levels beside (charge + 48) limit held alone h.pays h.named charged;
        within = room;
        deep = h.deep;
        small = h.small;
        elements_suffice = h.elements_suffice;
        slots_suffice = let slots = h.slots_suffice in let same = length-set p.texts id fresh_text in omega arith;
        names_suffice = h.names_suffice;
        drafts_suffice = h.drafts_suffice;
        bytes_suffice = h.bytes_suffice;
        beside_suffices = h.beside_suffices;
      }

-- what texts being built are charged
building_length : (bs : List Built) → 48 * length bs ≤ sum_by (λ (b : Built). weight b.text) bs
building_length [] = omega arith
building_length (b ∷ bs) =
    let rest = building_length bs in
    let all = sum_by-cons (λ (c : Built). weight c.text) b bs in
    omega arith

-- where 48 more are within the limit, there is room for a draft
pub room_for_a_draft : {K : Type 0} (p : Texts Element) (names : SymbolTable Sense) (drafts : Items Draft) (levels : Levels K) (beside : Beside) (charge limit : ℕ) → IsStore p names drafts levels beside charge limit → charge + 48 ≤ limit
    → length drafts.items < drafts.capacity
room_for_a_draft p names drafts levels beside charge limit h room =
    let long = building_length (map (built_of p) drafts.items) in
    let mapped = length-map drafts.items (built_of p) in
    let charged = h.charged in
    let suffice = h.drafts_suffice in
    omega arith

-- ---- more elements

module _ {K : Type 0} (p : Texts Element) (names : SymbolTable Sense) (drafts : Items Draft) (levels : Levels K) (beside : Beside) (charge limit : ℕ) (d : Draft) (ds : List Draft) (xs : List Element)
    (h : IsStore p names drafts levels beside charge limit) (first : drafts.items ≡ d ∷ ds) where
  grown : Texts Element
  grown = with_text p d.id (text p d.id ++ xs)

  pub one_holder : holders p d.id ≡ 1
  one_holder =
      let count_is : count d.id (draft_ids drafts.items) ≡ count d.id (d.id ∷ draft_ids ds) = ap (λ b. count d.id (draft_ids b)) first in
      let this = one_same d.id d.id refl in
      let all = count-cons d.id d.id (draft_ids ds) in
      h.alone d.id (omega arith)

  -- it has no other holder
  apart_from : (k : ℕ) → 0 < count k (held_ids names.entries (draft_ids ds) levels.levels) → k ≢ d.id
  apart_from k some same =
      let id = d.id in
      let held = h.held.held id in
      let adds = (adds_building id names.entries (draft_ids ds) levels.levels).counts id in
      let this = one_same id id refl in
      let all : count id (held_ids names.entries (draft_ids drafts.items) levels.levels) ≡ count id (held_ids names.entries (id ∷ draft_ids ds) levels.levels) = ap (λ b. count id (held_ids names.entries (draft_ids b) levels.levels)) first in
      let alone = one_holder in
      let is : count k (held_ids names.entries (draft_ids ds) levels.levels) ≡ count id (held_ids names.entries (draft_ids ds) levels.levels) = ap (λ j. count j (held_ids names.entries (draft_ids ds) levels.levels)) same in
      omega arith

  kept_grown : Keeps p grown (held_ids names.entries (draft_ids ds) levels.levels)
  unfolding grown
  kept_grown = record { kept = λ k some. text-with_text_other p d.id k (text p d.id ++ xs) (apart_from k some) }

  -- with another diversion
  module _ (dv : Option Diversion) where
    abbrev after : Draft
    after = record { id = d.id; diversion = dv }

    pub grown_is : stored_of (with_text p d.id (text p d.id ++ xs)) names.entries (after ∷ ds) levels beside limit
        ≡ record (stored_of p names.entries drafts.items levels beside limit) { building = record { text = text p d.id ++ xs; diversion = dv } ∷ map (built_of p) ds }
    unfolding grown
    grown_is =
        let here = text-with_text_same p d.id (text p d.id ++ xs) (within_of_open p d.id (let some = one_holder in omega arith)) in
        view_building p grown names.entries ds levels beside limit after (text p d.id ++ xs) kept_grown here

    pub grown_stands : charge + length xs ≤ limit → IsStore (with_text p d.id (text p d.id ++ xs)) names (record drafts { items = after ∷ ds }) levels beside (charge + length xs) limit
    unfolding grown
    grown_stands room =
        let same_ids : draft_ids drafts.items ≡ d.id ∷ draft_ids ds = ap draft_ids first in
        let held = subst (λ b. IsHeld grown (held_ids names.entries b levels.levels)) same_ids
        (held_text p d.id (text p d.id ++ xs) (held_ids names.entries (draft_ids drafts.items) levels.levels) h.held (let some = one_holder in omega arith)) in
        let alone : (k : ℕ) → 0 < count k (draft_ids (after ∷ ds)) → holders grown k ≡ 1 = λ k some. holders-with_text p d.id k (text p d.id ++ xs) ∙ h.alone k (let is = ap (count k) same_ids in omega arith) in
        let charged : charge + length xs ≡ charge_of (stored_of grown names.entries (after ∷ ds) levels beside limit) =
        let was = h.charged in
        let more = charge_of-grown xs (built_of p d) (map (built_of p) ds) dv (stored_of p names.entries drafts.items levels beside limit) (ap (map (built_of p)) first) in
        let is = ap charge_of grown_is in
        omega arith in
        record {
          held = held;
          alone = alone;
          pays = h.pays;
          named = h.named;
          few_acts = h.few_acts;
          charged = charged;
          once = charged_once grown names.entries (after ∷ ds) levels beside (charge + length xs) limit held alone h.pays h.named charged;
          within = room;
          deep = h.deep;
          small = h.small;
          elements_suffice = h.elements_suffice;
          slots_suffice = let slots = h.slots_suffice in let same = length-set p.texts d.id (record { elements = text p d.id ++ xs; holders = holders p d.id }) in omega arith;
          names_suffice = h.names_suffice;
          drafts_suffice = h.drafts_suffice;
          bytes_suffice = h.bytes_suffice;
          beside_suffices = h.beside_suffices;
        }

  -- with the same
  pub added_is : stored_of (with_text p d.id (text p d.id ++ xs)) names.entries drafts.items levels beside limit ≡ added xs (stored_of p names.entries drafts.items levels beside limit)
  added_is =
      ap (λ b. stored_of (with_text p d.id (text p d.id ++ xs)) names.entries b levels beside limit) first
      ∙ grown_is d.diversion
      ∙ ap (λ b. record (stored_of p names.entries drafts.items levels beside limit) { building = on_newest (longer xs) (map (built_of p) b) }) (sym first)

  pub added_stands : charge + length xs ≤ limit → IsStore (with_text p d.id (text p d.id ++ xs)) names drafts levels beside (charge + length xs) limit
  added_stands room =
      subst (λ b. IsStore (with_text p d.id (text p d.id ++ xs)) names (record drafts { items = b }) levels beside (charge + length xs) limit) (sym first) (grown_stands d.diversion room)

  pub charge_of-added : charge_of (added xs (stored_of p names.entries drafts.items levels beside limit)) ≡ charge + length xs
  charge_of-added =
      let was = h.charged in
      let is : added xs (stored_of p names.entries drafts.items levels beside limit) ≡ record (stored_of p names.entries drafts.items levels beside limit) { building = record { text = text p d.id ++ xs; diversion = d.diversion } ∷ map (built_of p) ds } =
      ap (λ b. record (stored_of p names.entries drafts.items levels beside limit) { building = on_newest (longer xs) (map (built_of p) b) }) first in
      ap charge_of is ∙ charge_of-grown xs (built_of p d) (map (built_of p) ds) d.diversion (stored_of p names.entries drafts.items levels beside limit) (ap (map (built_of p)) first) ∙ ap (λ n. n + length xs) (sym was)

-- with so many elements more, for which there is room
module _ {K : Type 0} (p : Texts Element) (names : SymbolTable Sense) (drafts : Items Draft) (levels : Levels K) (beside : Beside) (charge limit : ℕ) (d : Draft) (ds : List Draft) (xs : List Element) (count : ℕ)
    (h : IsStore p names drafts levels beside charge limit) (first : drafts.items ≡ d ∷ ds) (long : length xs ≡ count) (room : charge + count ≤ limit) where
  pub run_stands : IsStore (with_text p d.id (text p d.id ++ xs)) names drafts levels beside (charge + count) limit
  run_stands =
      subst (λ n. IsStore (with_text p d.id (text p d.id ++ xs)) names drafts levels beside (charge + n) limit) long
      (added_stands p names drafts levels beside charge limit d ds xs h first (omega (arith, long, room)))

  pub run_afforded : charge_of (stored_of (with_text p d.id (text p d.id ++ xs)) names.entries drafts.items levels beside limit) ≤ limit
  run_afforded = let charged = run_stands.charged in omega (arith, charged, room)

  -- and then one more
  pub charge_after_run : (x : Element) → charge_of (added (x ∷ []) (stored_of (with_text p d.id (text p d.id ++ xs)) names.entries drafts.items levels beside limit)) ≡ charge + count + 1
  charge_after_run x = charge_of-added (with_text p d.id (text p d.id ++ xs)) names drafts levels beside (charge + count) limit d ds (x ∷ []) run_stands first

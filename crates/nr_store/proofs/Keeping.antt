-- Lemmas on what stays where the pool's texts change.
use Rattle.std.proofs.Common.{◌≡◌, ℕ, suc, ◌+◌, ◌*◌, ◌^◌, ◌<◌, ◌≤◌, List, [], ◌∷◌, ◌++◌, length, map, drop, sum_by, All, refl, ap, ap₂, sym, ◌∙◌, inl, inr, arith}
use Rattle.std.proofs.lemmas.List.Sums.{sum_by-cons}
use Rattle.nr_vectors.specs.Items.{Items}
use Rattle.std.proofs.lemmas.Bool.{cases_lt, cases_eq}
use Rattle.std.specs.Prelude.{nat_lt, if◌then◌else◌}
use Rattle.nr_pool.specs.Texts.{Held, Texts, text, holders, IsOpen, used}
use Rattle.nr_symbol_tables.specs.Table.{Named}
use Rattle.nr_symbol_tables.specs.Rows.{SymbolTable}
use Rattle.nr_levels.specs.Levels.{Source, Text, Own, Mark as Marked, Open, Levels, total}
use Rattle.nr_store.specs.declared.named.Sense.{Sense}
use Rattle.nr_store.specs.declared.named.Sense.TheVariants as senses
use Rattle.nr_store.specs.declared.element.Draft.{Draft}
use Rattle.nr_store.specs.declared.element.Element.{Element}
use Rattle.nr_store.specs.Senses.{ids_of_sense}
use Rattle.nr_store.specs.Store.{Means, Words, weight_of, Built, Read, Shared, level_charge, charge_of, weight, share}
use Rattle.nr_store.specs.Holders.{Beside, means_of, named_means, built_of, level_in, level_of, stored_of, count, ids_of_source, ids_of, values, draft_ids, held_ids, name_for, text_in, texts_in, IsHeld, Pays, AllPay, AreNamed, charge_of_texts, beside_cost, IsStore}
use Rattle.nr_store.proofs.Counting.{one_same, one_other, count-cons, count-append, cost, costs, cost_in, used-le}
use Rattle.nr_store.proofs.EachOnce.{costs-le, each_once}

-- these texts are in q as they are in p
pub record Keeps (p q : Texts Element) (ids : List ℕ) : Type 0 where
  pub kept : (k : ℕ) → 0 < count k ids → text q k ≡ text p k

pub keeps_left : (p q : Texts Element) (js ks : List ℕ) → Keeps p q (js ++ ks) → Keeps p q js
keeps_left p q js ks h = record { kept = λ k some. h.kept k (omega (arith, count-append k js ks)) }

pub keeps_right : (p q : Texts Element) (js ks : List ℕ) → Keeps p q (js ++ ks) → Keeps p q ks
keeps_right p q js ks h = record { kept = λ k some. h.kept k (omega (arith, count-append k js ks)) }

pub keeps_first : (p q : Texts Element) (j : ℕ) (ks : List ℕ) → Keeps p q (j ∷ ks) → text q j ≡ text p j
keeps_first p q j ks h = h.kept j (omega (arith, count-cons j j ks, one_same j j refl))

pub keeps_rest : (p q : Texts Element) (j : ℕ) (ks : List ℕ) → Keeps p q (j ∷ ks) → Keeps p q ks
keeps_rest p q j ks h = record { kept = λ k some. h.kept k (omega (arith, count-cons k j ks)) }

same_sense : (p q : Texts Element) (m : Sense) → Keeps p q (ids_of_sense m) → means_of q m ≡ means_of p m
same_sense p q (senses.Request r) h = refl
same_sense p q (senses.Text id) h = ap Words (keeps_first p q id [] h)

pub same_names : (p q : Texts Element) (names : List (Named Sense)) → Keeps p q (values names) → map (named_means q) names ≡ map (named_means p) names
same_names p q [] h = refl
same_names p q (n ∷ ns) h =
    ap₂ (λ t ts. record { name = n.name; value = t } ∷ ts) (same_sense p q n.value (keeps_left p q (ids_of_sense n.value) (values ns) h))
    (same_names p q ns (keeps_right p q (ids_of_sense n.value) (values ns) h))

pub same_building : (p q : Texts Element) (drafts : List Draft) → Keeps p q (draft_ids drafts) → map (built_of q) drafts ≡ map (built_of p) drafts
same_building p q [] h = refl
same_building p q (d ∷ ds) h =
    ap₂ (λ t ts. record { text = t; diversion = d.diversion } ∷ ts) (keeps_first p q d.id (draft_ids ds) h) (same_building p q ds (keeps_rest p q d.id (draft_ids ds) h))

same_level : {K : Type 0} (p q : Texts Element) (s : Source K) (l : Open K) → Keeps p q (ids_of_source s) → level_in q s l ≡ level_in p s l
same_level p q (Text id place) l h = ap (λ t. Read (record { rest = drop place t; old = l.old; charge = l.charge; resume = l.resume })) (keeps_first p q id [] h)
same_level p q (Own bytes) l h = refl
same_level p q (Marked mode) l h = refl

pub same_levels : {K : Type 0} (p q : Texts Element) (levels : List (Open K)) → Keeps p q (ids_of levels) → map (level_of q) levels ≡ map (level_of p) levels
same_levels p q [] h = refl
same_levels p q (l ∷ ls) h =
    ap₂ (λ k ks. k ∷ ks) (same_level p q l.source l (keeps_left p q (ids_of_source l.source) (ids_of ls) h))
    (same_levels p q ls (keeps_right p q (ids_of_source l.source) (ids_of ls) h))

same_text : {K : Type 0} (p q : Texts Element) (names : List (Named Sense)) (older : List ℕ) (s : Source K) → Keeps p q (ids_of_source s) → text_in q names older s ≡ text_in p names older s
same_text p q names older (Text id place) h = ap (λ t. record { name = name_for id names; share = if nat_lt 0 (count id older) then 0 else share t } ∷ []) (keeps_first p q id [] h)
same_text p q names older (Own bytes) h = refl
same_text p q names older (Marked mode) h = refl

pub same_texts : {K : Type 0} (p q : Texts Element) (names : List (Named Sense)) (levels : List (Open K)) → Keeps p q (ids_of levels) → texts_in q names levels ≡ texts_in p names levels
same_texts p q names [] h = refl
same_texts p q names (l ∷ ls) h =
    ap₂ (λ (ts us : List Shared). ts ++ us) (same_text p q names (ids_of ls) l.source (keeps_left p q (ids_of_source l.source) (ids_of ls) h))
    (same_texts p q names ls (keeps_right p q (ids_of_source l.source) (ids_of ls) h))

-- all that is seen stays
pub same_view : {K : Type 0} (p q : Texts Element) (names : List (Named Sense)) (drafts : List Draft) (levels : Levels K) (beside : Beside) (limit : ℕ)
    → Keeps p q (held_ids names (draft_ids drafts) levels.levels) → stored_of q names drafts levels beside limit ≡ stored_of p names drafts levels beside limit
same_view p q names drafts levels beside limit h =
    let afterwards = keeps_right p q (values names) (draft_ids drafts ++ ids_of levels.levels) h in
    ap₂ (λ ns bs. record (stored_of q names drafts levels beside limit) { names = ns; building = bs })
    (same_names p q names (keeps_left p q (values names) (draft_ids drafts ++ ids_of levels.levels) h))
    (same_building p q drafts (keeps_left p q (draft_ids drafts) (ids_of levels.levels) afterwards))
    ∙ ap₂ (λ ls ts. record (stored_of p names drafts levels beside limit) { levels = ls; texts = ts }) (same_levels p q levels.levels (keeps_right p q (draft_ids drafts) (ids_of levels.levels) afterwards))
    (same_texts p q names levels.levels (keeps_right p q (draft_ids drafts) (ids_of levels.levels) afterwards))

-- ---- what the pool's texts take is within the charge

module _ {K : Type 0} (p : Texts Element) (names : SymbolTable Sense) (drafts : Items Draft) (levels : Levels K) (beside : Beside) (charge limit : ℕ) (h : IsStore p names drafts levels beside charge limit) where
  pub costs_paid : costs p ≤ charge
  costs_paid =
      let most = costs-le p (values names.entries ++ draft_ids drafts.items) (ids_of levels.levels) (λ k. omega (
        arith,
        h.held.held k,
        count-append k (values names.entries) (draft_ids drafts.items ++ ids_of levels.levels),
        count-append k (draft_ids drafts.items) (ids_of levels.levels),
        count-append k (values names.entries) (draft_ids drafts.items),
      )) h.held.bare in
      omega (arith, most, h.once)

all_cost : (ts : List (Held Element)) → All (λ (t : Held Element). 0 < t.holders) ts → 16 * length ts ≤ sum_by cost ts
all_cost [] h = omega arith
all_cost (t ∷ ts) h =
    let this : 0 < t.holders = h 0 t (omega arith) in
    let rest = all_cost ts (λ k d below. h (suc k) d (omega arith)) in
    let all = sum_by-cons cost t ts in
    omega arith

-- where 16 more are within the limit, some number of the pool has no text
pub room_for_a_text : {K : Type 0} (p : Texts Element) (names : SymbolTable Sense) (drafts : Items Draft) (levels : Levels K) (beside : Beside) (charge limit : ℕ) → IsStore p names drafts levels beside charge limit → charge + 16 ≤ limit
    → All (λ (t : Held Element). 0 < t.holders) p.texts → ⊥
room_for_a_text p names drafts levels beside charge limit h room all =
    let most = all_cost p.texts all in
    let paid = costs_paid p names drafts levels beside charge limit h in
    let slots = h.slots_suffice in
    omega arith

-- how many elements more there is room for
pub room_for_elements : {K : Type 0} (p : Texts Element) (names : SymbolTable Sense) (drafts : Items Draft) (levels : Levels K) (beside : Beside) (charge limit n : ℕ) → IsStore p names drafts levels beside charge limit → charge + n ≤ limit → used p + n ≤ p.capacity
room_for_elements p names drafts levels beside charge limit n h room =
    let most = used-le p in
    let paid = costs_paid p names drafts levels beside charge limit h in
    let elements = h.elements_suffice in
    omega arith

-- ---- what stays of the view

-- what the levels are charged, by their own count
level_total : {K : Type 0} (p : Texts Element) (s : Source K) (l : Open K) → Pays s l.charge → level_charge (level_in p s l) ≡ l.charge
level_total p (Text id place) l pays = refl
level_total p (Own bytes) l pays = refl
level_total p (Marked mode) l pays = sym pays

pub levels_total : {K : Type 0} (p : Texts Element) (levels : List (Open K)) → AllPay levels → sum_by level_charge (map (level_of p) levels) ≡ sum_by (λ (l : Open K). l.charge) levels
levels_total p [] pays = refl
levels_total {K = K} p (l ∷ ls) pays =
    sum_by-cons level_charge (level_of p l) (map (level_of p) ls) ∙ ap₂ (λ a b. a + b) (level_total p l.source l pays.0) (levels_total p ls pays.1) ∙ sym (sum_by-cons (λ (k : Open K). k.charge) l ls)

-- what is charged is a sum over the pool, where it is one over the record
pub charged_once : {K : Type 0} (p : Texts Element) (names : List (Named Sense)) (drafts : List Draft) (levels : Levels K) (beside : Beside) (charge limit : ℕ)
    → IsHeld p (held_ids names (draft_ids drafts) levels.levels) → ((k : ℕ) → 0 < count k (draft_ids drafts) → holders p k ≡ 1) → AllPay levels.levels → AreNamed names → charge ≡ charge_of (stored_of p names drafts levels beside limit)
    → charge ≡ charge_of_texts p (values names ++ draft_ids drafts) (ids_of levels.levels) + total levels.levels + beside_cost beside
charged_once p names drafts levels beside charge limit held alone pays named charged =
    charged ∙ each_once p names drafts levels beside limit held alone named.single (levels_total p levels.levels pays)

-- the levels' own charges are within what all is charged
pub levels_within : {K : Type 0} (p : Texts Element) (names : SymbolTable Sense) (drafts : Items Draft) (levels : Levels K) (beside : Beside) (charge limit : ℕ) → IsStore p names drafts levels beside charge limit → total levels.levels ≤ charge
levels_within p names drafts levels beside charge limit h =
    let all = levels_total p levels.levels h.pays in
    let charged = h.charged in
    omega arith

-- ---- how much is held

values_many : (id : ℕ) (p : Texts Element) (m : Sense) → 16 * count id (ids_of_sense m) ≤ weight_of (means_of p m)
values_many id p (senses.Request r) = omega arith
values_many id p (senses.Text k) = elim (cases_eq k id) [
  | inl same ↦ omega (arith, count-cons id k [], one_same id k same)
  | inr apart ↦ omega (arith, count-cons id k [], one_other id k apart)
]

names_many : (id : ℕ) (p : Texts Element) (names : List (Named Sense)) → 16 * count id (values names) ≤ sum_by (λ (n : Named Means). weight_of n.value) (map (named_means p) names)
names_many id p [] = omega arith
names_many id p (n ∷ ns) =
    let rest = names_many id p ns in
    let this = values_many id p n.value in
    let counted = count-append id (ids_of_sense n.value) (values ns) in
    let all = sum_by-cons (λ (m : Named Means). weight_of m.value) (named_means p n) (map (named_means p) ns) in
    omega arith

drafts_many : (id : ℕ) (p : Texts Element) (drafts : List Draft) → 16 * count id (draft_ids drafts) ≤ sum_by (λ (b : Built). weight b.text) (map (built_of p) drafts)
drafts_many id p [] = omega arith
drafts_many id p (d ∷ ds) =
    let rest = drafts_many id p ds in
    let counted = count-cons id d.id (draft_ids ds) in
    let all = sum_by-cons (λ (b : Built). weight b.text) (built_of p d) (map (built_of p) ds) in
    elim (cases_eq d.id id) [
      | inl same ↦ omega (arith, rest, counted, all, one_same id d.id same)
      | inr apart ↦ omega (arith, rest, counted, all, one_other id d.id apart)
    ]

source_many : {K : Type 0} (id : ℕ) (s : Source K) (charge : ℕ) → Pays s charge → 16 * count id (ids_of_source s) ≤ charge
source_many id (Text k place) charge pays = elim (cases_eq k id) [
  | inl same ↦ omega (arith, count-cons id k [], one_same id k same, pays)
  | inr apart ↦ omega (arith, count-cons id k [], one_other id k apart)
]
source_many id (Own bytes) charge pays = omega arith
source_many id (Marked mode) charge pays = omega arith

levels_many : {K : Type 0} (id : ℕ) (levels : List (Open K)) → AllPay levels → 16 * count id (ids_of levels) ≤ sum_by (λ (l : Open K). l.charge) levels
levels_many id [] pays = omega arith
levels_many {K = K} id (l ∷ ls) pays =
    let rest = levels_many id ls pays.1 in
    let this = source_many id l.source l.charge pays.0 in
    let counted = count-append id (ids_of_source l.source) (ids_of ls) in
    let all = sum_by-cons (λ (k : Open K). k.charge) l ls in
    omega arith

module _ {K : Type 0} (p : Texts Element) (names : SymbolTable Sense) (drafts : Items Draft) (levels : Levels K) (beside : Beside) (charge limit id : ℕ) (h : IsStore p names drafts levels beside charge limit) where
  -- each holder of a text pays 16
  pub many_paid : 16 * holders p id ≤ charge
  many_paid =
      let held = h.held.held id in
      let all = count-append id (values names.entries) (draft_ids drafts.items ++ ids_of levels.levels) in
      let afterwards = count-append id (draft_ids drafts.items) (ids_of levels.levels) in
      let of_names = names_many id p names.entries in
      let of_drafts = drafts_many id p drafts.items in
      let of_levels = levels_many id levels.levels h.pays in
      let total = levels_total p levels.levels h.pays in
      let charged = h.charged in
      omega arith

  -- a text that is held is charged
  pub share_paid : IsOpen p id → share (text p id) ≤ charge
  share_paid is_open =
      let most = cost_in p id is_open in
      let paid = costs_paid p names drafts levels beside charge limit h in
      omega arith

  -- any text is short
  pub text_small : length (text p id) < 2 ^ 32
  text_small =
      let within = h.within in
      let small = h.small in
      elim (cases_lt 0 (holders p id)) [
        | inl some ↦ let paid = share_paid some in omega arith
        | inr none ↦ let bare : length (text p id) ≡ 0 = ap length (h.held.bare id (omega (arith, none))) in omega arith
      ]

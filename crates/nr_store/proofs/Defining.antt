-- Lemmas on names that are given, taken and changed.
use Rattle.std.proofs.Common.{◌≡◌, ℕ, ◌+◌, ◌*◌, ◌<◌, ◌≤◌, List, [], ◌∷◌, ◌++◌, length, map, sum_by, Some, None, refl, ap, ap₂, sym, ◌∙◌, inl, inr, arith}
use Rattle.std.proofs.lemmas.Bool.{cases_lt, cases_eq}
use Rattle.std.proofs.lemmas.List.Sums.{sum_by-cons}
use Rattle.nr_vectors.specs.Items.{Items}
use Rattle.nr_pool.specs.Texts.{Texts, text, holders, IsOpen, released}
use Rattle.nr_symbol_tables.specs.Table.{Named, find, put}
use Rattle.nr_symbol_tables.specs.Rows.{SymbolTable}
use Rattle.nr_levels.specs.Levels.{Open, Levels}
use Rattle.nr_store.specs.declared.named.Sense.{Sense}
use Rattle.nr_store.specs.declared.named.Sense.TheVariants as senses
use Rattle.nr_store.specs.declared.element.Element.{Element}
use Rattle.nr_store.specs.declared.element.Draft.{Draft}
use Rattle.nr_store.specs.declared.request.TheConstants.{REQUESTS}
use Rattle.nr_store.specs.Senses.{act}
use Rattle.nr_store.specs.Store.{Means, weight_of, Built, charge_of, weight, without_name, defined}
use Rattle.nr_store.specs.Holders.{Beside, acts, means_of, named_means, built_of, stored_of, one, count, ids_of, values, draft_ids, held_ids, AreNamed, IsHeld, IsStore}
use Rattle.nr_store.proofs.Counting.{AddsOne, one_same, one_other, count-cons, count-append, held_less, open_of_adds, text_kept, released_capacity, released_slots}
use Rattle.nr_store.proofs.Keeping.{Keeps, same_view, charged_once}
use Rattle.nr_store.proofs.Naming.{ones, sum_of, put_sum, put_sum_new, without_sum, put-map, count-values}
use Rattle.nr_store.proofs.Sharing.{texts_charge, charge_same, texts_named, name_for-put_other, put_named}

-- what a name's meaning is charged
abbrev pub cost_of : Texts Element → Sense → ℕ
cost_of p m = weight_of (means_of p m)

-- a text is charged 48 at least, and a request nothing
pub cost_acts : (p : Texts Element) (m : Sense) → 48 ≤ cost_of p m + 48 * act m
cost_acts p (senses.Request r) = omega arith
cost_acts p (senses.Text id) = omega arith

-- what the names are charged
pub names_charge : (p : Texts Element) (ns : List (Named Sense)) → sum_by (λ (n : Named Means). weight_of n.value) (map (named_means p) ns) ≡ sum_of (cost_of p) ns
names_charge p [] = refl
names_charge p (n ∷ ns) =
    sum_by-cons (λ (m : Named Means). weight_of m.value) (named_means p n) (map (named_means p) ns) ∙ ap (λ m. cost_of p n.value + m) (names_charge p ns)
    ∙ sym (sum_by-cons (λ (m : Named Sense). cost_of p m.value) n ns)

pub building_charge : (p : Texts Element) (d : Draft) (ds : List Draft) → sum_by (λ (b : Built). weight b.text) (map (built_of p) (d ∷ ds)) ≡ weight (text p d.id) + sum_by (λ (b : Built). weight b.text) (map (built_of p) ds)
building_charge p d ds = sum_by-cons (λ (b : Built). weight b.text) (built_of p d) (map (built_of p) ds)

-- each name that is no request's is charged 48 at least
pub names_length : (p : Texts Element) (ns : List (Named Sense)) → 48 * length ns ≤ sum_of (cost_of p) ns + 48 * acts ns
names_length p [] = omega arith
names_length p (n ∷ ns) =
    let rest = names_length p ns in
    let this = cost_acts p n.value in
    let all = sum_by-cons (λ (m : Named Sense). cost_of p m.value) n ns in
    let some = sum_by-cons (λ (m : Named Sense). act m.value) n ns in
    omega arith

built_weighs : (p : Texts Element) (ds : List Draft) → 0 < length ds → 48 ≤ sum_by (λ (b : Built). weight b.text) (map (built_of p) ds)
built_weighs p [] some = absurd (omega arith)
built_weighs p (d ∷ ds) some = let all = building_charge p d ds in omega arith

-- how often a text is held
pub count-held : {K : Type 0} (k : ℕ) (names : List (Named Sense)) (building : List ℕ) (levels : List (Open K)) → count k (held_ids names building levels) ≡ sum_of (ones k) names + (count k building + count k (ids_of levels))
count-held k names building levels =
    count-append k (values names) (building ++ ids_of levels) ∙ ap₂ (λ a b. a + b) (count-values k names) (count-append k building (ids_of levels))

module _ {K : Type 0} (p : Texts Element) (names : SymbolTable Sense) (drafts : Items Draft) (levels : Levels K) (beside : Beside) (charge limit : ℕ) (h : IsStore p names drafts levels beside charge limit) where
  pub room_for_a_name : 0 < length drafts.items → length names.entries < names.capacity
  room_for_a_name some =
      let of_names = names_charge p names.entries in
      let long = names_length p names.entries in
      let few = h.few_acts in
      let built = built_weighs p drafts.items some in
      let charged = h.charged in
      let within = h.within in
      let room = h.names_suffice in
      omega arith

  -- a text that a level reads is not being built
  pub unbuilt : (k : ℕ) → 0 < count k (ids_of levels.levels) → count k (draft_ids drafts.items) ≡ 0
  unbuilt k some =
      let held = h.held.held k in
      let all = count-held k names.entries (draft_ids drafts.items) levels.levels in
      elim (cases_lt 0 (count k (draft_ids drafts.items))) [
        | inl built ↦ let one_holder = h.alone k built in absurd (omega (arith, held, all, one_holder, some, built))
        | inr none ↦ omega (arith, none)
      ]

  -- what names hold of the texts that levels read
  pub values_of : (ns : List (Named Sense)) (ds : List Draft) → ((k : ℕ) → 0 < count k (draft_ids ds) → 0 < count k (draft_ids drafts.items)) → (k n : ℕ)
      → count k (held_ids names.entries (draft_ids drafts.items) levels.levels) ≡ n + count k (held_ids ns (draft_ids ds) levels.levels) → 0 < count k (ids_of levels.levels)
      → count k (values names.entries) ≡ n + count k (values ns)
  values_of ns ds fewer k n counts some =
      let before = count-held k names.entries (draft_ids drafts.items) levels.levels in
      let after = count-held k ns (draft_ids ds) levels.levels in
      let values_before = count-values k names.entries in
      let values_after = count-values k ns in
      let none = unbuilt k some in
      elim (cases_lt 0 (count k (draft_ids ds))) [
        | inl built ↦ let was = fewer k built in absurd (omega (arith, was, none))
        | inr no_more ↦ omega (arith, counts, before, after, values_before, values_after, none, no_more)
      ]

  pub texts_same : (ns : List (Named Sense)) (ds : List Draft) → ((k : ℕ) → 0 < count k (draft_ids ds) → 0 < count k (draft_ids drafts.items))
      → ((k : ℕ) → count k (held_ids names.entries (draft_ids drafts.items) levels.levels) ≡ count k (held_ids ns (draft_ids ds) levels.levels)) → texts_charge p ns levels.levels ≡ texts_charge p names.entries levels.levels
  texts_same ns ds fewer counts = charge_same p names.entries ns levels.levels (λ k some. let is = values_of ns ds fewer k 0 (let same = counts k in omega arith) some in omega arith)

  module _ (ns : List (Named Sense)) (ds : List Draft) (fewer : (k : ℕ) → 0 < count k (draft_ids ds) → 0 < count k (draft_ids drafts.items)) (few : acts ns ≤ length REQUESTS) (named : AreNamed ns) where
    -- the same texts are held as often
    pub moved_stands : ((k : ℕ) → count k (held_ids names.entries (draft_ids drafts.items) levels.levels) ≡ count k (held_ids ns (draft_ids ds) levels.levels)) → (now : ℕ) → now ≡ charge_of (stored_of p ns ds levels beside limit) → now ≤ limit
        → IsStore p (record names { entries = ns }) (record drafts { items = ds }) levels beside now limit
    moved_stands counts now charged fits =
        let held : IsHeld p (held_ids ns (draft_ids ds) levels.levels) = record { held = λ k. h.held.held k ∙ counts k; bare = h.held.bare } in
        let alone : (k : ℕ) → 0 < count k (draft_ids ds) → holders p k ≡ 1 = λ k some. h.alone k (fewer k some) in
        record {
          held = held;
          alone = alone;
          pays = h.pays;
          named = named;
          few_acts = few;
          charged = charged;
          once = charged_once p ns ds levels beside now limit held alone h.pays named charged;
          within = fits;
          deep = h.deep;
          small = h.small;
          elements_suffice = h.elements_suffice;
          slots_suffice = h.slots_suffice;
          names_suffice = h.names_suffice;
          drafts_suffice = h.drafts_suffice;
          bytes_suffice = h.bytes_suffice;
          beside_suffices = h.beside_suffices;
        }

    -- one text is held once less
    module _ (old : ℕ) (counts : AddsOne old (held_ids ns (draft_ids ds) levels.levels) (held_ids names.entries (draft_ids drafts.items) levels.levels)) where
      pub old_open : IsOpen p old
      old_open = open_of_adds p old (held_ids ns (draft_ids ds) levels.levels) (held_ids names.entries (draft_ids drafts.items) levels.levels) h.held counts

      held_now : IsHeld (released p old) (held_ids ns (draft_ids ds) levels.levels)
      held_now = held_less p old (held_ids ns (draft_ids ds) levels.levels) (held_ids names.entries (draft_ids drafts.items) levels.levels) h.held counts

      keeps_now : Keeps p (released p old) (held_ids ns (draft_ids ds) levels.levels)
      keeps_now = record { kept = λ k some. let held = held_now.held k in text_kept p old k old_open (omega arith) }

      pub released_view : stored_of (released p old) ns ds levels beside limit ≡ stored_of p ns ds levels beside limit
      released_view = same_view p (released p old) ns ds levels beside limit keeps_now

      pub released_stands : (now : ℕ) → now ≡ charge_of (stored_of p ns ds levels beside limit) → now ≤ charge → IsStore (released p old) (record names { entries = ns }) (record drafts { items = ds }) levels beside now limit
      released_stands now charged less =
          let within = h.within in
          let alone : (k : ℕ) → 0 < count k (draft_ids ds) → holders (released p old) k ≡ 1 = λ k some.
          let one_before = h.alone k (fewer k some) in
          let before = h.held.held k in
          let now_held = held_now.held k in
          let add = counts.counts k in
          let all = count-held k ns (draft_ids ds) levels.levels in
          omega arith in
          let charged_now = charged ∙ ap charge_of (sym released_view) in
          record {
            held = held_now;
            alone = alone;
            pays = h.pays;
            named = named;
            few_acts = few;
            charged = charged_now;
            once = charged_once (released p old) ns ds levels beside now limit held_now alone h.pays named charged_now;
            within = omega arith;
            deep = h.deep;
            small = h.small;
            elements_suffice = let elements = h.elements_suffice in let same = released_capacity p old in omega arith;
            slots_suffice = let slots = h.slots_suffice in let same = released_slots p old in omega arith;
            names_suffice = h.names_suffice;
            drafts_suffice = h.drafts_suffice;
            bytes_suffice = h.bytes_suffice;
            beside_suffices = h.beside_suffices;
          }

  -- ---- the newest text being built gets a name
  module _ (name : List ℕ) (d : Draft) (ds : List Draft) (first : drafts.items ≡ d ∷ ds) where
    pub fewer_built : (k : ℕ) → 0 < count k (draft_ids ds) → 0 < count k (draft_ids drafts.items)
    fewer_built k some =
        let is : count k (draft_ids drafts.items) ≡ count k (d.id ∷ draft_ids ds) = ap (λ b. count k (draft_ids b)) first in
        let all = count-cons k d.id (draft_ids ds) in
        omega arith

    drafted : 0 < count d.id (draft_ids drafts.items)
    drafted =
        let is : count d.id (draft_ids drafts.items) ≡ count d.id (d.id ∷ draft_ids ds) = ap (λ b. count d.id (draft_ids b)) first in
        omega (arith, is, count-cons d.id d.id (draft_ids ds), one_same d.id d.id refl)

    unnamed : count d.id (values names.entries) ≡ 0
    unnamed =
        let one_holder = h.alone d.id drafted in
        let held = h.held.held d.id in
        let all = count-held d.id names.entries (draft_ids drafts.items) levels.levels in
        let of_names = count-values d.id names.entries in
        omega (arith, one_holder, held, all, of_names, drafted)

    free : (k : ℕ) → 0 < ones k (senses.Text d.id) → count k (values names.entries) ≡ 0
    free k some = elim (cases_eq d.id k) [
      | inl same ↦ ap (λ j. count j (values names.entries)) (sym same) ∙ unnamed
      | inr apart ↦ absurd (omega (arith, some, count-cons k d.id [], one_other k d.id apart))
    ]

    other : (k : ℕ) → 0 < count k (ids_of levels.levels) → ones k (senses.Text d.id) ≡ 0
    other k some =
        let none = unbuilt k some in
        elim (cases_eq d.id k) [
          | inl same ↦ let is : count k (draft_ids drafts.items) ≡ count d.id (draft_ids drafts.items) = ap (λ j. count j (draft_ids drafts.items)) (sym same) in absurd (omega (arith, none, is, drafted))
          | inr apart ↦ omega (arith, count-cons k d.id [], one_other k d.id apart)
        ]

    pub new_named : AreNamed (put name (senses.Text d.id) names.entries)
    new_named = put_named name (senses.Text d.id) names.entries h.named free

    pub defined_is : stored_of p (put name (senses.Text d.id) names.entries) ds levels beside limit ≡ defined name (stored_of p names.entries drafts.items levels beside limit)
    defined_is =
        ap₂ (λ ns ts. record (stored_of p names.entries ds levels beside limit) { names = ns; texts = ts }) (put-map (means_of p) name (senses.Text d.id) names.entries)
        (texts_named (without_name name) refl p names.entries (put name (senses.Text d.id) names.entries) levels.levels (λ k some. name_for-put_other name (senses.Text d.id) names.entries h.named free k (other k some)))
        ∙ ap (λ b. defined name (stored_of p names.entries b levels beside limit)) (sym first)

    before : (k : ℕ) → count k (held_ids names.entries (draft_ids drafts.items) levels.levels) ≡ sum_of (ones k) names.entries + ((one k d.id + count k (draft_ids ds)) + count k (ids_of levels.levels))
    before k =
        count-held k names.entries (draft_ids drafts.items) levels.levels
        ∙ ap (λ n. sum_of (ones k) names.entries + (n + count k (ids_of levels.levels))) (ap (λ b. count k (draft_ids b)) first ∙ count-cons k d.id (draft_ids ds))

    built : sum_by (λ (b : Built). weight b.text) (map (built_of p) drafts.items) ≡ weight (text p d.id) + sum_by (λ (b : Built). weight b.text) (map (built_of p) ds)
    built = ap (λ b. sum_by (λ (b : Built). weight b.text) (map (built_of p) b)) first ∙ building_charge p d ds

    pub new_counts : find name names.entries ≡ None → (k : ℕ) → count k (held_ids names.entries (draft_ids drafts.items) levels.levels) ≡ count k (held_ids (put name (senses.Text d.id) names.entries) (draft_ids ds) levels.levels)
    new_counts none k =
        let old = before k in
        let now = count-held k (put name (senses.Text d.id) names.entries) (draft_ids ds) levels.levels in
        let this = count-cons k d.id [] in
        let sums = put_sum_new (ones k) name (senses.Text d.id) names.entries none in
        omega arith

    pub new_charge : find name names.entries ≡ None → charge ≡ charge_of (stored_of p (put name (senses.Text d.id) names.entries) ds levels beside limit)
    new_charge none =
        let was = h.charged in
        let of_names = names_charge p names.entries in
        let of_new = names_charge p (put name (senses.Text d.id) names.entries) in
        let sums = put_sum_new (cost_of p) name (senses.Text d.id) names.entries none in
        let texts = texts_same (put name (senses.Text d.id) names.entries) ds fewer_built (new_counts none) in
        let of_built = built in
        omega arith

    pub new_acts : find name names.entries ≡ None → acts (put name (senses.Text d.id) names.entries) ≤ length REQUESTS
    new_acts none =
        let few = h.few_acts in
        let sums = put_sum_new act name (senses.Text d.id) names.entries none in
        omega arith

    pub again_counts : (old : Sense) → find name names.entries ≡ Some old → (k : ℕ)
        → count k (held_ids names.entries (draft_ids drafts.items) levels.levels) ≡ ones k old + count k (held_ids (put name (senses.Text d.id) names.entries) (draft_ids ds) levels.levels)
    again_counts old some k =
        let was = before k in
        let now = count-held k (put name (senses.Text d.id) names.entries) (draft_ids ds) levels.levels in
        let this = count-cons k d.id [] in
        let sums = put_sum (ones k) name (senses.Text d.id) old names.entries some in
        omega arith

    pub again_charge : (old : Sense) → find name names.entries ≡ Some old → charge + texts_charge p (put name (senses.Text d.id) names.entries) levels.levels
        ≡ charge_of (stored_of p (put name (senses.Text d.id) names.entries) ds levels beside limit) + texts_charge p names.entries levels.levels + cost_of p old
    again_charge old some =
        let was = h.charged in
        let of_names = names_charge p names.entries in
        let of_new = names_charge p (put name (senses.Text d.id) names.entries) in
        let sums = put_sum (cost_of p) name (senses.Text d.id) old names.entries some in
        let of_built = built in
        omega arith

    pub again_held : (old : Sense) → find name names.entries ≡ Some old → (k : ℕ) → ones k old ≤ count k (values names.entries)
    again_held old some k = let is = count-values k names.entries in let sums = without_sum (ones k) name old names.entries some in omega arith

    pub again_acts : (old : Sense) → find name names.entries ≡ Some old → acts (put name (senses.Text d.id) names.entries) ≤ length REQUESTS
    again_acts old some =
        let few = h.few_acts in
        let sums = put_sum act name (senses.Text d.id) old names.entries some in
        omega arith

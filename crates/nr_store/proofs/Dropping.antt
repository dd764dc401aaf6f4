-- Lemmas on calls that take a text's name away.
use Rattle.std.proofs.Common.{◌≡◌, ℕ, ◌+◌, ◌-◌, ◌<◌, ◌≤◌, List, [], ◌∷◌, length, drop, Option, Some, None, refl, ap, ap₂, sym, ◌∙◌, inl, inr, arith}
use Rattle.std.proofs.lemmas.Bool.{cases_lt}
use Rattle.std.specs.List.{slice_get}
use Rattle.std.specs.Option.{option_map}
use Rattle.nr_vectors.specs.Items.{Items}
use Rattle.nr_pool.specs.Texts.{Texts, text, IsOpen, released}
use Rattle.nr_symbol_tables.specs.Table.{Named, find, put, without}
use Rattle.nr_symbol_tables.specs.Rows.{SymbolTable}
use Rattle.nr_levels.specs.Levels.{Levels}
use Rattle.nr_store.specs.declared.named.Sense.{Sense}
use Rattle.nr_store.specs.declared.named.Sense.TheVariants as senses
use Rattle.nr_store.specs.declared.element.Element.{Element}
use Rattle.nr_store.specs.declared.element.Draft.{Draft}
use Rattle.nr_store.specs.declared.request.Request.{Request}
use Rattle.nr_store.specs.declared.request.TheConstants.{REQUESTS}
use Rattle.nr_store.specs.Senses.{act}
use Rattle.nr_store.specs.Store.{Stored, charge_of, weight, share, without_name, with_name, defined, removed, moved}
use Rattle.nr_store.specs.Holders.{Beside, acts, means_of, stored_of, one, count, ids_of, values, draft_ids, held_ids, AreNamed, IsStore, lone}
use Rattle.nr_store.proofs.Counting.{AddsOne, one_same, count-cons}
use Rattle.nr_store.proofs.Keeping.{share_paid}
use Rattle.nr_store.proofs.Sharing.{texts_charge, charge_lost, lone_is, texts_named, name_for-without, without_named, name_for-moved, moved_named}
use Rattle.nr_store.proofs.Building.{cons_of}
use Rattle.nr_store.proofs.Naming.{ones, sum_of, put_sum, put_sum_new, put-map, without_sum, without_none, without-map, find-map, count-values}
use Rattle.nr_store.proofs.Defining.{cost_of, cost_acts, names_charge, names_length, count-held, moved_stands, old_open, released_view, released_stands, values_of, texts_same, fewer_built, defined_is, new_counts, new_charge, new_acts, new_named, again_counts, again_charge, again_held, again_acts}

-- where a text is let go
pub record Dropped {K : Type 0} (p : Texts Element) (names : SymbolTable Sense) (drafts : Items Draft) (levels : Levels K) (beside : Beside) (charge limit : ℕ) (ns : List (Named Sense)) (ds : List Draft) (old : ℕ) (v : Stored K) : Type 0 where
  pub is_open : IsOpen p old
  pub short : share (text p old) ≤ charge
  pub weighs : 32 + lone p old ≤ charge
  pub stands : IsStore (released p old) (record names { entries = ns }) (record drafts { items = ds }) levels beside (charge - (32 + lone p old)) limit
  pub is : stored_of (released p old) ns ds levels beside limit ≡ v
  pub no_more : charge_of (stored_of (released p old) ns ds levels beside limit) ≤ charge_of (stored_of p names.entries drafts.items levels beside limit)

-- where none is
pub record Moved {K : Type 0} (p : Texts Element) (names : SymbolTable Sense) (drafts : Items Draft) (levels : Levels K) (beside : Beside) (charge limit : ℕ) (ns : List (Named Sense)) (ds : List Draft) (v : Stored K) : Type 0 where
  pub stands : IsStore p (record names { entries = ns }) (record drafts { items = ds }) levels beside charge limit
  pub is : stored_of p ns ds levels beside limit ≡ v
  pub no_more : charge_of (stored_of p ns ds levels beside limit) ≤ charge_of (stored_of p names.entries drafts.items levels beside limit)

-- where what a name stood for is given up
pub record Changed {K : Type 0} (p : Texts Element) (names : SymbolTable Sense) (drafts : Items Draft) (levels : Levels K) (beside : Beside) (charge limit : ℕ) (ns : List (Named Sense)) (ds : List Draft) (old : Sense) (v : Stored K) : Type 0 where
  pub fewer : (k : ℕ) → 0 < count k (draft_ids ds) → 0 < count k (draft_ids drafts.items)
  pub counts : (k : ℕ) → count k (held_ids names.entries (draft_ids drafts.items) levels.levels) ≡ ones k old + count k (held_ids ns (draft_ids ds) levels.levels)
  pub held : (k : ℕ) → ones k old ≤ count k (values names.entries)
  pub cost : charge + texts_charge p ns levels.levels ≡ charge_of (stored_of p ns ds levels beside limit) + texts_charge p names.entries levels.levels + cost_of p old
  pub named : AreNamed ns
  pub few : acts ns ≤ length REQUESTS
  pub is : stored_of p ns ds levels beside limit ≡ v

module _ {K : Type 0} (p : Texts Element) (names : SymbolTable Sense) (drafts : Items Draft) (levels : Levels K) (beside : Beside) (charge limit : ℕ) (ns : List (Named Sense)) (ds : List Draft) (old : Sense) (v : Stored K)
    (h : IsStore p names drafts levels beside charge limit) (c : Changed p names drafts levels beside charge limit ns ds old v) where
  pub text_dropped : (id : ℕ) → old ≡ senses.Text id → Dropped p names drafts levels beside charge limit ns ds id v
  text_dropped id is =
      let counts : AddsOne id (held_ids ns (draft_ids ds) levels.levels) (held_ids names.entries (draft_ids drafts.items) levels.levels) =
      record { counts = λ k. let all = c.counts k in let this : ones k old ≡ count k (id ∷ []) = ap (ones k) is in let one_id = count-cons k id [] in omega arith } in
      let cost = c.cost in
      let this : cost_of p old ≡ weight (text p id) = ap (cost_of p) is in
      let is_open = old_open p names drafts levels beside charge limit h ns ds c.fewer c.few c.named id counts in
      let lost = charge_lost p names.entries ns id (h.named.single id) levels.levels (λ k some.
      values_of p names drafts levels beside charge limit h ns ds c.fewer k (one k id) (counts.counts k) some) in
      let here : ones id old ≡ 1 = ap (ones id) is ∙ (let e : count id (id ∷ []) ≡ 1 = omega (arith, count-cons id id [], one_same id id refl) in e) in
      let was_held = c.held id in
      let holders_are = h.held.held id in
      let all = count-held id names.entries (draft_ids drafts.items) levels.levels in
      let of_names = count-values id names.entries in
      let single = h.named.single id in
      let unbuilt_now : count id (draft_ids drafts.items) ≡ 0 = elim (cases_lt 0 (count id (draft_ids drafts.items))) [
        | inl built ↦ let one_holder = h.alone id built in
            let after = count-held id ns (draft_ids ds) levels.levels in
            absurd (omega (arith, one_holder, built, holders_are, all, of_names, was_held, here))
        | inr none ↦ omega (arith, none)
      ] in
      let pays = lone_is p id (ids_of levels.levels) (omega (arith, holders_are, all, of_names, single, was_held, here, unbuilt_now)) in
      let kept = share_paid p names drafts levels beside charge limit id h is_open in
      let stands = released_stands p names drafts levels beside charge limit h ns ds c.fewer c.few c.named id counts (charge - (32 + lone p id)) (omega arith) (omega arith) in
      record {
        short = kept;
        is_open = is_open;
        weighs = omega arith;
        stands = stands;
        is = released_view p names drafts levels beside charge limit h ns ds c.fewer c.few c.named id counts ∙ c.is;
        no_more = omega (arith, h.charged, stands.charged);
      }

  pub request_given_up : (r : Request) → old ≡ senses.Request r → Moved p names drafts levels beside charge limit ns ds v
  request_given_up r is =
      let cost = c.cost in
      let within = h.within in
      let this : cost_of p old ≡ 0 = ap (cost_of p) is in
      let counts : (k : ℕ) → count k (held_ids names.entries (draft_ids drafts.items) levels.levels) ≡ count k (held_ids ns (draft_ids ds) levels.levels) = λ k. let all = c.counts k in let none : ones k old ≡ 0 = ap (ones k) is in omega arith in
      let texts = texts_same p names drafts levels beside charge limit h ns ds c.fewer counts in
      let stands = moved_stands p names drafts levels beside charge limit h ns ds c.fewer c.few c.named counts charge (omega arith) within in
      record {
        stands = stands;
        is = c.is;
        no_more = omega (arith, h.charged, stands.charged);
      }

-- ---- the newest text being built gets a name

module _ {K : Type 0} (p : Texts Element) (names : SymbolTable Sense) (drafts : Items Draft) (levels : Levels K) (beside : Beside) (charge limit : ℕ) (name : List ℕ) (d : Draft) (o : Option Sense) (v : Stored K)
    (h : IsStore p names drafts levels beside charge limit) (view : stored_of p names.entries drafts.items levels beside limit ≡ v) (top : slice_get drafts.items 0 ≡ Some d) (was : o ≡ find name names.entries) where
  ds : List Draft
  ds = drop 1 drafts.items

  first : drafts.items ≡ d ∷ drop 1 drafts.items
  first = cons_of drafts.items d top

  pub defined_new : o ≡ None → Moved p names drafts levels beside charge limit (put name (senses.Text d.id) names.entries) (drop 1 drafts.items) (defined name v)
  defined_new none =
      let missed = sym was ∙ none in
      let stands = moved_stands p names drafts levels beside charge limit h (put name (senses.Text d.id) names.entries) (drop 1 drafts.items) (fewer_built p names drafts levels beside charge limit h name d (drop 1 drafts.items) first)
      (new_acts p names drafts levels beside charge limit h name d (drop 1 drafts.items) first missed)
      (new_named p names drafts levels beside charge limit h name d (drop 1 drafts.items) first)
      (new_counts p names drafts levels beside charge limit h name d (drop 1 drafts.items) first missed) charge
      (new_charge p names drafts levels beside charge limit h name d (drop 1 drafts.items) first missed) h.within in
      record {
        stands = stands;
        no_more = omega (arith, h.charged, stands.charged);
        is = defined_is p names drafts levels beside charge limit h name d (drop 1 drafts.items) first ∙ ap (defined name) view;
      }

  pub defined_again : (old : Sense) → o ≡ Some old → Changed p names drafts levels beside charge limit (put name (senses.Text d.id) names.entries) (drop 1 drafts.items) old (defined name v)
  defined_again old some =
      let found = sym was ∙ some in
      record {
        fewer = fewer_built p names drafts levels beside charge limit h name d (drop 1 drafts.items) first;
        counts = again_counts p names drafts levels beside charge limit h name d (drop 1 drafts.items) first old found;
        held = again_held p names drafts levels beside charge limit h name d (drop 1 drafts.items) first old found;
        cost = again_charge p names drafts levels beside charge limit h name d (drop 1 drafts.items) first old found;
        named = new_named p names drafts levels beside charge limit h name d (drop 1 drafts.items) first;
        few = again_acts p names drafts levels beside charge limit h name d (drop 1 drafts.items) first old found;
        is = defined_is p names drafts levels beside charge limit h name d (drop 1 drafts.items) first ∙ ap (defined name) view;
      }

-- ---- a name is taken away

pub taken_is : {K : Type 0} (p : Texts Element) (names : List (Named Sense)) (drafts : List Draft) (levels : Levels K) (beside : Beside) (limit : ℕ) (name : List ℕ) (v : Stored K) → AreNamed names → stored_of p names drafts levels beside limit ≡ v
    → stored_of p (without name names) drafts levels beside limit ≡ removed name v
taken_is p names drafts levels beside limit name v named view =
    ap₂ (λ ns ts. record (stored_of p names drafts levels beside limit) { names = ns; texts = ts }) (without-map (means_of p) name names)
    (texts_named (without_name name) refl p names (without name names) levels.levels (λ k some. name_for-without name names named k))
    ∙ ap (removed name) view

module _ {K : Type 0} (p : Texts Element) (names : SymbolTable Sense) (drafts : Items Draft) (levels : Levels K) (beside : Beside) (charge limit : ℕ) (name : List ℕ) (o : Option Sense) (v : Stored K)
    (h : IsStore p names drafts levels beside charge limit) (view : stored_of p names.entries drafts.items levels beside limit ≡ v) (was : o ≡ find name names.entries) where
  pub taken_none : o ≡ None → Moved p names drafts levels beside charge limit (without name names.entries) drafts.items (removed name v)
  taken_none none =
      let same = without_none name names.entries (sym was ∙ none) in
      record {
        stands = rw same h;
        is = taken_is p names.entries drafts.items levels beside limit name v h.named view;
        no_more = rw same (omega arith);
      }

  pub taken_some : (old : Sense) → o ≡ Some old → Changed p names drafts levels beside charge limit (without name names.entries) drafts.items old (removed name v)
  taken_some old some =
      let sums : (f : Sense → ℕ) → sum_of f (without name names.entries) + f old ≡ sum_of f names.entries = λ f. without_sum f name old names.entries (sym was ∙ some) in
      record {
        fewer = λ k counted. counted;
        counts = λ k.
            let before = count-held k names.entries (draft_ids drafts.items) levels.levels in
            let after = count-held k (without name names.entries) (draft_ids drafts.items) levels.levels in
            let sum = sums (ones k) in
            omega arith;
        cost =
            let charged = h.charged in
            let of_names = names_charge p names.entries in
            let of_rest = names_charge p (without name names.entries) in
            let sum = sums (cost_of p) in
            omega arith;
        held = λ k. let is = count-values k names.entries in let sum = sums (ones k) in omega arith;
        named = without_named name names.entries h.named;
        few = let few = h.few_acts in let sum = sums act in omega arith;
        is = taken_is p names.entries drafts.items levels beside limit name v h.named view;
      }

-- ---- a name is changed

module _ {K : Type 0} (p : Texts Element) (names : SymbolTable Sense) (drafts : Items Draft) (levels : Levels K) (beside : Beside) (charge limit : ℕ) (from to : List ℕ) (o q : Option Sense) (v : Stored K)
    (h : IsStore p names drafts levels beside charge limit) (view : stored_of p names.entries drafts.items levels beside limit ≡ v) (was : o ≡ find from names.entries) (m : Sense) (some : o ≡ Some m)
    (next : q ≡ find to (without from names.entries)) where
  changed_is : stored_of p (put to m (without from names.entries)) drafts.items levels beside limit ≡ moved (find from v.names) from to v
  changed_is =
      let there : find from v.names ≡ Some (means_of p m) = ap (λ (w : Stored _). find from w.names) (sym view) ∙ find-map (means_of p) from names.entries ∙ ap (option_map (means_of p)) (sym was ∙ some) in
      ap₂ (λ ns ts. record (stored_of p names.entries drafts.items levels beside limit) { names = ns; texts = ts })
      (put-map (means_of p) to m (without from names.entries) ∙ ap (put to (means_of p m)) (without-map (means_of p) from names.entries))
      (texts_named (with_name from to) refl p names.entries (put to m (without from names.entries)) levels.levels (λ k _. name_for-moved from to m names.entries h.named (sym was ∙ some) k))
      ∙ ap (moved (Some (means_of p m)) from to) view ∙ sym (ap (λ t. moved t from to v) there)

  left_sum : (f : Sense → ℕ) → sum_of f (without from names.entries) + f m ≡ sum_of f names.entries
  left_sum f = without_sum f from m names.entries (sym was ∙ some)

  again_named : AreNamed (put to m (without from names.entries))
  again_named = moved_named from to m names.entries h.named (sym was ∙ some)

  pub room_again : length (without from names.entries) < names.capacity
  room_again =
      let of_names = names_charge p names.entries in
      let long = names_length p (without from names.entries) in
      let this = cost_acts p m in
      let sum = left_sum (cost_of p) in
      let acts_sum = left_sum act in
      let few = h.few_acts in
      let charged = h.charged in
      let within = h.within in
      let room = h.names_suffice in
      omega arith

  pub changed_new : q ≡ None → Moved p names drafts levels beside charge limit (put to m (without from names.entries)) drafts.items (moved (find from v.names) from to v)
  changed_new none =
      let new_sum : (f : Sense → ℕ) → sum_of f (put to m (without from names.entries)) ≡ sum_of f names.entries = λ f. let sum = left_sum f in let again = put_sum_new f to m (without from names.entries) (sym next ∙ none) in omega arith in
      let counts : (k : ℕ) → count k (held_ids names.entries (draft_ids drafts.items) levels.levels) ≡ count k (held_ids (put to m (without from names.entries)) (draft_ids drafts.items) levels.levels) = λ k.
      let before = count-held k names.entries (draft_ids drafts.items) levels.levels in
      let after = count-held k (put to m (without from names.entries)) (draft_ids drafts.items) levels.levels in
      let sum = new_sum (ones k) in
      omega arith in
      let texts = texts_same p names drafts levels beside charge limit h (put to m (without from names.entries)) drafts.items (λ k counted. counted) counts in
      let stands = moved_stands p names drafts levels beside charge limit h (put to m (without from names.entries)) drafts.items (λ k counted. counted)
      (let few = h.few_acts in let sum = new_sum act in omega arith)
      again_named
      counts
      charge
      (let charged = h.charged in
      let of_names = names_charge p names.entries in
      let of_rest = names_charge p (put to m (without from names.entries)) in
      let sum = new_sum (cost_of p) in
      omega arith)
      h.within in
      record {
        stands = stands;
        no_more = omega (arith, h.charged, stands.charged);
        is = changed_is;
      }

  pub changed_again : (old : Sense) → q ≡ Some old → Changed p names drafts levels beside charge limit (put to m (without from names.entries)) drafts.items old (moved (find from v.names) from to v)
  changed_again old taken =
      let new_sum : (f : Sense → ℕ) → sum_of f (put to m (without from names.entries)) + f old ≡ sum_of f names.entries = λ f. let sum = left_sum f in let again = put_sum f to m old (without from names.entries) (sym next ∙ taken) in omega arith in
      record {
        fewer = λ k counted. counted;
        counts = λ k.
            let before = count-held k names.entries (draft_ids drafts.items) levels.levels in
            let after = count-held k (put to m (without from names.entries)) (draft_ids drafts.items) levels.levels in
            let sum = new_sum (ones k) in
            omega arith;
        cost =
            let charged = h.charged in
            let of_names = names_charge p names.entries in
            let of_rest = names_charge p (put to m (without from names.entries)) in
            let sum = new_sum (cost_of p) in
            omega arith;
        held = λ k.
            let is = count-values k names.entries in
            let sum = left_sum (ones k) in
            let again = without_sum (ones k) to old (without from names.entries) (sym next ∙ taken) in
            omega arith;
        named = again_named;
        few = let few = h.few_acts in let sum = new_sum act in omega arith;
        is = changed_is;
      }

pub unmoved : {K : Type 0} (p : Texts Element) (names : List (Named Sense)) (drafts : List Draft) (levels : Levels K) (beside : Beside) (limit : ℕ) (from to : List ℕ) (o : Option Sense) (v : Stored K) → stored_of p names drafts levels beside limit ≡ v
    → o ≡ find from names → o ≡ None → stored_of p (without from names) drafts levels beside limit ≡ moved (find from v.names) from to v
unmoved p names drafts levels beside limit from to o v view was none =
    let there : find from v.names ≡ None = ap (λ (w : Stored _). find from w.names) (sym view) ∙ find-map (means_of p) from names ∙ ap (option_map (means_of p)) (sym was ∙ none) in
    ap (λ ns. stored_of p ns drafts levels beside limit) (without_none from names (sym was ∙ none)) ∙ view ∙ sym (ap (λ t. moved t from to v) there)

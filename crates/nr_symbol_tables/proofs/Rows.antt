-- Lemmas on rows of names.
use Rattle.std.proofs.Common.{◌≡◌, ◌≢◌, ℕ, zero, suc, ◌+◌, ◌-◌, ◌<◌, ◌≤◌, List, [], ◌∷◌, ◌++◌, length, map, set, take, get_or, replicate, Some, None, refl, ap, sym, subst, ◌∙◌, arith}
use Rattle.std.proofs.lemmas.List.{length-map, length-take-le, get_or-map, get_or-take, map-append, map-set, take_all, take_more}
use Rattle.nr_symbol_tables.specs.Table.{Named, find, without}
use Rattle.nr_symbol_tables.specs.Rows.{named, names, in_order, kind, kinds, earliers, name_in, place_in, led, begun, IsPlace, AreApart, AreChains, IsLink, IsLed, IsLinked}
use Rattle.nr_symbol_tables.specs.declared.table.Entry.{Entry}
use Rattle.nr_symbol_tables.proofs.Linking.{led_first, led_next, begun_first, begun_next, chains_none, chains_more, chains_fewer, chains_same, chains_put}
use Rattle.nr_symbol_tables.proofs.Naming.{find_in_order, find_at, find_nowhere, apart_more, apart_fewer, last_apart, apart_set_same, apart_set_new, in_order_popped, in_order_replaced}

-- ---- the columns of a row

pub name_is : {V : Type 0} (row : List (Entry V)) (k : ℕ) (e : Entry V) → k < length row → e ≡ get_or row k e → name_in (names (map named row)) k ≡ e.name
name_is [] k e low is = absurd (omega arith)
name_is (f ∷ fs) zero e low is = ap (λ (x : Entry _). x.name) (sym is)
name_is (f ∷ fs) (suc k) e low is = name_is fs k e (omega arith) is

pub kind_is : {V : Type 0} (row : List (Entry V)) (k : ℕ) → k < length row → place_in (kinds (map named row)) k ≡ kind (name_in (names (map named row)) k)
kind_is [] k low = absurd (omega arith)
kind_is (f ∷ fs) zero low = refl
kind_is (f ∷ fs) (suc k) low = kind_is fs k (omega arith)

pub earlier_is : {V : Type 0} (row : List (Entry V)) (k : ℕ) (e : Entry V) → k < length row → e ≡ get_or row k e → place_in (earliers row) k ≡ e.earlier
earlier_is [] k e low is = absurd (omega arith)
earlier_is (f ∷ fs) zero e low is = ap (λ (x : Entry _). x.earlier) (sym is)
earlier_is (f ∷ fs) (suc k) e low is = earlier_is fs k e (omega arith) is

-- the same, whatever the default
pub earlier_at : {V : Type 0} (row : List (Entry V)) (k : ℕ) (d : Entry V) → k < length row → place_in (earliers row) k ≡ (get_or row k d).earlier
earlier_at [] k d low = absurd (omega arith)
earlier_at (f ∷ fs) zero d low = refl
earlier_at (f ∷ fs) (suc k) d low = earlier_at fs k d (omega arith)

pub length-kinds : {V : Type 0} (row : List (Entry V)) → length (kinds (map named row)) ≡ length row
length-kinds row = length-map (map named row) (λ (n : Named _). kind n.name) ∙ length-map row named

pub length-names : {V : Type 0} (row : List (Entry V)) → length (names (map named row)) ≡ length row
length-names row = length-map (map named row) (λ (n : Named _). n.name) ∙ length-map row named

pub length-earliers : {V : Type 0} (row : List (Entry V)) → length (earliers row) ≡ length row
length-earliers row = length-map row (λ (e : Entry _). e.earlier)

-- ---- from one entry of a kind to the one before it

module _ {V : Type 0} (row : List (Entry V)) (latest : List ℕ) (c : ℕ) (few : c < 512) (h : AreChains (kinds (map named row)) (earliers row) latest) where
  pub first_within : place_in latest c ≤ length row
  first_within = let l = h.first c few in omega (arith, l.within, length-kinds row)

  pub first_of_kind : 0 < place_in latest c → place_in (kinds (map named row)) (place_in latest c - 1) ≡ c
  first_of_kind some = (h.first c few).is some

  pub first_last : (k : ℕ) → place_in latest c ≤ k → k < length row → place_in (kinds (map named row)) k ≡ c → ⊥
  first_last k above below is = (h.first c few).last k above (omega (arith, length-kinds row)) is

  module _ (at e : ℕ) (some : 0 < at) (within : at ≤ length row) (is : place_in (earliers row) (at - 1) ≡ e) (of_kind : place_in (kinds (map named row)) (at - 1) ≡ c) where
    low : at - 1 < length (kinds (map named row))
    low = omega (arith, length-kinds row)

    pub next_lower : e < at
    next_lower = let l = h.next (at - 1) c low of_kind few in omega (arith, l.within)

    pub next_of_kind : 0 < e → place_in (kinds (map named row)) (e - 1) ≡ c
    next_of_kind more =
        let l = h.next (at - 1) c low of_kind few in
        sym (ap (λ n. place_in (kinds (map named row)) (n - 1)) is) ∙ l.is (omega arith)

    pub next_last : (k : ℕ) → e ≤ k → k < at - 1 → place_in (kinds (map named row)) k ≡ c → ⊥
    next_last k above below = (h.next (at - 1) c low of_kind few).last k (omega arith) below

-- ---- what is found

pub found_value : {V : Type 0} (row : List (Entry V)) (name : List ℕ) (p : ℕ) (e : Entry V) → AreApart (map named row) → p < length row → e ≡ get_or row p e → e.name ≡ name → find name (in_order (map named row)) ≡ Some e.value
found_value row name p e apart low is same =
    let long = length-map row named in
    find_in_order name (map named row) ∙ find_at name (map named row) p (named e) apart (omega arith) (name_is row p e low is ∙ same)
    ∙ ap (λ (n : Named _). Some n.value) (get_or-map named row p e (named e) low ∙ ap named (sym is))

pub found_none : {V : Type 0} (row : List (Entry V)) (name : List ℕ) (at : ℕ) → IsPlace name (names (map named row)) at → at ≡ 0 → find name (map named row) ≡ None
found_none row name at place none = find_nowhere name (map named row) (place.none none)

-- ---- the chain of a kind led elsewhere

-- an element is replaced by one of which f is the same
set_unseen : {A B : Type 0} (f : A → B) (xs : List A) (i : ℕ) (y d : A) → f y ≡ f (get_or xs i d) → map f (set xs i y) ≡ map f xs
set_unseen f [] i y d is = refl
set_unseen f (x ∷ xs) zero y d is = ap (λ z. z ∷ map f xs) is
set_unseen f (x ∷ xs) (suc i) y d is = ap (λ zs. f x ∷ zs) (set_unseen f xs i y d is)

pub led_from_first : {V : Type 0} (row : List (Entry V)) (latest : List ℕ) (c over to : ℕ) → over ≡ 0 → IsLed c over to row row latest (set latest c to)
led_from_first row latest c over to none = record {
  names = refl;
  links = sym (led_first over to (earliers row) none);
  begins = sym (begun_first over c to latest none);
}

pub led_from : {V : Type 0} (row : List (Entry V)) (latest : List ℕ) (c over to : ℕ) (e : Entry V) → over ≢ 0 → get_or row (over - 1) e ≡ e
    → IsLed c over to row (set row (over - 1) (record { name = e.name; value = e.value; earlier = to })) latest latest
led_from row latest c over to e some is =
    let new : Entry _ = record { name = e.name; value = e.value; earlier = to } in
    record {
      names = set_unseen named row (over - 1) new e (ap named (sym is));
      links = map-set (λ (x : Entry _). x.earlier) row (over - 1) new ∙ sym (led_next over to (earliers row) some);
      begins = sym (begun_next over c to latest some);
    }

-- ---- what is always true of a table's entries

kinds_of_set : {V : Type 0} (row : List (Entry V)) (p : ℕ) (new : Entry V) → kinds (map named (set row p new)) ≡ set (kinds (map named row)) p (kind new.name)
kinds_of_set row p new = ap kinds (map-set named row p new) ∙ map-set (λ (n : Named _). kind n.name) (map named row) p (named new)

pub linked_none : {V : Type 0} (n : ℕ) → IsLinked {V = V} [] (replicate n 0)
linked_none n = record { chains = chains_none n; apart = tt }

pub linked_more : {V : Type 0} (row : List (Entry V)) (latest : List ℕ) (e : Entry V) (c n : ℕ) → c ≡ kind e.name → c < length latest → e.earlier ≡ place_in latest c → n ≡ length row + 1
    → find e.name (map named row) ≡ None → IsLinked row latest → IsLinked (row ++ e ∷ []) (set latest c n)
linked_more row latest e c n is low link more none h =
    let ks = kinds (map named row) in
    let es = earliers row in
    let long = length-kinds row in
    let links = length-earliers row in
    let names_are : map named (row ++ e ∷ []) ≡ map named row ++ named e ∷ [] = map-append named row (e ∷ []) in
    let kinds_are : kinds (map named (row ++ e ∷ [])) ≡ ks ++ c ∷ [] = ap kinds names_are ∙ map-append (λ (m : Named _). kind m.name) (map named row) (named e ∷ []) ∙ ap (λ k. ks ++ k ∷ []) (sym is) in
    let links_are : earliers (row ++ e ∷ []) ≡ es ++ place_in latest c ∷ [] = map-append (λ (x : Entry _). x.earlier) row (e ∷ []) ∙ ap (λ k. es ++ k ∷ []) link in
    let count : n ≡ length ks + 1 = omega arith in
    record {
      chains = rw (kinds_are, links_are, count) (chains_more ks c es latest (omega arith) low h.chains);
      apart = rw names_are (apart_more (map named row) (named e) h.apart none);
    }

pub linked_set : {V : Type 0} (row : List (Entry V)) (latest : List ℕ) (p : ℕ) (e new : Entry V) → p < length row → e ≡ get_or row p e → new.name ≡ e.name → new.earlier ≡ e.earlier → IsLinked row latest → IsLinked (set row p new) latest
linked_set row latest p e new low is same link h =
    let ks = kinds (map named row) in
    let es = earliers row in
    let long = length-kinds row in
    let count = length-map row named in
    let name = name_is row p e low is ∙ sym same in
    let kind_there : place_in ks p ≡ kind new.name = kind_is row p low ∙ ap kind name in
    let links_are : earliers (set row p new) ≡ set es p (place_in es p) = map-set (λ (x : Entry _). x.earlier) row p new ∙ ap (set es p) (link ∙ sym (earlier_is row p e low is)) in
    record {
      chains = rw (kinds_of_set row p new, links_are) (chains_same ks es latest p (kind new.name) (omega arith) kind_there h.chains);
      apart = rw (map-set named row p new) (apart_set_same (map named row) p (named new) h.apart (omega arith) name);
    }

pub linked_fewer : {V : Type 0} (row : List (Entry V)) (latest : List ℕ) (e : Entry V) (c : ℕ) → c ≡ kind e.name → c < length latest → IsLinked (row ++ e ∷ []) latest → IsLinked row (set latest c e.earlier)
linked_fewer row latest e c is low h =
    let ks = kinds (map named row) in
    let es = earliers row in
    let long = length-kinds row in
    let links = length-earliers row in
    let names_are : map named (row ++ e ∷ []) ≡ map named row ++ named e ∷ [] = map-append named row (e ∷ []) in
    let kinds_are : kinds (map named (row ++ e ∷ [])) ≡ ks ++ c ∷ [] = ap kinds names_are ∙ map-append (λ (m : Named _). kind m.name) (map named row) (named e ∷ []) ∙ ap (λ k. ks ++ k ∷ []) (sym is) in
    let links_are : earliers (row ++ e ∷ []) ≡ es ++ e.earlier ∷ [] = map-append (λ (x : Entry _). x.earlier) row (e ∷ []) in
    record {
      chains = chains_fewer ks c es latest (omega arith) low e.earlier (rw (kinds_are, links_are) at h.chains);
      apart = apart_fewer (map named row) (named e) (rw names_are at h.apart);
    }

-- ---- an entry that goes, and the last that comes into its place

module _ {V : Type 0} (row : List (Entry V)) (e : Entry V) (last : ℕ) (many : last + 1 ≡ length row) (is : get_or row last e ≡ e) where
  abbrev rest : List (Entry V)
  rest = take last row

  pub parted : row ≡ take last row ++ e ∷ []
  parted = sym (take_all (last + 1) row (omega arith)) ∙ take_more row last e (omega arith) ∙ ap (λ x. take last row ++ x ∷ []) is

  names_parted : map named row ≡ map named rest ++ named e ∷ []
  names_parted = ap (map named) parted ∙ map-append named rest (e ∷ [])

  pub length-rest : length (take last row) ≡ last
  length-rest = length-take-le last row (omega arith)

  length-named : length (map named rest) ≡ last
  length-named = length-map rest named ∙ length-rest

  module _ (apart : AreApart (map named row)) where
    parted_apart : AreApart (map named rest ++ named e ∷ [])
    parted_apart = subst (λ ns. AreApart ns) names_parted apart

    pub removed_last : (name : List ℕ) → e.name ≡ name → in_order (map named (take last row)) ≡ without name (in_order (map named row))
    removed_last name same =
        in_order_popped (map named rest) (named e) parted_apart ∙ ap (λ m. without m (in_order (map named rest ++ named e ∷ []))) same
        ∙ ap (λ ns. without name (in_order ns)) (sym names_parted)

    pub rest_apart : AreApart (map named (take last row))
    rest_apart = apart_fewer (map named rest) (named e) parted_apart

    module _ (name : List ℕ) (p : ℕ) (f : Entry V) (inside : p < last) (there : get_or row p f ≡ f) (same : f.name ≡ name) where
      name_there : name_in (names (map named rest)) p ≡ name
      name_there = name_is rest p f (omega (arith, length-rest)) (sym (get_or-take last row p f inside ∙ there)) ∙ same

      pub removed_other : in_order (set (map named (take last row)) p (named e)) ≡ without name (in_order (map named row))
      removed_other =
          in_order_replaced name (map named rest) (named e) p parted_apart (omega (arith, length-named)) name_there
          ∙ ap (λ ns. without name (in_order ns)) (sym names_parted)

      pub replaced_apart : AreApart (set (map named (take last row)) p (named e))
      replaced_apart = apart_set_new (map named rest) p (named e) rest_apart (omega (arith, length-named)) (last_apart (map named rest) (named e) parted_apart)

  pub linked_rest : (latest : List ℕ) (c : ℕ) → c ≡ kind e.name → c < length latest → IsLinked row latest → IsLinked (take last row) (set latest c e.earlier)
  linked_rest latest c of_kind low h = linked_fewer rest latest e c of_kind low (subst (λ r. IsLinked r latest) parted h)

-- ---- an entry in the place of another

module _ {V : Type 0} (row new : List (Entry V)) (latest : List ℕ) (at : ℕ) (gone : Entry V) (n : Named V) (some : 0 < at) (within : at ≤ length row) (is : get_or row (at - 1) gone ≡ gone)
    (h : AreChains (kinds (map named row)) (earliers row) latest) where
  was_kind : place_in (kinds (map named row)) (at - 1) ≡ kind gone.name
  was_kind = kind_is row (at - 1) (omega arith) ∙ ap kind (name_is row (at - 1) gone (omega arith) (sym is))

  was_link : place_in (earliers row) (at - 1) ≡ gone.earlier
  was_link = earlier_is row (at - 1) gone (omega arith) (sym is)

  -- of its kind
  pub chains_kept : map named new ≡ set (map named row) (at - 1) n → earliers new ≡ set (earliers row) (at - 1) gone.earlier → kind n.name ≡ kind gone.name → AreChains (kinds (map named new)) (earliers new) latest
  chains_kept names_are links_are same =
      let ks = kinds (map named row) in
      let es = earliers row in
      let long = length-kinds row in
      let there : place_in ks (at - 1) ≡ kind n.name = was_kind ∙ sym same in
      let kinds_are : kinds (map named new) ≡ set ks (at - 1) (kind n.name) = ap kinds names_are ∙ map-set (λ (m : Named _). kind m.name) (map named row) (at - 1) n in
      let all_links : earliers new ≡ set es (at - 1) (place_in es (at - 1)) = links_are ∙ ap (set es (at - 1)) (sym was_link) in
      rw (kinds_are, all_links) (chains_same ks es latest (at - 1) (kind n.name) (omega arith) there h)

  -- of another kind
  module _ (first second : List (Entry V)) (ls ms : List ℕ) (c d over left above under : ℕ) (c_is : c ≡ kind gone.name) (d_is : d ≡ kind n.name) (few : c < 512) (few_too : d < 512) (off : c ≢ d)
      (many : length latest ≡ 512)
      (link : IsLink (kinds (map named row)) (earliers row) latest c (at - 1) over left) (found : IsLink (kinds (map named row)) (earliers row) latest d (at - 1) above under)
      (one : IsLed c over gone.earlier row first latest ls) (two : IsLed d above at first second ls ms) where
    pub chains_moved : map named new ≡ set (map named second) (at - 1) n → earliers new ≡ set (earliers second) (at - 1) under → AreChains (kinds (map named new)) (earliers new) ms
    chains_moved names_are links_are =
        let ks = kinds (map named row) in
        let es = earliers row in
        let long = length-kinds row in
        let links = length-earliers row in
        let kinds_are : kinds (map named new) ≡ set ks (at - 1) d =
        ap kinds names_are ∙ map-set (λ (m : Named _). kind m.name) (map named second) (at - 1) n ∙ ap (λ ns. set (kinds ns) (at - 1) (kind n.name)) (two.names ∙ one.names) ∙ ap (set ks (at - 1)) (sym d_is) in
        let all_links : earliers new ≡ set (led above at (led over gone.earlier es)) (at - 1) under =
        links_are ∙ ap (λ xs. set xs (at - 1) under) (two.links ∙ ap (led above at) one.links) in
        let begins : ms ≡ begun above d at (begun over c gone.earlier latest) = two.begins ∙ ap (begun above d at) one.begins in
        rw (kinds_are, all_links, begins)
        (chains_put ks es latest c d at gone.earlier over left above under few few_too (λ e. off (sym e)) many (omega arith) some (omega arith) (was_kind ∙ sym c_is) was_link h link found)

-- Many moves over a stretch, as those who read it say it.
use Prim.Native.Char.{code}
use Rattle.std.specs.Prelude.{not, map, slice_get, slice_index}
use Rattle.std.proofs.Common.{◌≡◌, ℕ, zero, suc, ◌+◌, ◌-◌, ◌*◌, ◌<◌, ◌≤◌, ◌==◌, Bool, true, false, List, [], ◌∷◌, length, drop, Option, None, Some, refl, ap, sym, ◌∙◌, subst, arith, length-drop}
use Rattle.std.proofs.lemmas.Bool.{eq-eqb, ne_eqb}
use Rattle.std.proofs.lemmas.List.{length-map, get_or-take}
use Rattle.std.proofs.lemmas.List.Sums.{sum_by-cons}
use Rattle.nr_units.specs.Source.{Supply, Skips, Faults, Never, After, Anytime, later, skipped}
use Rattle.nr_store.specs.Store.{Stored, Level, Read, Mark}
use Rattle.nr_store.specs.Windows.{rest_of, left_times, levels_after, run_left}
use Rattle.nr_store.specs.Laws.{left_times-run}
use Rattle.nr_store.specs.declared.element.Element.{Element}
use Rattle.nr_store.specs.declared.element.Element.TheVariants as elements
use Rattle.nr_reading.specs.declared.next_item.NextItem.{NextItem}
use Rattle.nr_reading.specs.declared.next_item.NextItem.TheVariants as next_items
use Rattle.nr_reading.specs.declared.half.Half.{Half}
use Rattle.nr_reading.specs.Half.{take_in}
use Rattle.nr_reading.specs.Many.Runs.{Spot, HasTakenIn, afterwards, one_if, spot_after}
use Rattle.nr_input.specs.declared.reader.Reader.{Reader}
use Rattle.nr_input.specs.declared.place.Ahead.{Ahead}
use Rattle.nr_input.specs.declared.place.Ahead.TheVariants.{Unseen, Byte, End, Failed, TooMany}
use Rattle.fast_input.specs.AtHand.{ComeNext}
use Rattle.nr_input.specs.Place.{Coming, Reached, HoldsComing, HoldsSupply, element_item, is_unseen, passed_run}
use Rattle.nr_input.specs.Moving.{situation, burst_past}
use Rattle.fast_input.specs.Runs.{HasRead, PaysAll, after_run}
use Rattle.nr_input.specs.Weights.{items_in, items_left, newline_left, expansions_worth, diversions_in}
use Rattle.std.proofs.Math.Nat.{mul-le-mul_right}
use Rattle.fast_input.proofs.StretchMoves.{at_level, at_source, with_rest, level_goings, source_goings, has_read, taken_in_none, reads_nothing}

-- ---- elements of a level

-- where there is nothing in the stretch nothing was read
module _ {K : Type 0} (v : Stored K) (c : Coming) (r : Reader) (q : Reached) (supply : Option Supply) where
  nothing_read : (n : ℕ) (p : Spot) → HasTakenIn n [] r.half p → HoldsComing c q supply → HasRead n (situation v c r) p.event (left_times p.taken v) (record r { half = p.half }) q supply
  nothing_read zero p taken_in holds =
      subst (λ (x : Spot). HasRead 0 (situation v c r) x.event (left_times x.taken v) (record r { half = x.half }) q supply) taken_in.leads
      (reads_nothing (situation v c r) v r q supply (record { stored = refl; reader = refl; coming = holds }))
  nothing_read (suc n) p taken_in holds = absurd (let none = taken_in_none (suc n) r.half p taken_in in omega (arith, none))

  level_read_by : (levels : List (Level K)) (n : ℕ) (xs : List Element) (p : Spot) → v.levels ≡ levels → xs ≡ rest_of levels → HasTakenIn n (map element_item xs) r.half p → HoldsComing c q supply
      → HasRead n (situation v c r) p.event (left_times p.taken v) (record r { half = p.half }) q supply
  level_read_by [] n xs p is rest taken_in holds = nothing_read n p (subst (λ ys. HasTakenIn n (map element_item ys) r.half p) rest taken_in) holds
  level_read_by (Mark mode ∷ ls) n xs p is rest taken_in holds = nothing_read n p (subst (λ ys. HasTakenIn n (map element_item ys) r.half p) rest taken_in) holds
  level_read_by (Read l ∷ ls) n xs p is rest taken_in holds =
      let levels_are : Read (record l { rest = xs }) ∷ ls ≡ v.levels = ap (λ ys. Read (record l { rest = ys }) ∷ ls) rest ∙ sym is in
      let begins : at_level l ls xs v c r (spot_after 0 (map element_item xs) r.half) ≡ situation v c r = ap (λ (y : List (Level K)). situation (record v { levels = y }) c r) levels_are in
      let few : p.taken ≤ length (rest_of v.levels) = omega (arith, taken_in.within, length-map xs element_item, ap length rest, ap (λ y. length (rest_of y)) is) in
      let ends : left_times p.taken v ≡ with_rest l ls (drop p.taken xs) v =
      left_times-run p.taken v few ∙ ap (λ (y : List (Level K)). record v { levels = levels_after p.taken y }) is ∙ ap (λ ys. record v { levels = Read (record l { rest = drop p.taken ys }) ∷ ls }) (sym rest) in
      has_read n (map element_item xs) r.half p (at_level l ls xs v c r) (situation v c r) (left_times p.taken v) (record r { half = p.half }) q supply
      (level_goings l ls xs v c r) taken_in begins (record { stored = ends; reader = refl; coming = holds })

  pub level_read : (n : ℕ) (p : Spot) → HasTakenIn n (map element_item (rest_of v.levels)) r.half p → HoldsComing c q supply
      → HasRead n (situation v c r) p.event (left_times p.taken v) (record r { half = p.half }) q supply
  level_read n p taken_in holds = level_read_by v.levels n (rest_of v.levels) p refl refl taken_in holds

-- bytes that a level has as its own
pub bytes_are : (bs : List ℕ) → map next_items.Byte bs ≡ map element_item (map elements.Byte bs)
bytes_are [] = refl
bytes_are (b ∷ bs) = ap (λ fs. next_items.Byte b ∷ fs) (bytes_are bs)

-- ---- what they cost

pub items_after : {K : Type 0} (n : ℕ) (levels : List (Level K)) → n ≤ length (rest_of levels) → items_left (levels_after n levels) + n ≤ items_left levels
items_after n [] few = omega (arith, few)
items_after n (Mark mode ∷ ls) few = omega (arith, few)
items_after n (Read l ∷ ls) few =
    omega (arith, few, length-drop n l.rest, sum_by-cons items_in (Read l) ls, sum_by-cons items_in (Read (record l { rest = drop n l.rest })) ls)

pub level_pays : {K : Type 0} (n : ℕ) (v w : Stored K) (q : Reached) (r : Reader) (p : Spot) → HasTakenIn n (map element_item (rest_of v.levels)) r.half p → w ≡ left_times p.taken v
    → PaysAll n v q r p.event w q (record r { half = p.half })
level_pays n v w q r p taken_in is =
    let few : p.taken ≤ length (rest_of v.levels) = omega (arith, taken_in.within, length-map (rest_of v.levels) element_item) in
    let w_is : w ≡ run_left p.taken v = is ∙ left_times-run p.taken v few in
    let items = items_after p.taken v.levels few in
    let left = ap (λ x. items_left x.levels) w_is in
    let worths = ap (λ x. expansions_worth r.most r.burst x.limit) w_is in
    record {
      limit = ap (λ x. x.limit) w_is;
      diversions = ap (λ x. diversions_in x.building) w_is;
      most = refl;
      pays = λ worth enough. let paid = taken_in.pays in omega (arith, items, left, worths, paid);
      tells = taken_in.tells;
    }

-- after a byte that was taken
pub some_taken : (n : ℕ) → (n ≡ 0 → ⊥) → (k : ℕ) × (n ≡ suc k)
some_taken zero some = absurd (some refl)
some_taken (suc k) some = (k, refl)

-- ---- bytes of the source

later-none : (f : Faults) → later 0 f ≡ f
later-none Never = refl
later-none (After m) = let same : m - 0 ≡ m = omega arith in ap After same
later-none Anytime = refl

pub after_none : (c : Coming) → after_run 0 c ≡ c
after_none c =
    let same : c.taken + 0 ≡ c.taken = omega arith in
    ap (λ f. record { supply = record { bytes = c.supply.bytes; faults = f }; taken = c.taken + 0; inside = c.inside }) (later-none c.supply.faults)
    ∙ ap (λ n. record c { taken = n }) same

burst_none : (taken burst : ℕ) → burst_past taken (taken + 0) burst ≡ burst
burst_none taken burst = let same : (taken + 0 == taken) ≡ true = eq-eqb (taken + 0) taken (omega arith) in rw same refl

pub burst_some : (taken n burst : ℕ) → burst_past taken (taken + suc n) burst ≡ 0
burst_some taken n burst = rw (ne_eqb (taken + suc n) taken (λ e. omega (arith, e))) refl

module _ {K : Type 0} (v : Stored K) (c : Coming) (r : Reader) (bs : List ℕ) (none : v.levels ≡ []) (next : ComeNext bs c) where
  pub begins_there : at_source v c r (spot_after 0 (map next_items.Byte bs) r.half) ≡ situation v c r
  begins_there =
      ap (λ (d : Coming). situation v d (record r { half = r.half; burst = burst_past c.taken (c.taken + 0) r.burst })) (after_none c)
      ∙ ap (λ (n : ℕ). situation v c (record r { burst = n })) (burst_none c.taken r.burst)

  -- no byte was taken
  pub source_looked : (n : ℕ) (p : Spot) (q : Reached) (supply : Option Supply) → p.taken ≡ 0 → HasTakenIn n (map next_items.Byte bs) r.half p → HoldsComing c q supply
      → HasRead n (situation v c r) p.event v (record r { half = p.half }) q supply
  source_looked n p q supply few taken_in holds =
      has_read n (map next_items.Byte bs) r.half p (at_source v c r) (situation v c r) v (record r { half = p.half }) q supply (source_goings v c r bs none next) taken_in begins_there
      (record {
        stored = refl;
        reader = sym (ap (λ (k : ℕ). record r { half = p.half; burst = burst_past c.taken (c.taken + k) r.burst }) few ∙ ap (λ (k : ℕ). record r { half = p.half; burst = k }) (burst_none c.taken r.burst));
        coming = subst (λ d. HoldsComing d q supply) (sym (ap (λ k. after_run k c) few ∙ after_none c)) holds;
      })

  -- some were taken
  pub source_read : (n : ℕ) (p : Spot) (q : Reached) (supply : Option Supply) → 0 < p.taken → HasTakenIn n (map next_items.Byte bs) r.half p → HoldsComing (after_run p.taken c) q supply
      → HasRead n (situation v c r) p.event v (record r { half = p.half; burst = 0 }) q supply
  source_read n p q supply some taken_in holds =
      let many = some_taken p.taken (λ e. omega (arith, e, some)) in
      has_read n (map next_items.Byte bs) r.half p (at_source v c r) (situation v c r) v (record r { half = p.half; burst = 0 }) q supply (source_goings v c r bs none next) taken_in begins_there
      (record {
        stored = refl;
        reader = sym (ap (λ (j : ℕ). record r { half = p.half; burst = burst_past c.taken (c.taken + j) r.burst }) many.1 ∙ ap (λ (j : ℕ). record r { half = p.half; burst = j }) (burst_some c.taken many.0 r.burst));
        coming = holds;
      })

pub newline_left-le : (b : Bool) → newline_left b ≤ 1
newline_left-le true = omega arith
newline_left-le false = omega arith

-- n bytes pay n times
pub worth_more : (worth before k : ℕ) → worth * (before + suc k) ≡ worth * before + worth + worth * k
worth_more worth before k = omega arith

pub pays_each : (worth k : ℕ) → 512 ≤ worth → 512 * k ≤ worth * k
pays_each worth k enough = mul-le-mul_right k enough

module _ {K : Type 0} (n : ℕ) (fs : List NextItem) (v : Stored K) (q : Reached) (r : Reader) (p : Spot) (taken_in : HasTakenIn n fs r.half p) where
  pub looked_pays : p.taken ≡ 0 → PaysAll n v q r p.event v q (record r { half = p.half })
  looked_pays few = record {
    limit = refl;
    diversions = refl;
    most = refl;
    pays = λ worth enough. let paid = taken_in.pays in omega (arith, paid, few);
    tells = taken_in.tells;
  }

  -- each byte but the first pays 256 moves more
  source_paid : (more k last : ℕ) → more ≤ 256 * k → p.taken ≡ suc k → PaysAll (n + more) v q r p.event v (passed_run last (suc k) q) (record r { half = p.half; burst = 0 })
  source_paid more k last less many = record {
    limit = refl;
    diversions = refl;
    most = refl;
    pays = λ worth enough.
        let paid = taken_in.pays in
        omega (
          arith,
          paid,
          many,
          enough,
          less,
          worth_more worth q.taken k,
          pays_each worth k (omega (arith, enough)),
          newline_left-le (not (last == code "\n")),
        );
    tells = taken_in.tells;
  }

  -- where the first of them was taken, and maybe others
  source_more : (more k last : ℕ) (q' : Reached) → more ≤ 256 * k → p.taken ≡ suc k → q' ≡ passed_run last p.taken q → PaysAll (n + more) v q r p.event v q' (record r { half = p.half; burst = 0 })
  source_more more k last q' less many is =
      subst (λ x. PaysAll (n + more) v q r p.event v x (record r { half = p.half; burst = 0 })) (ap (λ j. passed_run last j q) (sym many) ∙ sym is) (source_paid more k last less many)

  pub source_pays : (last : ℕ) (q' : Reached) → 0 < p.taken → q' ≡ passed_run last p.taken q → PaysAll n v q r p.event v q' (record r { half = p.half; burst = 0 })
  source_pays last q' some is =
      let many = some_taken p.taken (λ e. omega (arith, e, some)) in
      let none : n + 0 ≡ n = omega arith in
      subst (λ m. PaysAll m v q r p.event v q' (record r { half = p.half; burst = 0 })) none (source_more 0 many.0 last q' (omega arith) many.1 is)

  -- after two bytes or more 20 moves more are paid
  pub source_saves : (last : ℕ) (q' : Reached) → 1 < p.taken → q' ≡ passed_run last p.taken q → PaysAll (n + 20) v q r p.event v q' (record r { half = p.half; burst = 0 })
  source_saves last q' some is =
      let many = some_taken p.taken (λ e. omega (arith, e, some)) in
      let two = many.1 in
      source_more 20 many.0 last q' (omega (arith, two, some)) many.1 is

-- none was taken, whether there was one or not
pub none_taken : {K : Type 0} (bs : List ℕ) (v : Stored K) (c : Coming) (r : Reader) (n : ℕ) (p : Spot) (q : Reached) (supply : Option Supply) → (0 < length bs → v.levels ≡ []) → (0 < length bs → ComeNext bs c)
    → p.taken ≡ 0 → HasTakenIn n (map next_items.Byte bs) r.half p → HoldsComing c q supply → HasRead n (situation v c r) p.event v (record r { half = p.half }) q supply
none_taken [] v c r n p q supply none next few taken_in holds =
    subst (λ k. HasRead n (situation v c r) p.event (left_times k v) (record r { half = p.half }) q supply) few (nothing_read v c r q supply n p taken_in holds)
none_taken (b ∷ bs) v c r n p q supply none next few taken_in holds = source_looked v c r (b ∷ bs) (none (omega arith)) (next (omega arith)) n p q supply few taken_in holds

-- ---- how many items are taken

one_if-le : (b : Bool) → one_if b ≤ 1
one_if-le true = omega arith
one_if-le false = omega arith

taken_by : (f : Option NextItem) (p : Spot) → (afterwards f p).taken ≤ p.taken + 1
taken_by None p = omega arith
taken_by (Some f) p = let one = one_if-le (take_in f p.half).takes in omega (arith, one)

taken_after : (n : ℕ) (fs : List NextItem) (h : Half) → (spot_after n fs h).taken ≤ n
taken_after zero fs h = omega arith
taken_after (suc n) fs h = omega (arith, taken_by (slice_get fs (spot_after n fs h).taken) (spot_after n fs h), taken_after n fs h)

-- no more than there are moves
pub taken-le : (n : ℕ) (fs : List NextItem) (h : Half) (p : Spot) → HasTakenIn n fs h p → p.taken ≤ n
taken-le n fs h p taken_in = let is = ap (λ x. x.taken) taken_in.leads in omega (arith, is, taken_after n fs h)

supply_after : (a : Ahead) (n : ℕ) (c : Coming) (supply supply' : Option Supply) → is_unseen a ≡ true → HoldsSupply c a supply → Skips supply n supply' → supply' ≡ Some (skipped n c.supply)
supply_after Unseen n c supply supply' unseen holds skips = subst (λ q. Skips q n supply') holds skips
supply_after (Byte b) n c supply supply' unseen holds skips = absurd (let wrong : false ≡ true = unseen in cc)
supply_after End n c supply supply' unseen holds skips = absurd (let wrong : false ≡ true = unseen in cc)
supply_after Failed n c supply supply' unseen holds skips = absurd (let wrong : false ≡ true = unseen in cc)
supply_after TooMany n c supply supply' unseen holds skips = absurd (let wrong : false ≡ true = unseen in cc)

-- the program stands after bytes that it took
holds_after : (k : ℕ) (bs : List ℕ) (c : Coming) (q : Reached) (supply supply' : Option Supply) → k < length bs → is_unseen q.ahead ≡ true → ComeNext bs c → HoldsComing c q supply → Skips supply (suc k) supply'
    → HoldsComing (after_run (suc k) c) (passed_run (slice_index bs k) (suc k) q) supply'
holds_after k bs c q supply supply' less unseen next holds skips = record {
  taken = let taken = holds.taken in omega (arith, taken);
  inside = ap (λ (b : ℕ). not (b == code "\n")) (ap (λ (ys : List ℕ). slice_index ys k) (sym next.bytes) ∙ get_or-take (length bs) c.supply.bytes k 0 less);
  stands = supply_after q.ahead (suc k) c supply supply' unseen holds.stands skips;
}

-- the same, for as many as were taken
pub holds_past : (n : ℕ) (bs : List ℕ) (c : Coming) (q p : Reached) (supply supply' : Option Supply) → 0 < n → n ≤ length bs → is_unseen q.ahead ≡ true → ComeNext bs c → HoldsComing c q supply → Skips supply n supply'
    → p ≡ passed_run (slice_index bs (n - 1)) n q → HoldsComing (after_run n c) p supply'
holds_past zero bs c q p supply supply' some within unseen next holds skips is = absurd (omega (arith, some))
holds_past (suc k) bs c q p supply supply' some within unseen next holds skips is =
    let last : k ≡ suc k - 1 = omega arith in
    subst (λ x. HoldsComing (after_run (suc k) c) x supply') (ap (λ j. passed_run (slice_index bs j) (suc k) q) last ∙ sym is)
    (holds_after k bs c q supply supply' (omega (arith, within)) unseen next holds skips)

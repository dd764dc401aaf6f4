-- Bytes that the newest level begins with and that are added one by one to what is stored, as those who read them say it.
use Rattle.std.specs.Prelude.{map, slice_get, slice_index}
use Rattle.std.specs.Option.{option_map}
use Rattle.std.proofs.Common.{inl, inr, ◌≡◌, ℕ, suc, ◌*◌, ◌<◌, ◌≤◌, true, List, [], ◌∷◌, length, take, drop, get_or, All, Option, Some, sum_by, refl, ap, sym, ◌∙◌, subst, arith}
use Rattle.std.proofs.lemmas.List.{length-map, length-take, get_or-take, get_or-map}
use Rattle.std.proofs.lemmas.List.Sums.{sum_by-cons}
use Rattle.std.proofs.lemmas.Bool.{cases_lt}
use Rattle.std.proofs.lemmas.Option.{slice_get-map, slice_get-get_or, get_or_from_slice_get}
use Rattle.nr_units.specs.Source.{Supply}
use Rattle.nr_store.specs.Store.{Stored, Level, Read, Mark, Reading, level_charge, charge_of}
use Rattle.nr_store.specs.Windows.{rest_of, left_times, levels_after, run_left}
use Rattle.nr_store.specs.Laws.{left_times-run}
use Rattle.nr_store.specs.declared.element.Element.{Element}
use Rattle.nr_store.specs.declared.element.Element.TheVariants as elements
use Rattle.nr_reading.specs.declared.event.Event.TheVariants as events
use Rattle.nr_reading.specs.declared.mode.PendingAct.{PendingAct}
use Rattle.nr_reading.specs.Many.InArgument.{ending_of, IsPlain}
use Rattle.nr_reading.specs.Many.Runs.{Spot}
use Rattle.nr_input.specs.declared.reader.Reader.{Reader}
use Rattle.fast_input.specs.declared.target.Target.{Target}
use Rattle.fast_input.specs.declared.target.Target.TheVariants.{Argument, Text}
use Rattle.nr_input.specs.Place.{Coming, Reached, HoldsComing, element_item}
use Rattle.nr_input.specs.Moving.{Situation, Stands, situation}
use Rattle.fast_input.specs.Runs.{HasRead, PaysAll, IsLeft}
use Rattle.fast_input.specs.Target.{is_read_for, pending_for, with_more}
use Rattle.nr_input.specs.Weights.{items_left, expansions_worth, diversions_in}
use Rattle.fast_input.proofs.StretchMoves.{at_level, with_rest, level_goings}
use Rattle.fast_input.proofs.StretchesRead.{items_after}
use Rattle.fast_input.proofs.Longest.{rest_of-afterwards}
use Rattle.fast_input.proofs.Putting.{quiet, has_read_quietly, Adds, goes_put, move-put, twice, twice-is, spot_at, Puttings, all_put}
use Rattle.fast_input.proofs.Targets.{pending_act-is_read_for, take_in-plain, adds_byte, levels-with_more, limit-with_more, diversions-with_more, with_more-none, with_more-next, charge_of-some}
use Rattle.fast_input.proofs.PuttingRead.{plain_at}

-- these bytes are as many elements
abbrev pub ArePrefix : List ℕ → List Element → Type 0
ArePrefix bs xs = map elements.Byte bs ≡ take (length bs) xs

pub prefix_within : (bs : List ℕ) (xs : List Element) → ArePrefix bs xs → length bs ≤ length xs
prefix_within bs xs prefix = let long = ap length prefix in omega (arith, long, length-map bs elements.Byte, length-take (length bs) xs)

-- how much is left of a text is not charged
charge-rest : {K : Type 0} (l : Reading K) (ls : List (Level K)) (xs ys : List Element) → sum_by level_charge (Read (record l { rest = ys }) ∷ ls) ≡ sum_by level_charge (Read (record l { rest = xs }) ∷ ls)
charge-rest l ls xs ys = sum_by-cons level_charge (Read (record l { rest = ys })) ls ∙ sym (sum_by-cons level_charge (Read (record l { rest = xs })) ls)

-- what is left of a text is nothing to what is added
rest-with_more : {K : Type 0} (t : Target) (bs : List ℕ) (l : Reading K) (ls : List (Level K)) (xs : List Element) (v : Stored K) → with_more t bs (with_rest l ls xs v) ≡ with_rest l ls xs (with_more t bs v)
rest-with_more Argument bs l ls xs v = refl
rest-with_more Text bs l ls xs v = refl

module _ {K : Type 0} (t : Target) (n : ℕ) (l : Reading K) (ls : List (Level K)) (xs : List Element) (v : Stored K) (c : Coming) (r : Reader) (bs : List ℕ) (levels : v.levels ≡ Read (record l { rest = xs }) ∷ ls) (prefix : ArePrefix bs xs)
    (reads : is_read_for t r.half ≡ true) (within : n ≤ length bs) (plain : All (IsPlain (ending_of r.half.reading.mode)) (take n bs)) (fits : charge_of (with_more t (take n bs) v) ≤ v.limit) where
  abbrev at : ℕ → Spot → Situation K
  at k p = at_level l ls xs (with_more t (take k bs) v) c r p

  abbrev pending_act : ℕ → PendingAct
  pending_act k = pending_for t (slice_index bs k)

  element_at : (k : ℕ) → k < n → get_or xs k (elements.Byte 0) ≡ elements.Byte (slice_index bs k)
  element_at k below =
      let less : k < length bs = omega (arith, below, within) in
      sym (get_or-take (length bs) xs k (elements.Byte 0) less) ∙ ap (λ ys. get_or ys k (elements.Byte 0)) (sym prefix) ∙ get_or-map elements.Byte bs k 0 (elements.Byte 0) less

  -- so many bytes were added, and one more was taken
  abbrev stored_at : ℕ → Stored K
  stored_at k = with_rest l ls (drop (suc k) xs) (with_more t (take k bs) v)

  -- with that byte
  stored_next : (k : ℕ) → k < n → with_more t (slice_index bs k ∷ []) (stored_at k) ≡ with_rest l ls (drop (suc k) xs) (with_more t (take (suc k) bs) v)
  stored_next k below =
      rest-with_more t (slice_index bs k ∷ []) l ls (drop (suc k) xs) (with_more t (take k bs) v) ∙ ap (λ (w : Stored K). with_rest l ls (drop (suc k) xs) w) (with_more-next t k bs v (omega (arith, below, within)))

  one_fits : (k : ℕ) → k < n → charge_of (with_more t (slice_index bs k ∷ []) (stored_at k)) ≤ (stored_at k).limit
  one_fits k below =
      let w = with_more t (take (suc k) bs) v in
      let some = charge_of-some t k n bs v below within fits in
      let more = ap (λ (x : Stored K). charge_of x) (with_more-next t k bs v (omega (arith, below, within))) in
      let is = ap (λ (x : Stored K). charge_of x) (stored_next k below) in
      let charged = ap (λ y. sum_by level_charge y) (levels-with_more t (take (suc k) bs) v ∙ levels) in
      omega (arith, some, more, is, charged, charge-rest l ls xs (drop (suc k) xs), limit-with_more t (take k bs) v)

  -- that byte is added
  adds_there : (k : ℕ) → k < n → Adds (pending_act k) (stored_at k) (with_more t (slice_index bs k ∷ []) (stored_at k))
  adds_there k below = adds_byte t (slice_index bs k) (stored_at k) (one_fits k below)

  level_puttings : Puttings n (map element_item xs) (λ k. slice_index bs k) pending_act r.half at
  level_puttings = record {
    goings = λ k below. level_goings l ls xs (with_more t (take k bs) v) c r;
    next_items = λ k below.
        slice_get-map element_item xs k
        ∙ ap (option_map element_item) (slice_get-get_or xs k (elements.Byte 0) (omega (arith, below, within, prefix_within bs xs prefix)) ∙ ap Some (element_at k below));
    takes_in = λ k below. take_in-plain t (slice_index bs k) r.half reads (plain_at n k (ending_of r.half.reading.mode) bs below within plain);
    goes = λ k below. goes_put (pending_act k) (stored_at k) _ c r (adds_there k below);
    puts = λ k below.
        move-put (pending_act k) (stored_at k) _ c r (adds_there k below) (pending_act-is_read_for t r.half reads) ∙ ap (λ (w : Stored K). quiet (situation w c r)) (stored_next k below);
  }

  level_added_there : (q : Reached) (supply : Option Supply) → HoldsComing c q supply
      → HasRead (2 * n) (situation v c r) events.Nothing (with_rest l ls (drop n xs) (with_more t (take n bs) v)) r q supply
  level_added_there q supply holds =
      let w = with_rest l ls (drop n xs) (with_more t (take n bs) v) in
      let begins : at 0 (spot_at 0 r.half) ≡ situation v c r = ap (λ (w : Stored K). situation (with_rest l ls xs w) c r) (with_more-none t v) ∙ ap (λ (y : List (Level K)). situation (record v { levels = y }) c r) (sym levels) in
      let stands : Stands (at n (spot_at n r.half)) w r q supply = record { stored = refl; reader = refl; coming = holds } in
      let few : n ≤ length (map element_item xs) = omega (arith, within, prefix_within bs xs prefix, length-map xs element_item) in
      let all = all_put n (map element_item xs) (λ j. slice_index bs j) pending_act r.half at (pending_act-is_read_for t r.half reads) few level_puttings n (omega arith) in
      subst (λ m. HasRead m (situation v c r) events.Nothing w r q supply) (twice-is n)
      (subst (λ s. HasRead (twice n) s events.Nothing w r q supply) begins (has_read_quietly (twice n) _ _ w r q supply all stands))

module _ {K : Type 0} (t : Target) (n : ℕ) (v : Stored K) (c : Coming) (r : Reader) (bs : List ℕ) (reads : is_read_for t r.half ≡ true) (some : 0 < n) (within : n ≤ length bs)
    (plain : All (IsPlain (ending_of r.half.reading.mode)) (take n bs)) (fits : charge_of (with_more t (take n bs) v) ≤ v.limit) (q : Reached) (supply : Option Supply) (holds : HoldsComing c q supply) where
  level_added_by : (levels : List (Level K)) → v.levels ≡ levels → ArePrefix bs (rest_of levels) → HasRead (2 * n) (situation v c r) events.Nothing (left_times n (with_more t (take n bs) v)) r q supply
  level_added_by [] is prefix = absurd (let none = prefix_within bs [] prefix in omega (arith, none, some, within))
  level_added_by (Mark mode ∷ ls) is prefix = absurd (let none = prefix_within bs [] prefix in omega (arith, none, some, within))
  level_added_by (Read l ∷ ls) is prefix =
      let w = with_more t (take n bs) v in
      let here : w.levels ≡ Read l ∷ ls = levels-with_more t (take n bs) v ∙ is in
      let few : n ≤ length (rest_of w.levels) = omega (arith, within, prefix_within bs l.rest prefix, ap (λ y. length (rest_of y)) here) in
      let ends : left_times n w ≡ with_rest l ls (drop n l.rest) w = left_times-run n w few ∙ ap (λ (y : List (Level K)). record w { levels = levels_after n y }) here in
      subst (λ (x : Stored K). HasRead (2 * n) (situation v c r) events.Nothing x r q supply) (sym ends) (level_added_there t n l ls l.rest v c r bs is prefix reads within plain fits q supply holds)

  pub level_added : ArePrefix bs (rest_of v.levels) → HasRead (2 * n) (situation v c r) events.Nothing (left_times n (with_more t (take n bs) v)) r q supply
  level_added prefix = level_added_by v.levels refl prefix

pub level_added_pays : {K : Type 0} (t : Target) (n : ℕ) (bytes : List ℕ) (v w : Stored K) (q : Reached) (r : Reader) → n ≤ length (rest_of v.levels) → w ≡ left_times n (with_more t bytes v)
    → PaysAll (2 * n) v q r events.Nothing w q r
level_added_pays t n bytes v w q r few is =
    let same = levels-with_more t bytes v in
    let w_is : w ≡ run_left n (with_more t bytes v) = is ∙ left_times-run n (with_more t bytes v) (omega (arith, few, ap (λ y. length (rest_of y)) same)) in
    let items = items_after n v.levels few in
    let left = ap (λ x. items_left x.levels) w_is ∙ ap (λ y. items_left (levels_after n y)) same in
    let limits = ap (λ x. x.limit) w_is ∙ limit-with_more t bytes v in
    let worths = ap (λ k. expansions_worth r.most r.burst k) limits in
    record {
      limit = limits;
      diversions = ap (λ x. diversions_in x.building) w_is ∙ diversions-with_more t bytes v;
      most = refl;
      pays = λ worth enough. omega (arith, items, left, worths);
      tells = refl;
    }

-- ---- how many of them are added

pub charge-afterwards : {K : Type 0} (n : ℕ) (levels : List (Level K)) → sum_by level_charge (levels_after n levels) ≡ sum_by level_charge levels
charge-afterwards n [] = refl
charge-afterwards n (Mark mode ∷ ls) = refl
charge-afterwards n (Read l ∷ ls) = charge-rest l ls l.rest (drop n l.rest)

-- nor is that where more is added
charge-more-afterwards : {K : Type 0} (t : Target) (n : ℕ) (bs : List ℕ) (v : Stored K) → charge_of (with_more t bs (run_left n v)) ≡ charge_of (with_more t bs v)
charge-more-afterwards Argument n bs v = let same = charge-afterwards n v.levels in omega (arith, same)
charge-more-afterwards Text n bs v = let same = charge-afterwards n v.levels in omega (arith, same)

module _ {K : Type 0} (t : Target) (n near : ℕ) (v new w : Stored K) (r : Reader) (bs : List ℕ) (reads : is_read_for t r.half ≡ true) (long : length bs ≡ near) (within : n ≤ near) (prefix : ArePrefix bs (rest_of v.levels))
    (stops : near < 256 → (byte : ℕ) → slice_get (rest_of v.levels) near ≡ Some (elements.Byte byte) → ¬ IsPlain (ending_of r.half.reading.mode) byte)
    (full : n < length bs → new.limit < charge_of (with_more t (slice_index bs n ∷ []) new))
    (added : new ≡ with_more t (take n bs) v) (is : w ≡ left_times n new) where
  levels_stay : new.levels ≡ v.levels
  levels_stay = ap (λ (x : Stored K). x.levels) added ∙ levels-with_more t (take n bs) v

  skipped_is : w ≡ run_left n new
  skipped_is = let few : n ≤ length (rest_of new.levels) = omega (arith, within, long, prefix_within bs (rest_of v.levels) prefix, ap (λ y. length (rest_of y)) levels_stay) in is ∙ left_times-run n new few

  -- the byte that comes next now
  comes : (b : ℕ) → slice_get (rest_of w.levels) 0 ≡ Some (elements.Byte b) → slice_get (rest_of v.levels) n ≡ Some (elements.Byte b)
  comes b next = sym (ap (λ (x : Stored K). slice_get (rest_of x.levels) 0) skipped_is ∙ rest_of-afterwards n new.levels ∙ ap (λ y. slice_get (rest_of y) n) levels_stay) ∙ next

  comes_of : (b : ℕ) → n < near → slice_get (rest_of v.levels) n ≡ Some (elements.Byte b) → slice_index bs n ≡ b
  comes_of b less there =
      let xs = rest_of v.levels in
      let inside : n < length bs = omega (arith, less, long) in
      let own : get_or xs n (elements.Byte 0) ≡ elements.Byte (slice_index bs n) =
      sym (get_or-take (length bs) xs n (elements.Byte 0) inside) ∙ ap (λ ys. get_or ys n (elements.Byte 0)) (sym prefix) ∙ get_or-map elements.Byte bs n 0 (elements.Byte 0) inside in
      let same : elements.Byte (slice_index bs n) ≡ elements.Byte b = sym own ∙ get_or_from_slice_get xs n (elements.Byte b) (elements.Byte 0) there in
      cc

  full_there : (b : ℕ) → n < near → slice_get (rest_of v.levels) n ≡ Some (elements.Byte b) → w.limit < charge_of (with_more t (b ∷ []) w)
  full_there b less there =
      let inside : n < length bs = omega (arith, less, long) in
      let over : new.limit < charge_of (with_more t (b ∷ []) new) = subst (λ x. new.limit < charge_of (with_more t (x ∷ []) new)) (comes_of b less there) (full inside) in
      let same = charge-more-afterwards t n (b ∷ []) new in
      subst (λ (x : Stored K). x.limit < charge_of (with_more t (b ∷ []) x)) (sym skipped_is) (omega (arith, over, same))

  left_there : (b : ℕ) → n < 256 → slice_get (rest_of v.levels) n ≡ Some (elements.Byte b) → IsLeft b r.half w
  left_there b few there =
      elim (cases_lt n near) [
        | inl less ↦ record { target = t; reads = reads; stops = λ plain. full_there b less there }
        | inr all ↦
            let ends : n ≡ near = omega (arith, within, all) in
            let other = stops (omega (arith, few, ends)) b (subst (λ k. slice_get (rest_of v.levels) k ≡ Some (elements.Byte b)) ends there) in
            record { target = t; reads = reads; stops = λ plain. absurd (other plain) }
      ]

  pub level_added_left : (b : ℕ) → n < 256 → slice_get (rest_of w.levels) 0 ≡ Some (elements.Byte b) → IsLeft b r.half w
  level_added_left b few next = left_there b few (comes b next)

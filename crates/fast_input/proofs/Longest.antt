-- How many of the bytes are read that the source has at hand, or that a level has left.
use Rattle.std.specs.Prelude.{slice_get, slice_index, map}
use Rattle.std.specs.Option.{option_map}
use Rattle.std.proofs.Common.{◌≡◌, ℕ, zero, suc, ◌+◌, ◌-◌, ◌*◌, ◌^◌, ◌<◌, ◌≤◌, true, List, [], ◌∷◌, length, take, drop, Some, refl, ap, sym, ◌∙◌, subst, arith}
use Rattle.std.proofs.lemmas.List.{length-map, length-take, get_or-take}
use Rattle.std.proofs.lemmas.Option.{slice_get-map, slice_get-get_or}
use Rattle.nr_store.specs.Store.{Stored, Level, Read, Mark, charge_of}
use Rattle.nr_store.specs.Windows.{rest_of, left_times, levels_after}
use Rattle.nr_store.specs.Laws.{left_times-run}
use Rattle.nr_store.specs.declared.element.Element.{Element}
use Rattle.nr_store.specs.declared.element.Element.TheVariants as elements
use Rattle.nr_reading.specs.declared.event.Event.TheVariants as events
use Rattle.nr_reading.specs.declared.next_item.NextItem.TheVariants as next_items
use Rattle.nr_reading.specs.declared.half.Half.{Half}
use Rattle.nr_reading.specs.declared.mode.PendingAct.TheVariants as pending_acts
use Rattle.nr_reading.specs.Many.InArgument.{ending_of, IsPlain}
use Rattle.nr_reading.specs.Many.Runs.{Spot, HasTakenIn}
use Rattle.nr_input.specs.declared.reader.Reader.{Reader}
use Rattle.fast_input.specs.declared.target.Target.{Target}
use Rattle.nr_input.specs.Place.{Reached, element_item}
use Rattle.fast_input.specs.Runs.{IsLongest, IsLongestInLevel}
use Rattle.fast_input.specs.Target.{is_read_for, with_more}

-- no byte of the stretch stands there
abbrev pub NoByteAt : List ℕ → ℕ → Type 0
NoByteAt bs k = (byte : ℕ) → slice_get (map next_items.Byte bs) k ≡ Some (next_items.Byte byte) → ⊥

-- so it is after the stretch
after_all : (bs : List ℕ) (k : ℕ) → NoByteAt bs k → k < length bs → ⊥
after_all bs k none less =
    none (slice_index bs k)
    (slice_get-map next_items.Byte bs k ∙ ap (option_map next_items.Byte) (slice_get-get_or bs k 0 less))

-- as many bytes as may be taken: one more of those at hand is among them
among : (k taken : ℕ) (bs all : List ℕ) → bs ≡ take (2 ^ 40 - 1 - taken) all → taken + k + 1 < 2 ^ 40 → k < length all → k < length bs
among k taken bs all is room less = let long = ap length is in omega (arith, long, room, less, length-take (2 ^ 40 - 1 - taken) all)

module _ {K : Type 0} (all bs : List ℕ) (n : ℕ) (p p' : Reached) (r r' : Reader) (v : Stored K) (q : Spot) (near : bs ≡ take (2 ^ 40 - 1 - p.taken) all) (taken_in : HasTakenIn n (map next_items.Byte bs) r.half q)
    (stops : q.event ≡ events.Nothing → q.half.reading.pending_act ≡ pending_acts.Look → n < 65536 → NoByteAt bs q.taken) (half : r'.half ≡ q.half) (taken : p'.taken ≡ p.taken + q.taken) where
  -- where no move was made it stops at the first byte
  moved : (m : ℕ) → n ≡ m → 0 < length all → p.taken + 1 < 2 ^ 40 → r.half.reading.pending_act ≡ pending_acts.Look → 0 < m
  moved zero none some room pending_act =
      let leads = subst (λ m. HasTakenIn m (map next_items.Byte bs) r.half q) none taken_in in
      let first = ap (λ (x : Spot). x.taken) leads.leads in
      let quiet = ap (λ (x : Spot). x.event) (sym leads.leads) in
      let waits = ap (λ (x : Spot). x.half.reading.pending_act) (sym leads.leads) ∙ pending_act in
      absurd (after_all bs q.taken (stops quiet waits (omega (arith, none))) (among q.taken p.taken bs all near (omega (arith, first, room)) (omega (arith, first, some))))
  moved (suc m) more some room pending_act = omega arith

  pub source_longest : IsLongest all n p r q.event v p' r'
  source_longest = record {
    some = moved n refl;
    all = λ few quiet pending_act room less.
        let waits = ap (λ (h : Half). h.reading.pending_act) (sym half) ∙ pending_act in
        absurd (after_all bs q.taken (stops quiet waits few) (among q.taken p.taken bs all near (omega (arith, taken, room)) (omega (arith, taken, less))));
  }

-- bytes that were added
pub added_longest : {K : Type 0} (t : Target) (all bs : List ℕ) (n : ℕ) (p p' : Reached) (r r' : Reader) (v : Stored K) → bs ≡ take (2 ^ 40 - 1 - p.taken) all → is_read_for t r.half ≡ true → 0 < n
    → (n < 32768 → n < length bs → IsPlain (ending_of r.half.reading.mode) (slice_index bs n) → v.limit < charge_of (with_more t (slice_index bs n ∷ []) v)) → p'.taken ≡ p.taken + n
    → IsLongest all (2 * n) p r events.Nothing v p' r'
added_longest t all bs n p p' r r' v near reads some stops taken = record {
  some = λ many room pending_act. omega (arith, some);
  all = λ few quiet pending_act room less.
      let within = among n p.taken bs all near (omega (arith, taken, room)) (omega (arith, taken, less)) in
      let inside : n < 2 ^ 40 - 1 - p.taken = omega (arith, taken, room) in
      let count : n ≡ p'.taken - p.taken = omega (arith, taken) in
      let same : slice_index bs n ≡ slice_index all (p'.taken - p.taken) =
      ap (λ (ys : List ℕ). slice_index ys n) near ∙ get_or-take (2 ^ 40 - 1 - p.taken) all n 0 inside ∙ ap (λ k. slice_index all k) count in
      record {
        target = t;
        reads = reads;
        stops = subst (λ b. IsPlain (ending_of r.half.reading.mode) b → v.limit < charge_of (with_more t (b ∷ []) v)) same (stops (omega (arith, few)) within);
      };
}

-- ---- what is left of a level

-- what comes first after n elements
slice_get-drop : {X : Type 0} (n : ℕ) (xs : List X) → slice_get (drop n xs) 0 ≡ slice_get xs n
slice_get-drop zero xs = refl
slice_get-drop (suc n) [] = refl
slice_get-drop (suc n) (x ∷ xs) = slice_get-drop n xs

pub rest_of-afterwards : {K : Type 0} (n : ℕ) (levels : List (Level K)) → slice_get (rest_of (levels_after n levels)) 0 ≡ slice_get (rest_of levels) n
rest_of-afterwards n [] = refl
rest_of-afterwards n (Mark mode ∷ ls) = refl
rest_of-afterwards n (Read l ∷ ls) = slice_get-drop n l.rest

-- no byte of the level stands there
abbrev pub NoByteIn : List Element → ℕ → Type 0
NoByteIn xs k = (byte : ℕ) → slice_get (map element_item xs) k ≡ Some (next_items.Byte byte) → ⊥

no_byte_in : (xs : List Element) (k : ℕ) → NoByteIn xs k → (b : ℕ) → slice_get xs k ≡ Some (elements.Byte b) → ⊥
no_byte_in xs k none b is = none b (slice_get-map element_item xs k ∙ ap (option_map element_item) is)

module _ {K : Type 0} (n : ℕ) (v w : Stored K) (r r' : Reader) (q : Spot) (taken_in : HasTakenIn n (map element_item (rest_of v.levels)) r.half q)
    (stops : q.event ≡ events.Nothing → q.half.reading.pending_act ≡ pending_acts.Look → n < 65536 → NoByteIn (rest_of v.levels) q.taken) (half : r'.half ≡ q.half) (is : w ≡ left_times q.taken v) where
  -- where no move was made it stops at the first byte
  moved_in : (m : ℕ) → n ≡ m → (b : ℕ) → slice_get (rest_of v.levels) 0 ≡ Some (elements.Byte b) → r.half.reading.pending_act ≡ pending_acts.Look → 0 < m
  moved_in zero none b first pending_act =
      let leads = subst (λ m. HasTakenIn m (map element_item (rest_of v.levels)) r.half q) none taken_in in
      let taken = ap (λ (x : Spot). x.taken) leads.leads in
      let quiet = ap (λ (x : Spot). x.event) (sym leads.leads) in
      let waits = ap (λ (x : Spot). x.half.reading.pending_act) (sym leads.leads) ∙ pending_act in
      absurd (no_byte_in (rest_of v.levels) q.taken (stops quiet waits (omega (arith, none))) b (subst (λ k. slice_get (rest_of v.levels) k ≡ Some (elements.Byte b)) taken first))
  moved_in (suc m) more b first pending_act = omega arith

  pub level_longest : IsLongestInLevel n v r q.event w r'
  level_longest = record {
    some = moved_in n refl;
    all = λ few quiet pending_act b next.
        let waits = ap (λ (h : Half). h.reading.pending_act) (sym half) ∙ pending_act in
        let within : q.taken ≤ length (rest_of v.levels) = omega (arith, taken_in.within, length-map (rest_of v.levels) element_item) in
        let afterwards : slice_get (rest_of w.levels) 0 ≡ slice_get (rest_of v.levels) q.taken =
        ap (λ (x : Stored K). slice_get (rest_of x.levels) 0) (is ∙ left_times-run q.taken v within) ∙ rest_of-afterwards q.taken v.levels in
        absurd (no_byte_in (rest_of v.levels) q.taken (stops quiet waits (omega (arith, few))) b (sym afterwards ∙ next));
  }

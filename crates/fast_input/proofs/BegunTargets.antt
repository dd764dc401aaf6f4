-- Arguments and texts of strings that begin with spliced bytes, as moves of the machine that reads: their level stands open while they
-- are added.
use Rattle.std.specs.Prelude.{map, nat_lt}
use Rattle.std.proofs.Common.{inl, inr, ◌≡◌, ℕ, ◌+◌, ◌-◌, ◌*◌, ◌≤◌, Bool, true, false, List, [], ◌∷◌, length, take, drop, All, Option, None, Result, Ok, Err, refl, ap, ap₂, sym, ◌∙◌, subst, arith, if◌then◌else◌}
use Rattle.std.proofs.lemmas.Bool.{cases_lt, le-ltb}
use Rattle.std.proofs.lemmas.List.{length-map, length-drop, length-take, take_all, drop-map}
use Rattle.std.proofs.lemmas.List.Sums.{sum_by-cons}
use Rattle.nr_units.specs.Source.{Supply}
use Rattle.nr_store.specs.Store.{Stored, Built, begun, charge_of, gathering, reading_bytes, weight}
use Rattle.nr_store.specs.Windows.{rest_of, left_times, run_left}
use Rattle.nr_store.specs.Laws.{left_times-run}
use Rattle.nr_store.specs.declared.element.Element.TheVariants as elements
use Rattle.nr_reading.specs.declared.ask.Sign.TheVariants as signs
use Rattle.nr_reading.specs.declared.event.Event.TheVariants as events
use Rattle.nr_reading.specs.declared.mode.PendingAct.{PendingAct}
use Rattle.nr_reading.specs.declared.mode.PendingAct.TheVariants as pending_acts
use Rattle.nr_reading.specs.Many.InArgument.{ending_of, IsPlain}
use Rattle.nr_input.specs.declared.reader.Reader.{Reader}
use Rattle.nr_input.specs.declared.refusal.Refusal.{Refusal}
use Rattle.fast_input.specs.declared.target.Target.{Target}
use Rattle.fast_input.specs.declared.target.Target.TheVariants.{Argument, Text}
use Rattle.nr_input.specs.Acting.{Acted, act, done, idle, is_look}
use Rattle.fast_input.specs.Beginnings.{begins_target}
use Rattle.nr_input.specs.Place.{Coming, Reached, HoldsComing}
use Rattle.nr_input.specs.Moving.{situation}
use Rattle.nr_input.specs.Refusal.{called, acted, acted_by, answer, storing_answer, storing_by}
use Rattle.fast_input.specs.Runs.{HasRead, PaysAll}
use Rattle.fast_input.specs.Target.{is_read_for, with_more}
use Rattle.nr_input.specs.Weights.{diversions_in, diversions_of}
use Rattle.fast_input.proofs.ControlLines.{done_read, pays_once}
use Rattle.fast_input.proofs.Interpolated.{charge-reading, charge-more}
use Rattle.fast_input.proofs.LevelStretches.{left_times-add, rest-left_times}
use Rattle.fast_input.proofs.PuttingLevel.{ArePrefix, charge-afterwards, level_added, level_added_pays}
use Rattle.nr_input.proofs.Refusals.{acted-ok}
use Rattle.fast_input.proofs.StretchMoves.{reads_nothing}
use Rattle.nr_input.proofs.Spending.{act_pays}
use Rattle.fast_input.proofs.Targets.{with_more-none}

-- ---- after t of the bytes that a level brings

abbrev pub in_level : {K : Type 0} → ℕ → List ℕ → Stored K → Stored K
in_level t bytes v = left_times t (reading_bytes bytes v)

in_level-run : {K : Type 0} (t : ℕ) (bytes : List ℕ) (v : Stored K) → t ≤ length bytes → in_level t bytes v ≡ run_left t (reading_bytes bytes v)
in_level-run t bytes v within = left_times-run t (reading_bytes bytes v) (omega (arith, within, length-map bytes elements.Byte))

charge-in_level : {K : Type 0} (t : ℕ) (bytes : List ℕ) (v : Stored K) → t ≤ length bytes → charge_of (in_level t bytes v) ≡ charge_of v + (32 + length bytes)
charge-in_level t bytes v within =
    let run = ap (λ (x : Stored _). charge_of x) (in_level-run t bytes v within) in
    let same = charge-afterwards t (reading_bytes bytes v).levels in
    omega (arith, run, same, charge-reading bytes v)

limit-in_level : {K : Type 0} (t : ℕ) (bytes : List ℕ) (v : Stored K) → t ≤ length bytes → (in_level t bytes v).limit ≡ v.limit
limit-in_level t bytes v within = ap (λ (x : Stored _). x.limit) (in_level-run t bytes v within)

-- ---- what is begun

abbrev begun_to : {K : Type 0} → PendingAct → Stored K → Stored K
begun_to (pending_acts.Put b) v = gathering b v
begun_to d v = begun [] None v

begun_so : {K : Type 0} (d : PendingAct) (v : Stored K) (r : Reader) → begins_target d ≡ true → r.half.notes.defining.appends ≡ false → act d v r ≡ done events.Nothing (begun_to d v) (idle r)
begun_so pending_acts.Begin v r begins new = rw new refl
begun_so (pending_acts.Put b) v r begins new = refl
begun_so (pending_acts.Register signs.None) v r begins new = cc
begun_so (pending_acts.Register signs.Plus) v r begins new = cc
begun_so (pending_acts.Register signs.Minus) v r begins new = cc
begun_so d v r begins new = cc

asked_so : {K : Type 0} (d : PendingAct) (v : Stored K) (r : Reader) → begins_target d ≡ true → answer d v r ≡ storing_answer (act d v r).stored
asked_so pending_acts.Begin v r begins = refl
asked_so (pending_acts.Put b) v r begins = refl
asked_so (pending_acts.Register signs.None) v r begins = cc
asked_so (pending_acts.Register signs.Plus) v r begins = cc
asked_so (pending_acts.Register signs.Minus) v r begins = cc
asked_so d v r begins = cc

looks_not : (d : PendingAct) → begins_target d ≡ true → is_look d ≡ false
looks_not pending_acts.Look begins = cc
looks_not d begins = refl

begun_after : {K : Type 0} (d : PendingAct) (t : ℕ) (bytes : List ℕ) (v : Stored K) → begun_to d (run_left t (reading_bytes bytes v)) ≡ run_left t (reading_bytes bytes (begun_to d v))
begun_after (pending_acts.Put b) t bytes v = refl
begun_after d t bytes v = refl

same_diversions : {K : Type 0} (d : PendingAct) (v : Stored K) → diversions_in (begun_to d v).building ≡ diversions_in v.building
same_diversions (pending_acts.Put b) v = refl
same_diversions d v = let more = sum_by-cons diversions_of (record { text = []; diversion = None }) v.building in omega (arith, more)

-- no more is charged than for a text that is empty
begun-charge : {K : Type 0} (d : PendingAct) (v : Stored K) → charge_of (begun_to d v) ≤ charge_of v + 48
begun-charge (pending_acts.Put b) v = let most = charge-more Argument (b ∷ []) v in omega (arith, most)
begun-charge d v = let cost = λ (b : Built). weight b.text in let more = sum_by-cons cost (record { text = []; diversion = None }) v.building in omega (arith, more)

begun-limit : {K : Type 0} (d : PendingAct) (v : Stored K) → (begun_to d v).limit ≡ v.limit
begun-limit (pending_acts.Put b) v = refl
begun-limit d v = refl

stored_there : (full : Bool) → full ≡ false → storing_by (if full then Err (record {}) else Ok tt) ≡ Ok tt
stored_there full few = rw few refl

module _ {K : Type 0} (bytes : List ℕ) (v w : Stored K) (r s : Reader) (begins : begins_target r.half.reading.pending_act ≡ true) (new : r.half.notes.defining.appends ≡ false)
    (is : called w s (Ok events.Nothing) ≡ acted r.half.reading.pending_act v r) (room : charge_of v + (80 + 2 * length bytes) ≤ v.limit) where
  abbrev d : PendingAct
  d = r.half.reading.pending_act

  done_is : done events.Nothing w s ≡ done events.Nothing (begun_to d v) (idle r)
  done_is = (acted-ok (answer d v r) (act d v r) v w r s events.Nothing is).1 ∙ begun_so d v r begins new

  stored_is : w ≡ begun_to d v
  stored_is = ap (λ (a : Acted K). a.stored) done_is

  pub begun_room : charge_of w + (32 + 2 * length bytes) ≤ w.limit
  begun_room =
      let charge = ap (λ (x : Stored K). charge_of x) stored_is in
      let limit = ap (λ (x : Stored K). x.limit) stored_is in
      omega (arith, charge, limit, begun-charge d v, begun-limit d v, room)

  module _ (t : ℕ) (within : t ≤ length bytes) where
    there_is : begun_to d (in_level t bytes v) ≡ in_level t bytes w
    there_is =
        ap (begun_to d) (in_level-run t bytes v within)
        ∙ begun_after d t bytes v
        ∙ ap (λ (x : Stored K). run_left t (reading_bytes bytes x)) (sym stored_is)
        ∙ sym (in_level-run t bytes w within)

    act_is : act d (in_level t bytes v) r ≡ done events.Nothing (in_level t bytes w) s
    act_is = begun_so d (in_level t bytes v) r begins new ∙ ap₂ (λ (x : Stored K) (q : Reader). done events.Nothing x q) there_is (sym (ap (λ (a : Acted K). a.reader) done_is))

    fits : storing_answer (in_level t bytes w) ≡ Ok tt
    fits =
        let x : Stored K = in_level t bytes w in
        let charge = charge-in_level t bytes w within in
        let limit = limit-in_level t bytes w within in
        stored_there (nat_lt x.limit (charge_of x)) (le-ltb x.limit (charge_of x) (omega (arith, charge, limit, begun_room)))

    answer_is : answer d (in_level t bytes v) r ≡ Ok tt
    answer_is = asked_so d (in_level t bytes v) r begins ∙ ap (λ (a : Acted K). storing_answer a.stored) act_is ∙ fits

    acts_there : called (in_level t bytes w) s (Ok events.Nothing) ≡ acted d (in_level t bytes v) r
    acts_there = sym (ap₂ (λ (x : Result (Unit {0}) Refusal) (a : Acted K). acted_by x a (in_level t bytes v) r) answer_is act_is)

    pub begun_read : (c : Coming) (p : Reached) (supply : Option Supply) → HoldsComing c p supply → HasRead 1 (situation (in_level t bytes v) c r) events.Nothing (in_level t bytes w) s p supply
    begun_read c p supply holds = done_read (in_level t bytes v) (in_level t bytes w) c r s events.Nothing (looks_not d begins) acts_there p supply holds

    diversions_stay : diversions_in (in_level t bytes w).building ≡ diversions_in (in_level t bytes v).building
    diversions_stay = ap (λ (x : Stored K). diversions_in x.building) (sym there_is) ∙ same_diversions d (in_level t bytes v)

    pub begun_pays : (p : Reached) → PaysAll 1 (in_level t bytes v) p r events.Nothing (in_level t bytes w) p s
    begun_pays p =
        pays_once (in_level t bytes v) (in_level t bytes w) p p r s events.Nothing refl diversions_stay
        (act_pays (in_level t bytes v) (in_level t bytes w) p r s events.Nothing (λ look. let wrong : true ≡ false = sym (ap is_look look) ∙ looks_not d begins in cc) acts_there)

-- ---- the bytes after are added

-- the bytes after a place, as a slice of them
pub slice_after : (t : ℕ) (bytes : List ℕ) → take (length bytes - t) (drop t bytes) ≡ drop t bytes
slice_after t bytes = take_all (length bytes - t) (drop t bytes) (omega (arith, length-drop t bytes))

more_after : {K : Type 0} (a : Target) (xs : List ℕ) (t : ℕ) (bytes : List ℕ) (w : Stored K) → with_more a xs (run_left t (reading_bytes bytes w)) ≡ run_left t (reading_bytes bytes (with_more a xs w))
more_after Argument xs t bytes w = refl
more_after Text xs t bytes w = refl

module _ {K : Type 0} (a : Target) (t n : ℕ) (bytes : List ℕ) (w x : Stored K) (s : Reader) (within : t ≤ length bytes) (few : n ≤ length (drop t bytes))
    (added : x ≡ with_more a (take n (drop t bytes)) w) where
  abbrev afterwards : List ℕ
  afterwards = drop t bytes

  ends : left_times n (with_more a (take n afterwards) (in_level t bytes w)) ≡ in_level (t + n) bytes x
  ends =
      ap (λ (y : Stored K). left_times n (with_more a (take n afterwards) y)) (in_level-run t bytes w within)
      ∙ ap (left_times n) (more_after a (take n afterwards) t bytes w ∙ ap (λ (y : Stored K). run_left t (reading_bytes bytes y)) (sym added) ∙ sym (in_level-run t bytes x within))
      ∙ left_times-add t n (reading_bytes bytes x)

  rest_is : rest_of (in_level t bytes w).levels ≡ map elements.Byte afterwards
  rest_is = rest-left_times t (reading_bytes bytes w) (omega (arith, within, length-map bytes elements.Byte)) ∙ drop-map elements.Byte t bytes

  prefix : ArePrefix afterwards (rest_of (in_level t bytes w).levels)
  prefix = sym (ap (take (length afterwards)) rest_is ∙ take_all (length afterwards) (map elements.Byte afterwards) (omega (arith, length-map afterwards elements.Byte)))

  pub more_pays : (p : Reached) → PaysAll (2 * n) (in_level t bytes w) p s events.Nothing (in_level (t + n) bytes x) p s
  more_pays p =
      let long = ap length rest_is in
      level_added_pays a n (take n afterwards) (in_level t bytes w) (in_level (t + n) bytes x) p s (omega (arith, few, long, length-map afterwards elements.Byte)) (sym ends)

  module _ (reads : is_read_for a s.half ≡ true) (plain : All (IsPlain (ending_of s.half.reading.mode)) (take n afterwards)) (room : charge_of w + (32 + 2 * length bytes) ≤ w.limit) where
    fits_more : charge_of (with_more a (take n afterwards) (in_level t bytes w)) ≤ (in_level t bytes w).limit
    fits_more =
        let charge = charge-in_level t bytes w within in
        let limit = limit-in_level t bytes w within in
        let more = charge-more a (take n afterwards) (in_level t bytes w) in
        let long : length afterwards ≡ length bytes - t = length-drop t bytes in
        omega (arith, room, charge, limit, more, length-take n afterwards, few, long)

    none_more : n ≡ 0 → (c : Coming) (p : Reached) (supply : Option Supply) → HoldsComing c p supply → HasRead (2 * n) (situation (in_level t bytes w) c s) events.Nothing (in_level (t + n) bytes x) s p supply
    none_more none c p supply holds =
        let zero_moves : 0 ≡ 2 * n = omega (arith, none) in
        let same : in_level (t + n) bytes x ≡ in_level t bytes w = sym ends ∙ ap (λ k. left_times k (with_more a (take k afterwards) (in_level t bytes w))) none ∙ with_more-none a (in_level t bytes w) in
        subst (λ k. HasRead k (situation (in_level t bytes w) c s) events.Nothing (in_level (t + n) bytes x) s p supply) zero_moves
        (reads_nothing (situation (in_level t bytes w) c s) (in_level (t + n) bytes x) s p supply (record { stored = same; reader = refl; coming = holds }))

    pub more_read : (c : Coming) (p : Reached) (supply : Option Supply) → HoldsComing c p supply → HasRead (2 * n) (situation (in_level t bytes w) c s) events.Nothing (in_level (t + n) bytes x) s p supply
    more_read c p supply holds = elim (cases_lt 0 n) [
      | inl some ↦
          subst (λ (y : Stored K). HasRead (2 * n) (situation (in_level t bytes w) c s) events.Nothing y s p supply) ends
          (level_added a n (in_level t bytes w) c s afterwards reads some few plain fits_more p supply holds prefix)
      | inr none ↦ none_more (omega (arith, none)) c p supply holds
    ]

-- Stretches of the newest level, in which the names of control lines are looked up, as moves of the machine that reads.
use Rattle.std.specs.Prelude.{map}
use Rattle.std.proofs.Common.{◌≡◌, ℕ, zero, suc, ◌+◌, ◌≤◌, Bool, true, false, List, [], ◌∷◌, length, drop, Option, Result, Ok, refl, ap, sym, ◌∙◌, subst, arith}
use Rattle.std.proofs.lemmas.List.{drop-map, drop_all}
use Rattle.nr_units.specs.Source.{Supply}
use Rattle.nr_store.specs.Store.{Stored, Level, Read, Mark, left}
use Rattle.nr_store.specs.Windows.{rest_of, left_times, levels_after}
use Rattle.nr_store.specs.Laws.{left_times-run}
use Rattle.nr_store.specs.declared.named.Meaning.{Meaning}
use Rattle.nr_store.specs.declared.named.Meaning.TheVariants as meanings
use Rattle.nr_reading.specs.declared.event.Event.{Event}
use Rattle.nr_reading.specs.declared.event.Event.TheVariants as events
use Rattle.nr_reading.specs.declared.next_item.NextItem.{NextItem}
use Rattle.nr_reading.specs.declared.mode.PendingAct.TheVariants as pending_acts
use Rattle.nr_reading.specs.Many.Runs.{Spot, HasTakenIn}
use Rattle.nr_reading.specs.Seeking.{sought_event}
use Rattle.nr_input.specs.declared.reader.Reader.{Reader}
use Rattle.nr_input.specs.declared.refusal.Refusal.{Refusal}
use Rattle.nr_input.specs.Acting.{after_meaning, calls_of, meaning_in, after_name}
use Rattle.nr_input.specs.Place.{Coming, Reached, HoldsComing, element_item}
use Rattle.fast_input.specs.LevelStretches.{begun_by, is_text}
use Rattle.nr_input.specs.Limits.{limits_of}
use Rattle.nr_input.specs.Moving.{situation}
use Rattle.nr_input.specs.Refusal.{called, acted}
use Rattle.fast_input.specs.Runs.{HasRead, PaysAll}
use Rattle.fast_input.proofs.ControlLines.{done_read, pays_then, seek_pays, seeks, waits}
use Rattle.fast_input.proofs.Interpolated.{read_then}
use Rattle.fast_input.proofs.StretchesRead.{level_read, level_pays}

-- ---- the newest level after some of its items

-- and then after more of them
pub left_times-add : {K : Type 0} (t k : ℕ) (v : Stored K) → left_times k (left_times t v) ≡ left_times (t + k) v
left_times-add zero k v = let same : k ≡ 0 + k = omega arith in ap (λ n. left_times n v) same
left_times-add (suc t) k v = let same : suc (t + k) ≡ suc t + k = omega arith in left_times-add t k (left v.levels v) ∙ ap (λ n. left_times n v) same

rest_after : {K : Type 0} (n : ℕ) (levels : List (Level K)) → rest_of (levels_after n levels) ≡ drop n (rest_of levels)
rest_after n [] = sym (drop_all n [] (omega arith))
rest_after n (Mark mode ∷ ls) = sym (drop_all n [] (omega arith))
rest_after n (Read l ∷ ls) = refl

pub rest-left_times : {K : Type 0} (n : ℕ) (v : Stored K) → n ≤ length (rest_of v.levels) → rest_of (left_times n v).levels ≡ drop n (rest_of v.levels)
rest-left_times n v few = ap (λ (x : Stored _). rest_of x.levels) (left_times-run n v few) ∙ rest_after n v.levels

-- the items that are left of a stretch
pub stretch_after : {K : Type 0} (n : ℕ) (fs : List NextItem) (v : Stored K) → n ≤ length (rest_of v.levels) → fs ≡ map element_item (rest_of v.levels) → drop n fs ≡ map element_item (rest_of (left_times n v).levels)
stretch_after n fs v few is = ap (drop n) is ∙ drop-map element_item n (rest_of v.levels) ∙ ap (map element_item) (sym (rest-left_times n v few))

-- ---- a name is looked up

begun-meaning : {K : Type 0} (m : Meaning) (v : Stored K) → begun_by (is_text m) v ≡ after_meaning m v
begun-meaning meanings.Text v = refl
begun-meaning meanings.Unknown v = refl
begun-meaning (meanings.Request q) v = refl

pub begun-limits : {K : Type 0} (b : Bool) (v : Stored K) (r : Reader) → limits_of (begun_by b v) r ≡ limits_of v r
begun-limits true v r = refl
begun-limits false v r = refl

sought_so : {K : Type 0} (m n : Meaning) (v : Stored K) (r s : Reader) (e : Event) → n ≡ m → s ≡ after_name m r → e ≡ sought_event (calls_of m)
    → called {A = Result Event Refusal} (after_meaning m v) s (Ok e) ≡ called {A = Result Event Refusal} (after_meaning n v) (after_name n r) (Ok (sought_event (calls_of n)))
sought_so m n v r s e same reader emitted = rw (same, reader, emitted) refl

module _ {K : Type 0} (t : ℕ) (v : Stored K) (m : Meaning) (r s : Reader) (e : Event) (few : t ≤ length (rest_of v.levels)) (pending_act : r.half.reading.pending_act ≡ pending_acts.Seek) (means : m ≡ meaning_in v r)
    (reader : s ≡ after_name m r) (emitted : e ≡ sought_event (calls_of m)) where
  abbrev there : Stored K
  there = left_times t v

  abbrev begun : Stored K
  begun = begun_by (is_text m) there

  means_there : meaning_in there r ≡ m
  means_there = ap (λ (x : Stored K). meaning_in x r) (left_times-run t v few) ∙ sym means

  sought_there : called begun s (Ok e) ≡ acted pending_acts.Seek there r
  sought_there = ap (λ (x : Stored K). called x s (Ok e)) (begun-meaning m there) ∙ sought_so m (meaning_in there r) there r s e means_there reader emitted

  pub name_read : (c : Coming) (p : Reached) (supply : Option Supply) → HoldsComing c p supply → HasRead 1 (situation there c r) e begun s p supply
  name_read c p supply holds = done_read there begun c r s e (waits there begun r s e pending_act sought_there) (seeks there begun r s e pending_act sought_there) p supply holds

  pub name_pays : (p : Reached) → PaysAll 1 there p r e begun p s
  name_pays p = seek_pays there begun r s e pending_act sought_there p

  -- ---- the items after it are taken in

  module _ (n : ℕ) (fs : List NextItem) (q : Spot) (stretch : fs ≡ map element_item (rest_of v.levels)) (taken_in : HasTakenIn n (drop t fs) s.half q) (silent : e ≡ events.Nothing) (other : is_text m ≡ false) where
    taken_in_there : HasTakenIn n (map element_item (rest_of there.levels)) s.half q
    taken_in_there = subst (λ xs. HasTakenIn n xs s.half q) (stretch_after t fs v few stretch) taken_in

    begun_is : begun ≡ there
    begun_is = ap (λ b. begun_by b there) other

    pub named_read : (c : Coming) (p : Reached) (supply : Option Supply) → HoldsComing c p supply → HasRead (n + 1) (situation there c r) q.event (left_times (t + q.taken) v) (record s { half = q.half }) p supply
    named_read c p supply holds =
        let name = subst (λ (x : Stored K). HasRead 1 (situation there c r) events.Nothing x s p supply) begun_is
        (subst (λ (x : Event). HasRead 1 (situation there c r) x begun s p supply) silent (name_read c p supply holds)) in
        let count : 1 + n ≡ n + 1 = omega arith in
        subst (λ (x : Stored K). HasRead (n + 1) (situation there c r) q.event x (record s { half = q.half }) p supply) (left_times-add t q.taken v)
        (subst (λ k. HasRead k (situation there c r) q.event (left_times q.taken there) (record s { half = q.half }) p supply) count
        (read_then n 1 (situation there c r) q.event there (left_times q.taken there) s (record s { half = q.half }) p p supply supply name (λ d here. level_read there d s p supply n q taken_in_there here)))

    pub named_pays : (p : Reached) → PaysAll (n + 1) there p r q.event (left_times (t + q.taken) v) p (record s { half = q.half })
    named_pays p =
        let name = subst (λ (x : Stored K). PaysAll 1 there p r events.Nothing x p s) begun_is (subst (λ (x : Event). PaysAll 1 there p r x begun p s) silent (name_pays p)) in
        subst (λ (x : Stored K). PaysAll (n + 1) there p r q.event x p (record s { half = q.half })) (left_times-add t q.taken v)
        (pays_then n 1 there there (left_times q.taken there) p p p r s (record s { half = q.half }) q.event name (level_pays n there (left_times q.taken there) p s q taken_in_there refl))

-- What levels bring, part by part, as moves of the machine that reads and what they cost.
use Rattle.std.specs.Prelude.{◌&&◌, nat_lt, nat_le}
use Rattle.std.proofs.Common.{◌≡◌, ℕ, ◌+◌, ◌≤◌, ◌==◌, Bool, true, false, if◌then◌else◌, List, [], ◌∷◌, Option, Result, Ok, Err, refl, ap, ap₂, sym, ◌∙◌, subst, arith}
use Rattle.std.proofs.lemmas.Bool.{eq-eqb, lt-leb, ltb-true}
use Rattle.nr_units.specs.Source.{Supply}
use Rattle.nr_store.specs.Store.{Stored, Level, Read, Mark, Reading, shown, left, left_of, afforded, checked}
use Rattle.nr_store.specs.declared.element.Element.{Element}
use Rattle.nr_store.specs.declared.refusal.Refusal as stored
use Rattle.nr_store.specs.declared.refusal.Refusal.TheVariants as stores
use Rattle.nr_store.specs.declared.refusal.StoredBytes.{StoredBytes}
use Rattle.nr_store.specs.declared.shown.Shown.{Shown}
use Rattle.nr_store.specs.declared.shown.Shown.TheVariants as shows
use Rattle.nr_reading.specs.declared.event.Event.{Event}
use Rattle.nr_reading.specs.declared.event.Event.TheVariants as events
use Rattle.nr_reading.specs.declared.next_item.NextItem.TheVariants as next_items
use Rattle.nr_reading.specs.declared.ask.Sign.TheVariants as signs
use Rattle.nr_reading.specs.declared.mode.PendingAct.{PendingAct}
use Rattle.nr_reading.specs.declared.mode.PendingAct.TheVariants as pending_acts
use Rattle.nr_reading.specs.Weights.{PaysFor, is_lead}
use Rattle.nr_reading.proofs.Marks.{take_in-mark}
use Rattle.nr_input.specs.declared.reader.Reader.{Reader}
use Rattle.nr_input.specs.declared.refusal.Refusal.{Refusal}
use Rattle.nr_input.specs.declared.refusal.Refusal.TheVariants as refusals
use Rattle.nr_input.specs.declared.emitted.Emitted.TheVariants as tells
use Rattle.nr_input.specs.Acting.{Acted, act, is_look, meaning_in, calls_of}
use Rattle.nr_input.specs.Refusal.{called, acted, answer, answer_to, asking, Asking, Nothing, Bytes, Splice, Refused, stored_by, reader_by, storing_by, splicing_by}
use Rattle.nr_input.specs.Place.{Coming, Reached, HoldsComing, MayLook, next_item, afterwards, next_item_seen, passed_in}
use Rattle.fast_input.specs.Levels.{acts_by, may_act}
use Rattle.nr_input.specs.Moving.{Situation, Stands, situation, move, Goes, emitted_of, burst_past}
use Rattle.fast_input.specs.Runs.{HasRead, PaysAll, PaysMany, moves, emitted_last}
use Rattle.nr_input.specs.Weights.{Pays, byte_worth, diversions_in}
use Rattle.fast_input.proofs.ControlLines.{done_read, seeks_no_lead}
use Rattle.nr_input.proofs.Hearing.{taken_moves}
use Rattle.fast_input.proofs.LevelLines.{then_reads}
use Rattle.nr_input.proofs.Refusals.{acted-ok, called-err}
use Rattle.nr_input.proofs.Spending.{act_pays}
use Rattle.nr_input.proofs.Staying.{act_begins_none}
use Rattle.nr_input.proofs.Taking.{look_takes}

-- ---- what moves cost

-- none
pub none_paid : {K : Type 0} (v : Stored K) (p : Reached) (r : Reader) → PaysMany 0 v p r events.Nothing v p r
none_paid v p r = record {
  limit = refl;
  diversions = omega arith;
  most = refl;
  pays = λ worth enough. omega arith;
  tells = refl;
}

-- those of a stretch
pub many_of_all : {K : Type 0} (n : ℕ) (v w : Stored K) (p q : Reached) (r s : Reader) (e : Event) → PaysAll n v p r e w q s → PaysMany n v p r e w q s
many_of_all n v w p q r s e all = record {
  limit = all.limit;
  diversions = let same = all.diversions in omega (arith, same);
  most = all.most;
  pays = all.pays;
  tells = all.tells;
}

-- one
pub many_of_one : {K : Type 0} (v w : Stored K) (p q : Reached) (r s : Reader) (e : Event) → is_lead e ≡ false → diversions_in w.building ≤ diversions_in v.building → Pays v p r (tells.Event e) w q s → PaysMany 1 v p r e w q s
many_of_one v w p q r s e lead fewer pays = record {
  limit = pays.limit;
  diversions = fewer;
  most = pays.most;
  pays = λ worth enough. let paid = pays.pays worth enough in omega (arith, paid);
  tells = lead;
}

-- those after others that emitted nothing
pub many_then : {K : Type 0} (m n : ℕ) (v w x : Stored K) (p q o : Reached) (r s t : Reader) (e : Event) → PaysMany n v p r events.Nothing w q s → PaysMany m w q s e x o t → PaysMany (n + m) v p r e x o t
many_then m n v w x p q o r s t e first more = record {
  limit = more.limit ∙ first.limit;
  diversions = let one = first.diversions in let two = more.diversions in omega (arith, one, two);
  most = more.most ∙ first.most;
  pays = λ worth enough.
      let same : byte_worth s.most w.limit ≡ byte_worth r.most v.limit = ap₂ byte_worth first.most first.limit in
      let one = first.pays worth enough in
      let two = more.pays worth (subst (λ k. k ≤ worth) (sym same) enough) in
      omega (arith, one, two);
  tells = more.tells;
}

-- ---- moves after others that emitted nothing

pub read_on : {K : Type 0} (n m : ℕ) (v w x : Stored K) (r s t : Reader) (c : Coming) (p : Reached) (supply : Option Supply) (e : Event) → HasRead n (situation v c r) events.Nothing w s p supply
    → ((c : Coming) → HoldsComing c p supply → HasRead m (situation w c s) e x t p supply) → HasRead (n + m) (situation v c r) e x t p supply
read_on n m v w x r s t c p supply e first more =
    let count : m + n ≡ n + m = omega arith in
    subst (λ k. HasRead k (situation v c r) e x t p supply) count (then_reads m n (situation v c r) e w x s t p p supply supply first more)

-- ---- one move

pub moved_once : {K : Type 0} (s : Situation K) (e : Event) (v : Stored K) (r : Reader) (p : Reached) (supply : Option Supply)
    → tells.Event e ≡ (move s).emitted → Stands (move s).situation v r p supply → Goes s → HasRead 1 s e v r p supply
moved_once s e v r p supply emitted stands goes = record {
  goes = λ k below. let first : 0 ≡ k = omega (arith, below) in subst (λ j. Goes (moves j s)) first goes;
  quiet = λ k below. let first : 0 ≡ k = omega (arith, below) in subst (λ j. emitted_last j s ≡ tells.Event events.Nothing) first refl;
  tells = sym emitted;
  stands = stands;
}

-- ---- what is pending

-- a refusal that isn't of the limit of splices leaves all as it was
pub record Unchanged {K : Type 0} (e : Refusal) (new v : Stored K) (afterwards r : Reader) : Type 0 where
  pub stored : stored_by (Err e) new v ≡ v
  pub reader : reader_by (Err e) afterwards r ≡ r

pub storing_stays : {K : Type 0} (x : Result (Unit {0}) StoredBytes) (e : Refusal) (new v : Stored K) (afterwards r : Reader) → storing_by x ≡ Err e → Unchanged e new v afterwards r
storing_stays (Ok x) refusals.Stored new v afterwards r is = record { stored = refl; reader = refl }
storing_stays (Err y) refusals.Stored new v afterwards r is = record { stored = refl; reader = refl }
storing_stays (Ok x) e new v afterwards r is = cc
storing_stays (Err y) e new v afterwards r is = cc

abbrev more_by : Bool → Result (Unit {0}) Refusal
more_by full = if full then Err refusals.Expansions else Ok tt

more_may : (full : Bool) (e : Refusal) (P : Type 0) → full ≡ false → more_by full ≡ Err e → P
more_may true e P is asks = cc
more_may false e P is asks = cc

splicing_stays : {K : Type 0} (x : Result Bool stored.Refusal) (e : Refusal) (new v : Stored K) (afterwards r : Reader) → nat_le r.most r.burst ≡ false → splicing_by x r ≡ Err e → Unchanged e new v afterwards r
splicing_stays (Ok true) e new v afterwards r less is = more_may (nat_le r.most r.burst) e (Unchanged e new v afterwards r) less is
splicing_stays (Ok false) e new v afterwards r less is = cc
splicing_stays (Err stores.Stored) refusals.Stored new v afterwards r less is = record { stored = refl; reader = refl }
splicing_stays (Err stores.Depth) refusals.Depth new v afterwards r less is = record { stored = refl; reader = refl }
splicing_stays (Err y) e new v afterwards r less is = cc

answer_stays : {K : Type 0} (a : Asking) (e : Refusal) (new v : Stored K) (afterwards r : Reader) → (a ≡ Refused → ⊥) → nat_le r.most r.burst ≡ false → answer_to a new r ≡ Err e → Unchanged e new v afterwards r
answer_stays Nothing e new v afterwards r other less is = cc
answer_stays Bytes e new v afterwards r other less is = storing_stays (afforded new tt) e new v afterwards r is
answer_stays (Splice is_text) e new v afterwards r other less is = splicing_stays (checked new is_text) e new v afterwards r less is
answer_stays Refused e new v afterwards r other less is = absurd (other refl)

not_refused : {K : Type 0} (d : PendingAct) (v : Stored K) (r : Reader) → acts_by d ≡ true → asking d v r ≡ Refused → ⊥
not_refused pending_acts.Expanded v r acts is = cc
not_refused (pending_acts.Register signs.None) v r acts is = cc
not_refused (pending_acts.Register signs.Plus) v r acts is = cc
not_refused (pending_acts.Register signs.Minus) v r acts is = cc
not_refused d v r acts is = cc

no_lead : {K : Type 0} (d : PendingAct) (v : Stored K) (r : Reader) → acts_by d ≡ true → is_lead (act d v r).event ≡ false
no_lead (pending_acts.Lead n) v r acts = cc
no_lead pending_acts.Seek v r acts = seeks_no_lead (calls_of (meaning_in v r))
no_lead (pending_acts.Register signs.None) v r acts = refl
no_lead (pending_acts.Register signs.Plus) v r acts = refl
no_lead (pending_acts.Register signs.Minus) v r acts = refl
no_lead d v r acts = refl

looks_not : (d : PendingAct) → acts_by d ≡ true → is_look d ≡ false
looks_not pending_acts.Look acts = cc
looks_not d acts = refl

both : (a b : Bool) → (a && b) ≡ true → (a ≡ true) × (b ≡ true)
both true b is = (refl, is)
both false b is = cc

module _ {K : Type 0} (v w : Stored K) (r s : Reader) (may : may_act r ≡ true) where
  abbrev d : PendingAct
  d = r.half.reading.pending_act

  acts : acts_by d ≡ true
  acts = (both (acts_by d) (nat_lt r.burst r.most) may).0

  less : nat_le r.most r.burst ≡ false
  less = lt-leb r.most r.burst (ltb-true r.burst r.most (both (acts_by d) (nat_lt r.burst r.most) may).1)

  -- it is done
  pub pending_read : (e : Event) → called w s (Ok e) ≡ acted d v r → (c : Coming) (p : Reached) (supply : Option Supply) → HoldsComing c p supply → HasRead 1 (situation v c r) e w s p supply
  pending_read e is c p supply holds = done_read v w c r s e (looks_not d acts) is p supply holds

  pub pending_paid : (e : Event) → called w s (Ok e) ≡ acted d v r → (p : Reached) → PaysMany 1 v p r e w p s
  pending_paid e is p =
      let done_is = (acted-ok (answer d v r) (act d v r) v w r s e is).1 in
      let lead : is_lead e ≡ false = ap (λ (a : Acted K). is_lead a.event) done_is ∙ no_lead d v r acts in
      many_of_one v w p p r s e lead (act_begins_none v w r s (Ok e) is) (act_pays v w p r s e (λ look. let wrong : is_look d ≡ true = ap is_look look in cc) is)

  -- it is refused, and nothing has changed
  pub pending_left : (e : Refusal) → called w s (Err e) ≡ acted d v r → (w ≡ v) × (s ≡ r)
  pending_left e is =
      let a = act d v r in
      let stays = called-err (answer d v r) a.stored a.reader a.event v w r s e is in
      let same : Unchanged e a.stored v a.reader r = answer_stays (asking d v r) e a.stored v a.reader r (not_refused d v r acts) less stays.refused in
      (stays.stored ∙ same.stored, stays.reader ∙ same.reader)

-- ---- the end of a level

left_of-diversions : {K : Type 0} (text : List Element) (l : Reading K) (ls : List (Level K)) (v : Stored K) → diversions_in (left_of text l ls v).building ≡ diversions_in v.building
left_of-diversions [] l ls v = refl
left_of-diversions (x ∷ xs) l ls v = refl

left-diversions : {K : Type 0} (levels : List (Level K)) (v : Stored K) → diversions_in (left levels v).building ≡ diversions_in v.building
left-diversions [] v = refl
left-diversions (Read l ∷ ls) v = left_of-diversions l.rest l ls v
left-diversions (Mark mode ∷ ls) v = refl

burst_past-same : (t burst : ℕ) → burst_past t t burst ≡ burst
burst_past-same t burst = let same : (t == t) ≡ true = eq-eqb t t refl in rw same refl

module _ {K : Type 0} (v w : Stored K) (r : Reader) (pending_act : r.half.reading.pending_act ≡ pending_acts.Look) (is : shown v.levels ≡ shows.End) (store : w ≡ left v.levels v) where
  looks : is_look r.half.reading.pending_act ≡ true
  looks = rw pending_act refl

  -- it does nothing to what is half read
  passed_by_half : PaysFor next_items.Mark r.half r.half (record { event = events.Nothing; takes = true })
  passed_by_half = record { pays = omega arith; tells = refl }

  pub end_read : (c : Coming) (p : Reached) (supply : Option Supply) → HoldsComing c p supply → HasRead 1 (situation v c r) events.Nothing w r p supply
  end_read c p supply holds =
      let m = taken_moves v r c r.half events.Nothing p p next_items.Mark w (tells.Event events.Nothing) r.burst supply supply looks (sym (ap (λ (x : Shown K). next_item x c) is)) holds
      (subst (λ (x : Shown K). MayLook x c) (sym is) tt) (sym (take_in-mark r.half)) store (subst (λ (x : Shown K). HoldsComing (afterwards x c) p supply) (sym is) holds)
      (sym (burst_past-same p.taken r.burst)) (ap (λ (x : Shown K). emitted_of x events.Nothing) (sym is)) in
      moved_once (situation v c r) events.Nothing w r p supply m.0 m.1 m.2

  pub end_paid : (p : Reached) → PaysMany 1 v p r events.Nothing w p r
  end_paid p =
      many_of_one v w p p r r events.Nothing refl (let same = ap (λ (x : Stored K). diversions_in x.building) store ∙ left-diversions v.levels v in omega (arith, same))
      (look_takes v w p p p r next_items.Mark r.half (record { event = events.Nothing; takes = true }) r.burst (tells.Event events.Nothing) looks (record { taken = refl; inside = refl })
      (sym (ap (λ (x : Shown K). next_item_seen x p) is)) (λ look. passed_by_half) refl store (sym (ap (λ (x : Shown K). passed_in x p) is)) (sym (burst_past-same p.taken r.burst))
      (ap (λ (x : Shown K). emitted_of x events.Nothing) (sym is)))

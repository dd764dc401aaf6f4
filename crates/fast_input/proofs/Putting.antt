-- Bytes that are added one by one to what is stored, as moves of the machine that reads.
use Rattle.std.specs.Prelude.{slice_get}
use Rattle.std.proofs.Common.{◌≡◌, ℕ, zero, suc, ◌+◌, ◌*◌, ◌<◌, ◌≤◌, true, false, List, length, Option, Some, inl, inr, refl, ap, sym, ◌∙◌, subst, arith}
use Rattle.std.proofs.lemmas.Bool.{cases_lt, cond-false, le-ltb}
use Rattle.nr_units.specs.Source.{Supply}
use Rattle.nr_store.specs.Store.{Stored, charge_of}
use Rattle.nr_reading.specs.declared.event.Event.TheVariants as events
use Rattle.nr_reading.specs.declared.next_item.NextItem.{NextItem}
use Rattle.nr_reading.specs.declared.next_item.NextItem.TheVariants as next_items
use Rattle.nr_reading.specs.declared.half.Half.{Half}
use Rattle.nr_reading.specs.declared.mode.PendingAct.{PendingAct}
use Rattle.nr_reading.specs.declared.mode.PendingAct.TheVariants as pending_acts
use Rattle.nr_reading.specs.Half.{TakenIn, take_in}
use Rattle.nr_reading.specs.Many.Runs.{Spot, MayGoOn, afterwards, after_taken_in}
use Rattle.nr_input.specs.declared.reader.Reader.{Reader}
use Rattle.nr_input.specs.declared.emitted.Emitted.TheVariants as tells
use Rattle.nr_input.specs.Acting.{Acted, act, done, is_look, next, then_pending, idle}
use Rattle.nr_input.specs.Refusal.{answer, storing_by, storing_answer}
use Rattle.nr_input.specs.Place.{Coming, Reached}
use Rattle.nr_input.specs.Moving.{Situation, Move, Stands, situation, move, Goes, GoesBy}
use Rattle.fast_input.specs.Runs.{HasRead, moves, emitted_last}
use Rattle.fast_input.proofs.StretchMoves.{Goings}

-- ---- moves that tell nothing

-- such a move leads there
abbrev pub quiet : {K : Type 0} → Situation K → Move K
quiet s = record { situation = s; emitted = tells.Event events.Nothing }

-- n moves lead there, and none tells anything
pub record Quietly {K : Type 0} (n : ℕ) (s t : Situation K) : Type 0 where
  pub goes : (k : ℕ) → k < n → Goes (moves k s)
  pub silent : (k : ℕ) → k ≤ n → emitted_last k s ≡ tells.Event events.Nothing
  pub leads : moves n s ≡ t

silent_none : {K : Type 0} (k : ℕ) (s : Situation K) → k ≤ 0 → emitted_last k s ≡ tells.Event events.Nothing
silent_none zero s few = refl
silent_none (suc k) s few = absurd (omega (arith, few))

pub no_moves : {K : Type 0} (s : Situation K) → Quietly 0 s s
no_moves s = record { goes = λ k below. absurd (omega (arith, below)); silent = λ k few. silent_none k s few; leads = refl }

pub one_more : {K : Type 0} (n : ℕ) (s t u : Situation K) → Quietly n s t → Goes t → move t ≡ quiet u → Quietly (suc n) s u
one_more n s t u so_far goes is = record {
  goes = λ k below. elim (cases_lt k n) [
    | inl less ↦ so_far.goes k less
    | inr last ↦ let same : n ≡ k = omega (arith, below, last) in subst (λ j. Goes (moves j s)) same (subst Goes (sym so_far.leads) goes)
  ];
  silent = λ k within. elim (cases_lt n k) [
    | inl last ↦
        let same : suc n ≡ k = omega (arith, within, last) in
        subst (λ j. emitted_last j s ≡ tells.Event events.Nothing) same (ap (λ x. (move x).emitted) so_far.leads ∙ ap (λ m. m.emitted) is)
    | inr few ↦ so_far.silent k few
  ];
  leads = ap (λ x. (move x).situation) so_far.leads ∙ ap (λ m. m.situation) is;
}

pub has_read_quietly : {K : Type 0} (n : ℕ) (s t : Situation K) (v : Stored K) (r : Reader) (q : Reached) (supply : Option Supply) → Quietly n s t → Stands t v r q supply → HasRead n s events.Nothing v r q supply
has_read_quietly n s t v r q supply all stands = record {
  goes = all.goes;
  quiet = λ k below. all.silent k (omega (arith, below));
  tells = all.silent n (omega arith);
  stands = subst (λ x. Stands x v r q supply) (sym all.leads) stands;
}

-- ---- a byte that is to be added

-- what is pending adds to what is stored, and that is within the limit
pub record Adds {K : Type 0} (d : PendingAct) (w w' : Stored K) : Type 0 where
  pub waits : is_look d ≡ false
  pub acts : (r : Reader) → act d w (then_pending d r) ≡ done events.Nothing w' (idle (then_pending d r))
  pub answers : (r : Reader) → answer d w (then_pending d r) ≡ storing_answer w'
  pub fits : charge_of w' ≤ w'.limit

module _ {K : Type 0} (d : PendingAct) (w w' : Stored K) (c : Coming) (r : Reader) (adds : Adds d w w') where
  -- where it is pending
  abbrev pub before_put : Situation K
  before_put = situation w c (then_pending d r)

  pub goes_put : Goes before_put
  goes_put =
      subst (λ l. GoesBy l before_put) (sym adds.waits)
      (adds.answers r ∙ ap storing_by (cond-false _ _ _ (le-ltb w'.limit (charge_of w') adds.fits)))

  pub move-put : r.half.reading.pending_act ≡ pending_acts.Look → move before_put ≡ quiet (situation w' c r)
  move-put pending_act =
      cond-false (is_look d) _ _ adds.waits
      ∙ ap (λ (a : Acted K). record { situation = situation a.stored c a.reader; emitted = tells.Event a.event }) (adds.acts r)
      ∙ ap (λ (x : PendingAct). quiet (situation w' c (then_pending x r))) (sym pending_act)

-- ---- each byte is taken and added

abbrev pub twice : ℕ → ℕ
twice zero = zero
twice (suc n) = suc (suc (twice n))

pub twice-is : (n : ℕ) → twice n ≡ 2 * n
twice-is zero = refl
twice-is (suc n) = omega (arith, twice-is n)

-- after so many items of a stretch
abbrev pub spot_at : ℕ → Half → Spot
spot_at k h = record { taken = k; half = h; event = events.Nothing }

-- n bytes of a stretch can be added one after another, where so many were added
pub record Puttings {K : Type 0} (n : ℕ) (fs : List NextItem) (byte : ℕ → ℕ) (pending_act : ℕ → PendingAct) (h : Half) (at : ℕ → Spot → Situation K) : Type 0 where
  pub goings : (k : ℕ) → k < n → Goings fs (at k)
  pub takes_in : (k : ℕ) → k < n → take_in (next_items.Byte (byte k)) h ≡ record { half = next (pending_act k) h; event = events.Nothing; takes = true }
  pub next_items : (k : ℕ) → k < n → slice_get fs k ≡ Some (next_items.Byte (byte k))
  pub goes : (k : ℕ) → k < n → Goes (at k (spot_at (suc k) (next (pending_act k) h)))
  pub puts : (k : ℕ) → k < n → move (at k (spot_at (suc k) (next (pending_act k) h))) ≡ quiet (at (suc k) (spot_at (suc k) h))

module _ {K : Type 0} (n : ℕ) (fs : List NextItem) (byte : ℕ → ℕ) (pending_act : ℕ → PendingAct) (h : Half) (at : ℕ → Spot → Situation K) (looks : h.reading.pending_act ≡ pending_acts.Look) (within : n ≤ length fs) (each : Puttings n fs byte pending_act h at) where
  taken_in_there : (k : ℕ) → k < n → afterwards (slice_get fs k) (spot_at k h) ≡ spot_at (suc k) (next (pending_act k) h)
  taken_in_there k below =
      let more : k + 1 ≡ suc k = omega arith in
      ap (λ f. afterwards f (spot_at k h)) (each.next_items k below) ∙ ap (λ (m : TakenIn). after_taken_in m k) (each.takes_in k below) ∙ ap (λ j. spot_at j (next (pending_act k) h)) more

  taken_there : (k : ℕ) → k < n → MayGoOn fs (spot_at k h)
  taken_there k below = record { some = omega (arith, below, within); pending_act = looks; event = refl }

  takes : (k : ℕ) → (below : k < n) → move (at k (spot_at k h)) ≡ quiet (at k (spot_at (suc k) (next (pending_act k) h)))
  takes k below =
      (each.goings k below).leads (spot_at k h) (taken_there k below) ∙ ap (λ (x : Spot). record { situation = at k x; emitted = tells.Event x.event }) (taken_in_there k below)

  pub all_put : (k : ℕ) → k ≤ n → Quietly (twice k) (at 0 (spot_at 0 h)) (at k (spot_at k h))
  all_put zero few = no_moves (at 0 (spot_at 0 h))
  all_put (suc k) few =
      let taken = one_more (twice k) _ _ _ (all_put k (omega (arith, few))) ((each.goings k few).goes (spot_at k h) (taken_there k few)) (takes k few) in
      one_more (suc (twice k)) _ _ _ taken (each.goes k few) (each.puts k few)

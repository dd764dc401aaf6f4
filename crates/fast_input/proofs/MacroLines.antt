-- The arguments of a macro in a line of the source, part by part, as moves of the machine that reads and what they cost.
use Prim.Native.Char.{code}
use Rattle.std.specs.Prelude.{map, drop, take, slice_index, not}
use Rattle.std.proofs.Common.{◌≡◌, ◌==◌, ℕ, zero, suc, ◌+◌, ◌-◌, ◌*◌, ◌<◌, ◌≤◌, Bool, true, false, List, [], length, All, Option, Some, Ok, Err, inl, inr, refl, ap, ap₂, sym, ◌∙◌, subst, length-drop, arith}
use Rattle.std.proofs.lemmas.Bool.{cases_lt}
use Rattle.std.proofs.lemmas.List.{length-map, length-take, get_or-take, take-take, take_all}
use Rattle.nr_units.specs.Source.{Supply, Faults, Never, After, Anytime, MayGiveAll}
use Rattle.nr_store.specs.Store.{Stored, afforded, charge_of}
use Rattle.nr_reading.specs.declared.event.Event.{Event}
use Rattle.nr_reading.specs.declared.event.Event.TheVariants as events
use Rattle.nr_reading.specs.declared.next_item.NextItem.TheVariants as next_items
use Rattle.nr_reading.specs.declared.half.Half.{Half}
use Rattle.nr_reading.specs.declared.mode.PendingAct.{PendingAct}
use Rattle.nr_reading.specs.declared.mode.PendingAct.TheVariants as pending_acts
use Rattle.nr_reading.specs.Many.InArgument.{is_in_argument, ending_of, IsPlain}
use Rattle.nr_reading.specs.Many.Passing.{quiet}
use Rattle.nr_reading.specs.Many.Runs.{HasTakenIn}
use Rattle.nr_input.specs.declared.reader.Reader.{Reader}
use Rattle.nr_input.specs.declared.place.Ahead.TheVariants.{Unseen}
use Rattle.nr_input.specs.declared.refusal.Refusal.{Refusal}
use Rattle.fast_input.specs.declared.target.Target.TheVariants.{Argument}
use Rattle.nr_input.specs.Acting.{act, is_look}
use Rattle.nr_input.specs.Refusal.{called, acted, answer}
use Rattle.fast_input.specs.AtHand.{ComeNext}
use Rattle.nr_input.specs.Place.{Coming, Reached, HoldsComing, passed_run}
use Rattle.nr_input.specs.Limits.{limits_of}
use Rattle.fast_input.specs.MacroLines.{ReadsOn, reached_after}
use Rattle.nr_input.specs.Moving.{situation}
use Rattle.fast_input.specs.Runs.{HasRead, PaysAll, after_run, inside_after}
use Rattle.fast_input.specs.Target.{with_more}
use Rattle.nr_input.specs.Weights.{newline_left, diversions_in}
use Rattle.fast_input.proofs.ControlLines.{done_read, pays_then, pays_once, come_after, run_on, inside_on}
use Rattle.fast_input.proofs.Interpolated.{read_then, pays_nothing}
use Rattle.fast_input.proofs.LevelParts.{storing_stays}
use Rattle.nr_input.proofs.LimitsStay.{act_stays}
use Rattle.fast_input.proofs.LimitsStay.{with_more-limits}
use Rattle.fast_input.proofs.PuttingRead.{source_added, source_added_pays}
use Rattle.nr_input.proofs.Refusals.{called-ok, called-err}
use Rattle.fast_input.proofs.StretchMoves.{reads_nothing}
use Rattle.fast_input.proofs.StretchesRead.{after_none, source_looked, source_read, looked_pays, source_pays}
use Rattle.nr_input.proofs.Spending.{act_pays}
use Rattle.fast_input.proofs.Targets.{levels-with_more, nothing_added}

-- ---- after some bytes

-- the program before this input, with nothing read ahead
abbrev standing : Coming → Reached
standing c = record { ahead = Unseen; taken = c.taken; inside = c.inside }

stands_there : (c : Coming) → HoldsComing c (standing c) (Some c.supply)
stands_there c = record { taken = refl; inside = refl; stands = refl }

same_supply : (x y : Supply) → Some x ≡ Some y → x ≡ y
same_supply x y is = cc

-- it stands before no other
same_coming : (c d : Coming) → HoldsComing d (standing c) (Some c.supply) → c ≡ d
same_coming c d holds =
    ap (λ x. record { supply = x; taken = c.taken; inside = c.inside }) (same_supply c.supply d.supply holds.stands)
    ∙ ap (λ (n : ℕ). record { supply = d.supply; taken = n; inside = c.inside }) holds.taken
    ∙ ap (λ (b : Bool). record { supply = d.supply; taken = d.taken; inside = b }) holds.inside

-- after further bytes, if there are any
run_further : (t u : ℕ) (c : Coming) → after_run u (after_run t c) ≡ after_run (t + u) c
run_further t zero c = let same : t ≡ t + 0 = omega arith in after_none (after_run t c) ∙ ap (λ n. after_run n c) same
run_further t (suc u) c = run_on t (suc u) c (omega arith)

reached_further : (t u : ℕ) (bs : List ℕ) (p : Reached) → reached_after u (drop t bs) (reached_after t bs p) ≡ reached_after (t + u) bs p
reached_further t u bs p =
    let counts : p.taken + t + u ≡ p.taken + (t + u) = omega arith in
    ap₂ (λ (n : ℕ) (b : Bool). record { ahead = Unseen; taken = n; inside = b }) counts (inside_further t u bs p.inside)
  where
    inside_further : (t u : ℕ) (bs : List ℕ) (inside : Bool) → inside_after u (drop t bs) (inside_after t bs inside) ≡ inside_after (t + u) bs inside
    inside_further t zero bs inside = let same : t ≡ t + 0 = omega arith in ap (λ n. inside_after n bs inside) same
    inside_further t (suc u) bs inside = inside_on t (suc u) bs inside (omega arith)

-- where the program stands matters by how much was taken and by what the last byte was
pays_at : {K : Type 0} (n : ℕ) (v w : Stored K) (p q o : Reached) (r s : Reader) (e : Event) → q.taken ≡ o.taken → q.inside ≡ o.inside → PaysAll n v p r e w q s → PaysAll n v p r e w o s
pays_at n v w p q o r s e taken inside paid = record {
  limit = paid.limit;
  diversions = paid.diversions;
  most = paid.most;
  pays = λ worth enough. let all = paid.pays worth enough in omega (arith, all, ap newline_left inside, ap (λ k. worth * k) taken);
  tells = paid.tells;
}

-- ---- what is read after what was read

pub reads_then : {K : Type 0} (n m t u : ℕ) (bs : List ℕ) (v w x : Stored K) (r s q : Reader) → ReadsOn n t bs v r w s → ReadsOn m u (drop t bs) w s x q → ReadsOn (n + m) (t + u) bs v r x q
reads_then n m t u bs v w x r s q first more = record {
  within = let one = first.within in let two = more.within in omega (arith, one, two, length-drop t bs);
  levels = more.levels ∙ first.levels;
  burst = more.burst ∙ first.burst;
  limits = more.limits ∙ first.limits;
  reads = λ none still c p supply next holds.
      let d = after_run t c in
      read_then m n (situation v c r) events.Nothing w x s q (standing d) p (Some d.supply) supply
      (first.reads none still c (standing d) (Some d.supply) next (stands_there d))
      (λ o there.
      let same : d ≡ o = same_coming d o there in
      subst (λ (k : Coming). HasRead m (situation w k s) events.Nothing x q p supply) same
      (more.reads (first.levels ∙ none) (first.burst ∙ still) d p supply (come_after t bs c first.within next)
      (subst (λ (k : Coming). HoldsComing k p supply) (sym (run_further t u c)) holds)));
  pays = λ still p.
      let counts : m + n ≡ n + m = omega arith in
      subst (λ k. PaysAll k v p r events.Nothing x (reached_after (t + u) bs p) q) counts
      (subst (λ (o : Reached). PaysAll (m + n) v p r events.Nothing x o q) (reached_further t u bs p)
      (pays_then m n v w x p (reached_after t bs p) (reached_after u (drop t bs) (reached_after t bs p)) r s q events.Nothing (first.pays still p) (more.pays (first.burst ∙ still) (reached_after t bs p))));
}

-- the same, where that takes none of them
pub reads_still : {K : Type 0} (n m t : ℕ) (bs : List ℕ) (v w x : Stored K) (r s q : Reader) → ReadsOn n t bs v r w s → ReadsOn m 0 (drop t bs) w s x q → ReadsOn (n + m) t bs v r x q
reads_still n m t bs v w x r s q first more =
    let same : t + 0 ≡ t = omega arith in
    subst (λ k. ReadsOn (n + m) k bs v r x q) same (reads_then n m t 0 bs v w x r s q first more)

-- the bytes that are left, as the program has them
pub reads_rest : {K : Type 0} (n t u : ℕ) (bs : List ℕ) (v w : Stored K) (r s : Reader) → t ≤ length bs → ReadsOn n u (take (length bs - t) (drop t bs)) v r w s → ReadsOn n u (drop t bs) v r w s
reads_rest n t u bs v w r s few reads =
    let all : take (length bs - t) (drop t bs) ≡ drop t bs = take_all (length bs - t) (drop t bs) (omega (arith, length-drop t bs)) in
    subst (λ ys. ReadsOn n u ys v r w s) all reads

-- ---- no move

reached_none : (bs : List ℕ) (p : Reached) → p.taken ≡ (reached_after 0 bs p).taken
reached_none bs p = omega arith

pub reads_none : {K : Type 0} (bs : List ℕ) (v w : Stored K) (r s : Reader) → w ≡ v → s ≡ r → ReadsOn 0 0 bs v r w s
reads_none bs v w r s stored reader = record {
  within = omega arith;
  levels = ap (λ (x : Stored _). x.levels) stored;
  burst = ap (λ (q : Reader). q.burst) reader;
  limits = ap₂ (λ (x : Stored _) (q : Reader). limits_of x q) stored reader;
  reads = λ none still c p supply next holds.
      reads_nothing (situation v c r) w s p supply (record { stored = stored; reader = reader; coming = subst (λ (k : Coming). HoldsComing k p supply) (after_none c) holds });
  pays = λ still p. rw (stored, reader) (pays_at 0 v v p p (reached_after 0 bs p) r r events.Nothing (reached_none bs p) refl (pays_nothing v p r));
}

-- ---- bytes that are taken in

module _ {K : Type 0} (n t : ℕ) (bs : List ℕ) (v : Stored K) (r : Reader) (k : Half) (taken_in : HasTakenIn n (map next_items.Byte bs) r.half (quiet t k)) where
  taken_in_reads : v.levels ≡ [] → r.burst ≡ 0 → (c : Coming) (p : Reached) (supply : Option Supply) → ComeNext bs c → HoldsComing (after_run t c) p supply → HasRead n (situation v c r) events.Nothing v (record r { half = k }) p supply
  taken_in_reads none still c p supply next holds = elim (cases_lt 0 t) [
    | inl some ↦
        subst (λ (b : ℕ). HasRead n (situation v c r) events.Nothing v (record r { half = k; burst = b }) p supply) (sym still) (source_read v c r bs none next n (quiet t k) p supply some taken_in holds)
    | inr few ↦
        let zero_taken : t ≡ 0 = omega (arith, few) in
        source_looked v c r bs none next n (quiet t k) p supply zero_taken taken_in
        (subst (λ (d : Coming). HoldsComing d p supply) (ap (λ j. after_run j c) zero_taken ∙ after_none c) holds)
  ]

  inside_there : (t : ℕ) (p : Reached) → 0 < t → not (slice_index bs (t - 1) == code "\n") ≡ inside_after t bs p.inside
  inside_there zero p some = absurd (omega (arith, some))
  inside_there (suc j) p some = let same : suc j - 1 ≡ j = omega arith in ap (λ i. not (slice_index bs i == code "\n")) same

  taken_in_pays : r.burst ≡ 0 → (p : Reached) → PaysAll n v p r events.Nothing v (reached_after t bs p) (record r { half = k })
  taken_in_pays still p = elim (cases_lt 0 t) [
    | inl some ↦
        let last = slice_index bs (t - 1) in
        subst (λ (b : ℕ). PaysAll n v p r events.Nothing v (reached_after t bs p) (record r { half = k; burst = b })) (sym still)
        (pays_at n v v p (passed_run last t p) (reached_after t bs p) r (record r { half = k; burst = 0 }) events.Nothing refl (inside_there t p some)
        (source_pays n (map next_items.Byte bs) v p r (quiet t k) taken_in last (passed_run last t p) some refl))
    | inr few ↦
        let zero_taken : t ≡ 0 = omega (arith, few) in
        pays_at n v v p p (reached_after t bs p) r (record r { half = k }) events.Nothing (omega (arith, zero_taken)) (ap (λ j. inside_after j bs p.inside) (sym zero_taken))
        (looked_pays n (map next_items.Byte bs) v p r (quiet t k) taken_in zero_taken)
  ]

  pub reads_taken_in : ReadsOn n t bs v r v (record r { half = k })
  reads_taken_in = record {
    within = let inside = taken_in.within in omega (arith, inside, length-map bs next_items.Byte);
    levels = refl;
    burst = refl;
    limits = refl;
    reads = taken_in_reads;
    pays = taken_in_pays;
  }

-- ---- what is pending

-- it is done, and opens no level
module _ {K : Type 0} (bs : List ℕ) (v w : Stored K) (r s : Reader) (waits : is_look r.half.reading.pending_act ≡ false) (is : called w s (Ok events.Nothing) ≡ acted r.half.reading.pending_act v r)
    (levels : w.levels ≡ v.levels) (burst : s.burst ≡ r.burst) (diversions : diversions_in w.building ≡ diversions_in v.building) (limits : limits_of w s ≡ limits_of v r) where
  pub reads_pending : ReadsOn 1 0 bs v r w s
  reads_pending = record {
    within = omega arith;
    levels = levels;
    burst = burst;
    limits = limits;
    reads = λ none still c p supply next holds. done_read v w c r s events.Nothing waits is p supply (subst (λ (d : Coming). HoldsComing d p supply) (after_none c) holds);
    pays = λ still p.
        pays_at 1 v w p p (reached_after 0 bs p) r s events.Nothing (reached_none bs p) refl
        (pays_once v w p p r s events.Nothing refl diversions (act_pays v w p r s events.Nothing (λ look. let wrong : true ≡ false = sym (ap is_look look) ∙ waits in cc) is));
  }

module _ {K : Type 0} (bs : List ℕ) (v w : Stored K) (r s : Reader) where
  -- a byte is added to the argument
  module _ (b : ℕ) (pending_act : r.half.reading.pending_act ≡ pending_acts.Put b) where
    pub put_reads : (e : Event) → called w s (Ok e) ≡ acted (pending_acts.Put b) v r → ReadsOn 1 0 bs v r w s
    put_reads e is =
        let a = act (pending_acts.Put b) v r in
        let leads = called-ok (answer (pending_acts.Put b) v r) a.stored a.reader a.event v w r s e is in
        let quietly : called w s (Ok events.Nothing) ≡ acted (pending_acts.Put b) v r = subst (λ (x : Event). called w s (Ok x) ≡ acted (pending_acts.Put b) v r) leads.answer is in
        reads_pending bs v w r s (ap is_look pending_act) (subst (λ (d : PendingAct). called w s (Ok events.Nothing) ≡ acted d v r) (sym pending_act) quietly)
        (ap (λ (x : Stored K). x.levels) leads.stored) (ap (λ (x : Reader). x.burst) leads.reader) (ap (λ (x : Stored K). diversions_in x.building) leads.stored) (act_stays v w r s (pending_acts.Put b) (Ok e) is)

    -- it finds no room
    pub put_left : (e : Refusal) → called w s (Err e) ≡ acted (pending_acts.Put b) v r → ReadsOn 0 0 bs v r w s
    put_left e is =
        let a = act (pending_acts.Put b) v r in
        let stays = called-err (answer (pending_acts.Put b) v r) a.stored a.reader a.event v w r s e is in
        let same = storing_stays (afforded a.stored tt) e a.stored v a.reader r stays.refused in
        reads_none bs v w r s (stays.stored ∙ same.stored) (stays.reader ∙ same.reader)

  -- the argument ends
  pub end_reads : r.half.reading.pending_act ≡ pending_acts.EndArgument → called w s (Ok events.Nothing) ≡ acted pending_acts.EndArgument v r → ReadsOn 1 0 bs v r w s
  end_reads pending_act is =
      let a = act pending_acts.EndArgument v r in
      let leads = called-ok (answer pending_acts.EndArgument v r) a.stored a.reader a.event v w r s events.Nothing is in
      reads_pending bs v w r s (ap is_look pending_act) (subst (λ (d : PendingAct). called w s (Ok events.Nothing) ≡ acted d v r) (sym pending_act) is)
      (ap (λ (x : Stored K). x.levels) leads.stored) (ap (λ (x : Reader). x.burst) leads.reader) (ap (λ (x : Stored K). diversions_in x.building) leads.stored) (act_stays v w r s pending_acts.EndArgument (Ok events.Nothing) is)

-- ---- bytes that are added

module _ {K : Type 0} (n : ℕ) (bs : List ℕ) (v w : Stored K) (r : Reader) (argument : is_in_argument r.half ≡ true) (within : n ≤ length bs)
    (plain : All (IsPlain (ending_of r.half.reading.mode)) (take n bs)) (added : w ≡ with_more Argument (take n bs) v) (fits : charge_of w ≤ w.limit) where
  some_added : 0 < n → ReadsOn (2 * n) n bs v r w r
  some_added some = record {
    within = within;
    levels = ap (λ (x : Stored K). x.levels) added ∙ levels-with_more Argument (take n bs) v;
    burst = refl;
    limits = ap (λ (x : Stored K). limits_of x r) added ∙ with_more-limits Argument (take n bs) v r;
    reads = λ none still c p supply next holds.
        subst (λ (b : ℕ). HasRead (2 * n) (situation v c r) events.Nothing w (record r { burst = b }) p supply) (sym still)
        (source_added Argument n v w c r bs none next argument within plain added fits p supply some holds);
    pays = λ still p.
        let last = slice_index bs (n - 1) in
        subst (λ (b : ℕ). PaysAll (2 * n) v p r events.Nothing w (reached_after n bs p) (record r { burst = b })) (sym still)
        (pays_at (2 * n) v w p (passed_run last n p) (reached_after n bs p) r (record r { burst = 0 }) events.Nothing refl (inside_at n p some)
        (source_added_pays Argument n last (take n bs) v w p (passed_run last n p) r some added refl));
  }
    where
      inside_at : (n : ℕ) (p : Reached) → 0 < n → not (slice_index bs (n - 1) == code "\n") ≡ inside_after n bs p.inside
      inside_at zero p some = absurd (omega (arith, some))
      inside_at (suc j) p some = let same : suc j - 1 ≡ j = omega arith in ap (λ i. not (slice_index bs i == code "\n")) same

  pub reads_added : ReadsOn (2 * n) n bs v r w r
  reads_added = elim (cases_lt 0 n) [
    | inl some ↦ some_added some
    | inr few ↦
        let none : n ≡ 0 = omega (arith, few) in
        subst (λ k. ReadsOn (2 * k) k bs v r w r) (sym none) (reads_none bs v w r r (nothing_added Argument n bs v w none added) refl)
  ]

-- ---- all of it

may_give_fewer : (n m : ℕ) (f : Faults) → n ≤ m → MayGiveAll m f → MayGiveAll n f
may_give_fewer n m Never less may = tt
may_give_fewer n m (After k) less may = omega (arith, less, may)
may_give_fewer n m Anytime less may = tt

all_of_prefix : (k : ℕ) (bs : List ℕ) → take (length (take k bs)) bs ≡ take k bs
all_of_prefix k bs = elim (cases_lt k (length bs)) [
  | inl less ↦ let same : length (take k bs) ≡ k = omega (arith, less, length-take k bs) in ap (λ n. take n bs) same
  | inr all ↦ take_all (length (take k bs)) bs (omega (arith, all, length-take k bs)) ∙ sym (take_all k bs (omega (arith, all)))
]

-- the first of the bytes that come next
come_prefix : (k : ℕ) (bs : List ℕ) (c : Coming) → ComeNext bs c → ComeNext (take k bs) c
come_prefix k bs c next =
    let few : length (take k bs) ≤ length bs = omega (arith, length-take k bs) in
    record {
      bytes = sym (take-take (length (take k bs)) (length bs) c.supply.bytes few) ∙ ap (take (length (take k bs))) next.bytes ∙ all_of_prefix k bs;
      faults = may_give_fewer (length (take k bs)) (length bs) c.supply.faults few next.faults;
      few = omega (arith, few, next.few);
    }

-- With nothing spliced since the last byte the first of these bytes are read.
module _ {K : Type 0} (n t k : ℕ) (bs : List ℕ) (v w : Stored K) (r s : Reader) (still : r.burst ≡ 0) (reads : ReadsOn n t (take k bs) v r w s) where
  pub taken_within : t ≤ length bs
  taken_within = let inside = reads.within in omega (arith, inside, length-take k bs)

  pub none_read : v.levels ≡ [] → t ≡ 0 → (c : Coming) (p : Reached) (supply : Option Supply) → ComeNext bs c → HoldsComing c p supply → HasRead n (situation v c r) events.Nothing w s p supply
  none_read none zero_taken c p supply next holds =
      reads.reads none still c p supply (come_prefix k bs c next) (subst (λ (d : Coming). HoldsComing d p supply) (sym (ap (λ j. after_run j c) zero_taken ∙ after_none c)) holds)

  pub none_paid : t ≡ 0 → (p : Reached) → PaysAll n v p r events.Nothing w p s
  none_paid zero_taken p =
      pays_at n v w p (reached_after t (take k bs) p) p r s events.Nothing (omega (arith, zero_taken)) (ap (λ j. inside_after j (take k bs) p.inside) zero_taken) (reads.pays still p)

  pub line_read : v.levels ≡ [] → (c : Coming) (p : Reached) (supply : Option Supply) → ComeNext bs c → HoldsComing (after_run t c) p supply → HasRead n (situation v c r) events.Nothing w s p supply
  line_read none c p supply next holds = reads.reads none still c p supply (come_prefix k bs c next) holds

  inside_of : (t : ℕ) (p : Reached) → 0 < t → t ≤ length (take k bs) → inside_after t (take k bs) p.inside ≡ not (slice_index bs (t - 1) == code "\n")
  inside_of zero p some few = absurd (omega (arith, some))
  inside_of (suc j) p some few =
      let same : suc j - 1 ≡ j = omega arith in
      let below : j < k = omega (arith, few, length-take k bs) in
      ap (λ b. not (b == code "\n")) (get_or-take k bs j 0 below) ∙ ap (λ i. not (slice_index bs i == code "\n")) (sym same)

  pub line_paid : 0 < t → (p q : Reached) → q ≡ passed_run (slice_index bs (t - 1)) t p → PaysAll n v p r events.Nothing w q s
  line_paid some p q is =
      let last = slice_index bs (t - 1) in
      subst (λ (o : Reached). PaysAll n v p r events.Nothing w o s) (sym is)
      (pays_at n v w p (reached_after t (take k bs) p) (passed_run last t p) r s events.Nothing refl (inside_of t p some reads.within) (reads.pays still p))

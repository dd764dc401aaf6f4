-- A control line of the source: its name, what it calls, and the line of a request, as moves of the machine that reads.
use Prim.Native.Char.{code}
use Rattle.std.specs.Prelude.{map, drop, not, ◌⊎◌}
use Rattle.std.proofs.Common.{◌≡◌, ℕ, zero, suc, ◌+◌, ◌-◌, ◌<◌, ◌≤◌, ◌==◌, Bool, false, List, [], length, take, Option, Ok, Result, inl, inr, refl, ap, ap₂, sym, ◌∙◌, subst, length-drop, arith}
use Rattle.std.proofs.lemmas.Bool.{cases_lt}
use Rattle.std.proofs.lemmas.List.{get_or-drop, drop-drop, drop-take}
use Rattle.nr_units.specs.Source.{Supply, Faults, Never, After, Anytime, MayGiveAll, later}
use Rattle.nr_store.specs.Store.{Stored}
use Rattle.nr_store.specs.declared.named.Meaning.{Meaning}
use Rattle.nr_store.specs.declared.named.Meaning.TheVariants as meanings
use Rattle.nr_reading.specs.declared.event.Event.{Event}
use Rattle.nr_reading.specs.declared.event.Event.TheVariants as events
use Rattle.nr_reading.specs.declared.next_item.NextItem.{NextItem}
use Rattle.nr_reading.specs.declared.next_item.NextItem.TheVariants as next_items
use Rattle.nr_reading.specs.declared.half.Half.{Half}
use Rattle.nr_reading.specs.declared.mode.Calls.{Calls}
use Rattle.nr_reading.specs.declared.mode.Calls.TheVariants as calls
use Rattle.nr_reading.specs.declared.mode.PendingAct.TheVariants as pending_acts
use Rattle.nr_reading.specs.Many.Passing.{quiet}
use Rattle.nr_reading.specs.declared.many.runs.Run.{Run}
use Rattle.nr_reading.specs.Many.Runs.{Spot, HasTakenIn, spot, spot_after}
use Rattle.nr_reading.specs.Seeking.{sought_event}
use Rattle.nr_reading.specs.Weights.{is_lead}
use Rattle.nr_input.specs.declared.reader.Reader.{Reader}
use Rattle.nr_input.specs.declared.refusal.Refusal.{Refusal}
use Rattle.nr_input.specs.declared.emitted.Emitted.TheVariants as tells
use Rattle.nr_input.specs.Acting.{Acted, act, done, meaning_in, after_meaning, calls_of, is_look}
use Rattle.nr_input.specs.Refusal.{Called, called, acted, answer}
use Rattle.fast_input.specs.AtHand.{ComeNext}
use Rattle.nr_input.specs.Place.{Coming, Reached, HoldsComing, passed_run}
use Rattle.nr_input.specs.Moving.{Situation, Stands, situation, move, Goes, GoesBy, burst_past}
use Rattle.fast_input.specs.Runs.{HasRead, PaysAll, moves, emitted_last, after_run, inside_after}
use Rattle.nr_input.specs.Weights.{Pays, byte_worth, diversions_in}
use Rattle.fast_input.proofs.Putting.{Quietly}
use Rattle.nr_input.proofs.Refusals.{acted-ok}
use Rattle.fast_input.proofs.StretchMoves.{Goings, at_source, source_goings, moves-stretch, goes-stretch, emitted-stretch, quiet-stretch}
use Rattle.fast_input.proofs.StretchesRead.{begins_there, source_looked, source_read, source_pays, looked_pays, burst_some, some_taken}
use Rattle.nr_input.proofs.Spending.{act_pays}

-- ---- moves after moves that tell nothing

moves_add : {K : Type 0} (m n : ℕ) (s : Situation K) → moves (m + n) s ≡ moves m (moves n s)
moves_add zero n s = let none : 0 + n ≡ n = omega arith in ap (λ k. moves k s) none
moves_add (suc m) n s =
    let next : suc m + n ≡ suc (m + n) = omega arith in
    ap (λ k. moves k s) next ∙ ap (λ t. (move t).situation) (moves_add m n s)

emitted_add : {K : Type 0} (m n : ℕ) (s : Situation K) → emitted_last (suc m + n) s ≡ emitted_last (suc m) (moves n s)
emitted_add m n s =
    let next : suc m + n ≡ suc (m + n) = omega arith in
    ap (λ k. emitted_last k s) next ∙ ap (λ t. (move t).emitted) (moves_add m n s)

pub then_read : {K : Type 0} (m n : ℕ) (s t : Situation K) (e : Event) (v : Stored K) (r : Reader) (q : Reached) (supply : Option Supply) → Quietly n s t → HasRead m t e v r q supply → HasRead (m + n) s e v r q supply
then_read m n s t e v r q supply all read = record {
  goes = λ k below. elim (cases_lt k n) [
    | inl less ↦ all.goes k less
    | inr past ↦
        let same : k - n + n ≡ k = omega (arith, past) in
        subst (λ j. Goes (moves j s)) same
        (subst Goes (sym (moves_add (k - n) n s ∙ ap (moves (k - n)) all.leads)) (read.goes (k - n) (omega (arith, below, past))))
  ];
  quiet = λ k below. elim (cases_lt n k) [
    | inl past ↦
        let same : suc (k - n - 1) + n ≡ k = omega (arith, past) in
        let some : suc (k - n - 1) < m = omega (arith, past, below) in
        ap (λ j. emitted_last j s) (sym same) ∙ emitted_add (k - n - 1) n s ∙ ap (emitted_last (suc (k - n - 1))) all.leads ∙ read.quiet (suc (k - n - 1)) some
    | inr few ↦ all.silent k few
  ];
  tells = last m read.tells;
  stands = subst (λ x. Stands x v r q supply) (sym (moves_add m n s ∙ ap (moves m) all.leads)) read.stands;
}
  where
    last : (m : ℕ) → emitted_last m t ≡ tells.Event e → emitted_last (m + n) s ≡ tells.Event e
    last zero tells = let none : n ≡ 0 + n = omega arith in ap (λ k. emitted_last k s) (sym none) ∙ all.silent n (omega arith) ∙ tells
    last (suc m) tells = emitted_add m n s ∙ ap (emitted_last (suc m)) all.leads ∙ tells

-- a stretch that tells nothing
stretch_quietly : {K : Type 0} (n taken : ℕ) (fs : List NextItem) (h k : Half) (at : Spot → Situation K) → Goings fs at → HasTakenIn n fs h (quiet taken k) → Quietly n (at (spot_after 0 fs h)) (at (quiet taken k))
stretch_quietly n taken fs h k at g taken_in = record {
  goes = λ j below. goes-stretch j n fs h at below g taken_in.goes;
  silent = λ j within. elim (cases_lt j n) [
    | inl below ↦ quiet-stretch j n fs h at below g taken_in.goes
    | inr last ↦
        let same : n ≡ j = omega (arith, within, last) in
        ap (λ i. emitted_last i (at (spot_after 0 fs h))) (sym same) ∙ emitted-stretch n fs h at g taken_in.goes ∙ ap (λ (p : Spot). tells.Event p.event) taken_in.leads
  ];
  leads = moves-stretch n fs h at g taken_in.goes ∙ ap at taken_in.leads;
}

-- ---- what is pending is done

module _ {K : Type 0} (v w : Stored K) (c : Coming) (r s : Reader) (e : Event) (waits : is_look r.half.reading.pending_act ≡ false) (is : called w s (Ok e) ≡ acted r.half.reading.pending_act v r) where
  abbrev there : Situation K
  there = situation v c r

  all_done : (answer r.half.reading.pending_act v r ≡ Ok tt) × (done e w s ≡ act r.half.reading.pending_act v r)
  all_done = acted-ok (answer r.half.reading.pending_act v r) (act r.half.reading.pending_act v r) v w r s e is

  done_there : move there ≡ record { situation = situation w c s; emitted = tells.Event e }
  done_there = rw waits (ap (λ (a : Acted K). record { situation = situation a.stored c a.reader; emitted = tells.Event a.event }) (sym all_done.1))

  goes_there : Goes there
  goes_there = subst (λ l. GoesBy l there) (sym waits) all_done.0

  -- as a move that tells nothing, and as one that may tell something
  pub done_quietly : e ≡ events.Nothing → Quietly 1 there (situation w c s)
  done_quietly none = record {
    goes = λ k below. let first : 0 ≡ k = omega (arith, below) in subst (λ j. Goes (moves j there)) first goes_there;
    silent = λ k within. silent k within;
    leads = ap (λ m. m.situation) done_there;
  }
    where
      silent : (k : ℕ) → k ≤ 1 → emitted_last k there ≡ tells.Event events.Nothing
      silent zero within = refl
      silent (suc zero) within = ap (λ m. m.emitted) done_there ∙ ap tells.Event none
      silent (suc (suc k)) within = absurd (omega (arith, within))

  pub done_read : (q : Reached) (supply : Option Supply) → HoldsComing c q supply → HasRead 1 there e w s q supply
  done_read q supply holds = record {
    goes = λ k below. let first : 0 ≡ k = omega (arith, below) in subst (λ j. Goes (moves j there)) first goes_there;
    quiet = λ k below. let first : 0 ≡ k = omega (arith, below) in subst (λ j. emitted_last j there ≡ tells.Event events.Nothing) first refl;
    tells = ap (λ m. m.emitted) done_there;
    stands = subst (λ x. Stands x w s q supply) (sym (ap (λ m. m.situation) done_there)) (record { stored = refl; reader = refl; coming = holds });
  }

pub quietly_add : {K : Type 0} (m n : ℕ) (s t u : Situation K) → Quietly n s t → Quietly m t u → Quietly (m + n) s u
quietly_add m n s t u all more = record {
  goes = λ k below. elim (cases_lt k n) [
    | inl less ↦ all.goes k less
    | inr past ↦
        let same : k - n + n ≡ k = omega (arith, past) in
        subst (λ j. Goes (moves j s)) same
        (subst Goes (sym (moves_add (k - n) n s ∙ ap (moves (k - n)) all.leads)) (more.goes (k - n) (omega (arith, below, past))))
  ];
  silent = λ k within. elim (cases_lt n k) [
    | inl past ↦
        let same : suc (k - n - 1) + n ≡ k = omega (arith, past) in
        let few : suc (k - n - 1) ≤ m = omega (arith, past, within) in
        ap (λ j. emitted_last j s) (sym same) ∙ emitted_add (k - n - 1) n s ∙ ap (emitted_last (suc (k - n - 1))) all.leads ∙ more.silent (suc (k - n - 1)) few
    | inr few ↦ all.silent k few
  ];
  leads = moves_add m n s ∙ ap (moves m) all.leads ∙ more.leads;
}

-- ---- what they cost

pub pays_then : {K : Type 0} (m n : ℕ) (v w x : Stored K) (p q o : Reached) (r s t : Reader) (e : Event) → PaysAll n v p r events.Nothing w q s → PaysAll m w q s e x o t → PaysAll (m + n) v p r e x o t
pays_then m n v w x p q o r s t e first more = record {
  limit = more.limit ∙ first.limit;
  diversions = more.diversions ∙ first.diversions;
  most = more.most ∙ first.most;
  pays = λ worth enough.
      let same : byte_worth s.most w.limit ≡ byte_worth r.most v.limit = ap₂ byte_worth first.most first.limit in
      let one = first.pays worth enough in
      let two = more.pays worth (subst (λ k. k ≤ worth) (sym same) enough) in
      omega (arith, one, two);
  tells = more.tells;
}

-- one move
pub pays_once : {K : Type 0} (v w : Stored K) (p q : Reached) (r s : Reader) (e : Event) → is_lead e ≡ false → diversions_in w.building ≡ diversions_in v.building → Pays v p r (tells.Event e) w q s → PaysAll 1 v p r e w q s
pays_once v w p q r s e lead diversions pays = record {
  limit = pays.limit;
  diversions = diversions;
  most = pays.most;
  pays = λ worth enough. let paid = pays.pays worth enough in omega (arith, paid);
  tells = lead;
}

-- ---- the name is looked up

pub seeks_no_lead : (c : Calls) → is_lead (sought_event c) ≡ false
seeks_no_lead calls.Title = refl
seeks_no_lead c = refl

builds_the_same : {K : Type 0} (m : Meaning) (v : Stored K) → (after_meaning m v).building ≡ v.building
builds_the_same meanings.Text v = refl
builds_the_same m v = refl

module _ {K : Type 0} (v w : Stored K) (r s : Reader) (e : Event) (pending_act : r.half.reading.pending_act ≡ pending_acts.Seek) (is : called w s (Ok e) ≡ acted pending_acts.Seek v r) where
  pub seeks : called w s (Ok e) ≡ acted r.half.reading.pending_act v r
  seeks = rw pending_act is

  pub waits : is_look r.half.reading.pending_act ≡ false
  waits = rw pending_act refl

  stored_is : w ≡ after_meaning (meaning_in v r) v
  stored_is = ap (λ (a : Called K (Result Event Refusal)). a.stored) is

  same_emitted : (x y : Result Event Refusal) (a b : Event) → x ≡ Ok a → y ≡ Ok b → x ≡ y → a ≡ b
  same_emitted x y a b left right both = cc

  pub seek_pays : (q : Reached) → PaysAll 1 v q r e w q s
  seek_pays q =
      let emitted : e ≡ sought_event (calls_of (meaning_in v r)) = same_emitted (called w s (Ok e)).answer (acted pending_acts.Seek v r).answer e (sought_event (calls_of (meaning_in v r))) refl refl (ap (λ (a : Called K (Result Event Refusal)). a.answer) is) in
      pays_once v w q q r s e (ap is_lead emitted ∙ seeks_no_lead (calls_of (meaning_in v r)))
      (ap (λ (x : Stored K). diversions_in x.building) stored_is ∙ ap diversions_in (builds_the_same (meaning_in v r) v))
      (act_pays v w q r s e (λ look. let wrong : pending_acts.Look ≡ pending_acts.Seek = sym look ∙ pending_act in cc) seeks)

-- ---- the bytes after the name

-- so many calls on, and then more of them
later_on : (t n : ℕ) (f : Faults) → later n (later t f) ≡ later (t + n) f
later_on t n Never = refl
later_on t n (After m) = let counts : m - t - n ≡ m - (t + n) = omega arith in ap After counts
later_on t n Anytime = refl

-- no call for the other bytes fails
may_give_after : (t n m : ℕ) (f : Faults) → t + n ≤ m → MayGiveAll m f → MayGiveAll n (later t f)
may_give_after t n m Never less h = tt
may_give_after t n m (After k) less h = omega (arith, less, h)
may_give_after t n m Anytime less h = tt

-- the other bytes come next after the first t
pub come_after : (t : ℕ) (bs : List ℕ) (c : Coming) → t ≤ length bs → ComeNext bs c → ComeNext (drop t bs) (after_run t c)
come_after t bs c less next =
    let xs = c.supply.bytes in
    let left : length (drop t bs) ≡ length bs - t = length-drop t bs in
    let all : t + (length bs - t) ≡ length bs = omega (arith, less) in
    record {
      bytes = ap (λ k. take k (drop t xs)) left ∙ sym (drop-take t (length bs - t) xs) ∙ ap (λ k. drop t (take k xs)) all ∙ ap (drop t) next.bytes;
      faults = may_give_after t (length (drop t bs)) (length bs) c.supply.faults (omega (arith, left, less)) next.faults;
      few = omega (arith, left, less, next.few);
    }

-- after more bytes
pub inside_on : (t n : ℕ) (bs : List ℕ) (inside : Bool) → 0 < n → inside_after n (drop t bs) (inside_after t bs inside) ≡ inside_after (t + n) bs inside
inside_on t zero bs inside some = absurd (omega (arith, some))
inside_on t (suc n) bs inside some =
    let next : suc (t + n) ≡ t + suc n = omega arith in
    ap (λ b. not (b == code "\n")) (get_or-drop t bs n 0) ∙ ap (λ k. inside_after k bs inside) next

pub run_on : (t n : ℕ) (c : Coming) → 0 < n → after_run n (after_run t c) ≡ after_run (t + n) c
run_on t n c some =
    let taken : c.taken + t + n ≡ c.taken + (t + n) = omega arith in
    let whole = after_run (t + n) c in
    ap (λ bs. record { supply = record { bytes = bs; faults = later n (later t c.supply.faults) }; taken = c.taken + t + n; inside = inside_after n (drop t c.supply.bytes) (inside_after t c.supply.bytes c.inside) }) (drop-drop n t c.supply.bytes)
    ∙ ap (λ f. record { supply = record { bytes = drop (t + n) c.supply.bytes; faults = f }; taken = c.taken + t + n; inside = inside_after n (drop t c.supply.bytes) (inside_after t c.supply.bytes c.inside) }) (later_on t n c.supply.faults)
    ∙ ap (λ k. record whole { taken = k; inside = inside_after n (drop t c.supply.bytes) (inside_after t c.supply.bytes c.inside) }) taken
    ∙ ap (λ i. record whole { inside = i }) (inside_on t n c.supply.bytes c.inside some)

passed_on : (t n a b : ℕ) (p : Reached) → passed_run b n (passed_run a t p) ≡ passed_run b (t + n) p
passed_on t n a b p = let counts : p.taken + t + n ≡ p.taken + (t + n) = omega arith in ap (λ k. record (passed_run b n p) { taken = k }) counts

-- nothing was emitted, or something
silent_or : (e : Event) → (e ≡ events.Nothing) ⊎ (e ≡ events.Nothing → ⊥)
silent_or events.Nothing = inl refl
silent_or e = inr (λ is. let wrong : ⊥ = cc in wrong)

-- ---- all of it

-- After the m moves and t bytes of a name a move that tells e leads to w and r2, and then so many moves over the other bytes on.
module _ {K : Type 0} (v w : Stored K) (r r2 : Reader) (bs : List ℕ) (m t : ℕ) (h1 : Half) (e : Event) (name : HasTakenIn m (map next_items.Byte bs) r.half (quiet t h1)) (many : 0 < t) (pending_act : h1.reading.pending_act ≡ pending_acts.Seek) where
  abbrev named : Reader
  named = record r { half = h1; burst = 0 }

  none_more : (k : ℕ) → k ≡ 0 → t + k ≡ t
  none_more k none = omega (arith, none)

  module _ (seek : called w r2 (Ok e) ≡ acted pending_acts.Seek v named) where
    burst_is : r2.burst ≡ 0
    burst_is = ap (λ (a : Called K (Result Event Refusal)). a.reader.burst) seek

    act_is : called w r2 (Ok e) ≡ acted h1.reading.pending_act v named
    act_is = seeks v w named r2 e pending_act seek

    -- ---- what they cost

    name_paid : (last : ℕ) (q : Reached) → PaysAll (1 + m) v q r e w (passed_run last t q) r2
    name_paid last q =
        let there = passed_run last t q in
        pays_then 1 m v v w q there there r named r2 e
        (source_pays m (map next_items.Byte bs) v q r (quiet t h1) name last there many refl)
        (seek_pays v w named r2 e pending_act seek there)

    silently_paid : (last : ℕ) (q : Reached) → e ≡ events.Nothing → PaysAll (1 + m) v q r events.Nothing w (passed_run last t q) r2
    silently_paid last q silent = subst (λ (x : Event). PaysAll (1 + m) v q r x w (passed_run last t q) r2) silent (name_paid last q)

    line_paid : (n last : ℕ) (p : Spot) (q q' : Reached) → e ≡ events.Nothing → HasTakenIn n (map next_items.Byte (drop t bs)) r2.half p → 0 < p.taken
        → q' ≡ passed_run last (t + p.taken) q → PaysAll (n + (1 + m)) v q r p.event w q' (record r2 { half = p.half })
    line_paid n last p q q' silent taken_in some is =
        let there = passed_run last t q in
        let afterwards : Reader = record r2 { half = p.half; burst = 0 } in
        let line : PaysAll n w there r2 p.event w q' afterwards = source_pays n (map next_items.Byte (drop t bs)) w there r2 p taken_in last q' some (is ∙ sym (passed_on t p.taken last last q)) in
        subst (λ (b : ℕ). PaysAll (n + (1 + m)) v q r p.event w q' (record r2 { half = p.half; burst = b })) (sym burst_is)
        (pays_then n (1 + m) v w w q there q' r r2 afterwards p.event (silently_paid last q silent) line)

    looked_paid : (n last : ℕ) (p : Spot) (q q' : Reached) → e ≡ events.Nothing → HasTakenIn n (map next_items.Byte (drop t bs)) r2.half p → p.taken ≡ 0
        → q' ≡ passed_run last t q → PaysAll (n + (1 + m)) v q r p.event w q' (record r2 { half = p.half })
    looked_paid n last p q q' silent taken_in none is =
        let there = passed_run last t q in
        subst (λ (x : Reached). PaysAll (n + (1 + m)) v q r p.event w x (record r2 { half = p.half })) (sym is)
        (pays_then n (1 + m) v w w q there there r r2 (record r2 { half = p.half }) p.event (silently_paid last q silent)
        (looked_pays n (map next_items.Byte (drop t bs)) w there r2 p taken_in none))

    -- whatever was emitted of the name
    pub all_paid : (line : Run) (h3 : Half) → (e ≡ events.Nothing → HasTakenIn line.moves (map next_items.Byte (drop t bs)) r2.half (spot line h3)) → ((e ≡ events.Nothing → ⊥) → h3 ≡ r2.half)
        → ((e ≡ events.Nothing → ⊥) → line ≡ record { taken = 0; moves = 0; event = e }) → (last : ℕ) (q q' : Reached) → q' ≡ passed_run last (t + line.taken) q → PaysAll (m + 1 + line.moves) v q r line.event w q' (record r2 { half = h3 })
    all_paid line h3 taken_in left none last q q' is = elim (silent_or e) [
      | inl silent ↦
          let count : line.moves + (1 + m) ≡ m + 1 + line.moves = omega arith in
          subst (λ n. PaysAll n v q r line.event w q' (record r2 { half = h3 })) count
          (elim (cases_lt 0 line.taken) [
            | inl some ↦ line_paid line.moves last (spot line h3) q q' silent (taken_in silent) some is
            | inr few ↦
                let zero_taken : line.taken ≡ 0 = omega (arith, few) in
                looked_paid line.moves last (spot line h3) q q' silent (taken_in silent) zero_taken (is ∙ ap (λ k. passed_run last k q) (none_more line.taken zero_taken))
          ])
      | inr other ↦
          let nothing : line ≡ record { taken = 0; moves = 0; event = e } = none other in
          let there : q' ≡ passed_run last t q = is ∙ ap (λ k. passed_run last k q) (none_more line.taken (ap (λ (l : Run). l.taken) nothing)) in
          let count : 1 + m ≡ m + 1 + 0 = omega arith in
          subst (λ (l : Run). PaysAll (m + 1 + l.moves) v q r l.event w q' (record r2 { half = h3 })) (sym nothing)
          (subst (λ n. PaysAll n v q r e w q' (record r2 { half = h3 })) count
          (subst (λ (h : Half). PaysAll (1 + m) v q r e w q' (record r2 { half = h })) (sym (left other))
          (subst (λ (x : Reached). PaysAll (1 + m) v q r e w x r2) (sym there) (name_paid last q))))
    ]

    -- ---- where they lead

    module _ (c : Coming) (levels : v.levels ≡ []) (next : ComeNext bs c) (long : t ≤ length bs) where
      stretch_leads : Quietly m (situation v c r) (situation v (after_run t c) named)
      stretch_leads =
          let fs = map next_items.Byte bs in
          let some = some_taken t (λ none. omega (arith, none, many)) in
          let burst : burst_past c.taken (c.taken + t) r.burst ≡ 0 = ap (λ k. burst_past c.taken (c.taken + k) r.burst) some.1 ∙ burst_some c.taken some.0 r.burst in
          let there : at_source v c r (quiet t h1) ≡ situation v (after_run t c) named = ap (λ (n : ℕ). situation v (after_run t c) (record r { half = h1; burst = n })) burst in
          subst (λ x. Quietly m (situation v c r) x) there
          (subst (λ s. Quietly m s (at_source v c r (quiet t h1))) (begins_there v c r bs levels next)
          (stretch_quietly m t fs r.half h1 (at_source v c r) (source_goings v c r bs levels next) name))

      name_read : (q : Reached) (supply : Option Supply) → HoldsComing (after_run t c) q supply → HasRead (1 + m) (situation v c r) e w r2 q supply
      name_read q supply holds =
          then_read 1 m (situation v c r) (situation v (after_run t c) named) e w r2 q supply stretch_leads
          (done_read v w (after_run t c) named r2 e (waits v w named r2 e pending_act seek) act_is q supply holds)

      same_levels : (m : Meaning) → (after_meaning m v).levels ≡ v.levels
      same_levels meanings.Text = refl
      same_levels m = refl

      levels_there : w.levels ≡ []
      levels_there = ap (λ (x : Stored K). x.levels) (stored_is v w named r2 e pending_act seek) ∙ same_levels (meaning_in v named) ∙ levels

      leads_quietly : e ≡ events.Nothing → Quietly (1 + m) (situation v c r) (situation w (after_run t c) r2)
      leads_quietly silent =
          quietly_add 1 m (situation v c r) (situation v (after_run t c) named) (situation w (after_run t c) r2) stretch_leads (done_quietly v w (after_run t c) named r2 e (waits v w named r2 e pending_act seek) act_is silent)

      line_read : (n : ℕ) (p : Spot) (q : Reached) (supply : Option Supply) → e ≡ events.Nothing → HasTakenIn n (map next_items.Byte (drop t bs)) r2.half p → 0 < p.taken
          → HoldsComing (after_run (t + p.taken) c) q supply → HasRead (n + (1 + m)) (situation v c r) p.event w (record r2 { half = p.half }) q supply
      line_read n p q supply silent taken_in some holds =
          let afterwards : Reader = record r2 { half = p.half; burst = 0 } in
          subst (λ (b : ℕ). HasRead (n + (1 + m)) (situation v c r) p.event w (record r2 { half = p.half; burst = b }) q supply) (sym burst_is)
          (then_read n (1 + m) (situation v c r) (situation w (after_run t c) r2) p.event w afterwards q supply (leads_quietly silent)
          (source_read w (after_run t c) r2 (drop t bs) levels_there (come_after t bs c long next) n p q supply some taken_in
          (subst (λ (d : Coming). HoldsComing d q supply) (sym (run_on t p.taken c some)) holds)))

      -- none of the other bytes was taken
      line_looked : (n : ℕ) (p : Spot) (q : Reached) (supply : Option Supply) → e ≡ events.Nothing → HasTakenIn n (map next_items.Byte (drop t bs)) r2.half p → p.taken ≡ 0
          → HoldsComing (after_run t c) q supply → HasRead (n + (1 + m)) (situation v c r) p.event w (record r2 { half = p.half }) q supply
      line_looked n p q supply silent taken_in none holds =
          then_read n (1 + m) (situation v c r) (situation w (after_run t c) r2) p.event w (record r2 { half = p.half }) q supply (leads_quietly silent)
          (source_looked w (after_run t c) r2 (drop t bs) levels_there (come_after t bs c long next) n p q supply none taken_in holds)

      pub all_read : (line : Run) (h3 : Half) → (e ≡ events.Nothing → HasTakenIn line.moves (map next_items.Byte (drop t bs)) r2.half (spot line h3)) → ((e ≡ events.Nothing → ⊥) → h3 ≡ r2.half)
          → ((e ≡ events.Nothing → ⊥) → line ≡ record { taken = 0; moves = 0; event = e }) → (q : Reached) (supply : Option Supply) → HoldsComing (after_run (t + line.taken) c) q supply
          → HasRead (m + 1 + line.moves) (situation v c r) line.event w (record r2 { half = h3 }) q supply
      all_read line h3 taken_in left none q supply holds = elim (silent_or e) [
        | inl silent ↦
            let count : line.moves + (1 + m) ≡ m + 1 + line.moves = omega arith in
            subst (λ n. HasRead n (situation v c r) line.event w (record r2 { half = h3 }) q supply) count
            (elim (cases_lt 0 line.taken) [
              | inl some ↦ line_read line.moves (spot line h3) q supply silent (taken_in silent) some holds
              | inr few ↦
                  let zero_taken : line.taken ≡ 0 = omega (arith, few) in
                  line_looked line.moves (spot line h3) q supply silent (taken_in silent) zero_taken
                  (subst (λ k. HoldsComing (after_run k c) q supply) (none_more line.taken zero_taken) holds)
            ])
        | inr other ↦
            let nothing : line ≡ record { taken = 0; moves = 0; event = e } = none other in
            let count : 1 + m ≡ m + 1 + 0 = omega arith in
            subst (λ (l : Run). HasRead (m + 1 + l.moves) (situation v c r) l.event w (record r2 { half = h3 }) q supply) (sym nothing)
            (subst (λ n. HasRead n (situation v c r) e w (record r2 { half = h3 }) q supply) count
            (subst (λ (h : Half). HasRead (1 + m) (situation v c r) e w (record r2 { half = h }) q supply) (sym (left other))
            (name_read q supply (subst (λ k. HoldsComing (after_run k c) q supply) (none_more line.taken (ap (λ (l : Run). l.taken) nothing)) holds))))
      ]

-- Items in a stretch, taken in one after another, as moves of the machine that reads.
use Prim.Native.Char.{code}
use Rattle.std.specs.Prelude.{not, map, slice_get, slice_index}
use Rattle.std.specs.Option.{option_map}
use Rattle.std.proofs.Common.{◌≡◌, ℕ, zero, suc, ◌+◌, ◌-◌, ◌<◌, ◌==◌, Bool, true, false, if◌then◌else◌, List, [], ◌∷◌, length, drop, get_or, Option, Some, refl, ap, ap₂, sym, ◌∙◌, subst, arith}
use Rattle.std.proofs.Math.Seq.{drop-cons}
use Rattle.std.proofs.lemmas.Bool.{eq-eqb, ne_eqb}
use Rattle.std.proofs.lemmas.List.{length-map, length-take, get_or-take}
use Rattle.nr_units.specs.Source.{Supply, Faults, Never, After, Anytime, MayGive, MayGiveAll, one_later, later}
use Rattle.std.proofs.lemmas.Option.{slice_get-map, slice_get-get_or}
use Rattle.nr_store.specs.Store.{Stored, Level, Read, Reading}
use Rattle.nr_store.specs.declared.element.Element.{Element}
use Rattle.nr_store.specs.declared.element.Element.TheVariants as elements
use Rattle.nr_reading.specs.declared.event.Event.{Event}
use Rattle.nr_reading.specs.declared.event.Event.TheVariants as events
use Rattle.nr_reading.specs.declared.next_item.NextItem.{NextItem}
use Rattle.nr_reading.specs.declared.next_item.NextItem.TheVariants as next_items
use Rattle.nr_reading.specs.declared.half.Half.{Half}
use Rattle.nr_reading.specs.declared.mode.PendingAct.TheVariants as pending_acts
use Rattle.nr_reading.specs.Half.{TakenIn, take_in}
use Rattle.nr_reading.specs.Many.Runs.{Spot, MayGoOn, HasTakenIn, afterwards, after_taken_in, one_if, spot_after}
use Rattle.nr_input.specs.declared.reader.Reader.{Reader}
use Rattle.nr_input.specs.declared.emitted.Emitted.TheVariants as tells
use Rattle.fast_input.specs.AtHand.{ComeNext}
use Rattle.nr_input.specs.Place.{Coming, Reached, element_item}
use Rattle.nr_input.specs.Moving.{Situation, Stands, situation, move, taken_in_at, Goes, burst_past}
use Rattle.fast_input.specs.Runs.{HasRead, moves, emitted_last, after_run, inside_after}

-- ---- moves along a stretch

-- where a spot in the stretch is, one more move is made, and leads to the next spot
pub record Goings {K : Type 0} (fs : List NextItem) (at : Spot → Situation K) : Type 0 where
  pub goes : (p : Spot) → MayGoOn fs p → Goes (at p)
  pub leads : (p : Spot) → MayGoOn fs p → move (at p) ≡ record { situation = at (afterwards (slice_get fs p.taken) p); emitted = tells.Event (afterwards (slice_get fs p.taken) p).event }

abbrev MayGoAll : ℕ → List NextItem → Half → Type 0
MayGoAll n fs h = (k : ℕ) → k < n → MayGoOn fs (spot_after k fs h)

fewer : (n : ℕ) (fs : List NextItem) (h : Half) → MayGoAll (suc n) fs h → MayGoAll n fs h
fewer n fs h may = λ k below. may k (omega (arith, below))

pub moves-stretch : {K : Type 0} (n : ℕ) (fs : List NextItem) (h : Half) (at : Spot → Situation K) → Goings fs at → MayGoAll n fs h → moves n (at (spot_after 0 fs h)) ≡ at (spot_after n fs h)
moves-stretch zero fs h at g may = refl
moves-stretch (suc n) fs h at g may =
    ap (λ s. (move s).situation) (moves-stretch n fs h at g (fewer n fs h may)) ∙ ap (λ m. m.situation) (g.leads (spot_after n fs h) (may n (omega arith)))

pub emitted-stretch : {K : Type 0} (n : ℕ) (fs : List NextItem) (h : Half) (at : Spot → Situation K) → Goings fs at → MayGoAll n fs h
    → emitted_last n (at (spot_after 0 fs h)) ≡ tells.Event (spot_after n fs h).event
emitted-stretch zero fs h at g may = refl
emitted-stretch (suc n) fs h at g may =
    ap (λ s. (move s).emitted) (moves-stretch n fs h at g (fewer n fs h may)) ∙ ap (λ m. m.emitted) (g.leads (spot_after n fs h) (may n (omega arith)))

pub goes-stretch : {K : Type 0} (k n : ℕ) (fs : List NextItem) (h : Half) (at : Spot → Situation K) → k < n → Goings fs at → MayGoAll n fs h → Goes (moves k (at (spot_after 0 fs h)))
goes-stretch k n fs h at below g may =
    subst Goes (sym (moves-stretch k fs h at g (λ j less. may j (omega (arith, less, below))))) (g.goes (spot_after k fs h) (may k below))

pub quiet-stretch : {K : Type 0} (k n : ℕ) (fs : List NextItem) (h : Half) (at : Spot → Situation K) → k < n → Goings fs at → MayGoAll n fs h
    → emitted_last k (at (spot_after 0 fs h)) ≡ tells.Event events.Nothing
quiet-stretch k n fs h at below g may =
    emitted-stretch k fs h at g (λ j less. may j (omega (arith, less, below))) ∙ ap tells.Event (may k below).event

-- ---- elements of a level

-- with so much left of the newest level's text
abbrev pub with_rest : {K : Type 0} → Reading K → List (Level K) → List Element → Stored K → Stored K
with_rest l ls xs v = record v { levels = Read (record l { rest = xs }) ∷ ls }

abbrev pub at_level : {K : Type 0} → Reading K → List (Level K) → List Element → Stored K → Coming → Reader → Spot → Situation K
at_level l ls xs v c r p = situation (with_rest l ls (drop p.taken xs) v) c (record r { half = p.half })

taken_in_level : {K : Type 0} (l : Reading K) (ls : List (Level K)) (x : Element) (xs : List Element) (v : Stored K) (c : Coming) (r : Reader) (k : Half) (e : Event) (takes : Bool)
    → taken_in_at (record { half = k; event = e; takes = takes }) (situation (with_rest l ls (x ∷ xs) v) c r)
    ≡ record { situation = situation (with_rest l ls (if takes then xs else x ∷ xs) v) c (record r { half = k }); emitted = tells.Event e }
taken_in_level l ls x xs v c r k e true = rw (eq-eqb c.taken c.taken refl) refl
taken_in_level l ls x xs v c r k e false = refl

-- after an item that is taken, or not
drop_if : (takes : Bool) (n : ℕ) (x : Element) (xs : List Element) → drop n xs ≡ x ∷ drop (suc n) xs → (if takes then drop (suc n) xs else x ∷ drop (suc n) xs) ≡ drop (n + one_if takes) xs
drop_if true n x xs is = let more : suc n ≡ n + 1 = omega arith in ap (λ k. drop k xs) more
drop_if false n x xs is = let same : n ≡ n + 0 = omega arith in sym is ∙ ap (λ k. drop k xs) same

module _ {K : Type 0} (l : Reading K) (ls : List (Level K)) (xs : List Element) (v : Stored K) (c : Coming) (r : Reader) where
  got : (p : Spot) → p.taken < length (map element_item xs) → slice_get (map element_item xs) p.taken ≡ Some (element_item (get_or xs p.taken (elements.Byte 0)))
  got p some = slice_get-map element_item xs p.taken ∙ ap (option_map element_item) (slice_get-get_or xs p.taken (elements.Byte 0) (omega (arith, some, length-map xs element_item)))

  rest_is : (p : Spot) → p.taken < length (map element_item xs) → drop p.taken xs ≡ get_or xs p.taken (elements.Byte 0) ∷ drop (suc p.taken) xs
  rest_is p some = drop-cons xs p.taken (elements.Byte 0) (omega (arith, some, length-map xs element_item))

  looks : (x : Element) (ys : List Element) (p : Spot) → p.half.reading.pending_act ≡ pending_acts.Look
      → move (situation (with_rest l ls (x ∷ ys) v) c (record r { half = p.half })) ≡ taken_in_at (take_in (element_item x) p.half) (situation (with_rest l ls (x ∷ ys) v) c (record r { half = p.half }))
  looks x ys p pending_act = rw pending_act refl

  taken_in_is : (x : Element) (ys : List Element) (h : Half) (m : TakenIn) → taken_in_at m (situation (with_rest l ls (x ∷ ys) v) c (record r { half = h }))
      ≡ record { situation = situation (with_rest l ls (if m.takes then ys else x ∷ ys) v) c (record r { half = m.half }); emitted = tells.Event m.event }
  taken_in_is x ys h m = taken_in_level l ls x ys v c (record r { half = h }) m.half m.event m.takes

  one : (x : Element) (p : Spot) → drop p.taken xs ≡ x ∷ drop (suc p.taken) xs → p.half.reading.pending_act ≡ pending_acts.Look
      → move (at_level l ls xs v c r p) ≡ record { situation = at_level l ls xs v c r (afterwards (Some (element_item x)) p); emitted = tells.Event (afterwards (Some (element_item x)) p).event }
  one x p is pending_act =
      let m = take_in (element_item x) p.half in
      ap (λ ys. move (situation (with_rest l ls ys v) c (record r { half = p.half }))) is
      ∙ looks x (drop (suc p.taken) xs) p pending_act
      ∙ taken_in_is x (drop (suc p.taken) xs) p.half m
      ∙ ap (λ (ys : List Element). record { situation = situation (with_rest l ls ys v) c (record r { half = m.half }); emitted = tells.Event m.event }) (drop_if m.takes p.taken x xs is)

  goes_by : (x : Element) (ys : List Element) (p : Spot) → p.half.reading.pending_act ≡ pending_acts.Look → Goes (situation (with_rest l ls (x ∷ ys) v) c (record r { half = p.half }))
  goes_by x ys p pending_act = rw pending_act tt

  pub level_goings : Goings (map element_item xs) (at_level l ls xs v c r)
  level_goings = record {
    goes = λ p may. subst (λ ys. Goes (situation (with_rest l ls ys v) c (record r { half = p.half }))) (sym (rest_is p may.some)) (goes_by _ _ p may.pending_act);
    leads = λ p may.
        one (get_or xs p.taken (elements.Byte 0)) p (rest_is p may.some) may.pending_act
        ∙ ap (λ (f : Option NextItem). record { situation = at_level l ls xs v c r (afterwards f p); emitted = tells.Event (afterwards f p).event }) (sym (got p may.some));
  }

-- ---- bytes of the source

one_later-later : (n : ℕ) (f : Faults) → one_later (later n f) ≡ later (suc n) f
one_later-later n Never = refl
one_later-later n (After m) = let counts : m - n - 1 ≡ m - suc n = omega arith in ap After counts
one_later-later n Anytime = refl

may_give-later : (n m : ℕ) (f : Faults) → n < m → MayGiveAll m f → MayGive (later n f)
may_give-later n m Never less all = tt
may_give-later n m (After k) less all = omega (arith, less, all)
may_give-later n m Anytime less all = tt

abbrev pub at_source : {K : Type 0} → Stored K → Coming → Reader → Spot → Situation K
at_source v c r p = situation v (after_run p.taken c) (record r { half = p.half; burst = burst_past c.taken (c.taken + p.taken) r.burst })

-- one byte more was taken
further : (taken n burst : ℕ) → burst_past (taken + n) (taken + n + 1) (burst_past taken (taken + n) burst) ≡ burst_past taken (taken + (n + 1)) burst
further taken n burst =
    rw (ne_eqb (taken + n + 1) (taken + n) (λ e. omega (arith, e)), ne_eqb (taken + (n + 1)) taken (λ e. omega (arith, e))) refl

abbrev coming_at : List ℕ → Faults → ℕ → Bool → Coming
coming_at bs f taken inside = record { supply = record { bytes = bs; faults = f }; taken = taken; inside = inside }

-- after one byte more
after_one : (b n : ℕ) (c : Coming) → slice_index c.supply.bytes n ≡ b
    → coming_at (drop (suc n) c.supply.bytes) (one_later (later n c.supply.faults)) (c.taken + n + 1) (not (b == code "\n")) ≡ after_run (n + 1) c
after_one b n c is =
    let count : suc n ≡ n + 1 = omega arith in
    let taken : c.taken + n + 1 ≡ c.taken + suc n = omega arith in
    ap (λ (f : Faults). coming_at (drop (suc n) c.supply.bytes) f (c.taken + n + 1) (not (b == code "\n"))) (one_later-later n c.supply.faults)
    ∙ ap (λ (t : ℕ). coming_at (drop (suc n) c.supply.bytes) (later (suc n) c.supply.faults) t (not (b == code "\n"))) taken
    ∙ ap (λ (x : ℕ). coming_at (drop (suc n) c.supply.bytes) (later (suc n) c.supply.faults) (c.taken + suc n) (not (x == code "\n"))) (sym is)
    ∙ ap (λ k. after_run k c) count

module _ {K : Type 0} (v : Stored K) (c : Coming) (r : Reader) (bs : List ℕ) (none : v.levels ≡ []) (next : ComeNext bs c) where
  -- the byte that is taken in, and what is to come after it
  byte_at : (n : ℕ) → n < length bs → drop n c.supply.bytes ≡ slice_index c.supply.bytes n ∷ drop (suc n) c.supply.bytes
  byte_at n less = drop-cons c.supply.bytes n 0 (let counts = ap length next.bytes in omega (arith, less, counts, length-take (length bs) c.supply.bytes))

  got_byte : (n : ℕ) → n < length bs → slice_get (map next_items.Byte bs) n ≡ Some (next_items.Byte (slice_index c.supply.bytes n))
  got_byte n less =
      slice_get-map next_items.Byte bs n
      ∙ ap (option_map next_items.Byte) (slice_get-get_or bs n 0 less ∙ ap Some (ap (λ (ys : List ℕ). get_or ys n 0) (sym next.bytes) ∙ get_or-take (length bs) c.supply.bytes n 0 less))

  -- the next byte, after so many
  abbrev before : ℕ → ℕ → List ℕ → Coming
  before n b ys = coming_at (b ∷ ys) (later n c.supply.faults) (c.taken + n) (inside_after n c.supply.bytes c.inside)

  before_is : (n : ℕ) → n < length bs → after_run n c ≡ before n (slice_index c.supply.bytes n) (drop (suc n) c.supply.bytes)
  before_is n less = ap (λ ys. coming_at ys (later n c.supply.faults) (c.taken + n) (inside_after n c.supply.bytes c.inside)) (byte_at n less)

  looks_source : (n b : ℕ) (ys : List ℕ) (q : Reader) → q.half.reading.pending_act ≡ pending_acts.Look → move (situation v (before n b ys) q) ≡ taken_in_at (take_in (next_items.Byte b) q.half) (situation v (before n b ys) q)
  looks_source n b ys q pending_act = rw (none, pending_act) refl

  abbrev after_byte : Bool → ℕ → ℕ → List ℕ → Reader → Half → Situation K
  after_byte true n b ys q k =
      situation v (coming_at ys (one_later (later n c.supply.faults)) (c.taken + n + 1) (not (b == code "\n"))) (record q { half = k; burst = burst_past (c.taken + n) (c.taken + n + 1) q.burst })
  after_byte false n b ys q k = situation v (before n b ys) (record q { half = k })

  taken_in_source : (n b : ℕ) (ys : List ℕ) (q : Reader) (k : Half) (e : Event) (takes : Bool)
      → taken_in_at (record { half = k; event = e; takes = takes }) (situation v (before n b ys) q) ≡ record { situation = after_byte takes n b ys q k; emitted = tells.Event e }
  taken_in_source n b ys q k e true = rw none refl
  taken_in_source n b ys q k e false = refl

  abbrev reader_at : Spot → Reader
  reader_at p = record r { half = p.half; burst = burst_past c.taken (c.taken + p.taken) r.burst }

  after_is : (takes : Bool) (p : Spot) (k : Half) (e : Event) → p.taken < length bs
      → after_byte takes p.taken (slice_index c.supply.bytes p.taken) (drop (suc p.taken) c.supply.bytes) (reader_at p) k ≡ at_source v c r (after_taken_in (record { half = k; event = e; takes = takes }) p.taken)
  after_is true p k e less =
      ap₂ (λ (d : Coming) (n : ℕ). situation v d (record r { half = k; burst = n })) (after_one (slice_index c.supply.bytes p.taken) p.taken c refl) (further c.taken p.taken r.burst)
  after_is false p k e less =
      let same : p.taken ≡ p.taken + 0 = omega arith in
      ap (λ (d : Coming). situation v d (record r { half = k; burst = burst_past c.taken (c.taken + p.taken) r.burst })) (sym (before_is p.taken less))
      ∙ ap (λ (n : ℕ). situation v (after_run n c) (record r { half = k; burst = burst_past c.taken (c.taken + n) r.burst })) same

  one_byte : (p : Spot) → p.taken < length bs → p.half.reading.pending_act ≡ pending_acts.Look → let f = Some (next_items.Byte (slice_index c.supply.bytes p.taken)) in
      move (at_source v c r p) ≡ record { situation = at_source v c r (afterwards f p); emitted = tells.Event (afterwards f p).event }
  one_byte p less pending_act =
      let b = slice_index c.supply.bytes p.taken in
      let ys = drop (suc p.taken) c.supply.bytes in
      let m = take_in (next_items.Byte b) p.half in
      ap (λ (d : Coming). move (situation v d (reader_at p))) (before_is p.taken less)
      ∙ looks_source p.taken b ys (reader_at p) pending_act
      ∙ taken_in_source p.taken b ys (reader_at p) m.half m.event m.takes
      ∙ ap (λ (s : Situation K). record { situation = s; emitted = tells.Event m.event }) (after_is m.takes p m.half m.event less)

  sees : (n b : ℕ) (ys : List ℕ) (q : Reader) → n < length bs → q.half.reading.pending_act ≡ pending_acts.Look → Goes (situation v (before n b ys) q)
  sees n b ys q less pending_act = rw (none, pending_act) (may_give-later n (length bs) c.supply.faults less next.faults, λ many. omega (arith, many, less, next.few))

  pub source_goings : Goings (map next_items.Byte bs) (at_source v c r)
  source_goings = record {
    goes = λ p may.
        let less : p.taken < length bs = omega (arith, may.some, length-map bs next_items.Byte) in
        subst (λ (d : Coming). Goes (situation v d (reader_at p))) (sym (before_is p.taken less)) (sees p.taken _ _ (reader_at p) less may.pending_act);
    leads = λ p may.
        let less : p.taken < length bs = omega (arith, may.some, length-map bs next_items.Byte) in
        one_byte p less may.pending_act
        ∙ ap (λ (f : Option NextItem). record { situation = at_source v c r (afterwards f p); emitted = tells.Event (afterwards f p).event }) (sym (got_byte p.taken less));
  }

-- ---- what many moves come to

-- from a spot in the stretch on, the program stands where they lead
pub has_read : {K : Type 0} (n : ℕ) (fs : List NextItem) (h : Half) (p : Spot) (at : Spot → Situation K) (s : Situation K) (v : Stored K) (r : Reader) (q : Reached) (supply : Option Supply)
    → Goings fs at → HasTakenIn n fs h p → at (spot_after 0 fs h) ≡ s → Stands (at p) v r q supply → HasRead n s p.event v r q supply
has_read n fs h p at s v r q supply g taken_in is stands = record {
  goes = λ k below. subst (λ t. Goes (moves k t)) is (goes-stretch k n fs h at below g taken_in.goes);
  quiet = λ k below. subst (λ t. emitted_last k t ≡ tells.Event events.Nothing) is (quiet-stretch k n fs h at below g taken_in.goes);
  tells = ap (emitted_last n) (sym is) ∙ emitted-stretch n fs h at g taken_in.goes ∙ ap (λ (x : Spot). tells.Event x.event) taken_in.leads;
  stands = subst (λ t. Stands t v r q supply) (ap at (sym taken_in.leads) ∙ sym (moves-stretch n fs h at g taken_in.goes) ∙ ap (moves n) is) stands;
}

-- in a stretch of no items no move is made
pub taken_in_none : (n : ℕ) (h : Half) (p : Spot) → HasTakenIn n [] h p → n ≡ 0
taken_in_none zero h p taken_in = refl
taken_in_none (suc n) h p taken_in = absurd (let some = (taken_in.goes 0 (omega arith)).some in omega (arith, some))

-- no move
pub reads_nothing : {K : Type 0} (s : Situation K) (v : Stored K) (r : Reader) (q : Reached) (supply : Option Supply) → Stands s v r q supply → HasRead 0 s events.Nothing v r q supply
reads_nothing s v r q supply stands = record {
  goes = λ k below. absurd (omega (arith, below));
  quiet = λ k below. absurd (omega (arith, below));
  tells = refl;
  stands = stands;
}

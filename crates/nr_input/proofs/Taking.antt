-- An item that is looked at pays for what comes of it.
use Prim.Native.Char.{code}
use Rattle.std.specs.Prelude.{not}
use Rattle.std.proofs.Common.{◌≡◌, ℕ, ◌+◌, ◌*◌, ◌≤◌, ◌==◌, Bool, true, false, List, [], ◌∷◌, Option, refl, ap, subst, arith}
use Rattle.std.proofs.lemmas.Bool.{eq-eqb}
use Rattle.nr_store.specs.Store.{Stored, Level, Read, Mark, Reading, left, left_in, shown, shown_in}
use Rattle.nr_store.specs.declared.element.Element.{Element}
use Rattle.nr_store.specs.declared.element.Element.TheVariants as elements
use Rattle.nr_reading.specs.declared.event.Event.{Event}
use Rattle.nr_reading.specs.declared.event.Event.TheVariants as events
use Rattle.nr_reading.specs.declared.next_item.NextItem.{NextItem}
use Rattle.nr_reading.specs.declared.half.Half.{Half}
use Rattle.nr_reading.specs.declared.half.Seen.{Seen}
use Rattle.nr_reading.specs.declared.mode.PendingAct.{PendingAct}
use Rattle.nr_reading.specs.declared.mode.PendingAct.TheVariants as pending_acts
use Rattle.nr_reading.specs.Weights.{PaysFor, cost_of_event, is_lead, paid_by, worth_of_item, weight_of_half, blanks_owed}
use Rattle.nr_input.specs.declared.place.Ahead.{Ahead}
use Rattle.nr_input.specs.declared.place.Ahead.TheVariants as aheads
use Rattle.nr_input.specs.declared.reader.Reader.{Reader}
use Rattle.nr_input.specs.declared.emitted.Emitted.{Emitted}
use Rattle.nr_input.specs.declared.emitted.Emitted.TheVariants as tells
use Rattle.nr_input.specs.Acting.{is_look}
use Rattle.nr_input.specs.Place.{Reached, StaysThere, next_item_seen, passed_by, passed_in, element_item, seen_item}
use Rattle.nr_input.specs.Moving.{burst_past, emitted_of}
use Rattle.nr_input.specs.Weights.{IfLead, Pays, cost_of_emitted, risen, items_left, newline_left, expansions_worth}
use Rattle.nr_input.proofs.Items.{items_taken, left_in-items, left_in-limit, expansions_worth-le}

-- no blank of a line's beginning is emitted by an item
leads : (K : Type 0) (e : Event) (P : Type 0) → is_lead e ≡ false → IfLead {K = K} (tells.Event e) P
leads K events.Lead P no_lead = let wrong : ⊥ = cc in absurd wrong
leads K e P no_lead = tt

newline_left-le : (b : Bool) → newline_left b ≤ 1
newline_left-le true = omega arith
newline_left-le false = omega arith

element_worth : (x : Element) → worth_of_item (element_item x) ≡ 256
element_worth (elements.Byte b) = refl
element_worth (elements.Cell c) = refl
element_worth (elements.LineEnd h) = refl

-- ---- it is left

pub left_pays : {K : Type 0} (v : Stored K) (p q : Reached) (r : Reader) (f : NextItem) (k : Half) (e : Event) → StaysThere p q
    → PaysFor f r.half k (record { event = e; takes = false })
    → Pays v p r (tells.Event e) v q (record r { half = k })
left_pays {K} v p q r f k e stays paid =
    let weighs = paid.pays in
    let taken = stays.taken in
    record {
      limit = refl;
      most = refl;
      pays = λ worth enough.
          let same = ap newline_left stays.inside in
          let also : worth * q.taken ≡ worth * p.taken = ap (λ n. worth * n) taken in
          omega arith;
      lead = leads K e _ paid.tells;
    }

-- ---- it is taken

burst_past-same : (t burst : ℕ) → burst_past t t burst ≡ burst
burst_past-same t burst = let same : (t == t) ≡ true = eq-eqb t t refl in rw same refl

no_items : {K : Type 0} (levels : List (Level K)) → levels ≡ [] → items_left levels ≡ 0
no_items levels empty = ap items_left empty

-- of the source: a byte, or the newline that is added
source_pays : {K : Type 0} (a : Ahead) (v : Stored K) (p q : Reached) (r : Reader) (k : Half) (e : Event) → StaysThere p q → v.levels ≡ []
    → PaysFor (seen_item a q.inside) r.half k (record { event = e; takes = true })
    → let n = passed_by a q in Pays v p r (tells.Event e) v n (record r { half = k; burst = burst_past q.taken n.taken r.burst })
source_pays {K} (aheads.Byte b) v p q r k e stays empty paid =
    let weighs = paid.pays in
    let taken = stays.taken in
    record {
      limit = refl;
      most = refl;
      pays = λ worth enough.
          let also : worth * (q.taken + 1) ≡ worth * (p.taken + 1) = ap (λ n. worth * (n + 1)) taken in
          omega (arith, no_items v.levels empty, newline_left-le (not (b == code "\n")), expansions_worth-le r.most (burst_past q.taken (q.taken + 1) r.burst) v.limit);
      lead = leads K e _ paid.tells;
    }
source_pays {K} aheads.End v p q r k e stays empty paid = end_pays q.inside paid.pays (ap newline_left stays.inside)
  where
    end_pays : (inside : Bool) → weight_of_half k + cost_of_event e + 178 * risen r.half k ≤ weight_of_half r.half + paid_by true (worth_of_item (seen_item aheads.End inside))
        → newline_left inside ≡ newline_left p.inside
        → Pays v p r (tells.Event e) v (record q { inside = false }) (record r { half = k; burst = burst_past q.taken q.taken r.burst })
    end_pays true weighs same =
        let still = ap (λ n. expansions_worth r.most n v.limit) (burst_past-same q.taken r.burst) in
        record {
          limit = refl;
          most = refl;
          pays = λ worth enough. let also : worth * q.taken ≡ worth * p.taken = ap (λ n. worth * n) stays.taken in omega arith;
          lead = leads K e _ paid.tells;
        }
    end_pays false weighs same =
        let still = ap (λ n. expansions_worth r.most n v.limit) (burst_past-same q.taken r.burst) in
        record {
          limit = refl;
          most = refl;
          pays = λ worth enough. let also : worth * q.taken ≡ worth * p.taken = ap (λ n. worth * n) stays.taken in omega arith;
          lead = leads K e _ paid.tells;
        }
source_pays {K} a v p q r k e stays empty paid =
    let weighs = paid.pays in
    let taken = stays.taken in
    let same = ap newline_left stays.inside in
    let still = ap (λ n. expansions_worth r.most n v.limit) (burst_past-same q.taken r.burst) in
    record {
      limit = refl;
      most = refl;
      pays = λ worth enough. let also : worth * q.taken ≡ worth * p.taken = ap (λ n. worth * n) taken in omega arith;
      lead = leads K e _ paid.tells;
    }

-- of a level: an element, its end, or the mark after a sprung text
level_pays : {K : Type 0} (l : Level K) (ls : List (Level K)) (v : Stored K) (p q : Reached) (r : Reader) (k : Half) (e : Event) → StaysThere p q → v.levels ≡ l ∷ ls
    → weight_of_half k + cost_of_emitted (emitted_of (shown_in l) e) + 178 * risen r.half k ≤ weight_of_half r.half + 256 * items_taken l
    → IfLead (emitted_of (shown_in l) e) (blanks_owed k + 1 ≡ blanks_owed r.half)
    → Pays v p r (emitted_of (shown_in l) e) (left_in l ls v) q (record r { half = k; burst = burst_past q.taken q.taken r.burst })
level_pays l ls v p q r k e stays is weighs unled =
    let still = ap (λ n. expansions_worth r.most n v.limit) (burst_past-same q.taken r.burst) in
    let limit = left_in-limit l ls v in
    let worths = ap (λ n. expansions_worth r.most (burst_past q.taken q.taken r.burst) n) limit in
    let items = ap items_left is in
    let newline = ap newline_left stays.inside in
    record {
      limit = limit;
      most = refl;
      pays = λ worth enough. let also : worth * q.taken ≡ worth * p.taken = ap (λ n. worth * n) stays.taken in omega (arith, left_in-items l ls v);
      lead = unled;
    }

text_pays : {K : Type 0} (rest : List Element) (old : List (List ℕ)) (charge : ℕ) (resume : Option K) (ls : List (Level K)) (v : Stored K) (p q : Reached) (r : Reader) (k : Half) (e : Event) → StaysThere p q
    → let l : Reading K = record { rest = rest; old = old; charge = charge; resume = resume } in let ls' = Read l ∷ ls in v.levels ≡ ls'
    → PaysFor (next_item_seen (shown ls') q) r.half k (record { event = e; takes = true })
    → Pays v p r (emitted_of (shown ls') e) (left ls' v) (passed_in (shown ls') q) (record r { half = k; burst = burst_past q.taken (passed_in (shown ls') q).taken r.burst })
text_pays {K} [] old charge resume ls v p q r k e stays is paid =
    let weighs = paid.pays in level_pays (Read (record { rest = []; old = old; charge = charge; resume = resume })) ls v p q r k e stays is (omega arith) (leads K e _ paid.tells)
text_pays {K} (x ∷ xs) old charge resume ls v p q r k e stays is paid =
    let weighs = paid.pays in
    level_pays (Read (record { rest = x ∷ xs; old = old; charge = charge; resume = resume })) ls v p q r k e stays is (omega (arith, element_worth x)) (leads K e _ paid.tells)

-- whatever comes next
taken_by : {K : Type 0} (ls : List (Level K)) (v : Stored K) (p q : Reached) (r : Reader) (k : Half) (e : Event) → StaysThere p q → v.levels ≡ ls
    → PaysFor (next_item_seen (shown ls) q) r.half k (record { event = e; takes = true })
    → let n = passed_in (shown ls) q in Pays v p r (emitted_of (shown ls) e) (left ls v) n (record r { half = k; burst = burst_past q.taken n.taken r.burst })
taken_by [] v p q r k e stays is paid = source_pays q.ahead v p q r k e stays is paid
taken_by (Mark mode ∷ ls) v p q r k e stays is paid = let weighs = paid.pays in level_pays (Mark mode) ls v p q r k e stays is (omega arith) tt
taken_by (Read l ∷ ls) v p q r k e stays is paid = text_pays l.rest l.old l.charge l.resume ls v p q r k e stays is paid

pub taken_pays : {K : Type 0} (v : Stored K) (p q : Reached) (r : Reader) (k : Half) (e : Event) → StaysThere p q
    → PaysFor (next_item_seen (shown v.levels) q) r.half k (record { event = e; takes = true })
    → let n = passed_in (shown v.levels) q in Pays v p r (emitted_of (shown v.levels) e) (left v.levels v) n (record r { half = k; burst = burst_past q.taken n.taken r.burst })
taken_pays v p q r k e stays paid = taken_by v.levels v p q r k e stays refl paid

-- ---- a move that looks at what comes next

pub pending_look : (d : PendingAct) → is_look d ≡ true → d ≡ pending_acts.Look
pending_look pending_acts.Look is = refl
pending_look d is = let wrong : ⊥ = cc in absurd wrong

pub not-false : (b : Bool) → not b ≡ false → b ≡ true
not-false true is = refl
not-false false is = let wrong : ⊥ = cc in absurd wrong

pub not-true : (b : Bool) → not b ≡ true → b ≡ false
not-true true is = let wrong : ⊥ = cc in absurd wrong
not-true false is = refl

-- the same, as the program has it
pub look_takes : {K : Type 0} (v w : Stored K) (p q n : Reached) (r : Reader) (f : NextItem) (k : Half) (seen : Seen) (burst : ℕ) (t : Emitted K)
    → is_look r.half.reading.pending_act ≡ true → StaysThere p q → f ≡ next_item_seen (shown v.levels) q → (r.half.reading.pending_act ≡ pending_acts.Look → PaysFor f r.half k seen) → seen.takes ≡ true
    → w ≡ left v.levels v → n ≡ passed_in (shown v.levels) q → burst ≡ burst_past q.taken n.taken r.burst → t ≡ emitted_of (shown v.levels) seen.event
    → Pays v p r t w n (record r { half = k; burst = burst })
look_takes v w p q n r f k seen burst t look stays next_item paid takes stored reached bursts emitted =
    let pays : PaysFor f r.half k (record { event = seen.event; takes = true }) =
    subst (λ b. PaysFor f r.half k (record { event = seen.event; takes = b })) takes (paid (pending_look r.half.reading.pending_act look)) in
    let next_items : PaysFor (next_item_seen (shown v.levels) q) r.half k (record { event = seen.event; takes = true }) =
    subst (λ (x : NextItem). PaysFor x r.half k (record { event = seen.event; takes = true })) next_item pays in
    rw (emitted, bursts, reached, stored) (taken_pays v p q r k seen.event stays next_items)

pub look_leaves : {K : Type 0} (v : Stored K) (p q : Reached) (r : Reader) (f : NextItem) (k : Half) (seen : Seen)
    → is_look r.half.reading.pending_act ≡ true → StaysThere p q → (r.half.reading.pending_act ≡ pending_acts.Look → PaysFor f r.half k seen) → seen.takes ≡ false
    → Pays v p r (tells.Event seen.event) v q (record r { half = k })
look_leaves v p q r f k seen look stays paid leaves =
    let pays : PaysFor f r.half k (record { event = seen.event; takes = false }) =
    subst (λ b. PaysFor f r.half k (record { event = seen.event; takes = b })) leaves (paid (pending_look r.half.reading.pending_act look)) in
    left_pays v p q r f k seen.event stays pays

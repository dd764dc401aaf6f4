-- A move that reads is paid: out of what may still come, or by the byte that it takes.
use Rattle.std.proofs.lemmas.Bool.{eqb-true}
use Rattle.std.proofs.Common.{◌≡◌, ◌≢◌, ◌==◌, ℕ, ◌+◌, ◌-◌, ◌*◌, ◌≤◌, Bool, true, false, if◌then◌else◌, List, [], ◌∷◌, length, Option, None, Some, Ok, refl, ap, sym, ◌∙◌, arith}
use Rattle.std.proofs.lemmas.List.Sums.{sum_by-cons}
use Rattle.nr_store.specs.Store.{Stored, Built, Level, Read, Mark, Reading, shown, shown_of, left, left_of}
use Rattle.nr_store.specs.declared.element.Diversion.{Diversion}
use Rattle.nr_store.specs.declared.element.Element.{Element}
use Rattle.nr_store.specs.declared.shown.Shown.{Shown}
use Rattle.nr_store.specs.declared.shown.Shown.TheVariants as shows
use Rattle.nr_reading.specs.Half.{TakenIn, take_in}
use Rattle.nr_reading.specs.Weights.{PaysFor, cost_of_event, blanks_owed}
use Rattle.nr_reading.specs.declared.event.Event.{Event}
use Rattle.nr_reading.specs.declared.event.Event.TheVariants as events
use Rattle.nr_reading.proofs.Paying.{pays_for}
use Rattle.nr_input.specs.Acting.{is_look}
use Rattle.nr_input.specs.Moving.{Situation, looks, look, taken_at, stays_at, acted_at, acting, answer_at, burst_past, emitted_of, move as input_move}
use Rattle.nr_input.specs.Moving as input
use Rattle.nr_input.specs.Place.{Coming, Reached, StaysThere, next_item, next_item_of, afterwards, after_item_of, next_item_seen, seen_item, passed_in, passed_by}
use Rattle.nr_input.specs.Refusal.{acted_by}
use Rattle.nr_input.specs.Weights.{Pays, IfLead, byte_worth, newline_left, diversions_in, diversions_of, count_of_diversion}
use Rattle.nr_input.specs.declared.place.Ahead.{Ahead}
use Rattle.nr_input.specs.declared.place.Ahead.TheVariants as aheads
use Rattle.nr_input.specs.declared.reader.Reader.{Reader}
use Rattle.nr_input.specs.declared.emitted.Emitted.{Emitted}
use Rattle.nr_input.specs.declared.emitted.Emitted.TheVariants as tells
use Rattle.nr_input.proofs.Spending.{act_pays}
use Rattle.nr_input.proofs.Staying.{act_begins_none}
use Rattle.nr_input.proofs.Taking.{look_takes, look_leaves, pending_look}
use Rattle.nr_formatter.specs.Springing.{resumed}
use Rattle.nr_formatter.specs.Weights.{Falls, weight, steps_left, owed, owed_by_event, owed_by_task, weight_of_agenda, weight_of_diversion, weight_of_built, weight_of_diversions}
use Rattle.nr_formatter.specs.declared.formatter.Formatter.{Formatter}
use Rattle.nr_formatter.specs.declared.tasks.Resume.{Resume}
use Rattle.nr_formatter.specs.declared.tasks.Step.{Step}
use Rattle.nr_formatter.specs.declared.tasks.Task.TheVariants as tasks
use Rattle.nr_formatter.proofs.InputFalls.{falls-resumed}
use Rattle.nr_machine.specs.State.{State}
use Rattle.nr_machine.specs.Machine.{read, situation_of, emitted, with_situation}

-- ---- how a program would stand before what is to come, having looked at it

abbrev pub ahead_of : List ℕ → Ahead
ahead_of [] = aheads.End
ahead_of (b ∷ bs) = aheads.Byte b

abbrev pub reached : Coming → Reached
reached c = record { ahead = ahead_of c.supply.bytes; taken = c.taken; inside = c.inside }

-- what may still come weighs the same where the newline that is added is the same
pub weight-inside : (p q : Reached) (f : Formatter) → q.inside ≡ p.inside → weight q f ≡ weight p f
unfolding weight
weight-inside p q f same = let newline = ap newline_left same in omega arith

-- ---- a move is paid

-- what a byte that is taken pays
abbrev pub worth : State → ℕ
worth s = byte_worth s.formatter.reader.most s.formatter.store.limit

-- how many moves may still come before the next byte is taken; what of the options has still to take effect is a move each
abbrev pub may_come : State → ℕ
may_come s = length s.chosen + weight (reached s.coming) s.formatter

-- a byte of the source was taken just now, by a move that read: there is no level, and nothing was spliced since
pub record IsFresh (s t : State) : Type 0 where
  pub idle : s.formatter.event ≡ events.Nothing
  pub task : s.formatter.task ≡ tasks.Read
  pub chosen : t.chosen ≡ []
  pub levels : t.formatter.store.levels ≡ []
  pub burst : t.formatter.reader.burst ≡ 0

pub record Paid (s t : State) : Type 0 where
  pub limit : t.formatter.store.limit ≡ s.formatter.store.limit
  pub most : t.formatter.reader.most ≡ s.formatter.reader.most
  pub pays : may_come t + 1 + worth s * s.coming.taken ≤ may_come s + worth s * t.coming.taken
  pub fresh : t.coming.taken ≢ s.coming.taken → IsFresh s t

-- ---- what is emitted is paid

-- a blank of a line's beginning is emitted out of the blanks that are owed
abbrev pub lead_of : Event → ℕ
lead_of events.Lead = 178
lead_of e = 0

pub event_paid : (e : Event) (s : Step) → weight_of_agenda e tasks.Read s + owed_by_event e + 1 ≤ 4 + cost_of_event e + lead_of e
event_paid events.Nothing s = omega arith
event_paid events.Over s = omega arith
event_paid events.Lead s = omega arith
event_paid (events.Judge q) s = omega arith
event_paid e s = omega arith

blanks_paid : (e : Event) (old new : ℕ) → IfLead {K = Resume} (tells.Event e) (new + 1 ≡ old) → 178 * new + lead_of e ≤ 178 * (new - old) + 178 * old
blanks_paid events.Lead old new h = omega (arith, h)
blanks_paid e old new h = omega arith

-- diversions, counted one way and the other
same_diversion : (d : Option Diversion) → weight_of_diversion d ≡ count_of_diversion d
same_diversion None = refl
same_diversion (Some d) = refl

pub same_count : (bs : List Built) → weight_of_diversions bs ≡ diversions_in bs
same_count [] = refl
same_count (b ∷ bs) = omega (arith, sum_by-cons weight_of_built b bs, sum_by-cons diversions_of b bs, same_diversion b.diversion, same_count bs)

event_spends : (p q : Reached) (f : Formatter) (v : Stored Resume) (r : Reader) (e : Event) → f.event ≡ events.Nothing → f.task ≡ tasks.Read
    → Pays f.store p f.reader (tells.Event e) v q r → diversions_in v.building ≤ diversions_in f.store.building
    → weight q (record f { store = v; reader = r; event = e }) + 1 + byte_worth f.reader.most f.store.limit * p.taken
    ≤ weight p f + byte_worth f.reader.most f.store.limit * q.taken
unfolding weight steps_left owed
event_spends p q f v r e idle task pays fewer =
    let before : weight_of_agenda f.event f.task f.step ≡ 4 = rw (idle, task) refl in
    let owed_before : owed_by_event f.event + owed_by_task f.task f.reader.half ≡ 0 = rw (idle, task) refl in
    let after_that : weight_of_agenda e f.task f.step ≡ weight_of_agenda e tasks.Read f.step = rw task refl in
    let owed_afterwards : owed_by_task f.task r.half ≡ 0 = rw task refl in
    let paid = pays.pays (byte_worth f.reader.most f.store.limit) (omega arith) in
    omega (
      arith,
      before,
      owed_before,
      after_that,
      owed_afterwards,
      paid,
      event_paid e f.step,
      blanks_paid e (blanks_owed f.reader.half) (blanks_owed r.half) pays.lead,
      same_count v.building,
      same_count f.store.building,
      fewer,
    )

resume_spends : (p q : Reached) (f g : Formatter) (v : Stored Resume) (r : Reader) (k : Resume) → f.event ≡ events.Nothing → f.task ≡ tasks.Read
    → Pays f.store p f.reader (tells.Resume k) v q r → diversions_in v.building ≤ diversions_in f.store.building
    → Falls 0 510 (record f { store = v; reader = r }) g
    → weight q g + 1 + byte_worth f.reader.most f.store.limit * p.taken ≤ weight p f + byte_worth f.reader.most f.store.limit * q.taken
unfolding weight steps_left owed
resume_spends p q f g v r k idle task pays fewer falls =
    let w = byte_worth f.reader.most f.store.limit in
    let owed_before : owed_by_event f.event + owed_by_task f.task f.reader.half ≡ 0 = rw (idle, task) refl in
    let owed_afterwards : owed_by_event f.event + owed_by_task f.task r.half ≡ 0 = rw (idle, task) refl in
    omega (arith, owed_before, owed_afterwards, falls.falls q, pays.pays w (omega arith), same_count v.building, same_count f.store.building, fewer)

-- the state after it
emitted_paid : (s : State) (t : Emitted Resume) (v : Stored Resume) (c : Coming) (q : Reached) (r : Reader) → s.chosen ≡ [] → (c.taken ≢ s.coming.taken → (v.levels ≡ []) × (r.burst ≡ 0)) → s.formatter.event ≡ events.Nothing → s.formatter.task ≡ tasks.Read
    → Pays s.formatter.store (reached s.coming) s.formatter.reader t v q r → diversions_in v.building ≤ diversions_in s.formatter.store.building
    → q.taken ≡ c.taken → q.inside ≡ c.inside → Paid s (record s { coming = c; formatter = emitted t (record s.formatter { store = v; reader = r }) })
emitted_paid s (tells.Event e) v c q r chosen fresh idle task pays fewer taken inside = record {
  limit = pays.limit;
  most = pays.most;
  pays =
      let spent = event_spends (reached s.coming) q s.formatter v r e idle task pays fewer in
      let same = weight-inside (reached c) q (record s.formatter { store = v; reader = r; event = e }) inside in
      let bytes : worth s * q.taken ≡ worth s * c.taken = ap (λ n. worth s * n) taken in
      omega (arith, spent, same, bytes);
  fresh = λ other. record { idle = idle; task = task; chosen = chosen; levels = (fresh other).0; burst = (fresh other).1 };
}
emitted_paid s (tells.Resume k) v c q r chosen fresh idle task pays fewer taken inside = record {
  limit = pays.limit;
  most = pays.most;
  pays =
      let f = record s.formatter { store = v; reader = r } in
      let spent = resume_spends (reached s.coming) q s.formatter (resumed k f) v r k idle task pays fewer (falls-resumed k f idle task) in
      let same = weight-inside (reached c) q (resumed k f) inside in
      let bytes : worth s * q.taken ≡ worth s * c.taken = ap (λ n. worth s * n) taken in
      omega (arith, spent, same, bytes);
  fresh = λ other. record { idle = idle; task = task; chosen = chosen; levels = (fresh other).0; burst = (fresh other).1 };
}

-- ---- the next item

next_item_bytes : (bs : List ℕ) (inside : Bool) → next_item_of bs inside ≡ seen_item (ahead_of bs) inside
next_item_bytes [] true = refl
next_item_bytes [] false = refl
next_item_bytes (b ∷ bs) inside = refl

pub next_item_same : (sh : Shown Resume) (c : Coming) → next_item sh c ≡ next_item_seen sh (reached c)
next_item_same shows.Nothing c = next_item_bytes c.supply.bytes c.inside
next_item_same sh c = refl

-- the place after it
abbrev pub AreSame : Reached → Coming → Type 0
AreSame p c = (p.taken ≡ c.taken) × (p.inside ≡ c.inside)

after_bytes : (bs : List ℕ) (c : Coming) → AreSame (passed_by (ahead_of bs) (reached c)) (after_item_of bs c)
after_bytes [] c = (refl, refl)
after_bytes (b ∷ bs) c = (refl, refl)

pub after_same : (sh : Shown Resume) (c : Coming) → AreSame (passed_in sh (reached c)) (afterwards sh c)
after_same shows.Nothing c = after_bytes c.supply.bytes c
after_same sh c = (refl, refl)

text_built : (xs : List Element) (l : Reading Resume) (ls : List (Level Resume)) (v : Stored Resume) → (left_of xs l ls v).building ≡ v.building
text_built [] l ls v = refl
text_built (x ∷ xs) l ls v = refl

pub left_built : (ls : List (Level Resume)) (v : Stored Resume) → (left ls v).building ≡ v.building
left_built [] v = refl
left_built (Read l ∷ ls) v = text_built l.rest l ls v
left_built (Mark k ∷ ls) v = refl

text_stays : (xs : List Element) (c : Coming) → (afterwards (shown_of {K = Resume} xs) c).taken ≢ c.taken → ⊥
text_stays [] c other = other refl
text_stays (x ∷ xs) c other = other refl

-- a byte is taken only where there is no level
no_level : (ls : List (Level Resume)) (v : Stored Resume) (c : Coming) → v.levels ≡ ls → (afterwards (shown ls) c).taken ≢ c.taken → (left ls v).levels ≡ []
no_level [] v c is other = is
no_level (Read l ∷ ls) v c is other = absurd (text_stays l.rest c other)
no_level (Mark k ∷ ls) v c is other = absurd (other refl)

no_burst : (same : Bool) (before taken burst : ℕ) → (taken == before) ≡ same → taken ≢ before → (if same then burst else 0) ≡ 0
no_burst true before taken burst is other = absurd (other (eqb-true taken before is))
no_burst false before taken burst is other = refl

pub stays_there : (p : Reached) → StaysThere p p
stays_there p = record { taken = refl; inside = refl }

-- ---- a look

look_at : (b : Bool) (m : TakenIn) (s : State) → s.chosen ≡ [] → m.takes ≡ b → is_look s.formatter.reader.half.reading.pending_act ≡ true → s.formatter.event ≡ events.Nothing → s.formatter.task ≡ tasks.Read
    → PaysFor (next_item (shown s.formatter.store.levels) s.coming) s.formatter.reader.half m.half (record { event = m.event; takes = m.takes })
    → Paid s (with_situation (if b then taken_at m (situation_of s) else stays_at m (situation_of s)) s)
look_at true m s chosen takes looking idle task pays =
    let v = s.formatter.store in
    let sh = shown v.levels in
    let r = s.formatter.reader in
    let p = reached s.coming in
    let n = passed_in sh p in
    let c = afterwards sh s.coming in
    let same = after_same sh s.coming in
    let burst = ap (λ k. burst_past s.coming.taken k r.burst) (sym same.0) in
    let fewer : diversions_in (left v.levels v).building ≤ diversions_in v.building = let built = ap diversions_in (left_built v.levels v) in omega arith in
    emitted_paid s (emitted_of sh m.event) (left v.levels v) c n (record r { half = m.half; burst = burst_past s.coming.taken c.taken r.burst }) chosen
    (λ other. (no_level v.levels v s.coming refl other, no_burst (c.taken == s.coming.taken) s.coming.taken c.taken r.burst refl other)) idle task
    (look_takes v (left v.levels v) p p n r (next_item sh s.coming) m.half (record { event = m.event; takes = m.takes }) (burst_past s.coming.taken c.taken r.burst) (emitted_of sh m.event)
    looking (stays_there p) (next_item_same sh s.coming) (λ look. pays) takes refl refl burst refl)
    fewer same.0 same.1
look_at false m s chosen takes looking idle task pays =
    let v = s.formatter.store in
    let r = s.formatter.reader in
    let p = reached s.coming in
    emitted_paid s (tells.Event m.event) v s.coming p (record r { half = m.half }) chosen (λ other. absurd (other refl)) idle task
    (look_leaves v p p r (next_item (shown v.levels) s.coming) m.half (record { event = m.event; takes = m.takes }) looking (stays_there p) (λ look. pays) takes)
    (omega arith) refl refl

-- ---- what is pending

pending_paid : (s : State) → s.chosen ≡ [] → is_look s.formatter.reader.half.reading.pending_act ≡ false → s.formatter.event ≡ events.Nothing → s.formatter.task ≡ tasks.Read → answer_at (situation_of s) ≡ Ok tt
    → Paid s (with_situation (acted_at (situation_of s)) s)
pending_paid s chosen looking idle task ok =
    let v = s.formatter.store in
    let r = s.formatter.reader in
    let a = acting (situation_of s) in
    let is = ap (λ x. acted_by x a v r) (sym ok) in
    emitted_paid s (tells.Event a.event) a.stored s.coming (reached s.coming) a.reader chosen (λ other. absurd (other refl)) idle task
    (act_pays v a.stored (reached s.coming) r a.reader a.event (λ look. let wrong : true ≡ false = sym (ap is_look look) ∙ looking in cc) is)
    (act_begins_none v a.stored r a.reader (Ok a.event) is) refl refl

-- ---- all of it

moved_by : (b : Bool) (s : State) → s.chosen ≡ [] → looks (situation_of s) ≡ b → s.formatter.event ≡ events.Nothing → s.formatter.task ≡ tasks.Read → input.GoesBy b (situation_of s)
    → Paid s (with_situation (if b then look (situation_of s) else acted_at (situation_of s)) s)
moved_by true s chosen looking idle task goes =
    let h = s.formatter.reader.half in
    let f = next_item (shown s.formatter.store.levels) s.coming in
    let m = take_in f h in
    look_at m.takes m s chosen refl looking idle task (pays_for f h m.half (record { event = m.event; takes = m.takes }) refl (pending_look h.reading.pending_act looking))
moved_by false s chosen looking idle task goes = pending_paid s chosen looking idle task goes

pub read-paid : (s : State) → s.chosen ≡ [] → s.formatter.event ≡ events.Nothing → s.formatter.task ≡ tasks.Read → input.Goes (situation_of s) → Paid s (read s)
read-paid s chosen idle task goes = moved_by (looks (situation_of s)) s chosen refl idle task goes

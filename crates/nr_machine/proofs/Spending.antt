-- What a move that reads costs.
use Rattle.std.proofs.Common.{◌≡◌, ℕ, ◌+◌, ◌-◌, ◌*◌, ◌≤◌, true, false, List, [], ◌∷◌, Option, None, Some, refl, arith}
use Rattle.std.proofs.lemmas.List.Sums.{sum_by-cons}
use Rattle.nr_store.specs.declared.element.Diversion.{Diversion}
use Rattle.nr_reading.specs.declared.event.Event.{Event}
use Rattle.nr_reading.specs.declared.event.Event.TheVariants as events
use Rattle.nr_reading.specs.Weights.{cost_of_event, blanks_owed, is_lead}
use Rattle.nr_store.specs.Store.{Stored, Built}
use Rattle.nr_input.specs.Place.{Reached, ended}
use Rattle.nr_input.specs.Weights.{byte_worth, weight_before_byte, risen, Pays, IfLead, diversions_in, diversions_of, count_of_diversion}
use Rattle.nr_input.specs.declared.reader.Reader.{Reader}
use Rattle.nr_input.specs.declared.emitted.Emitted.TheVariants as tells
use Rattle.nr_formatter.specs.Weights.{Falls, weight, steps_left, owed, owed_by_event, owed_by_task, weight_of_agenda, weight_of_diversion, weight_of_built, weight_of_diversions}
use Rattle.nr_formatter.specs.declared.formatter.Formatter.{Formatter}
use Rattle.nr_formatter.specs.declared.tasks.Resume.{Resume}
use Rattle.nr_formatter.specs.declared.tasks.Step.{Step}
use Rattle.nr_formatter.specs.declared.tasks.Task.TheVariants as tasks

-- a blank of a line's beginning is emitted out of the blanks that are owed
abbrev lead_of : Event → ℕ
lead_of events.Lead = 178
lead_of e = 0

-- what is emitted weighs no more than what the move pays for it
event_paid : (e : Event) (s : Step) → weight_of_agenda e tasks.Read s + owed_by_event e + 1 ≤ 4 + cost_of_event e + lead_of e
event_paid events.Nothing s = omega arith
event_paid events.Over s = omega arith
event_paid events.Empty s = omega arith
event_paid events.EndContinued s = omega arith
event_paid events.EndLine s = omega arith
event_paid events.EndInterrupted s = omega arith
event_paid events.Leading s = omega arith
event_paid events.Lead s = omega arith
event_paid (events.Byte b) s = omega arith
event_paid (events.Cell x) s = omega arith
event_paid (events.Plain b) s = omega arith
event_paid events.Fixed s = omega arith
event_paid events.Zero s = omega arith
event_paid events.Percent s = omega arith
event_paid events.BreakWord s = omega arith
event_paid events.Tab s = omega arith
event_paid events.Leader s = omega arith
event_paid events.Special s = omega arith
event_paid events.Font s = omega arith
event_paid events.Horizontal s = omega arith
event_paid events.Rule s = omega arith
event_paid events.Given s = omega arith
event_paid events.Width s = omega arith
event_paid events.Title s = omega arith
event_paid events.TitlePart s = omega arith
event_paid events.TitleEnd s = omega arith
event_paid events.Diverted s = omega arith
event_paid (events.DivertedCell x) s = omega arith
event_paid (events.DivertedEnd h) s = omega arith
event_paid events.Request s = omega arith
event_paid (events.Judge q) s = omega arith

-- the blanks that are owed
blanks_paid : (e : Event) (old new : ℕ) → IfLead {K = Resume} (tells.Event e) (new + 1 ≡ old) → 178 * new + lead_of e ≤ 178 * (new - old) + 178 * old
blanks_paid events.Lead old new h = omega (arith, h)
blanks_paid e old new h = omega arith

-- diversions, counted one way and the other
same_diversion : (d : Option Diversion) → weight_of_diversion d ≡ count_of_diversion d
same_diversion None = refl
same_diversion (Some d) = refl

same_count : (bs : List Built) → weight_of_diversions bs ≡ diversions_in bs
same_count [] = refl
same_count (b ∷ bs) = omega (arith, sum_by-cons weight_of_built b bs, sum_by-cons diversions_of b bs, same_diversion b.diversion, same_count bs)

-- so many moves read, and the last of them emitted this
emitted_paid : (n : ℕ) (p q : Reached) (f : Formatter) (v : Stored Resume) (r : Reader) (e : Event) → f.event ≡ events.Nothing → f.task ≡ tasks.Read
    → weight_before_byte v q r + cost_of_event e + n + 178 * risen f.reader.half r.half + byte_worth f.reader.most f.store.limit * p.taken
    ≤ weight_before_byte f.store p f.reader + 1 + byte_worth f.reader.most f.store.limit * q.taken
    → 178 * blanks_owed r.half + lead_of e ≤ 178 * (blanks_owed r.half - blanks_owed f.reader.half) + 178 * blanks_owed f.reader.half
    → diversions_in v.building ≤ diversions_in f.store.building
    → weight q (record f { store = v; reader = r; event = e }) + n + byte_worth f.reader.most f.store.limit * p.taken
    ≤ weight p f + byte_worth f.reader.most f.store.limit * q.taken
unfolding weight steps_left owed
emitted_paid n p q f v r e idle task paid blanks fewer =
    let before : weight_of_agenda f.event f.task f.step ≡ 4 = rw (idle, task) refl in
    let owed_before : owed_by_event f.event + owed_by_task f.task f.reader.half ≡ 0 = rw (idle, task) refl in
    let afterwards : weight_of_agenda e f.task f.step ≡ weight_of_agenda e tasks.Read f.step = rw task refl in
    let owed_afterwards : owed_by_task f.task r.half ≡ 0 = rw task refl in
    omega (arith, before, owed_before, afterwards, owed_afterwards, paid, event_paid e f.step, blanks, same_count v.building, same_count f.store.building, fewer)

-- an event is emitted
pub emitted_spends : (p q : Reached) (f : Formatter) (v : Stored Resume) (r : Reader) (e : Event) → f.event ≡ events.Nothing → f.task ≡ tasks.Read
    → Pays f.store p f.reader (tells.Event e) v q r → diversions_in v.building ≤ diversions_in f.store.building
    → weight q (record f { store = v; reader = r; event = e }) + 1 + byte_worth f.reader.most f.store.limit * p.taken
    ≤ weight p f + byte_worth f.reader.most f.store.limit * q.taken
emitted_spends p q f v r e idle task pays fewer =
    emitted_paid 1 p q f v r e idle task (let paid = pays.pays (byte_worth f.reader.most f.store.limit) (omega arith) in omega arith)
    (blanks_paid e (blanks_owed f.reader.half) (blanks_owed r.half) pays.lead) fewer

-- what was under way is gone on with
pub resumed_spends : (p q : Reached) (f g : Formatter) (v : Stored Resume) (r : Reader) (k : Resume) → f.event ≡ events.Nothing → f.task ≡ tasks.Read
    → Pays f.store p f.reader (tells.Resume k) v q r → diversions_in v.building ≤ diversions_in f.store.building
    → Falls 0 510 (record f { store = v; reader = r }) g
    → weight q g + 1 + byte_worth f.reader.most f.store.limit * p.taken ≤ weight p f + byte_worth f.reader.most f.store.limit * q.taken
unfolding weight steps_left owed
resumed_spends p q f g v r k idle task pays fewer falls =
    let w = byte_worth f.reader.most f.store.limit in
    let owed_before : owed_by_event f.event + owed_by_task f.task f.reader.half ≡ 0 = rw (idle, task) refl in
    let owed_afterwards : owed_by_event f.event + owed_by_task f.task r.half ≡ 0 = rw (idle, task) refl in
    omega (arith, owed_before, owed_afterwards, falls.falls q, pays.pays w (omega arith), same_count v.building, same_count f.store.building, fewer)

-- nothing is to come of the source any more
pub exit_spends : (w : ℕ) (p : Reached) (f g : Formatter) → Falls 1 0 f g → weight (ended p) g + 1 + w * p.taken ≤ weight p f + w * p.taken
unfolding weight
exit_spends w p f g falls = let a = falls.falls (ended p) in omega arith

-- a move that takes no byte
pub work_spends : (w : ℕ) (p : Reached) (f g : Formatter) → Falls 1 0 f g → weight p g + 1 + w * p.taken ≤ weight p f + w * p.taken
work_spends w p f g falls = let a = falls.falls p in omega arith

no_lead : (e : Event) → is_lead e ≡ false → lead_of e ≡ 0
no_lead events.Lead is = absurd (let wrong : true ≡ false = is in cc)
no_lead e is = refl

-- so many moves read, and the last of them emitted this, which is no blank of a line's beginning
pub emitted_no_lead : (n : ℕ) (p q : Reached) (f : Formatter) (v : Stored Resume) (r : Reader) (e : Event) → f.event ≡ events.Nothing → f.task ≡ tasks.Read
    → weight_before_byte v q r + cost_of_event e + n + 178 * risen f.reader.half r.half + byte_worth f.reader.most f.store.limit * p.taken
    ≤ weight_before_byte f.store p f.reader + 1 + byte_worth f.reader.most f.store.limit * q.taken
    → is_lead e ≡ false → diversions_in v.building ≤ diversions_in f.store.building
    → weight q (record f { store = v; reader = r; event = e }) + n + byte_worth f.reader.most f.store.limit * p.taken
    ≤ weight p f + byte_worth f.reader.most f.store.limit * q.taken
emitted_no_lead n p q f v r e idle task paid tells fewer =
    emitted_paid n p q f v r e idle task paid (let none = no_lead e tells in omega arith) fewer

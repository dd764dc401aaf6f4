-- A move that reads and tells no blank is paid without the blanks that are owed.
use Rattle.std.proofs.Common.{◌≡◌, ℕ, ◌+◌, ◌*◌, ◌≤◌, Bool, true, false, if◌then◌else◌, Ok, refl, ap, sym, ◌∙◌, arith}
use Rattle.nr_store.specs.Store.{Stored, shown, left}
use Rattle.nr_reading.specs.Half.{TakenIn, take_in}
use Rattle.nr_reading.specs.Weights.{PaysFor, blanks_owed, is_lead}
use Rattle.nr_reading.specs.declared.event.Event.{Event}
use Rattle.nr_reading.specs.declared.event.Event.TheVariants as events
use Rattle.nr_reading.proofs.Paying.{pays_for}
use Rattle.nr_input.specs.Acting.{is_look}
use Rattle.nr_input.specs.Moving.{look, taken_at, stays_at, acted_at, acting, answer_at, burst_past, emitted_of}
use Rattle.nr_input.specs.Place.{Coming, Reached, next_item, afterwards, passed_in}
use Rattle.nr_input.specs.Refusal.{acted_by}
use Rattle.nr_input.specs.Weights.{Pays, byte_worth, diversions_in}
use Rattle.nr_input.specs.declared.reader.Reader.{Reader}
use Rattle.nr_input.specs.declared.emitted.Emitted.TheVariants as tells
use Rattle.nr_input.proofs.Spending.{act_pays}
use Rattle.nr_input.proofs.Staying.{act_begins_none}
use Rattle.nr_input.proofs.Taking.{look_takes, look_leaves, pending_look}
use Rattle.nr_formatter.specs.Weights.{weight, steps_left, owed, owed_by_event, owed_by_task, weight_of_agenda}
use Rattle.nr_formatter.specs.declared.formatter.Formatter.{Formatter}
use Rattle.nr_formatter.specs.declared.tasks.Resume.{Resume}
use Rattle.nr_formatter.specs.declared.tasks.Task.TheVariants as tasks
use Rattle.nr_machine.specs.State.{State}
use Rattle.nr_machine.specs.Machine.{situation_of, with_situation}
use Rattle.nr_laws.proofs.ReadsPaid.{reached, worth, may_come, weight-inside, lead_of, event_paid, same_count, next_item_same, after_same, left_built, stays_there}

-- how many blanks are owed
abbrev pub blanks_in : State → ℕ
blanks_in s = blanks_owed s.formatter.reader.half

-- What may come without them falls: they may be more then, or fewer.
pub record Saves (s t : State) : Type 0 where
  pub pays : may_come t + 1 + 178 * blanks_in s + worth s * s.coming.taken ≤ may_come s + 178 * blanks_in t + worth s * t.coming.taken

no_lead : (e : Event) → is_lead e ≡ false → lead_of e ≡ 0
no_lead events.Lead is = absurd (let wrong : true ≡ false = is in cc)
no_lead e is = refl

event_saves : (p q : Reached) (f : Formatter) (v : Stored Resume) (r : Reader) (e : Event) → f.event ≡ events.Nothing → f.task ≡ tasks.Read → is_lead e ≡ false
    → Pays f.store p f.reader (tells.Event e) v q r → diversions_in v.building ≤ diversions_in f.store.building
    → weight q (record f { store = v; reader = r; event = e }) + 1 + 178 * blanks_owed f.reader.half + byte_worth f.reader.most f.store.limit * p.taken
    ≤ weight p f + 178 * blanks_owed r.half + byte_worth f.reader.most f.store.limit * q.taken
unfolding weight steps_left owed
event_saves p q f v r e idle task none pays fewer =
    let before : weight_of_agenda f.event f.task f.step ≡ 4 = rw (idle, task) refl in
    let owed_before : owed_by_event f.event + owed_by_task f.task f.reader.half ≡ 0 = rw (idle, task) refl in
    let after_it : weight_of_agenda e f.task f.step ≡ weight_of_agenda e tasks.Read f.step = rw task refl in
    let owed_after : owed_by_task f.task r.half ≡ 0 = rw task refl in
    let paid = pays.pays (byte_worth f.reader.most f.store.limit) (omega arith) in
    omega (
      arith,
      before,
      owed_before,
      after_it,
      owed_after,
      paid,
      event_paid e f.step,
      no_lead e none,
      same_count v.building,
      same_count f.store.building,
      fewer,
    )

emitted_saves : (s : State) (e : Event) (v : Stored Resume) (c : Coming) (q : Reached) (r : Reader) → s.formatter.event ≡ events.Nothing → s.formatter.task ≡ tasks.Read → is_lead e ≡ false
    → Pays s.formatter.store (reached s.coming) s.formatter.reader (tells.Event e) v q r → diversions_in v.building ≤ diversions_in s.formatter.store.building
    → q.taken ≡ c.taken → q.inside ≡ c.inside → Saves s (record s { coming = c; formatter = record s.formatter { store = v; reader = r; event = e } })
emitted_saves s e v c q r idle task none pays fewer taken inside = record {
  pays =
      let spent = event_saves (reached s.coming) q s.formatter v r e idle task none pays fewer in
      let same = weight-inside (reached c) q (record s.formatter { store = v; reader = r; event = e }) inside in
      let bytes : worth s * q.taken ≡ worth s * c.taken = ap (λ n. worth s * n) taken in
      omega (arith, spent, same, bytes);
}

-- ---- a look

look_at : (b : Bool) (m : TakenIn) (s : State) → m.takes ≡ b → (b ≡ true → emitted_of (shown s.formatter.store.levels) m.event ≡ tells.Event m.event)
    → is_look s.formatter.reader.half.reading.pending_act ≡ true → s.formatter.event ≡ events.Nothing → s.formatter.task ≡ tasks.Read
    → PaysFor (next_item (shown s.formatter.store.levels) s.coming) s.formatter.reader.half m.half (record { event = m.event; takes = m.takes })
    → Saves s (with_situation (if b then taken_at m (situation_of s) else stays_at m (situation_of s)) s)
look_at true m s takes event looking idle task pays =
    let v = s.formatter.store in
    let sh = shown v.levels in
    let r = s.formatter.reader in
    let p = reached s.coming in
    let n = passed_in sh p in
    let c = afterwards sh s.coming in
    let same = after_same sh s.coming in
    let burst = ap (λ k. burst_past s.coming.taken k r.burst) (sym same.0) in
    let fewer : diversions_in (left v.levels v).building ≤ diversions_in v.building = let built = ap diversions_in (left_built v.levels v) in omega arith in
    let x = record r { half = m.half; burst = burst_past s.coming.taken c.taken r.burst } in
    let emitted = event refl in
    rw emitted
    (emitted_saves s m.event (left v.levels v) c n x idle task pays.tells
    (look_takes v (left v.levels v) p p n r (next_item sh s.coming) m.half (record { event = m.event; takes = m.takes }) (burst_past s.coming.taken c.taken r.burst) (tells.Event m.event)
    looking (stays_there p) (next_item_same sh s.coming) (λ look. pays) takes refl refl burst (sym emitted))
    fewer same.0 same.1)
look_at false m s takes event looking idle task pays =
    let v = s.formatter.store in
    let r = s.formatter.reader in
    let p = reached s.coming in
    emitted_saves s m.event v s.coming p (record r { half = m.half }) idle task pays.tells
    (look_leaves v p p r (next_item (shown v.levels) s.coming) m.half (record { event = m.event; takes = m.takes }) looking (stays_there p) (λ look. pays) takes)
    (omega arith) refl refl

pub look-saves : (s : State) → let m = take_in (next_item (shown s.formatter.store.levels) s.coming) s.formatter.reader.half in (m.takes ≡ true → emitted_of (shown s.formatter.store.levels) m.event ≡ tells.Event m.event)
    → is_look s.formatter.reader.half.reading.pending_act ≡ true → s.formatter.event ≡ events.Nothing → s.formatter.task ≡ tasks.Read → Saves s (with_situation (look (situation_of s)) s)
look-saves s event looking idle task =
    let h = s.formatter.reader.half in
    let f = next_item (shown s.formatter.store.levels) s.coming in
    let m = take_in f h in
    look_at m.takes m s refl event looking idle task (pays_for f h m.half (record { event = m.event; takes = m.takes }) refl (pending_look h.reading.pending_act looking))

-- ---- what is pending

pub pending_act-saves : (s : State) → is_look s.formatter.reader.half.reading.pending_act ≡ false → s.formatter.event ≡ events.Nothing → s.formatter.task ≡ tasks.Read → answer_at (situation_of s) ≡ Ok tt
    → is_lead (acting (situation_of s)).event ≡ false → Saves s (with_situation (acted_at (situation_of s)) s)
pending_act-saves s looking idle task ok none =
    let v = s.formatter.store in
    let r = s.formatter.reader in
    let a = acting (situation_of s) in
    let is = ap (λ x. acted_by x a v r) (sym ok) in
    emitted_saves s a.event a.stored s.coming (reached s.coming) a.reader idle task none
    (act_pays v a.stored (reached s.coming) r a.reader a.event (λ look. let wrong : true ≡ false = sym (ap is_look look) ∙ looking in cc) is)
    (act_begins_none v a.stored r a.reader (Ok a.event) is) refl refl

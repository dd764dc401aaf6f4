-- Blanks that a line begins with bring no more moves than the line may hold, however many there are.
use Rattle.std.specs.Prelude.{◌⊎◌}
use Rattle.std.proofs.lemmas.Bool.{cases_lt}
use Rattle.std.proofs.Common.{◌≡◌, ◌≢◌, ℕ, zero, suc, ◌+◌, ◌*◌, ◌<◌, ◌≤◌, Bool, true, false, if◌then◌else◌, List, [], ◌∷◌, Option, None, Some, refl, ap, sym, subst, ◌∙◌, inl, inr, arith}
use Rattle.nr_store.specs.Store.{shown}
use Rattle.nr_store.specs.declared.shown.Shown.{Shown}
use Rattle.nr_store.specs.declared.shown.Shown.TheVariants as shows
use Rattle.nr_reading.specs.Half.{TakenIn, take_in}
use Rattle.nr_reading.specs.Weights.{PaysFor, paid_by, worth_of_item, weight_of_half, blanks_owed, blanks_of_mode, blanks_of_pending}
use Rattle.nr_reading.specs.declared.event.Event.{Event}
use Rattle.nr_reading.specs.declared.event.Event.TheVariants as events
use Rattle.nr_reading.specs.declared.next_item.NextItem.{NextItem}
use Rattle.nr_reading.specs.declared.next_item.NextItem.TheVariants as next_items
use Rattle.nr_reading.specs.declared.half.Half.{Half}
use Rattle.nr_reading.specs.declared.mode.PendingAct.TheVariants as pending_acts
use Rattle.nr_reading.specs.declared.mode.Mode.{Mode}
use Rattle.nr_reading.specs.declared.mode.Mode.TheVariants as modes
use Rattle.nr_reading.proofs.Paying.{pays_for}
use Rattle.nr_input.specs.Moving.{looks, look, taken_at, stays_at, acted_at, emitted_of}
use Rattle.nr_input.specs.Place.{Coming, next_item, afterwards}
use Rattle.nr_input.specs.declared.emitted.Emitted.TheVariants as tells
use Rattle.nr_input.proofs.Taking.{pending_look}
use Rattle.nr_input.specs.Weights.{byte_worth}
use Rattle.nr_formatter.specs.Weights.{weight}
use Rattle.nr_formatter.specs.declared.tasks.Resume.{Resume}
use Rattle.nr_formatter.specs.declared.tasks.Task.TheVariants as tasks
use Rattle.nr_machine.specs.State.{State, Choice}
use Rattle.nr_machine.specs.Machine.{choose_or, spring_or, situation_of, with_situation, step, state_after}
use Rattle.nr_machine.specs.Run.{Reads, kind, Goes, Runs}
use Rattle.nr_laws.proofs.BlanksSaved.{blanks_in}
use Rattle.nr_laws.proofs.BlanksEmitted.{Leads, cells_of, leads-stop}
use Rattle.nr_laws.proofs.BlanksWait.{Stands, Has, Emitted, Wait as Waiting, step-holds}
use Rattle.nr_laws.proofs.Growing.{state_after-add}
use Rattle.nr_laws.proofs.MovesPaid.{step-paid}
use Rattle.nr_laws.proofs.PageLengths.{HasHeight, height-after}
use Rattle.nr_laws.proofs.PaidMoves.{all_paid}
use Rattle.nr_laws.proofs.ReadMoves.{reads-step}
use Rattle.nr_laws.proofs.ReadsPaid.{worth, may_come}
use Rattle.nr_laws.proofs.WithinRun.{IsKept, kept-after}

-- ---- the move that takes a byte

-- nothing springs where it is made, and no option takes effect
none-springs : (n : Option (List ℕ)) (s : State) → (spring_or n s).coming.taken ≢ s.coming.taken → n ≡ None
none-springs None s other = refl
none-springs (Some name) s other = absurd (other refl)

none-chosen : (cs : List Choice) (s : State) → (choose_or cs s).coming.taken ≢ s.coming.taken → (cs ≡ []) × (s.formatter.springs ≡ None)
none-chosen [] s other = (refl, none-springs s.formatter.springs s other)
none-chosen (c ∷ cs) s other = absurd (other refl)

none-first : (s : State) → (step s).coming.taken ≢ s.coming.taken → (s.chosen ≡ []) × (s.formatter.springs ≡ None)
unfolding step
none-first s other = none-chosen s.chosen s other

next_item-le : (b : Bool) (f : NextItem) → paid_by b (worth_of_item f) ≤ 256
next_item-le false f = omega arith
next_item-le true next_items.Mark = omega arith
next_item-le true next_items.Resume = omega arith
next_item-le true next_items.Over = omega arith
next_item-le true f = omega arith

event-emitted : (sh : Shown Resume) (e : Event) (c : Coming) → (afterwards sh c).taken ≢ c.taken → emitted_of sh e ≡ tells.Event e
event-emitted (shows.Resume k) e c other = absurd (other refl)
event-emitted sh e c other = refl

-- what is half read weighs no more than before, with the byte and with the blanks that were owed
abbrev pub IsPaid : ℕ → State → State → Type 0
IsPaid most s t = weight_of_half t.formatter.reader.half + 178 * blanks_in t ≤ weight_of_half s.formatter.reader.half + 178 * most + 256

taken_in-paid : (most : ℕ) (f : NextItem) (h : Half) (m : TakenIn) → blanks_owed h ≤ most → PaysFor f h m.half (record { event = m.event; takes = m.takes })
    → weight_of_half m.half + 178 * blanks_owed m.half ≤ weight_of_half h + 178 * most + 256
taken_in-paid most f h m few pays = let paid = pays.pays in omega (arith, few, paid, next_item-le m.takes f)

look-paid : (b : Bool) (most : ℕ) (m : TakenIn) (s : State) → m.takes ≡ b → blanks_in s ≤ most
    → PaysFor (next_item (shown s.formatter.store.levels) s.coming) s.formatter.reader.half m.half (record { event = m.event; takes = m.takes })
    → let t = with_situation (if b then taken_at m (situation_of s) else stays_at m (situation_of s)) s in
    t.coming.taken ≢ s.coming.taken → IsPaid most s t
look-paid true most m s takes few pays other =
    rw (event-emitted (shown s.formatter.store.levels) m.event s.coming other) (taken_in-paid most (next_item (shown s.formatter.store.levels) s.coming) s.formatter.reader.half m few pays)
look-paid false most m s takes few pays other = absurd (other refl)

reads-paid : (b : Bool) (most : ℕ) (s : State) → looks (situation_of s) ≡ b → blanks_in s ≤ most
    → let t = with_situation (if b then look (situation_of s) else acted_at (situation_of s)) s in
    t.coming.taken ≢ s.coming.taken → IsPaid most s t
reads-paid true most s looking few other =
    let h = s.formatter.reader.half in
    let f = next_item (shown s.formatter.store.levels) s.coming in
    let m = take_in f h in
    look-paid m.takes most m s refl few (pays_for f h m.half (record { event = m.event; takes = m.takes }) refl (pending_look h.reading.pending_act looking)) other
reads-paid false most s looking few other = absurd (other refl)

leading : (m : Mode) → 1 < blanks_of_mode m → (n : ℕ) × (m ≡ modes.Leading n)
leading (modes.Leading n) many = (n, refl)
leading m many = absurd (let wrong : ⊥ = omega (arith, many) in wrong)

looks-now : (b : Bool) (s : State) → looks (situation_of s) ≡ b → (with_situation (if b then look (situation_of s) else acted_at (situation_of s)) s).coming.taken ≢ s.coming.taken
    → s.formatter.reader.half.reading.pending_act ≡ pending_acts.Look
looks-now true s looking other = pending_look s.formatter.reader.half.reading.pending_act looking
looks-now false s looking other = absurd (other refl)

-- After it a few blanks are owed, or they are pending, or wait; or what is half read is paid.
pub byte-taken : (most : ℕ) (s : State) → 1 ≤ most → HasHeight s.formatter → Goes s → (step s).coming.taken ≢ s.coming.taken → Stands most (step s) ⊎ IsPaid most s (step s)
byte-taken most s some height goes other = by (cases_lt most (blanks_in s))
  where
    first : (s.chosen ≡ []) × (s.formatter.springs ≡ None)
    first = none-first s other

    idle : s.formatter.event ≡ events.Nothing
    idle = ((step-paid s height goes).fresh other).idle

    task : s.formatter.task ≡ tasks.Read
    task = ((step-paid s height goes).fresh other).task

    is : kind s ≡ Reads
    is = rw (first.0, first.1, idle, task) refl

    by : (most < blanks_in s) ⊎ (blanks_in s ≤ most) → Stands most (step s) ⊎ IsPaid most s (step s)
    by (inr few) = inr (subst (λ (t : State). IsPaid most s t) (sym (reads-step s is)) (reads-paid (looks (situation_of s)) most s refl few (subst (λ (t : State). t.coming.taken ≢ s.coming.taken) (reads-step s is) other)))
    by (inl many) =
        let pending_act = looks-now (looks (situation_of s)) s refl (subst (λ (t : State). t.coming.taken ≢ s.coming.taken) (reads-step s is) other) in
        let none : blanks_of_pending s.formatter.reader.half.reading.pending_act ≡ 0 = ap blanks_of_pending pending_act in
        let m = leading s.formatter.reader.half.reading.mode (omega (arith, many, none, some)) in
        inl (step-holds most m.0 s some (record { chosen = first.0; springs = first.1; calm = rw (idle, task) tt; mode = m.1; none = none }) height goes).stands

-- ---- the moves after it

owes : (s : State) → 178 * blanks_in s ≤ may_come s
unfolding weight
owes s = omega arith

one-first : (n : ℕ) (s : State) → state_after (suc n) s ≡ state_after n (step s)
one-first n s = ap (λ m. state_after m s) (let e : suc n ≡ 1 + n = omega arith in e) ∙ state_after-add s 1 n

-- of a run from a first state, whose line may hold so many cells
module _ (first : State) (most : ℕ) (some : 1 ≤ most) (height : HasHeight first.formatter) (kept : IsKept first.formatter) (limit : (m : ℕ) → (state_after m first).formatter.line.limit ≡ most) where
  -- blanks aside so many moves are paid, and so many besides
  abbrev AreEnough : ℕ → State → Type 0
  AreEnough n s = n + 178 * blanks_in s + worth first * s.coming.taken ≤ may_come s + worth first * (state_after n s).coming.taken + 180 * most + 2

  same-worth : (m : ℕ) → Runs m first → worth (state_after m first) ≡ worth first
  same-worth m runs =
      let all = all_paid m first height runs in
      ap (λ k. byte_worth k (state_after m first).formatter.store.limit) all.most ∙ ap (λ l. byte_worth first.formatter.reader.most l) all.limit

  prefix-runs : (m n : ℕ) → Runs (m + n) first → Runs m first
  prefix-runs m n runs = λ k less. runs k (omega (arith, less))

  later-runs : (m n : ℕ) → Runs (m + n) first → Runs n (state_after m first)
  later-runs m n runs = λ k less. subst Goes (state_after-add first m k) (runs (m + k) (omega (arith, less)))

  few-enough : (m n : ℕ) → Runs (m + n) first → blanks_in (state_after m first) ≤ most → AreEnough n (state_after m first)
  few-enough m n runs few =
      let s = state_after m first in
      let paid = (all_paid n s (height-after m first height) (later-runs m n runs)).pays in
      let same = same-worth m (prefix-runs m n runs) in
      let before : worth s * s.coming.taken ≡ worth first * s.coming.taken = ap (λ w. w * s.coming.taken) same in
      let after : worth s * (state_after n s).coming.taken ≡ worth first * (state_after n s).coming.taken = ap (λ w. w * (state_after n s).coming.taken) same in
      omega (arith, paid, before, after, few)

  emitted-enough : (m n k : ℕ) → Runs (m + n) first → Leads k (state_after m first) → AreEnough n (state_after m first)
  emitted-enough m n k runs leads = by (cases_lt most (cells_of (state_after m first) + k))
    where
      by : (most < cells_of (state_after m first) + k) ⊎ (cells_of (state_after m first) + k ≤ most) → AreEnough n (state_after m first)
      by (inl above) =
          let s = state_after m first in
          let line = limit m in
          let stop = leads-stop n k s leads (later-runs m n runs) (kept-after m first (prefix-runs m n runs) kept) (omega (arith, above, line)) in
          let bytes : worth first * (state_after n s).coming.taken ≡ worth first * s.coming.taken = ap (λ (c : Coming). worth first * c.taken) stop.1 in
          omega (arith, stop.0, bytes, owes s, line)
      by (inr within) =
          let s = state_after m first in
          let blanks : blanks_in s ≡ blanks_of_pending (pending_acts.Lead k) = rw (leads.mode, leads.pending_act) (omega arith) in
          few-enough m n runs (omega (arith, blanks, within, some))

  pub stands-enough : (n m : ℕ) → Runs (m + n) first → Stands most (state_after m first) → AreEnough n (state_after m first)
  stands-enough n m runs (Has few) = few-enough m n runs few
  stands-enough n m runs (Emitted k leads) = emitted-enough m n k runs leads
  stands-enough zero m runs (Waiting k waits) = omega (arith, owes (state_after m first))
  stands-enough (suc n) m runs (Waiting k waits) =
      let s = state_after m first in
      let t = state_after (suc m) first in
      let holds = step-holds most k s some waits (height-after m first height) (runs m (omega arith)) in
      let rest = stands-enough n (suc m) (λ i less. runs i (omega (arith, less))) holds.stands in
      let saves = holds.saves.pays in
      let same = same-worth m (prefix-runs m (suc n) runs) in
      let before : worth s * s.coming.taken ≡ worth first * s.coming.taken = ap (λ w. w * s.coming.taken) same in
      let after : worth s * t.coming.taken ≡ worth first * t.coming.taken = ap (λ w. w * t.coming.taken) same in
      let end : worth first * (state_after (suc n) s).coming.taken ≡ worth first * (state_after n t).coming.taken = ap (λ (u : State). worth first * u.coming.taken) (one-first n s) in
      omega (arith, rest, saves, before, after, end)

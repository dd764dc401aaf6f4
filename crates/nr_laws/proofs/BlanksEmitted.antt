-- Blanks that are pending are emitted one after another, and each is a cell of the line: there are soon as many as it may hold.
use Rattle.std.specs.Prelude.{nat_le}
use Rattle.std.proofs.lemmas.Bool.{leb-false, leb-true}
use Rattle.std.proofs.Common.{◌≡◌, ℕ, zero, suc, ◌+◌, ◌-◌, ◌*◌, ◌<◌, ◌≤◌, Bool, true, false, if◌then◌else◌, List, [], ◌∷◌, Option, None, Some, refl, ap, subst, ◌∙◌, arith}
use Rattle.nr_fill.specs.Piece.{line_cells, text_cells}
use Rattle.nr_fill.proofs.Measures.{line_cells-add_blank}
use Rattle.nr_reading.specs.declared.event.Event.{Event}
use Rattle.nr_reading.specs.declared.event.Event.TheVariants as events
use Rattle.nr_reading.specs.declared.mode.PendingAct.{PendingAct}
use Rattle.nr_reading.specs.declared.mode.PendingAct.TheVariants as pending_acts
use Rattle.nr_reading.specs.declared.mode.Mode.TheVariants as modes
use Rattle.nr_input.specs.Acting.{act, after_lead, then_pending, is_look}
use Rattle.nr_input.specs.Moving.{look, situation}
use Rattle.nr_input.specs.declared.emitted.Emitted.TheVariants as tells
use Rattle.nr_formatter.specs.Access.{collected, margins}
use Rattle.nr_formatter.specs.Text.{blank_cell, text}
use Rattle.nr_formatter.specs.Titles.{reads_title, is_title, title}
use Rattle.nr_formatter.specs.declared.formatter.Formatter.{Formatter}
use Rattle.nr_formatter.specs.declared.tasks.Task.TheVariants as tasks
use Rattle.nr_machine.specs.State.{State, Choice, plainly}
use Rattle.nr_machine.specs.Machine.{situation_of, with_situation, hear, spring_or, choose_or, step, state_after}
use Rattle.nr_machine.specs.Run.{Reads, kind, Goes, Runs}
use Rattle.nr_laws.proofs.Growing.{state_after-add}
use Rattle.nr_laws.proofs.ReadMoves.{reads-step}
use Rattle.nr_laws.proofs.WithinRun.{IsKept, kept-after}

-- ---- what is heard

springs-hear : (n : Option (List ℕ)) (e : Event) (s : State) → n ≡ None → s.formatter.event ≡ e → spring_or n s ≡ hear e s
springs-hear None e s is event = ap (λ x. hear x s) event
springs-hear (Some n) e s is event = absurd (let wrong : Some n ≡ None = is in cc)

chosen-hear : (cs : List Choice) (e : Event) (s : State) → cs ≡ [] → s.formatter.springs ≡ None → s.formatter.event ≡ e → choose_or cs s ≡ hear e s
chosen-hear [] e s is springs event = springs-hear s.formatter.springs e s springs event
chosen-hear (c ∷ cs) e s is springs event = absurd (let wrong : c ∷ cs ≡ [] = is in cc)

pub step-hears : (e : Event) (s : State) → s.chosen ≡ [] → s.formatter.springs ≡ None → s.formatter.event ≡ e → step s ≡ hear e s
unfolding step
step-hears e s chosen springs event = chosen-hear s.chosen e s chosen springs event

-- ---- two moves for each blank

-- so many blanks are pending, and no title is read
pub record Leads (k : ℕ) (s : State) : Type 0 where
  pub chosen : s.chosen ≡ []
  pub springs : s.formatter.springs ≡ None
  pub event : s.formatter.event ≡ events.Nothing
  pub task : s.formatter.task ≡ tasks.Read
  pub mode : s.formatter.reader.half.reading.mode ≡ modes.Text
  pub pending_act : s.formatter.reader.half.reading.pending_act ≡ pending_acts.Lead k

-- one is emitted
abbrev emitted : ℕ → State → State
emitted k s = record s { formatter = record s.formatter { event = events.Lead; reader = then_pending (after_lead k) s.formatter.reader } }

-- and becomes a cell
abbrev put : ℕ → State → State
put k s = plainly blank_cell (emitted k s)

acted : (d : PendingAct) (k : ℕ) (s : State) → d ≡ pending_acts.Lead k
    → let a = act d s.formatter.store s.formatter.reader in
    with_situation (if is_look d then look (situation_of s) else record { situation = situation a.stored s.coming a.reader; emitted = tells.Event a.event }) s ≡ emitted k s
acted d k s is = rw is refl

reads : (k : ℕ) (s : State) → Leads k s → kind s ≡ Reads
reads k s h = rw (h.chosen, h.springs, h.event, h.task) refl

tells-one : (k : ℕ) (s : State) → Leads k s → step s ≡ emitted k s
tells-one k s h = reads-step s (reads k s h) ∙ acted s.formatter.reader.half.reading.pending_act k s h.pending_act

untitled : (c : Bool) (f : Formatter) → c ≡ false → (if c then title events.Lead f else text events.Lead f) ≡ blank_cell f
untitled true f is = absurd (let wrong : true ≡ false = is in cc)
untitled false f is = refl

puts-one : (k : ℕ) (s : State) → Leads k s → step (emitted k s) ≡ put k s
puts-one k s h =
    let t = emitted k s in
    step-hears events.Lead t h.chosen h.springs refl ∙ ap (λ (f : Formatter). record t { formatter = f }) (untitled (reads_title t.formatter) t.formatter (ap is_title h.mode))

two-moves : (k : ℕ) (s : State) → Leads k s → step (step s) ≡ put k s
two-moves k s h = ap step (tells-one k s h) ∙ puts-one k s h

-- the cells of the line's text
abbrev pub cells_of : State → ℕ
cells_of s = text_cells (collected s.formatter)

one-more : (k : ℕ) (s : State) → (cells_of (put k s) ≡ cells_of s + 1) × (line_cells (collected (put k s).formatter) ≡ cells_of s + 1)
one-more k s =
    let cells = line_cells-add_blank (margins s.formatter) (collected s.formatter) in
    (omega (arith, cells), omega (arith, cells))

-- ---- where there are more than the line may hold

later : (n : ℕ) (s : State) → Runs (suc (suc n)) s → Runs n (step (step s))
later n s runs = λ k less. subst Goes (state_after-add s 2 k) (runs (2 + k) (omega (arith, less)))

leads-on : (c : Bool) (k : ℕ) (s : State) → nat_le k 1 ≡ c → c ≡ false → Leads k s → Leads (k - 1) (put k s)
leads-on c k s is more h = record {
  chosen = h.chosen;
  springs = h.springs;
  event = refl;
  task = h.task;
  mode = h.mode;
  pending_act = ap (λ (b : Bool). if b then pending_acts.Look else pending_acts.Lead (k - 1)) (is ∙ more);
}

-- so many moves are made at most, and no byte is taken
abbrev pub Stop : ℕ → State → Type 0
Stop n s = (n + 2 * cells_of s ≤ 2 * s.formatter.line.limit + 2) × ((state_after n s).coming ≡ s.coming)

two-more : (n : ℕ) (s : State) → state_after (suc (suc n)) s ≡ state_after n (step (step s))
two-more n s = ap (λ m. state_after m s) (let e : suc (suc n) ≡ 2 + n = omega arith in e) ∙ state_after-add s 2 n

pub leads-stop : (n k : ℕ) (s : State) → Leads k s → Runs n s → IsKept s.formatter → s.formatter.line.limit < cells_of s + k → Stop n s
leads-stop zero k s h runs kept above = let line = kept.line in (omega (arith, line), refl)
leads-stop (suc zero) k s h runs kept above = let line = kept.line in (omega (arith, line), ap (λ (t : State). t.coming) (tells-one k s h))
leads-stop (suc (suc n)) k s h runs kept above =
    let t = put k s in
    let next : IsKept t.formatter = subst (λ (u : State). IsKept u.formatter) (two-moves k s h) (kept-after 2 s (λ m less. runs m (omega (arith, less))) kept) in
    by (nat_le k 1) refl next.line (λ leads more. leads-stop n (k - 1) t leads (subst (λ (u : State). Runs n u) (two-moves k s h) (later n s runs)) next more)
  where
    by : (c : Bool) → nat_le k 1 ≡ c → line_cells (collected (put k s).formatter) ≤ s.formatter.line.limit
        → (Leads (k - 1) (put k s) → s.formatter.line.limit < cells_of (put k s) + (k - 1) → Stop n (put k s)) → Stop (suc (suc n)) s
    by true is line rest = absurd (omega (arith, line, above, one-more k s, leb-true k 1 is))
    by false is line rest =
        let all = rest (leads-on false k s is refl h) (omega (arith, above, one-more k s, leb-false k 1 is)) in
        let same : state_after (suc (suc n)) s ≡ state_after n (put k s) = two-more n s ∙ ap (λ t. state_after n t) (two-moves k s h) in
        (omega (arith, all.0, one-more k s), ap (λ (t : State). t.coming) same ∙ all.1)

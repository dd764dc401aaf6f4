-- How many moves a run makes, up to a byte of the input and between two.
use Rattle.std.specs.Prelude.{◌⊎◌}
use Rattle.std.proofs.lemmas.List.{length-map}
use Rattle.std.proofs.lemmas.List.Sums.{sum_by-cons}
use Rattle.std.proofs.lemmas.Nat.{mul-le}
use Rattle.std.proofs.Common.{◌≡◌, ℕ, zero, suc, ◌+◌, ◌-◌, ◌*◌, ◌≤◌, Bool, true, false, List, [], ◌∷◌, length, sum_by, Option, None, Some, ℤ, refl, ap, sym, subst, ◌∙◌, inl, inr, arith}
use Rattle.nr_units.specs.Source.{Supply}
use Rattle.nr_fill.specs.Piece.{Piece, Word, Collected, line_cells, word_cells}
use Rattle.nr_fill.specs.declared.stops.Pending.{Pending}
use Rattle.nr_fill.specs.declared.stops.Pending.TheVariants as pendings
use Rattle.nr_store.specs.Store.{Built}
use Rattle.nr_store.specs.declared.element.Diversion.{Diversion}
use Rattle.nr_reading.specs.declared.event.Event.{Event}
use Rattle.nr_reading.specs.declared.event.Event.TheVariants as events
use Rattle.nr_reading.specs.declared.half.Half.{Half}
use Rattle.nr_reading.specs.declared.mode.PendingAct.{PendingAct}
use Rattle.nr_reading.specs.declared.mode.PendingAct.TheVariants as pending_acts
use Rattle.nr_reading.specs.declared.mode.Mode.{Mode}
use Rattle.nr_reading.specs.declared.mode.Mode.TheVariants as modes
use Rattle.nr_reading.specs.Weights.{cost_of_text, weight_of_argument, weight_of_half, blanks_owed, held_by_mode}
use Rattle.nr_reading.proofs.Weighing.{cost_of_event-le}
use Rattle.nr_input.specs.Laws.{weight_of_half-le, held_by_pending, held_back, most_of_reading}
use Rattle.nr_input.specs.Place.{whole}
use Rattle.nr_input.specs.Weights.{expansions_worth, items_left, newline_left}
use Rattle.nr_input.proofs.Costs.{title_costs}
use Rattle.nr_options.specs.Limits.{Bounds, AreLimits}
use Rattle.nr_options.specs.declared.options.Options.{Options}
use Rattle.nr_formatter.specs.Access.{collected}
use Rattle.nr_formatter.specs.Places.{page_outlet}
use Rattle.nr_formatter.specs.Weights.{cost_of_piece, weight, owed, steps_left, owed_by_event, owed_by_task, owed_by_then, weight_of_agenda, weight_of_task, weight_of_word, weight_of_pending, weight_of_diversion, weight_of_built, weight_of_diversions, weight_of_step}
use Rattle.nr_formatter.specs.declared.formatter.Formatter.{Formatter}
use Rattle.nr_formatter.specs.declared.tasks.Room.TheVariants as rooms
use Rattle.nr_formatter.specs.declared.tasks.Step.{Step}
use Rattle.nr_formatter.specs.declared.tasks.Step.TheVariants as steps
use Rattle.nr_formatter.specs.declared.tasks.Task.{Task}
use Rattle.nr_formatter.specs.declared.tasks.Task.TheVariants as tasks
use Rattle.nr_formatter.specs.declared.tasks.Then.{Then}
use Rattle.nr_formatter.specs.declared.tasks.Then.TheVariants as thens
use Rattle.nr_formatter.proofs.Falling.{weight_of_name-le, weight_of_outlet-le, weight_of_task-le}
use Rattle.nr_machine.specs.State.{State, Choice, Register, start, formatter_at_first}
use Rattle.nr_machine.specs.Machine.{state_after}
use Rattle.nr_machine.specs.Run.{Runs, Goes, moves_a_byte}
use Rattle.nr_laws.specs.Moves.{IsAfterByte, NoneIsTaken, MovesAreFew, MovesBeforeByte, MovesBetween, moves_of_texts, moves_of_rest, moves_at_most, parts_of}
use Rattle.nr_laws.specs.Laws.{nothing_allowed}
use Rattle.nr_laws.proofs.BlanksBetween.{IsPaid, byte-taken, stands-enough}
use Rattle.nr_laws.proofs.BlanksWait.{Stands, Has}
use Rattle.nr_laws.proofs.Growing.{state_after-add}
use Rattle.nr_laws.proofs.MovesPaid.{step-paid}
use Rattle.nr_laws.proofs.PaidMoves.{all_paid}
use Rattle.nr_laws.proofs.PageLengths.{HasHeight, height-after}
use Rattle.nr_laws.proofs.PrintedItems.{IsPending}
use Rattle.nr_laws.proofs.PrintedLines.{IsLined, IsRead, all-among, every, parts-le}
use Rattle.nr_laws.proofs.PrintedDirect.{IsHeld, IsHalf}
use Rattle.nr_laws.proofs.PrintedStates.{AreClear, clear-after, starts-clear}
use Rattle.nr_laws.proofs.ReadsPaid.{reached, worth, may_come}
use Rattle.nr_laws.proofs.StepLimits.{state_after-under}
use Rattle.nr_laws.proofs.WithinRun.{IsKept, kept-after}

-- ---- from the beginning

first_weight : (b : Bounds) (supply : Supply) → weight (reached (whole supply)) (formatter_at_first b) + 33 ≤ expansions_worth b.expansions 0 b.stored + 512
unfolding weight owed steps_left
first_weight b supply = omega arith

expansions-is : (x s : ℕ) → expansions_worth x 0 s ≡ x * (256 * (s + 3))
unfolding expansions_worth
expansions-is x s = let e : x - 0 ≡ x = omega arith in ap (λ k. k * (256 * (s + 3))) e

few : (x s p d : ℕ) → x * (256 * (s + 3)) + 512 ≤ 256 * (x + 1) * (s + p + d + 4)
few x s p d =
    let a : x * (256 * (s + 3)) ≡ 256 * (x * (s + 3)) = grind arith in
    let more = mul-le x (s + 3) x (s + p + d + 4) (omega arith) (omega arith) in
    let b : 256 * (x + 1) * (s + p + d + 4) ≡ 256 * (x * (s + p + d + 4)) + 256 * (s + p + d + 4) = grind arith in
    omega (arith, a, more, b)

starts_light : (b : Bounds) (options : Options) (supply : Supply) → length options.registers.items ≤ 32 → let s = start b options supply in may_come s ≤ worth s
starts_light b options supply registers =
    let register : ℕ × ℤ → Choice = λ r. Register r.0 r.1 in
    omega (arith, first_weight b supply, registers, length-map options.registers.items register)

worth-le : (b : Bounds) (options : Options) (supply : Supply) → worth (start b options supply) ≤ moves_a_byte b
worth-le b options supply = omega (arith, expansions-is b.expansions b.stored, few b.expansions b.stored b.cells b.depth)

pub moves_are_few : MovesAreFew
moves_are_few b options supply n registers runs =
    let s = start b options supply in
    let t = state_after n s in
    let paid = (all_paid n s (omega arith) runs).pays in
    let light = starts_light b options supply registers in
    let within : n ≤ worth s * (t.coming.taken + 1) = omega (arith, paid, light) in
    let all = mul-le (worth s) (t.coming.taken + 1) (moves_a_byte b) (t.coming.taken + 1) (worth-le b options supply) (omega arith) in
    omega (arith, within, all)

-- ---- what may still come, by what there is

event-le : (e : Event) (t : Task) (s : Step) → weight_of_agenda e t s ≤ 366 + weight_of_task t s
event-le events.Nothing t s = omega arith
event-le events.Over t s = omega arith
event-le events.Lead t s = omega arith
event-le e t s = omega (arith, cost_of_event-le e)

owed_event-le : (e : Event) → owed_by_event e ≤ 40
owed_event-le events.Request = omega arith
owed_event-le (events.Judge q) = omega arith
owed_event-le events.Title = omega arith
owed_event-le events.Diverted = omega arith
owed_event-le e = omega arith

owed_then-le : (t : Then) → owed_by_then t ≤ 23
owed_then-le (thens.Act r) = omega arith
owed_then-le thens.Diverted = omega arith
owed_then-le t = omega arith

owed_task-le : (t : Task) (h : Half) → owed_by_task t h ≤ 40
owed_task-le (tasks.Act r) h = omega arith
owed_task-le (tasks.Break t) h = omega (arith, owed_then-le t)
owed_task-le (tasks.Room rooms.Line) h = omega arith
owed_task-le (tasks.Room rooms.Title) h = let costs = title_costs h in omega (arith, costs)
owed_task-le t h = omega arith

step-le : (s : Step) → weight_of_step s ≤ 50
step-le steps.NotYet = omega arith
step-le steps.FirstBreak = omega arith
step-le steps.Macro = omega arith
step-le steps.SecondBreak = omega arith
step-le steps.Diversions = omega arith
step-le steps.LastPage = omega arith

pending-le : (p : Pending) → weight_of_pending p ≤ 1
pending-le (pendings.ForStop f) = omega arith
pending-le p = omega arith

word-le : (w : Option Word) → weight_of_word w ≤ 171 + 5 * parts_of w
word-le None = omega arith
word-le (Some w) = omega (arith, pending-le w.pending)

diversion-le : (d : Option Diversion) → weight_of_diversion d ≤ 1
diversion-le None = omega arith
diversion-le (Some d) = omega arith

diversions-le : (bs : List Built) → weight_of_diversions bs ≤ length bs
diversions-le [] = omega arith
diversions-le (b ∷ bs) = omega (arith, sum_by-cons weight_of_built b bs, diversion-le b.diversion, diversions-le bs)

newline-le : (b : Bool) → newline_left b ≤ 1
newline-le true = omega arith
newline-le false = omega arith

splices-are : (most burst stored : ℕ) → expansions_worth most burst stored ≡ 256 * ((most - burst) * (stored + 3))
unfolding expansions_worth
splices-are most burst stored = let k = most - burst in let e : k * (256 * (stored + 3)) ≡ 256 * (k * (stored + 3)) = grind arith in e

-- and 33 less, where so much is half read
read-le : (s : State) → let f = s.formatter in
    may_come s + 33 + most_of_reading
    ≤ length s.chosen + moves_of_texts f + weight_of_half f.reader.half + cost_of_text * blanks_owed f.reader.half
    + cost_of_piece * (length (collected f).pieces + parts_of (collected f).word) + length f.store.building + moves_at_most
unfolding weight owed steps_left
read-le s =
    let f = s.formatter in
    omega (
      arith,
      newline-le s.coming.inside,
      splices-are f.reader.most f.reader.burst f.store.limit,
      owed_event-le f.event,
      owed_task-le f.task f.reader.half,
      event-le f.event f.task f.step,
      weight_of_task-le f.task f.step,
      weight_of_name-le f.springs,
      word-le (collected f).word,
      weight_of_outlet-le (page_outlet f.paper.state f.paper.place f.settings.pages.page_length),
      diversions-le f.store.building,
      step-le f.step,
    )

may_come-le : (s : State) → may_come s + 33 ≤ length s.chosen + moves_of_texts s.formatter + moves_of_rest s.formatter
may_come-le s = omega (arith, read-le s, weight_of_half-le s.formatter.reader.half)

-- ---- from a state on

module _ (b : Bounds) (options : Options) (supply : Supply) where
  abbrev first : State
  first = start b options supply

  height : (m : ℕ) → HasHeight (state_after m first).formatter
  height m = height-after m first (omega arith)

  -- the moves after the first m
  later : (m n : ℕ) → Runs (m + n) first → Runs n (state_after m first)
  later m n runs = λ k less. subst Goes (state_after-add first m k) (runs (m + k) (omega arith))

  between : (m n : ℕ) → Runs (m + n) first → NoneIsTaken m n first → n ≤ may_come (state_after m first)
  between m n runs same =
      let s = state_after m first in
      let paid = (all_paid n s (height m) (later m n runs)).pays in
      let taken : (state_after n s).coming.taken ≡ s.coming.taken = ap (λ (t : State). t.coming.taken) (sym (state_after-add first m n)) ∙ same in
      let bytes : worth s * (state_after n s).coming.taken ≡ worth s * s.coming.taken = ap (λ k. worth s * k) taken in
      omega (arith, paid, bytes)

  -- after a byte no text is read, and all splices are allowed

  texts-are : (f : Formatter) → f.store.levels ≡ [] → f.reader.burst ≡ 0 → f.reader.most ≡ b.expansions → f.store.limit ≡ b.stored → moves_of_texts f ≡ 256 * (b.expansions * (b.stored + 3))
  texts-are f levels burst most limit =
      let none : items_left f.store.levels ≡ 0 = ap items_left levels in
      let all : f.reader.most - f.reader.burst ≡ b.expansions = omega (arith, burst, most) in
      let splices : (f.reader.most - f.reader.burst) * (f.store.limit + 3) ≡ b.expansions * (b.stored + 3) = rw (all, limit) refl in
      omega (arith, none, splices)

  afterwards : (m : ℕ) → length options.registers.items ≤ 32 → Runs m first → IsAfterByte m first → let s = state_after m first in length s.chosen + moves_of_texts s.formatter ≤ 33 + 256 * (b.expansions * (b.stored + 3))
  afterwards zero registers runs taken =
      let register : ℕ × ℤ → Choice = λ r. Register r.0 r.1 in
      omega (arith, registers, length-map options.registers.items register, texts-are first.formatter refl refl refl refl)
  afterwards (suc m) registers runs taken =
      let s = state_after m first in
      let t = state_after (suc m) first in
      let all = all_paid (suc m) first (height zero) runs in
      let fresh = (step-paid s (height m) (runs m (omega arith))).fresh taken in
      let none : length t.chosen ≡ 0 = ap (λ (cs : List Choice). length cs) fresh.chosen in
      omega (arith, none, texts-are t.formatter fresh.levels fresh.burst all.most all.limit)

pub moves_before_byte : MovesBeforeByte
moves_before_byte b options supply m n runs same = let most = between b options supply m n runs same in omega (arith, most, may_come-le (state_after m (start b options supply)))

-- ---- between two bytes

pieces-le : (ps : List Piece) → length ps ≤ sum_by (λ (p : Piece). 1 + length p.cells) ps
pieces-le [] = omega arith
pieces-le (p ∷ ps) = omega (arith, pieces-le ps, sum_by-cons (λ (q : Piece). 1 + length q.cells) p ps)

parts_of-le : (w : Option Word) → IsRead every w → parts_of w ≤ word_cells w
parts_of-le None h = omega arith
parts_of-le (Some w) h = parts-le every w h

-- each part of the word has a cell
collected-le : (c : Collected) → IsLined every c → length c.pieces + parts_of c.word ≤ line_cells c
collected-le c h = omega (arith, pieces-le c.pieces, parts_of-le c.word h.word)

mode-le : (m : Mode) → IsHeld every m → held_by_mode m ≤ 33
mode-le (modes.BodyStart held) h = h
mode-le m h = omega arith

pending_act-le : (d : PendingAct) → IsPending every d → held_by_pending d ≤ 33
pending_act-le (pending_acts.Release held n b) h = h.0
pending_act-le d h = omega arith

-- so many bytes are held back, and are still to be added
held_back-le : (h : Half) → IsHalf every h → held_back h ≤ 66
held_back-le h is = omega (arith, mode-le h.reading.mode is.held, pending_act-le h.reading.pending_act is.pending_act)

kept : (b : Bounds) (options : Options) (supply : Supply) (m : ℕ) → Runs m (start b options supply) → IsKept (state_after m (start b options supply)).formatter
kept b options supply m runs =
    kept-after m (start b options supply) runs (record { line = omega arith; few = omega arith })

-- the rest of the number for a byte
enough : (x s p d : ℕ) → 64 ≤ s → 256 * (x * (s + 3)) + 185 * p + s + 5432 ≤ 256 * (x + 1) * (s + p + d + 4)
enough x s p d large =
    let more = mul-le x (s + 3) x (s + p + d + 4) (omega arith) (omega arith) in
    let b : 256 * (x + 1) * (s + p + d + 4) ≡ 256 * (x * (s + p + d + 4)) + 256 * (s + p + d + 4) = grind arith in
    omega (arith, more, b, large)

module _ (b : Bounds) (options : Options) (supply : Supply) (limits : AreLimits b) where
  clear : (m : ℕ) → AreClear every (state_after m (start b options supply))
  clear m = clear-after every m (start b options supply) (starts-clear every b options supply (all-among supply.bytes))

  cells : (m : ℕ) → (state_after m (start b options supply)).formatter.line.limit ≡ b.cells
  cells m = ap (λ (t : State). t.formatter.line.limit) (state_after-under b m (start nothing_allowed options supply))

  -- what is half read
  half-le : (m : ℕ) → let h = (state_after m (start b options supply)).formatter.reader.half in weight_of_half h ≤ most_of_reading + 10 * weight_of_argument + 66
  half-le m =
      let h = (state_after m (start b options supply)).formatter.reader.half in
      let half = (clear m).kept.half in
      let few = half.few in
      omega (arith, weight_of_half-le h, few, held_back-le h half)

  -- what the moves after so many leave of the number for a byte, where what is half read and the blanks that are owed weigh this much
  rest-le : (m n weighs : ℕ) → length options.registers.items ≤ 32 → Runs m (start b options supply) → IsAfterByte m (start b options supply)
      → let s = state_after m (start b options supply) in
      n + weight_of_half s.formatter.reader.half + cost_of_text * blanks_owed s.formatter.reader.half ≤ may_come s + weighs
      → weighs ≤ most_of_reading + 10 * weight_of_argument + 66 + 180 * b.cells + 256 → n ≤ moves_a_byte b
  rest-le m n weighs registers runs taken most few =
      let s = state_after m (start b options supply) in
      let keeps = kept b options supply m runs in
      let line = keeps.line in
      let built = keeps.few in
      let all = all_paid m (start b options supply) (omega arith) runs in
      omega (
        arith,
        most,
        few,
        afterwards b options supply m registers runs taken,
        read-le s,
        line,
        built,
        cells m,
        all.limit,
        collected-le (collected s.formatter) (clear m).kept.lined,
        enough b.expansions b.stored b.cells b.depth limits.0,
      )

  -- where the blanks are few, pending, or wait
  stands-le : (m n : ℕ) → length options.registers.items ≤ 32 → Runs (m + n) (start b options supply) → IsAfterByte m (start b options supply) → NoneIsTaken m n (start b options supply)
      → Stands b.cells (state_after m (start b options supply)) → n ≤ moves_a_byte b
  stands-le m n registers runs taken same stands =
      let first = start b options supply in
      let s = state_after m first in
      let most = stands-enough first b.cells limits.4 (omega arith) (record { line = omega arith; few = omega arith }) cells n m runs stands in
      let byte : (state_after n s).coming.taken ≡ s.coming.taken = ap (λ (t : State). t.coming.taken) (sym (state_after-add first m n)) ∙ same in
      let bytes : worth first * (state_after n s).coming.taken ≡ worth first * s.coming.taken = ap (λ k. worth first * k) byte in
      let half = half-le m in
      rest-le m n (weight_of_half s.formatter.reader.half + 180 * b.cells + 2) registers (λ k less. runs k (omega (arith, less))) taken (omega (arith, most, bytes)) (omega (arith, half))

  -- where what is half read is paid by the byte and what was half read before it
  paid-le : (m n : ℕ) → length options.registers.items ≤ 32 → Runs (suc m + n) (start b options supply) → IsAfterByte (suc m) (start b options supply)
      → NoneIsTaken (suc m) n (start b options supply) → IsPaid b.cells (state_after m (start b options supply)) (state_after (suc m) (start b options supply)) → n ≤ moves_a_byte b
  paid-le m n registers runs taken same paid =
      let before = state_after m (start b options supply) in
      let most = between b options supply (suc m) n runs same in
      let half = half-le m in
      rest-le (suc m) n (weight_of_half before.formatter.reader.half + 178 * b.cells + 256) registers (λ k less. runs k (omega (arith, less))) taken (omega (arith, most, paid)) (omega (arith, half))

  either-le : (m n : ℕ) → length options.registers.items ≤ 32 → Runs (suc m + n) (start b options supply) → IsAfterByte (suc m) (start b options supply)
      → NoneIsTaken (suc m) n (start b options supply)
      → Stands b.cells (state_after (suc m) (start b options supply)) ⊎ IsPaid b.cells (state_after m (start b options supply)) (state_after (suc m) (start b options supply)) → n ≤ moves_a_byte b
  either-le m n registers runs taken same (inl stands) = stands-le (suc m) n registers runs taken same stands
  either-le m n registers runs taken same (inr paid) = paid-le m n registers runs taken same paid

pub moves_between : MovesBetween
moves_between b options supply zero n limits registers runs taken same =
    stands-le b options supply limits zero n registers runs taken same (Has (omega arith))
moves_between b options supply (suc m) n limits registers runs taken same =
    let s = state_after m (start b options supply) in
    either-le b options supply limits m n registers runs taken same
    (byte-taken b.cells s limits.4 (height-after m (start b options supply) (omega arith)) (runs m (omega arith)) taken)

-- A source that reports its failure, or has none, stays one, whatever move is made.
use Rattle.std.specs.Prelude.{is_none, not}
use Rattle.std.proofs.Common.{◌≡◌, ℕ, zero, suc, Bool, true, false, if◌then◌else◌, List, [], ◌∷◌, Option, None, Some, ◌⊎◌, inl, inr, refl, ap, ◌∙◌}
use Rattle.nr_units.specs.Source.{Faults, Never, After, Anytime, MayFail, one_later}
use Rattle.nr_vectors.specs.declared.cell.Cell.{Cell}
use Rattle.nr_symbol_tables.specs.declared.trap.Trap.{Trap}
use Rattle.nr_store.specs.Store.{shown}
use Rattle.nr_store.specs.declared.request.Request.{Request}
use Rattle.nr_store.specs.declared.request.Request.TheVariants as requests
use Rattle.nr_store.specs.declared.shown.Shown.{Shown}
use Rattle.nr_store.specs.declared.shown.Shown.TheVariants as shows
use Rattle.nr_reading.specs.Half.{TakenIn, take_in}
use Rattle.nr_reading.specs.declared.event.Event.{Event}
use Rattle.nr_reading.specs.declared.event.Event.TheVariants as events
use Rattle.nr_input.specs.Place.{Coming, RefusesLook, next_item, afterwards, after_item_of}
use Rattle.nr_input.specs.Moving as input
use Rattle.nr_input.specs.Moving.{Situation, looks, look, taken_at, stays_at, acted_at}
use Rattle.nr_input.specs.declared.refusal.Refusal.TheVariants as refusals
use Rattle.nr_formatter.specs.declared.formatter.Formatter.{Formatter}
use Rattle.nr_formatter.specs.declared.lines.Going.{Going}
use Rattle.nr_formatter.specs.declared.paper.Outlet.{Outlet}
use Rattle.nr_formatter.specs.declared.paper.Outlet.TheVariants as outlets
use Rattle.nr_formatter.specs.declared.tasks.Ejected.{Ejected}
use Rattle.nr_formatter.specs.declared.tasks.Resume.{Resume}
use Rattle.nr_formatter.specs.declared.tasks.Room.{Room}
use Rattle.nr_formatter.specs.declared.tasks.Task.{Task}
use Rattle.nr_formatter.specs.declared.tasks.Task.TheVariants as tasks
use Rattle.nr_formatter.specs.declared.tasks.Then.{Then}
use Rattle.nr_formatter.specs.Access.{collected}
use Rattle.nr_formatter.specs.Lines.{flow_line, break_line, flow_done, break_word_end, break_done}
use Rattle.nr_formatter.specs.Pages.{begins_first_page, is_ejecting, next_springing, task_ejected}
use Rattle.nr_formatter.specs.Places.{outlet, to_read}
use Rattle.nr_formatter.specs.Spacing.{is_spaceless}
use Rattle.nr_machine.specs.State.{State, Choice, plainly, start}
use Rattle.nr_machine.specs.Machine.{begin_page, turn_page, put_line_to, put_or, break_part, continues_none, break_out, room_in, title_to, cell_to, line_to, space_to, put_space, eject_to, eject, act, work, hear, spring_or, choose_or, step, state_after, situation_of}
use Rattle.nr_machine.specs.Run.{Ends, Stops}
use Rattle.nr_machine.specs.declared.outcome.Measure.TheVariants as measures
use Rattle.nr_machine.specs.declared.outcome.Outcome.{Outcome}
use Rattle.nr_machine.specs.declared.outcome.Outcome.TheVariants.{Done, Limit, ReadFault, TooLong, WriteFault}
use Rattle.nr_laws.specs.Laws.{FaultsAreOfTheSource, are_reported, is_settled}
use Rattle.nr_laws.proofs.Stopping.{answer_for_limit, not_fault}

-- what stays of a source whatever move is made: that it reports its failure, or has none
data Kept : Type 0 where
  Reported : Kept
  Unfailing : Kept

-- it fails at no call
abbrev never_fails : Faults → Bool
never_fails Never = true
never_fails faults = false

abbrev is_kept : Kept → Faults → Bool
is_kept Reported faults = are_reported faults
is_kept Unfailing faults = never_fails faults

abbrev IsKept : Kept → Coming → Type 0
IsKept w c = is_kept w c.supply.faults ≡ true

later : (w : Kept) (f : Faults) → is_kept w (one_later f) ≡ is_kept w f
later Reported Never = refl
later Reported (After n) = refl
later Reported Anytime = refl
later Unfailing Never = refl
later Unfailing (After n) = refl
later Unfailing Anytime = refl

-- ---- the next item

after_source_item : (w : Kept) (bs : List ℕ) (c : Coming) → IsKept w c → IsKept w (after_item_of bs c)
after_source_item w [] c h = h
after_source_item w (b ∷ bs) c h = later w c.supply.faults ∙ h

after_shown_item : (w : Kept) (s : Shown Resume) (c : Coming) → IsKept w c → IsKept w (afterwards s c)
after_shown_item w shows.Nothing c h = after_source_item w c.supply.bytes c h
after_shown_item w s c h = h

taken_in : (w : Kept) (k : Bool) (m : TakenIn) (q : Situation Resume) → IsKept w q.coming → IsKept w (if k then taken_at m q else stays_at m q).situation.coming
taken_in w true m q h = after_shown_item w (shown q.stored.levels) q.coming h
taken_in w false m q h = h

moved : (w : Kept) (k : Bool) (q : Situation Resume) → IsKept w q.coming → IsKept w (if k then look q else acted_at q).situation.coming
moved w true q h = let m = take_in (next_item (shown q.stored.levels) q.coming) q.reader.half in taken_in w m.takes m q h
moved w false q h = h

-- ---- what is under way

either : (w : Kept) (k : Bool) (s t : State) → IsKept w s.coming → IsKept w t.coming → IsKept w (if k then s else t).coming
either w true s t first second = first
either w false s t first second = second

turned : (w : Kept) (o : Outlet) (s : State) → IsKept w s.coming → IsKept w (turn_page o s).coming
turned w outlets.Full s h = h
turned w o s h = h

line_put : (w : Kept) (o : Outlet) (g : Going) (s : State) → IsKept w s.coming → IsKept w (put_line_to o g s).coming
line_put w outlets.Diversion g s h = h
line_put w outlets.Room g s h = h
line_put w o g s h = turned w o s h

put : (w : Kept) (g : Option Going) (done : Formatter → Formatter) (s : State) → IsKept w s.coming → IsKept w (put_or g done s).coming
put w None done s h = h
put w (Some g) done s h = line_put w (outlet s.formatter) g s h

broken_part : (w : Kept) (t : Then) (s : State) → IsKept w s.coming → IsKept w (break_part t s).coming
broken_part w t s h =
    either w (not (is_none (collected s.formatter).word)) (plainly break_word_end s) (if begins_first_page t s.formatter then begin_page s else put_or (break_line s.formatter) (break_done t) s) h
    (either w (begins_first_page t s.formatter) (begin_page s) (put_or (break_line s.formatter) (break_done t) s) h (put w (break_line s.formatter) (break_done t) s h))

broken_out : (w : Kept) (t : Then) (s : State) → IsKept w s.coming → IsKept w (break_out t s).coming
broken_out w t s h = broken_part w t (plainly continues_none s) h

room_made : (w : Kept) (o : Outlet) (r : Room) (s : State) → IsKept w s.coming → IsKept w (room_in o r s).coming
room_made w outlets.Diversion r s h = h
room_made w outlets.Room r s h = h
room_made w o r s h = turned w o s h

title_put : (w : Kept) (o : Outlet) (s : State) → IsKept w s.coming → IsKept w (title_to o s).coming
title_put w outlets.Diversion s h = h
title_put w outlets.Room s h = h
title_put w o s h = turned w o s h

cell_put : (w : Kept) (o : Outlet) (x : Cell) (s : State) → IsKept w s.coming → IsKept w (cell_to o x s).coming
cell_put w outlets.Diversion x s h = h
cell_put w o x s h = h

row_put : (w : Kept) (o : Outlet) (n : ℕ) (s : State) → IsKept w s.coming → IsKept w (line_to o n s).coming
row_put w outlets.Diversion n s h = h
row_put w outlets.Room n s h = h
row_put w o n s h = turned w o s h

space_made : (w : Kept) (o : Outlet) (n : ℕ) (s : State) → IsKept w s.coming → IsKept w (space_to o n s).coming
space_made w outlets.Diversion n s h = h
space_made w outlets.Room n s h = h
space_made w o n s h = turned w o s h

space_put : (w : Kept) (n : ℕ) (s : State) → IsKept w s.coming → IsKept w (put_space n s).coming
space_put w n s h =
    either w (is_spaceless n s.formatter) (plainly to_read s) (space_to (outlet s.formatter) n s) h (space_made w (outlet s.formatter) n s h)

ejected_at : (w : Kept) (t : Option Trap) (s : State) → IsKept w s.coming → IsKept w (eject_to t s).coming
ejected_at w None s h = h
ejected_at w (Some t) s h = h

ejected : (w : Kept) (e : Ejected) (s : State) → IsKept w s.coming → IsKept w (eject e s).coming
ejected w e s h =
    either w (is_ejecting s.formatter) (eject_to (next_springing s.formatter) s) (plainly (λ f. record f { task = task_ejected e }) s) (ejected_at w (next_springing s.formatter) s h) h

acted : (w : Kept) (r : Request) (s : State) → IsKept w s.coming → IsKept w (act r s).coming
acted Reported requests.Ex s h = refl
acted Unfailing requests.Ex s h = refl
acted w r s h = h

-- ---- a move

worked_on : (w : Kept) (t : Task) (s : State) → IsKept w s.coming → IsKept w (work t s).coming
worked_on w tasks.Read s h = moved w (looks (situation_of s)) (situation_of s) h
worked_on w (tasks.Flow after breaks) s h = put w (flow_line after breaks s.formatter) (flow_done after) s h
worked_on w (tasks.Break t) s h = broken_out w t s h
worked_on w (tasks.Act r) s h = acted w r s h
worked_on w (tasks.Room r) s h = room_made w (outlet s.formatter) r s h
worked_on w tasks.Title s h = title_put w (outlet s.formatter) s h
worked_on w (tasks.Line n) s h = row_put w (outlet s.formatter) n s h
worked_on w (tasks.Space n) s h = space_put w n s h
worked_on w (tasks.Begin given) s h = h
worked_on w (tasks.Eject e) s h = ejected w e s h
worked_on w tasks.Halted s h = h
worked_on w t s h = h

heard_of : (w : Kept) (e : Event) (s : State) → IsKept w s.coming → IsKept w (hear e s).coming
heard_of w events.Nothing s h = worked_on w s.formatter.task s h
heard_of w (events.DivertedCell x) s h = cell_put w (outlet s.formatter) x s h
heard_of w e s h = h

sprung_or : (w : Kept) (n : Option (List ℕ)) (s : State) → IsKept w s.coming → IsKept w (spring_or n s).coming
sprung_or w None s h = heard_of w s.formatter.event s h
sprung_or w (Some n) s h = h

chosen_or : (w : Kept) (cs : List Choice) (s : State) → IsKept w s.coming → IsKept w (choose_or cs s).coming
chosen_or w [] s h = sprung_or w s.formatter.springs s h
chosen_or w (c ∷ cs) s h = h

stepped : (w : Kept) (s : State) → IsKept w s.coming → IsKept w (step s).coming
unfolding step
stepped w s h = chosen_or w s.chosen s h

kept_after : (w : Kept) (n : ℕ) (s : State) → IsKept w s.coming → IsKept w (state_after n s).coming
kept_after w zero s h = h
kept_after w (suc n) s h = stepped w (state_after n s) (kept_after w n s h)

-- a fault that ends a run there is one at which each run stops
pub settled_after : (o : Outcome) (n : ℕ) (s : State) → is_settled s.coming.supply.faults o ≡ true → is_settled (state_after n s).coming.supply.faults o ≡ true
settled_after Done n s h = h
settled_after (Limit which at) n s h = h
settled_after (ReadFault at) n s h = kept_after Reported n s h
settled_after TooLong n s h = h
settled_after WriteFault n s h = h

-- ---- a source that fails at no call

fails_look : (s : Shown Resume) (c : Coming) → RefusesLook s c refusals.ReadFault → MayFail c.supply.faults
fails_look shows.Nothing c h = h
fails_look shows.End c h = absurd h
fails_look (shows.Item x) c h = absurd h
fails_look (shows.Resume k) c h = absurd h

fails_by : (c : Bool) (q : Situation Resume) → input.RefusesBy c q refusals.ReadFault → MayFail q.coming.supply.faults
fails_by true q h = fails_look (shown q.stored.levels) q.coming h
fails_by false q h = absurd (not_fault refusals.ReadFault (answer_for_limit q refusals.ReadFault h) refl)

unfailing_fails : (f : Faults) → never_fails f ≡ true → MayFail f → ⊥
unfailing_fails Never is h = h
unfailing_fails (After n) is h = (let e : false ≡ true = is in cc)
unfailing_fails Anytime is h = (let e : false ≡ true = is in cc)

stops_nowhere : (n at : ℕ) (s : State) → s.coming.supply.faults ≡ Never → Stops (state_after n s) (ReadFault at) → ⊥
stops_nowhere n at s never stops =
    let kept : never_fails (state_after n s).coming.supply.faults ≡ true = kept_after Unfailing n s (ap never_fails never) in
    let q = situation_of (state_after n s) in
    unfailing_fails (state_after n s).coming.supply.faults kept (fails_by (looks q) q stops.1)

ends_nowhere : (most n at : ℕ) (s : State) → s.coming.supply.faults ≡ Never → Ends most n (state_after n s) (ReadFault at) → ⊥
ends_nowhere most n at s never ends =
    elim ends [
      | inl spent ↦ (let e : ReadFault at ≡ Limit measures.Moves (state_after n s).coming.taken = spent.1 in cc)
      | inr stops ↦ stops_nowhere n at s never stops.1
    ]

pub faults_are_of_the_source : FaultsAreOfTheSource
faults_are_of_the_source b options supply most n at never ends = ends_nowhere most n at (start b options supply) never ends

-- What may still come falls where a word ends, where a line or a title goes out, and where nothing more goes out.
use Rattle.std.proofs.Common.{◌≡◌, ◌≤◌, ◌<◌, ◌+◌, Bool, false, length, is_none, refl, ap, arith}
use Rattle.std.proofs.lemmas.Bool.{cond_both}
use Rattle.nr_fill.specs.Piece.{Collected}
use Rattle.nr_reading.specs.declared.event.Event.TheVariants as events
use Rattle.nr_reading.specs.declared.half.Half.{Half}
use Rattle.nr_formatter.specs.declared.formatter.Formatter.{Formatter}
use Rattle.nr_formatter.specs.declared.lines.Going.{Going}
use Rattle.nr_formatter.specs.declared.tasks.After.{After}
use Rattle.nr_formatter.specs.declared.tasks.After.TheVariants as afters
use Rattle.nr_formatter.specs.declared.tasks.Step.{Step}
use Rattle.nr_formatter.specs.declared.tasks.Step.TheVariants as steps
use Rattle.nr_formatter.specs.declared.tasks.Task.TheVariants as tasks
use Rattle.nr_formatter.specs.declared.tasks.Then.{Then}
use Rattle.nr_formatter.specs.declared.tasks.Then.TheVariants as thens
use Rattle.nr_formatter.specs.Access.{collected, margins}
use Rattle.nr_formatter.specs.Lines.{reads_a_field, word_ended, break_word_end, pieces_going, after_line, task_after, flow_done, task_of, step_after, break_done}
use Rattle.nr_formatter.specs.Titles.{title_set}
use Rattle.nr_formatter.specs.Weights.{weight_of_agenda, weight_of_task, weight_of_break, weight_of_step, owed_by_then, owed_by_task, Falls}
use Rattle.nr_formatter.proofs.WorkFalls.{falls-work}
use Rattle.nr_formatter.proofs.LineWeights.{weight-afterwards}
use Rattle.nr_formatter.proofs.TextFalls.{falls-field_ended}
use Rattle.nr_formatter.proofs.WordEnds.{weight-word_ended_less}

-- ---- a word ends

falls-word_ended : (f : Formatter) → is_none (collected f).word ≡ false → Falls 1 0 f (word_ended f)
falls-word_ended f some = falls-work 1 0 f (word_ended f) refl (omega arith) (omega (arith, weight-word_ended_less f some))

pub falls-break_word_end : (f : Formatter) → is_none (collected f).word ≡ false → Falls 1 0 f (break_word_end f)
falls-break_word_end f some = cond_both (reads_a_field f) _ _ (λ g. Falls 1 0 f g) (falls-field_ended f) (λ _. falls-word_ended f some)

-- ---- a line or a title goes out

-- a piece at least goes out
some-pieces_going : (going : Going) (c : Collected) → 0 < length c.pieces → 0 < pieces_going going c
some-pieces_going going c some = cond_both going.whole _ _ (λ n. 0 < n) (λ _. some) (λ _. omega arith)

pub falls-after_line : (going : Going) (f : Formatter) → 0 < length (collected f).pieces → Falls 5 0 f (after_line going f)
falls-after_line going f some =
    falls-work 5 0 f (after_line going f) refl (omega arith)
    (omega (arith, weight-afterwards (margins f) going.align (collected f) (pieces_going going (collected f)) (some-pieces_going going (collected f) some) some))

pub falls-title_set : (f : Formatter) → f.event ≡ events.Nothing → f.task ≡ tasks.Title → Falls 5 0 f (title_set f)
falls-title_set f event task =
    let old : weight_of_agenda f.event f.task f.step ≡ 9 = rw (event, task) refl in
    let new : weight_of_agenda f.event tasks.Read f.step ≡ 4 = rw event refl in
    falls-work 5 0 f (title_set f) refl (omega arith) (omega arith)

-- ---- nothing more goes out

weight-task_after : (after : After) (s : Step) → weight_of_task (task_after after) s ≤ 7
weight-task_after afters.Text s = omega arith
weight-task_after afters.Line s = omega arith
weight-task_after afters.Interrupted s = omega arith
weight-task_after afters.Continued s = omega arith

owed-task_after : (after : After) (h : Half) → owed_by_task (task_after after) h ≡ 0
owed-task_after afters.Text h = refl
owed-task_after afters.Line h = refl
owed-task_after afters.Interrupted h = refl
owed-task_after afters.Continued h = refl

pub falls-flow_done : (after : After) (breaks : Bool) (f : Formatter) → f.event ≡ events.Nothing → f.task ≡ tasks.Flow after breaks → Falls 1 0 f (flow_done after f)
falls-flow_done after breaks f event task =
    let old : weight_of_agenda f.event f.task f.step ≡ 8 = rw (event, task) refl in
    let new : weight_of_agenda f.event (task_after after) f.step ≡ weight_of_task (task_after after) f.step = rw event refl in
    falls-work 1 0 f (flow_done after f) refl (omega (arith, owed-task_after after f.reader.half)) (omega (arith, weight-task_after after f.step))

weight-break_done : (t : Then) (f : Formatter) → weight_of_task (task_of t f) (step_after t f.step) + weight_of_step (step_after t f.step) + 1 ≤ weight_of_break t f.step + weight_of_step f.step
weight-break_done (thens.Act r) f = omega arith
weight-break_done thens.Space f = omega arith
weight-break_done thens.Leading f = omega arith
weight-break_done thens.Diverted f = omega arith
weight-break_done thens.Finish f = elim f.step as (λ s. weight_of_task tasks.Finish (step_after thens.Finish s) + weight_of_step (step_after thens.Finish s) + 1 ≤ weight_of_break thens.Finish s + weight_of_step s) [
  | steps.NotYet ↦ omega arith
  | steps.FirstBreak ↦ omega arith
  | steps.Macro ↦ omega arith
  | steps.SecondBreak ↦ omega arith
  | steps.Diversions ↦ omega arith
  | steps.LastPage ↦ omega arith
]

owed-task_of : (t : Then) (f : Formatter) (h : Half) → owed_by_task (task_of t f) h ≡ owed_by_then t
owed-task_of (thens.Act r) f h = refl
owed-task_of thens.Space f h = refl
owed-task_of thens.Leading f h = refl
owed-task_of thens.Diverted f h = refl
owed-task_of thens.Finish f h = refl

pub falls-break_done : (t : Then) (f : Formatter) → f.event ≡ events.Nothing → f.task ≡ tasks.Break t → Falls 1 0 f (break_done t f)
falls-break_done t f event task =
    let g = break_done t f in
    let old : weight_of_agenda f.event f.task f.step ≡ weight_of_break t f.step = rw (event, task) refl in
    let new : weight_of_agenda f.event g.task g.step ≡ weight_of_task g.task g.step = rw event refl in
    falls-work 1 0 f g refl (omega (arith, owed-task_of t f g.reader.half, ap (λ k. owed_by_task k f.reader.half) task)) (omega (arith, weight-break_done t f))

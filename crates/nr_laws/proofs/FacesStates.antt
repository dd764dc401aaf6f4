-- The states of a run with other faces.
use Rattle.std.specs.Prelude.{is_none, not}
use Rattle.std.proofs.lemmas.List.{map-append}
use Rattle.std.proofs.Common.{◌≡◌, ℕ, zero, suc, Bool, true, false, if◌then◌else◌, List, [], ◌∷◌, Option, None, Some, refl, ap, sym, ◌∙◌}
use Rattle.nr_vectors.specs.declared.cell.Cell.{Cell}
use Rattle.nr_symbol_tables.specs.declared.trap.Trap.{Trap}
use Rattle.nr_page.specs.declared.faces.Faces.{Faces}
use Rattle.nr_store.specs.declared.request.Request.{Request}
use Rattle.nr_store.specs.declared.request.Request.TheVariants as requests
use Rattle.nr_reading.specs.declared.event.Event.{Event}
use Rattle.nr_reading.specs.declared.event.Event.TheVariants as events
use Rattle.nr_formatter.specs.declared.formatter.Formatter.{Formatter}
use Rattle.nr_formatter.specs.declared.lines.Going.{Going}
use Rattle.nr_formatter.specs.declared.paper.Outlet.{Outlet}
use Rattle.nr_formatter.specs.declared.paper.Outlet.TheVariants as outlets
use Rattle.nr_formatter.specs.declared.tasks.Ejected.{Ejected}
use Rattle.nr_formatter.specs.declared.tasks.Room.{Room}
use Rattle.nr_formatter.specs.declared.tasks.Task.{Task}
use Rattle.nr_formatter.specs.declared.tasks.Task.TheVariants as tasks
use Rattle.nr_formatter.specs.declared.tasks.Then.{Then}
use Rattle.nr_formatter.specs.Access.{collected}
use Rattle.nr_formatter.specs.Lines.{flow_line, break_line, flow_done, break_word_end, break_done}
use Rattle.nr_formatter.specs.Pages.{begins_first_page, is_ejecting, next_springing, task_ejected}
use Rattle.nr_formatter.specs.Places.{outlet, to_read}
use Rattle.nr_formatter.specs.Spacing.{is_spaceless}
use Rattle.nr_machine.specs.State.{State, Ended, Choice, plainly}
use Rattle.nr_machine.specs.Machine.{begin_page, end_page, page_of, turn_page, put_line_to, put_or, break_part, continues_none, room_in, title_to, cell_to, line_to, space_to, put_space, eject_to, eject, act, work, hear, spring_or, choose_or, step, state_after}
use Rattle.nr_laws.specs.Faces.{facing}

-- No move looks at them.
module _ (f : Faces) where
  either : (c : Bool) (s t s' t' : State) → s' ≡ facing f s → t' ≡ facing f t → (if c then s' else t') ≡ facing f (if c then s else t)
  either true s t s' t' first second = first
  either false s t s' t' first second = second

  end_page-facing : (s : State) → end_page (facing f s) ≡ facing f (end_page s)
  end_page-facing s =
      ap (λ (pages : List Ended). record (end_page (facing f s)) { pages = pages }) (sym (map-append (λ (p : Ended). record p { faces = f }) s.pages (page_of s ∷ [])))

  turn_page-facing : (o : Outlet) (s : State) → turn_page o (facing f s) ≡ facing f (turn_page o s)
  turn_page-facing outlets.Full s = end_page-facing s
  turn_page-facing o s = refl

  put_line_to-facing : (o : Outlet) (g : Going) (s : State) → put_line_to o g (facing f s) ≡ facing f (put_line_to o g s)
  put_line_to-facing outlets.Diversion g s = refl
  put_line_to-facing outlets.Room g s = refl
  put_line_to-facing o g s = turn_page-facing o s

  put_or-facing : (g : Option Going) (done : Formatter → Formatter) (s : State) → put_or g done (facing f s) ≡ facing f (put_or g done s)
  put_or-facing None done s = refl
  put_or-facing (Some g) done s = put_line_to-facing (outlet s.formatter) g s

  break_part-facing : (t : Then) (s : State) → break_part t (facing f s) ≡ facing f (break_part t s)
  break_part-facing t s =
      either (not (is_none (collected s.formatter).word)) (plainly break_word_end s) _ (plainly break_word_end (facing f s)) _ refl
      (either (begins_first_page t s.formatter) (begin_page s) (put_or (break_line s.formatter) (break_done t) s) (begin_page (facing f s))
      (put_or (break_line s.formatter) (break_done t) (facing f s)) refl (put_or-facing (break_line s.formatter) (break_done t) s))

  room_in-facing : (o : Outlet) (r : Room) (s : State) → room_in o r (facing f s) ≡ facing f (room_in o r s)
  room_in-facing outlets.Diversion r s = refl
  room_in-facing outlets.Room r s = refl
  room_in-facing o r s = turn_page-facing o s

  title_to-facing : (o : Outlet) (s : State) → title_to o (facing f s) ≡ facing f (title_to o s)
  title_to-facing outlets.Diversion s = refl
  title_to-facing outlets.Room s = refl
  title_to-facing o s = turn_page-facing o s

  cell_to-facing : (o : Outlet) (x : Cell) (s : State) → cell_to o x (facing f s) ≡ facing f (cell_to o x s)
  cell_to-facing outlets.Diversion x s = refl
  cell_to-facing o x s = refl

  line_to-facing : (o : Outlet) (n : ℕ) (s : State) → line_to o n (facing f s) ≡ facing f (line_to o n s)
  line_to-facing outlets.Diversion n s = refl
  line_to-facing outlets.Room n s = refl
  line_to-facing o n s = turn_page-facing o s

  space_to-facing : (o : Outlet) (n : ℕ) (s : State) → space_to o n (facing f s) ≡ facing f (space_to o n s)
  space_to-facing outlets.Diversion n s = refl
  space_to-facing outlets.Room n s = refl
  space_to-facing o n s = turn_page-facing o s

  put_space-facing : (n : ℕ) (s : State) → put_space n (facing f s) ≡ facing f (put_space n s)
  put_space-facing n s =
      either (is_spaceless n s.formatter) (plainly to_read s) (space_to (outlet s.formatter) n s) (plainly to_read (facing f s))
      (space_to (outlet s.formatter) n (facing f s)) refl (space_to-facing (outlet s.formatter) n s)

  eject_to-facing : (t : Option Trap) (s : State) → eject_to t (facing f s) ≡ facing f (eject_to t s)
  eject_to-facing None s = end_page-facing s
  eject_to-facing (Some t) s = refl

  eject-facing : (e : Ejected) (s : State) → eject e (facing f s) ≡ facing f (eject e s)
  eject-facing e s =
      either (is_ejecting s.formatter) (eject_to (next_springing s.formatter) s) (plainly (λ f. record f { task = task_ejected e }) s)
      (eject_to (next_springing s.formatter) (facing f s)) (plainly (λ f. record f { task = task_ejected e }) (facing f s))
      (eject_to-facing (next_springing s.formatter) s) refl

  act-facing : (r : Request) (s : State) → act r (facing f s) ≡ facing f (act r s)
  act-facing requests.Ex s = refl
  act-facing r s = refl

  work-facing : (t : Task) (s : State) → work t (facing f s) ≡ facing f (work t s)
  work-facing tasks.Read s = refl
  work-facing (tasks.Flow after breaks) s = put_or-facing (flow_line after breaks s.formatter) (flow_done after) s
  work-facing (tasks.Break t) s = break_part-facing t (plainly continues_none s)
  work-facing (tasks.Act r) s = act-facing r s
  work-facing (tasks.Room r) s = room_in-facing (outlet s.formatter) r s
  work-facing tasks.Title s = title_to-facing (outlet s.formatter) s
  work-facing (tasks.Line n) s = line_to-facing (outlet s.formatter) n s
  work-facing (tasks.Space n) s = put_space-facing n s
  work-facing (tasks.Begin given) s = refl
  work-facing (tasks.Eject e) s = eject-facing e s
  work-facing tasks.Halted s = refl
  work-facing t s = refl

  hear-facing : (e : Event) (s : State) → hear e (facing f s) ≡ facing f (hear e s)
  hear-facing events.Nothing s = work-facing s.formatter.task s
  hear-facing (events.DivertedCell x) s = cell_to-facing (outlet s.formatter) x s
  hear-facing e s = refl

  spring_or-facing : (n : Option (List ℕ)) (s : State) → spring_or n (facing f s) ≡ facing f (spring_or n s)
  spring_or-facing None s = hear-facing s.formatter.event s
  spring_or-facing (Some n) s = refl

  choose_or-facing : (cs : List Choice) (s : State) → choose_or cs (facing f s) ≡ facing f (choose_or cs s)
  choose_or-facing [] s = spring_or-facing s.formatter.springs s
  choose_or-facing (c ∷ cs) s = refl

  pub step-facing : (s : State) → step (facing f s) ≡ facing f (step s)
  unfolding step
  step-facing s = choose_or-facing s.chosen s

-- With other faces the states are the same but for these.
pub state_after-facing : (f : Faces) (n : ℕ) (s : State) → state_after n (facing f s) ≡ facing f (state_after n s)
state_after-facing f zero s = refl
state_after-facing f (suc n) s = ap step (state_after-facing f n s) ∙ step-facing f (state_after n s)

-- What is printed by a page list that takes all pages, and without one.
use Rattle.std.specs.Prelude.{is_none, not}
use Rattle.std.proofs.Common.{◌≡◌, ℕ, zero, suc, Bool, true, false, if◌then◌else◌, List, [], ◌∷◌, ◌++◌, Option, None, Some, ℤ, refl, ap, sym, ◌∙◌}
use Rattle.nr_vectors.specs.declared.cell.Cell.{Cell}
use Rattle.nr_symbol_tables.specs.declared.trap.Trap.{Trap}
use Rattle.nr_page.specs.declared.selection.PageRange.{PageRange}
use Rattle.nr_store.specs.declared.request.Request.{Request}
use Rattle.nr_store.specs.declared.request.Request.TheVariants as requests
use Rattle.nr_reading.specs.declared.event.Event.{Event}
use Rattle.nr_reading.specs.declared.event.Event.TheVariants as events
use Rattle.nr_formatter.specs.declared.formatter.Formatter.{Formatter}
use Rattle.nr_formatter.specs.declared.lines.Going.{Going}
use Rattle.nr_formatter.specs.declared.paper.Outlet.{Outlet}
use Rattle.nr_formatter.specs.declared.paper.Outlet.TheVariants as outlets
use Rattle.nr_formatter.specs.declared.tasks.Ejected.{Ejected}
use Rattle.nr_formatter.specs.declared.tasks.Room.{Room}
use Rattle.nr_formatter.specs.declared.tasks.Task.{Task}
use Rattle.nr_formatter.specs.declared.tasks.Task.TheVariants as tasks
use Rattle.nr_formatter.specs.declared.tasks.Then.{Then}
use Rattle.nr_formatter.specs.Access.{collected}
use Rattle.nr_formatter.specs.Lines.{flow_line, break_line, flow_done, break_word_end, break_done}
use Rattle.nr_formatter.specs.Pages.{begins_first_page, is_ejecting, next_springing, task_ejected}
use Rattle.nr_formatter.specs.Places.{outlet, to_read}
use Rattle.nr_formatter.specs.Spacing.{is_spaceless}
use Rattle.nr_machine.specs.State.{State, Choice, plainly}
use Rattle.nr_machine.specs.Printing.{selects}
use Rattle.nr_machine.specs.Machine.{begin_page, end_page, page_of, turn_page, put_line_to, put_or, break_part, continues_none, room_in, title_to, cell_to, line_to, space_to, put_space, eject_to, eject, act, work, hear, spring_or, choose_or, step, state_after}

-- the state with this page list, all else in it unchanged
abbrev pub printing : Option (List PageRange) → State → State
printing q s = record s { select = q }

-- Two page lists that take the same pages lead to the same.
module _ (p q : Option (List PageRange)) (same : (page : ℤ) → selects q page ≡ selects p page) where
  either : (c : Bool) (s t s' t' : State) → s' ≡ printing q s → t' ≡ printing q t → (if c then s' else t') ≡ printing q (if c then s else t)
  either true s t s' t' first second = first
  either false s t s' t' first second = second

  end_page-printing : (s : State) → end_page (printing q s) ≡ printing q (end_page (printing p s))
  end_page-printing s =
      ap (λ (is : Bool). printing q (record (end_page s) { pages = s.pages ++ record (page_of s) { printed = is } ∷ [] })) (same s.formatter.paper.number)

  turn_page-printing : (o : Outlet) (s : State) → turn_page o (printing q s) ≡ printing q (turn_page o (printing p s))
  turn_page-printing outlets.Full s = end_page-printing s
  turn_page-printing o s = refl

  put_line_to-printing : (o : Outlet) (g : Going) (s : State) → put_line_to o g (printing q s) ≡ printing q (put_line_to o g (printing p s))
  put_line_to-printing outlets.Diversion g s = refl
  put_line_to-printing outlets.Room g s = refl
  put_line_to-printing o g s = turn_page-printing o s

  put_or-printing : (g : Option Going) (done : Formatter → Formatter) (s : State) → put_or g done (printing q s) ≡ printing q (put_or g done (printing p s))
  put_or-printing None done s = refl
  put_or-printing (Some g) done s = put_line_to-printing (outlet s.formatter) g s

  break_part-printing : (t : Then) (s : State) → break_part t (printing q s) ≡ printing q (break_part t (printing p s))
  break_part-printing t s =
      either (not (is_none (collected s.formatter).word)) (plainly break_word_end (printing p s)) _ (plainly break_word_end (printing q s)) _ refl
      (either (begins_first_page t s.formatter) (begin_page (printing p s)) (put_or (break_line s.formatter) (break_done t) (printing p s)) (begin_page (printing q s))
      (put_or (break_line s.formatter) (break_done t) (printing q s)) refl (put_or-printing (break_line s.formatter) (break_done t) s))

  room_in-printing : (o : Outlet) (r : Room) (s : State) → room_in o r (printing q s) ≡ printing q (room_in o r (printing p s))
  room_in-printing outlets.Diversion r s = refl
  room_in-printing outlets.Room r s = refl
  room_in-printing o r s = turn_page-printing o s

  title_to-printing : (o : Outlet) (s : State) → title_to o (printing q s) ≡ printing q (title_to o (printing p s))
  title_to-printing outlets.Diversion s = refl
  title_to-printing outlets.Room s = refl
  title_to-printing o s = turn_page-printing o s

  cell_to-printing : (o : Outlet) (x : Cell) (s : State) → cell_to o x (printing q s) ≡ printing q (cell_to o x (printing p s))
  cell_to-printing outlets.Diversion x s = refl
  cell_to-printing o x s = refl

  line_to-printing : (o : Outlet) (n : ℕ) (s : State) → line_to o n (printing q s) ≡ printing q (line_to o n (printing p s))
  line_to-printing outlets.Diversion n s = refl
  line_to-printing outlets.Room n s = refl
  line_to-printing o n s = turn_page-printing o s

  space_to-printing : (o : Outlet) (n : ℕ) (s : State) → space_to o n (printing q s) ≡ printing q (space_to o n (printing p s))
  space_to-printing outlets.Diversion n s = refl
  space_to-printing outlets.Room n s = refl
  space_to-printing o n s = turn_page-printing o s

  put_space-printing : (n : ℕ) (s : State) → put_space n (printing q s) ≡ printing q (put_space n (printing p s))
  put_space-printing n s =
      either (is_spaceless n s.formatter) (plainly to_read (printing p s)) (space_to (outlet s.formatter) n (printing p s)) (plainly to_read (printing q s))
      (space_to (outlet s.formatter) n (printing q s)) refl (space_to-printing (outlet s.formatter) n s)

  eject_to-printing : (t : Option Trap) (s : State) → eject_to t (printing q s) ≡ printing q (eject_to t (printing p s))
  eject_to-printing None s = end_page-printing s
  eject_to-printing (Some t) s = refl

  eject-printing : (e : Ejected) (s : State) → eject e (printing q s) ≡ printing q (eject e (printing p s))
  eject-printing e s =
      either (is_ejecting s.formatter) (eject_to (next_springing s.formatter) (printing p s)) (plainly (λ f. record f { task = task_ejected e }) (printing p s))
      (eject_to (next_springing s.formatter) (printing q s)) (plainly (λ f. record f { task = task_ejected e }) (printing q s))
      (eject_to-printing (next_springing s.formatter) s) refl

  act-printing : (r : Request) (s : State) → act r (printing q s) ≡ printing q (act r (printing p s))
  act-printing requests.Ex s = refl
  act-printing r s = refl

  work-printing : (t : Task) (s : State) → work t (printing q s) ≡ printing q (work t (printing p s))
  work-printing tasks.Read s = refl
  work-printing (tasks.Flow after breaks) s = put_or-printing (flow_line after breaks s.formatter) (flow_done after) s
  work-printing (tasks.Break t) s = break_part-printing t (plainly continues_none s)
  work-printing (tasks.Act r) s = act-printing r s
  work-printing (tasks.Room r) s = room_in-printing (outlet s.formatter) r s
  work-printing tasks.Title s = title_to-printing (outlet s.formatter) s
  work-printing (tasks.Line n) s = line_to-printing (outlet s.formatter) n s
  work-printing (tasks.Space n) s = put_space-printing n s
  work-printing (tasks.Begin given) s = refl
  work-printing (tasks.Eject e) s = eject-printing e s
  work-printing tasks.Halted s = refl
  work-printing t s = refl

  hear-printing : (e : Event) (s : State) → hear e (printing q s) ≡ printing q (hear e (printing p s))
  hear-printing events.Nothing s = work-printing s.formatter.task s
  hear-printing (events.DivertedCell x) s = cell_to-printing (outlet s.formatter) x s
  hear-printing e s = refl

  spring_or-printing : (n : Option (List ℕ)) (s : State) → spring_or n (printing q s) ≡ printing q (spring_or n (printing p s))
  spring_or-printing None s = hear-printing s.formatter.event s
  spring_or-printing (Some n) s = refl

  choose_or-printing : (cs : List Choice) (s : State) → choose_or cs (printing q s) ≡ printing q (choose_or cs (printing p s))
  choose_or-printing [] s = spring_or-printing s.formatter.springs s
  choose_or-printing (c ∷ cs) s = refl

  pub step-printing : (s : State) → step (printing q s) ≡ printing q (step (printing p s))
  unfolding step
  step-printing s = choose_or-printing s.chosen s

-- a page list is not changed by any move
pub list_stays : (p : Option (List PageRange)) (n : ℕ) (s : State) → state_after n (printing p s) ≡ printing p (state_after n (printing p s))
list_stays p zero s = refl
list_stays p (suc n) s = ap step (list_stays p n s) ∙ step-printing p p (λ page. refl) (state_after n (printing p s)) ∙ ap (λ t. printing p (step t)) (sym (list_stays p n s))

-- Under two page lists that take the same pages the states are the same but for the list.
pub state_after-printing : (p q : Option (List PageRange)) → ((page : ℤ) → selects q page ≡ selects p page) → (n : ℕ) (s : State)
    → state_after n (printing q s) ≡ printing q (state_after n (printing p s))
state_after-printing p q same zero s = refl
state_after-printing p q same (suc n) s =
    ap step (state_after-printing p q same n s) ∙ step-printing p q same (state_after n (printing p s)) ∙ ap (λ t. printing q (step t)) (sym (list_stays p n s))

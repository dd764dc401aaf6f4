-- Pages that have ended stay.
use Rattle.std.specs.Prelude.{is_none, not}
use Rattle.std.proofs.lemmas.Grind.{flat_map-append}
use Rattle.std.proofs.Common.{◌≡◌, ℕ, zero, suc, ◌+◌, ◌-◌, ◌≤◌, Bool, true, false, if◌then◌else◌, List, [], ◌∷◌, ◌++◌, Option, None, Some, refl, ap, sym, subst, ◌∙◌, append-nil, append_assoc, arith}
use Rattle.nr_vectors.specs.declared.cell.Cell.{Cell}
use Rattle.nr_symbol_tables.specs.declared.trap.Trap.{Trap}
use Rattle.nr_store.specs.declared.request.Request.{Request}
use Rattle.nr_store.specs.declared.request.Request.TheVariants as requests
use Rattle.nr_reading.specs.declared.event.Event.{Event}
use Rattle.nr_reading.specs.declared.event.Event.TheVariants as events
use Rattle.nr_formatter.specs.declared.formatter.Formatter.{Formatter}
use Rattle.nr_formatter.specs.declared.lines.Going.{Going}
use Rattle.nr_formatter.specs.declared.paper.Outlet.{Outlet}
use Rattle.nr_formatter.specs.declared.paper.Outlet.TheVariants as outlets
use Rattle.nr_formatter.specs.declared.tasks.Ejected.{Ejected}
use Rattle.nr_formatter.specs.declared.tasks.Room.{Room}
use Rattle.nr_formatter.specs.declared.tasks.Task.{Task}
use Rattle.nr_formatter.specs.declared.tasks.Task.TheVariants as tasks
use Rattle.nr_formatter.specs.declared.tasks.Then.{Then}
use Rattle.nr_formatter.specs.Access.{collected}
use Rattle.nr_formatter.specs.Lines.{flow_line, break_line, flow_done, break_word_end, break_done}
use Rattle.nr_formatter.specs.Pages.{begins_first_page, is_ejecting, next_springing, task_ejected}
use Rattle.nr_formatter.specs.Places.{outlet, to_read}
use Rattle.nr_formatter.specs.Spacing.{is_spaceless}
use Rattle.nr_machine.specs.State.{State, Ended, Choice, plainly}
use Rattle.nr_machine.specs.Machine.{page_of, begin_page, end_page, turn_page, put_line_to, put_or, break_part, continues_none, break_out, room_in, title_to, cell_to, line_to, space_to, put_space, eject_to, eject, act, work, hear, spring_or, choose_or, step, state_after}
use Rattle.nr_machine.specs.Printing.{bytes_of, text}
use Rattle.nr_laws.specs.Laws.{IsPrefixOf}

-- more pages have ended
pub record Ends (s t : State) : Type 0 where
  pub more : List Ended
  pub grows : t.pages ≡ s.pages ++ more

stays : (s t : State) → t.pages ≡ s.pages → Ends s t
stays s t same = record { more = []; grows = same ∙ sym (append-nil s.pages) }

one : (s : State) → Ends s (end_page s)
one s = record { more = page_of s ∷ []; grows = refl }

either : (c : Bool) (s t u : State) → Ends s t → Ends s u → Ends s (if c then t else u)
either true s t u first second = first
either false s t u first second = second

turn_page-ends : (o : Outlet) (s : State) → Ends s (turn_page o s)
turn_page-ends outlets.Full s = one s
turn_page-ends o s = stays s (begin_page s) refl

put_line_to-ends : (o : Outlet) (g : Going) (s : State) → Ends s (put_line_to o g s)
put_line_to-ends outlets.Diversion g s = stays s _ refl
put_line_to-ends outlets.Room g s = stays s _ refl
put_line_to-ends o g s = turn_page-ends o s

put_or-ends : (g : Option Going) (done : Formatter → Formatter) (s : State) → Ends s (put_or g done s)
put_or-ends None done s = stays s _ refl
put_or-ends (Some g) done s = put_line_to-ends (outlet s.formatter) g s

break_part-ends : (t : Then) (s : State) → Ends s (break_part t s)
break_part-ends t s =
    either (not (is_none (collected s.formatter).word)) s (plainly break_word_end s) _ (stays s _ refl)
    (either (begins_first_page t s.formatter) s (begin_page s) (put_or (break_line s.formatter) (break_done t) s) (stays s _ refl) (put_or-ends (break_line s.formatter) (break_done t) s))

break_out-ends : (t : Then) (s : State) → Ends s (break_out t s)
break_out-ends t s = let part = break_part-ends t (plainly continues_none s) in record { more = part.more; grows = part.grows }

room_in-ends : (o : Outlet) (r : Room) (s : State) → Ends s (room_in o r s)
room_in-ends outlets.Diversion r s = stays s _ refl
room_in-ends outlets.Room r s = stays s _ refl
room_in-ends o r s = turn_page-ends o s

title_to-ends : (o : Outlet) (s : State) → Ends s (title_to o s)
title_to-ends outlets.Diversion s = stays s _ refl
title_to-ends outlets.Room s = stays s _ refl
title_to-ends o s = turn_page-ends o s

cell_to-ends : (o : Outlet) (x : Cell) (s : State) → Ends s (cell_to o x s)
cell_to-ends outlets.Diversion x s = stays s _ refl
cell_to-ends o x s = stays s _ refl

line_to-ends : (o : Outlet) (n : ℕ) (s : State) → Ends s (line_to o n s)
line_to-ends outlets.Diversion n s = stays s _ refl
line_to-ends outlets.Room n s = stays s _ refl
line_to-ends o n s = turn_page-ends o s

space_to-ends : (o : Outlet) (n : ℕ) (s : State) → Ends s (space_to o n s)
space_to-ends outlets.Diversion n s = stays s _ refl
space_to-ends outlets.Room n s = stays s _ refl
space_to-ends o n s = turn_page-ends o s

put_space-ends : (n : ℕ) (s : State) → Ends s (put_space n s)
put_space-ends n s =
    either (is_spaceless n s.formatter) s (plainly to_read s) (space_to (outlet s.formatter) n s) (stays s _ refl) (space_to-ends (outlet s.formatter) n s)

eject_to-ends : (t : Option Trap) (s : State) → Ends s (eject_to t s)
eject_to-ends None s = one s
eject_to-ends (Some t) s = stays s _ refl

eject-ends : (e : Ejected) (s : State) → Ends s (eject e s)
eject-ends e s =
    either (is_ejecting s.formatter) s (eject_to (next_springing s.formatter) s) (plainly (λ f. record f { task = task_ejected e }) s)
    (eject_to-ends (next_springing s.formatter) s) (stays s _ refl)

act-ends : (r : Request) (s : State) → Ends s (act r s)
act-ends requests.Ex s = stays s _ refl
act-ends r s = stays s _ refl

work-ends : (t : Task) (s : State) → Ends s (work t s)
work-ends (tasks.Flow after breaks) s = put_or-ends (flow_line after breaks s.formatter) (flow_done after) s
work-ends (tasks.Break t) s = break_out-ends t s
work-ends (tasks.Act r) s = act-ends r s
work-ends (tasks.Room r) s = room_in-ends (outlet s.formatter) r s
work-ends tasks.Title s = title_to-ends (outlet s.formatter) s
work-ends (tasks.Line n) s = line_to-ends (outlet s.formatter) n s
work-ends (tasks.Space n) s = put_space-ends n s
work-ends (tasks.Eject e) s = eject-ends e s
work-ends t s = stays s _ refl

hear-ends : (e : Event) (s : State) → Ends s (hear e s)
hear-ends events.Nothing s = work-ends s.formatter.task s
hear-ends (events.DivertedCell x) s = cell_to-ends (outlet s.formatter) x s
hear-ends e s = stays s _ refl

spring-ends : (n : Option (List ℕ)) (s : State) → Ends s (spring_or n s)
spring-ends None s = hear-ends s.formatter.event s
spring-ends (Some n) s = stays s _ refl

choose-ends : (cs : List Choice) (s : State) → Ends s (choose_or cs s)
choose-ends [] s = spring-ends s.formatter.springs s
choose-ends (c ∷ cs) s = stays s _ refl

step-ends : (s : State) → Ends s (step s)
unfolding step
step-ends s = choose-ends s.chosen s

ends-trans : (s t u : State) → Ends s t → Ends t u → Ends s u
ends-trans s t u a b = record { more = a.more ++ b.more; grows = b.grows ∙ ap (λ ps. ps ++ b.more) a.grows ∙ append_assoc s.pages a.more b.more }

pub state_after-add : (s : State) (n m : ℕ) → state_after (n + m) s ≡ state_after m (state_after n s)
state_after-add s n zero = ap (λ k. state_after k s) (let e : n + 0 ≡ n = omega arith in e)
state_after-add s n (suc m) = ap (λ k. state_after k s) (let e : n + suc m ≡ suc (n + m) = omega arith in e) ∙ ap step (state_after-add s n m)

pub after-ends : (n : ℕ) (s : State) → Ends s (state_after n s)
after-ends zero s = stays s s refl
after-ends (suc n) s = ends-trans s (state_after n s) (state_after (suc n) s) (after-ends n s) (step-ends (state_after n s))

ends-text : (s t : State) → Ends s t → IsPrefixOf (text s.pages) (text t.pages)
ends-text s t e = record { rest = text e.more; whole_is = ap text e.grows ∙ flat_map-append bytes_of s.pages e.more }

pub text-grows : (n m : ℕ) (s : State) → n ≤ m → IsPrefixOf (text (state_after n s).pages) (text (state_after m s).pages)
text-grows n m s h =
    let e : n + (m - n) ≡ m = omega arith in
    subst (λ k. IsPrefixOf (text (state_after n s).pages) (text (state_after k s).pages)) e
    (subst (λ t. IsPrefixOf (text (state_after n s).pages) (text t.pages)) (sym (state_after-add s n (m - n)))
    (ends-text (state_after n s) (state_after (m - n) (state_after n s)) (after-ends (m - n) (state_after n s))))

-- A move does not depend on the limits, and leaves them as they are.
use Rattle.std.specs.Prelude.{is_none, not}
use Rattle.std.proofs.Math.Path.{fun_ext}
use Rattle.std.proofs.Common.{◌≡◌, ℕ, zero, suc, Bool, true, false, if◌then◌else◌, List, [], ◌∷◌, Option, None, Some, ℤ, pos, refl, ap, ◌∙◌}
use Rattle.nr_vectors.specs.declared.cell.Cell.{Cell}
use Rattle.nr_symbol_tables.specs.declared.trap.Trap.{Trap}
use Rattle.nr_store.specs.Store.{is_held, shown}
use Rattle.nr_store.specs.declared.request.Request.{Request}
use Rattle.nr_store.specs.declared.request.Request.TheVariants as requests
use Rattle.nr_reading.specs.declared.event.Event.{Event}
use Rattle.nr_reading.specs.declared.event.Event.TheVariants as events
use Rattle.nr_options.specs.Limits.{Bounds}
use Rattle.nr_formatter.specs.declared.formatter.Formatter.{Formatter}
use Rattle.nr_formatter.specs.declared.lines.Going.{Going}
use Rattle.nr_formatter.specs.declared.paper.Outlet.{Outlet}
use Rattle.nr_formatter.specs.declared.paper.Outlet.TheVariants as outlets
use Rattle.nr_formatter.specs.declared.tasks.Ejected.{Ejected}
use Rattle.nr_formatter.specs.declared.tasks.Room.{Room}
use Rattle.nr_formatter.specs.declared.tasks.Room.TheVariants as rooms
use Rattle.nr_formatter.specs.declared.tasks.Task.{Task}
use Rattle.nr_formatter.specs.declared.tasks.Task.TheVariants as tasks
use Rattle.nr_formatter.specs.declared.tasks.Then.{Then}
use Rattle.nr_formatter.specs.declared.tasks.Then.TheVariants as thens
use Rattle.nr_formatter.specs.Access.{collected}
use Rattle.nr_formatter.specs.Lines.{flow_line, break_line, flow_done, break_word_end, break_done}
use Rattle.nr_formatter.specs.Moves.{heard, worked, read_in}
use Rattle.nr_formatter.specs.Pages.{begins_first_page, is_ejecting, next_springing, task_ejected, is_text, springs_at, macro_at}
use Rattle.nr_formatter.specs.Places.{outlet, to_read}
use Rattle.nr_formatter.specs.Spacing.{is_spaceless}
use Rattle.nr_formatter.specs.Springing.{sprung, ejected_to}
use Rattle.nr_machine.specs.State.{State, Choice, First, Register, plainly}
use Rattle.nr_machine.specs.Machine.{choose, begin_page, turn_page, put_line_to, put_line, put_or, break_part, continues_none, break_out, room_in, title_to, cell_to, line_to, space_to, put_space, eject_to, eject, emitted, with_situation, read, act, work, hear, spring_or, choose_or, step, state_after, situation_of}
use Rattle.nr_laws.specs.Limited.{stored_under, reader_under, under, state_under}
use Rattle.std.specs.List.{filter}
use Rattle.nr_symbol_tables.specs.Trap.{nearest, on_page}
use Rattle.nr_store.specs.declared.element.Element.{Element}
use Rattle.nr_store.specs.Store.{Stored, Reading, Level, Read, Mark, left, left_of}
use Rattle.nr_reading.specs.Half.{TakenIn, take_in}
use Rattle.nr_input.specs.Acting.{Acted}
use Rattle.nr_input.specs.Place.{next_item, afterwards}
use Rattle.nr_input.specs.Moving.{Situation, Move, situation, looks, look, taken_at, stays_at, burst_after, emitted_of, acted_at, move as input_move}
use Rattle.nr_input.specs.declared.emitted.Emitted.{Emitted}
use Rattle.nr_input.specs.declared.emitted.Emitted.TheVariants as tells
use Rattle.nr_formatter.specs.declared.tasks.Resume.{Resume}
use Rattle.nr_laws.proofs.FormatterLimits.{outlet-under, heard-under, worked-under, sprung-under, ejected_to-under, register_set-under, break_word_end-under, either as formatter_either}
use Rattle.nr_laws.proofs.InputLimits.{act-under as act_pending-under}

module _ (b : Bounds) where
  either : (c : Bool) (s t s' t' : State) → s' ≡ state_under b s → t' ≡ state_under b t → (if c then s' else t') ≡ state_under b (if c then s else t)
  either true s t s' t' first second = first
  either false s t s' t' first second = second

  -- of the formatter alone
  plainly-under : (g : Formatter → Formatter) (s : State) → g (under b s.formatter) ≡ under b (g s.formatter) → plainly g (state_under b s) ≡ state_under b (plainly g s)
  plainly-under g s same = ap (λ (f : Formatter). record (state_under b s) { formatter = f }) same

  -- ---- pages

  turn_page-under : (o : Outlet) (s : State) → turn_page o (state_under b s) ≡ state_under b (turn_page o s)
  turn_page-under outlets.Full s = refl
  turn_page-under o s = refl

  -- ---- lines

  put_line_to-under : (o : Outlet) (g : Going) (s : State) → put_line_to o g (state_under b s) ≡ state_under b (put_line_to o g s)
  put_line_to-under outlets.Diversion g s = refl
  put_line_to-under outlets.Room g s = refl
  put_line_to-under o g s = turn_page-under o s

  put_line-under : (g : Going) (s : State) → put_line g (state_under b s) ≡ state_under b (put_line g s)
  put_line-under g s = ap (λ o. put_line_to o g (state_under b s)) (outlet-under b s.formatter) ∙ put_line_to-under (outlet s.formatter) g s

  put_or-under : (g : Option Going) (done : Formatter → Formatter) (s : State) → done (under b s.formatter) ≡ under b (done s.formatter)
      → put_or g done (state_under b s) ≡ state_under b (put_or g done s)
  put_or-under None done s same = plainly-under done s same
  put_or-under (Some g) done s same = put_line-under g s

  break_done-under : (t : Then) (f : Formatter) → break_done t (under b f) ≡ under b (break_done t f)
  break_done-under (thens.Act r) f = refl
  break_done-under thens.Space f = refl
  break_done-under thens.Leading f = refl
  break_done-under thens.Diverted f = refl
  break_done-under thens.Finish f = refl

  break_part-under : (t : Then) (s : State) → break_part t (state_under b s) ≡ state_under b (break_part t s)
  break_part-under t s =
      either (not (is_none (collected s.formatter).word)) (plainly break_word_end s) _ (plainly break_word_end (state_under b s)) _
      (plainly-under break_word_end s (break_word_end-under b s.formatter))
      (either (begins_first_page t s.formatter) (begin_page s) (put_or (break_line s.formatter) (break_done t) s) (begin_page (state_under b s)) (put_or (break_line s.formatter) (break_done t) (state_under b s)) refl
      (put_or-under (break_line s.formatter) (break_done t) s (break_done-under t s.formatter)))

  break_out-under : (t : Then) (s : State) → break_out t (state_under b s) ≡ state_under b (break_out t s)
  break_out-under t s = break_part-under t (plainly continues_none s)

  -- ---- titles, diverted lines and space

  read_in-under : (r : Room) (f : Formatter) → read_in r (under b f) ≡ under b (read_in r f)
  read_in-under rooms.Title f = refl
  read_in-under rooms.Line f = refl

  room_in-under : (o : Outlet) (r : Room) (s : State) → room_in o r (state_under b s) ≡ state_under b (room_in o r s)
  room_in-under outlets.Diversion r s = plainly-under (read_in r) s (read_in-under r s.formatter)
  room_in-under outlets.Room r s = plainly-under (read_in r) s (read_in-under r s.formatter)
  room_in-under o r s = turn_page-under o s

  title_to-under : (o : Outlet) (s : State) → title_to o (state_under b s) ≡ state_under b (title_to o s)
  title_to-under outlets.Diversion s = refl
  title_to-under outlets.Room s = refl
  title_to-under o s = turn_page-under o s

  cell_to-under : (o : Outlet) (x : Cell) (s : State) → cell_to o x (state_under b s) ≡ state_under b (cell_to o x s)
  cell_to-under outlets.Diversion x s = refl
  cell_to-under o x s = refl

  line_to-under : (o : Outlet) (n : ℕ) (s : State) → line_to o n (state_under b s) ≡ state_under b (line_to o n s)
  line_to-under outlets.Diversion n s = refl
  line_to-under outlets.Room n s = refl
  line_to-under o n s = turn_page-under o s

  space_to-under : (o : Outlet) (n : ℕ) (s : State) → space_to o n (state_under b s) ≡ state_under b (space_to o n s)
  space_to-under outlets.Diversion n s = refl
  space_to-under outlets.Room n s = refl
  space_to-under o n s = turn_page-under o s

  put_space-under : (n : ℕ) (s : State) → put_space n (state_under b s) ≡ state_under b (put_space n s)
  put_space-under n s =
      either (is_spaceless n s.formatter) (plainly to_read s) (space_to (outlet s.formatter) n s) (plainly to_read (state_under b s)) (space_to (outlet (under b s.formatter)) n (state_under b s)) refl
      (ap (λ o. space_to o n (state_under b s)) (outlet-under b s.formatter) ∙ space_to-under (outlet s.formatter) n s)

  -- ---- ejecting

  eject_to-under : (t : Option Trap) (s : State) → eject_to t (state_under b s) ≡ state_under b (eject_to t s)
  eject_to-under None s = refl
  eject_to-under (Some t) s = plainly-under (ejected_to t) s (ejected_to-under b t s.formatter)

  names-under : (name : Option (List ℕ)) (f : Formatter) → is_text name (under b f) ≡ is_text name f
  names-under None f = refl
  names-under (Some name) f = refl

  springs_at-under : (f : Formatter) → springs_at (under b f) ≡ springs_at f
  springs_at-under f = fun_ext (λ z. names-under (macro_at (pos f.settings.pages.page_length) z f.store.traps) f)

  next_springing-under : (f : Formatter) → next_springing (under b f) ≡ next_springing f
  next_springing-under f =
      ap (λ (at : ℤ → Bool). nearest (pos f.paper.place) (pos f.settings.pages.page_length) (filter (λ t. at (on_page t.place (pos f.settings.pages.page_length))) f.store.traps)) (springs_at-under f)

  eject-under : (e : Ejected) (s : State) → eject e (state_under b s) ≡ state_under b (eject e s)
  eject-under e s =
      either (is_ejecting s.formatter) (eject_to (next_springing s.formatter) s) (plainly (λ f. record f { task = task_ejected e }) s)
      (eject_to (next_springing (under b s.formatter)) (state_under b s)) (plainly (λ f. record f { task = task_ejected e }) (state_under b s))
      (ap (λ t. eject_to t (state_under b s)) (next_springing-under s.formatter) ∙ eject_to-under (next_springing s.formatter) s) refl

  -- ---- requests

  act-under : (r : Request) (s : State) → act r (state_under b s) ≡ state_under b (act r s)
  act-under requests.Ex s = refl
  act-under r s = plainly-under (worked (tasks.Act r)) s (worked-under b (tasks.Act r) s.formatter)

  -- ---- reading

  abbrev situation_under : Situation Resume → Situation Resume
  situation_under q = record q { stored = stored_under b.stored b.depth q.stored; reader = reader_under b.expansions q.reader }

  abbrev move_under : Move Resume → Move Resume
  move_under m = record m { situation = situation_under m.situation }

  left_of-under : (xs : List Element) (l : Reading Resume) (ls : List (Level Resume)) (v : Stored Resume)
      → left_of xs l ls (stored_under b.stored b.depth v) ≡ stored_under b.stored b.depth (left_of xs l ls v)
  left_of-under [] l ls v = refl
  left_of-under (x ∷ xs) l ls v = refl

  left-under : (ls : List (Level Resume)) (v : Stored Resume) → left ls (stored_under b.stored b.depth v) ≡ stored_under b.stored b.depth (left ls v)
  left-under [] v = refl
  left-under (Read l ∷ ls) v = left_of-under l.rest l ls v
  left-under (Mark mode ∷ ls) v = refl

  taken_in_at-under : (c : Bool) (m : TakenIn) (q : Situation Resume)
      → (if c then taken_at m (situation_under q) else stays_at m (situation_under q)) ≡ move_under (if c then taken_at m q else stays_at m q)
  taken_in_at-under true m q =
      ap (λ (v : Stored Resume). record {
        situation = situation v (afterwards (shown q.stored.levels) q.coming)
            (record (reader_under b.expansions q.reader) { half = m.half; burst = burst_after q.coming (afterwards (shown q.stored.levels) q.coming) q.reader.burst });
        emitted = emitted_of (shown q.stored.levels) m.event;
      }) (left-under q.stored.levels q.stored)
  taken_in_at-under false m q = refl

  acted_at-under : (q : Situation Resume) → acted_at (situation_under q) ≡ move_under (acted_at q)
  acted_at-under q =
      ap (λ (a : Acted Resume). record { situation = situation a.stored q.coming a.reader; emitted = tells.Event a.event })
      (act_pending-under b.stored b.depth b.expansions q.reader.half.reading.pending_act q.stored q.reader)

  look-under : (q : Situation Resume) → look (situation_under q) ≡ move_under (look q)
  look-under q = let m = take_in (next_item (shown q.stored.levels) q.coming) q.reader.half in taken_in_at-under m.takes m q

  move_if-under : (c : Bool) (q : Situation Resume)
      → (if c then look (situation_under q) else acted_at (situation_under q)) ≡ move_under (if c then look q else acted_at q)
  move_if-under true q = look-under q
  move_if-under false q = acted_at-under q

  emitted-under : (t : Emitted Resume) (f : Formatter) → emitted t (under b f) ≡ under b (emitted t f)
  emitted-under (tells.Event e) f = refl
  emitted-under (tells.Resume r) f = refl

  with_situation-under : (m : Move Resume) (s : State) → with_situation (move_under m) (state_under b s) ≡ state_under b (with_situation m s)
  with_situation-under m s =
      ap (λ (f : Formatter). record (state_under b s) { coming = m.situation.coming; formatter = f })
      (emitted-under m.emitted (record s.formatter { store = m.situation.stored; reader = m.situation.reader }))

  read-under : (s : State) → read (state_under b s) ≡ state_under b (read s)
  read-under s =
      ap (λ (m : Move Resume). with_situation m (state_under b s)) (move_if-under (looks (situation_of s)) (situation_of s)) ∙ with_situation-under (input_move (situation_of s)) s

  -- ---- a move

  work-under : (t : Task) (s : State) → work t (state_under b s) ≡ state_under b (work t s)
  work-under tasks.Read s = read-under s
  work-under (tasks.Flow after breaks) s = put_or-under (flow_line after breaks s.formatter) (flow_done after) s refl
  work-under (tasks.Break t) s = break_out-under t s
  work-under (tasks.Act r) s = act-under r s
  work-under (tasks.Room r) s = ap (λ o. room_in o r (state_under b s)) (outlet-under b s.formatter) ∙ room_in-under (outlet s.formatter) r s
  work-under tasks.Title s = ap (λ o. title_to o (state_under b s)) (outlet-under b s.formatter) ∙ title_to-under (outlet s.formatter) s
  work-under (tasks.Line n) s = ap (λ o. line_to o n (state_under b s)) (outlet-under b s.formatter) ∙ line_to-under (outlet s.formatter) n s
  work-under (tasks.Space n) s = put_space-under n s
  work-under (tasks.Begin given) s = refl
  work-under (tasks.Eject e) s = eject-under e s
  work-under tasks.Halted s = refl
  work-under t s = plainly-under (worked t) s (worked-under b t s.formatter)

  hear-under : (e : Event) (s : State) → hear e (state_under b s) ≡ state_under b (hear e s)
  hear-under events.Nothing s = work-under s.formatter.task s
  hear-under (events.DivertedCell x) s = ap (λ o. cell_to o x (state_under b s)) (outlet-under b s.formatter) ∙ cell_to-under (outlet s.formatter) x s
  hear-under e s = plainly-under (heard e) s (heard-under b e s.formatter)

  spring_or-under : (n : Option (List ℕ)) (s : State) → spring_or n (state_under b s) ≡ state_under b (spring_or n s)
  spring_or-under None s = hear-under s.formatter.event s
  spring_or-under (Some n) s = plainly-under (sprung n) s (sprung-under b n s.formatter)

  choose-under : (c : Choice) (f : Formatter) → choose c (under b f) ≡ under b (choose c f)
  choose-under (First n) f = formatter_either b (is_held n) (record f { paper = record f.paper { number = n } }) f _ (under b f) refl refl
  choose-under (Register name n) f = register_set-under b (name ∷ []) n None f

  choose_or-under : (cs : List Choice) (s : State) → choose_or cs (state_under b s) ≡ state_under b (choose_or cs s)
  choose_or-under [] s = spring_or-under s.formatter.springs s
  choose_or-under (c ∷ cs) s = ap (λ (f : Formatter). record (state_under b s) { chosen = cs; formatter = f }) (choose-under c s.formatter)

  pub step-under : (s : State) → step (state_under b s) ≡ state_under b (step s)
  unfolding step
  step-under s = choose_or-under s.chosen s

  pub state_after-under : (n : ℕ) (s : State) → state_after n (state_under b s) ≡ state_under b (state_after n s)
  state_after-under zero s = refl
  state_after-under (suc n) s = ap step (state_after-under n s) ∙ step-under (state_after n s)

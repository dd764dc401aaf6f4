-- No move makes a cell of a control byte.
use Rattle.std.specs.Prelude.{is_none, nat_le, nat_lt, not, replicate, slice_get}
use Rattle.std.specs.List.{All}
use Rattle.std.proofs.lemmas.List.Elements.{All-nil, All-cons, All-push, All-take}
use Rattle.std.proofs.Common.{◌≡◌, ℕ, zero, suc, ◌+◌, ◌-◌, ◌≤◌, Bool, true, false, if◌then◌else◌, List, [], ◌∷◌, ◌++◌, Option, None, Some, ℤ, refl, subst, sym, ◌∙◌, arith}
use Rattle.nr_units.specs.Source.{Supply}
use Rattle.nr_vectors.specs.Cell.{blank}
use Rattle.nr_vectors.specs.declared.cell.Cell.{Cell}
use Rattle.nr_fill.specs.Piece.{is_nil}
use Rattle.nr_page.specs.Grid.{Placed}
use Rattle.nr_symbol_tables.specs.declared.trap.Trap.{Trap}
use Rattle.nr_symbol_tables.specs.Table.{find}
use Rattle.nr_store.specs.Store.{Stored, called, entered, is_held, shown, words, written, set_to, register_of}
use Rattle.nr_store.specs.declared.register.Register.{Register as Numbered}
use Rattle.nr_store.specs.declared.shown.Shown.{Shown}
use Rattle.nr_store.specs.declared.shown.Shown.TheVariants as shows
use Rattle.nr_store.specs.declared.request.Request.{Request}
use Rattle.nr_store.specs.declared.request.Request.TheVariants as requests
use Rattle.nr_reading.specs.declared.event.Event.{Event}
use Rattle.nr_reading.specs.declared.event.Event.TheVariants as events
use Rattle.nr_reading.specs.declared.ask.Ask.{Ask}
use Rattle.nr_reading.specs.declared.ask.Sign.TheVariants as signs
use Rattle.nr_reading.specs.declared.mode.Calls.{Calls}
use Rattle.nr_reading.specs.declared.mode.Calls.TheVariants as calls
use Rattle.nr_reading.specs.declared.mode.PendingAct.{PendingAct}
use Rattle.nr_reading.specs.declared.mode.PendingAct.TheVariants as pending_acts
use Rattle.nr_reading.specs.declared.mode.Mode.{Mode}
use Rattle.nr_reading.specs.declared.mode.Mode.TheVariants as modes
use Rattle.nr_reading.specs.declared.mode.Standing.{Standing}
use Rattle.nr_reading.specs.declared.mode.Standing.TheVariants as standings
use Rattle.nr_reading.specs.Seeking.{sought, sought_event}
use Rattle.nr_reading.specs.Spelled.{is_empty}
use Rattle.nr_reading.specs.declared.half.Half.{Half}
use Rattle.nr_input.specs.declared.reader.Reader.{Reader}
use Rattle.nr_reading.specs.Half.{TakenIn, take_in}
use Rattle.nr_reading.specs.Conditionals.{answer_of, else_mode}
use Rattle.nr_reading.specs.Mode.{mode_of}
use Rattle.nr_input.specs.Moving.{Situation, Move, look, looks, taken_at, stays_at, acted_at, emitted_of, move as input_move}
use Rattle.nr_input.specs.Acting.{act as act_pending, after_held, calls_of, has_text, meaning_in, name_in, next, splicing}
use Rattle.nr_reading.specs.Delimited.{Texts}
use Rattle.nr_input.specs.Place.{next_item}
use Rattle.nr_input.specs.declared.emitted.Emitted.{Emitted}
use Rattle.nr_input.specs.declared.emitted.Emitted.TheVariants as tells
use Rattle.nr_options.specs.Limits.{Bounds}
use Rattle.nr_options.specs.declared.options.Options.{Options}
use Rattle.nr_formatter.specs.Access.{collected, spacing, done}
use Rattle.nr_formatter.specs.BuiltIn.{given_named}
use Rattle.nr_formatter.specs.Registers as registers
use Rattle.nr_formatter.specs.declared.built_in.BuiltInRegister.{BuiltInRegister}
use Rattle.nr_formatter.specs.declared.built_in.BuiltInRegister.TheVariants as given
use Rattle.nr_formatter.specs.Lines as lines
use Rattle.nr_formatter.specs.Moves as moves
use Rattle.nr_formatter.specs.Pages.{begins_first_page, is_ejecting, next_springing, task_ejected}
use Rattle.nr_formatter.specs.Places.{outlet, to_read}
use Rattle.nr_formatter.specs.Spacing.{is_spaceless}
use Rattle.nr_formatter.specs.Titles as titles
use Rattle.nr_formatter.specs.declared.formatter.Formatter.{Formatter}
use Rattle.nr_formatter.specs.declared.lines.Going.{Going}
use Rattle.nr_formatter.specs.declared.paper.Outlet.{Outlet}
use Rattle.nr_formatter.specs.declared.paper.Outlet.TheVariants as outlets
use Rattle.nr_formatter.specs.declared.tasks.Ejected.{Ejected}
use Rattle.nr_formatter.specs.declared.tasks.Resume.{Resume}
use Rattle.nr_formatter.specs.declared.tasks.Room.{Room}
use Rattle.nr_formatter.specs.declared.tasks.Room.TheVariants as rooms
use Rattle.nr_formatter.specs.declared.tasks.Task.{Task}
use Rattle.nr_formatter.specs.declared.tasks.Task.TheVariants as tasks
use Rattle.nr_formatter.specs.declared.tasks.Then.{Then}
use Rattle.nr_machine.specs.State.{State, Ended, Choice, First, Register, plainly, start}
use Rattle.nr_machine.specs.Machine.{begin_page, end_page, page_of, turn_page, placed as placed_line, place, put_line_to, put_or, break_part, continues_none, break_out, room_in, title_to, with_cell, margin_in, indent, offset, cell_to, width, line_to, space_to, put_space, eject_to, eject, act, work, hear, spring_or, choose, choose_or, step, state_after, situation_of, emitted, read}
use Rattle.nr_store.specs.Request.{request_names}
use Rattle.nr_laws.proofs.ChargedOnce.{once-none}
use Rattle.nr_laws.proofs.PrintedLines.{IsAmong, AreAmong, IsPrinted, ArePrinted, IsSet, either, join, blanks, trim}
use Rattle.nr_laws.proofs.PrintedItems.{IfAmong, IsPending, IsResume, act-stored, afterwards-among, next_item-printed, resume-among}
use Rattle.nr_laws.proofs.PrintedStores.{AreStored, no_words, none-gathered, left-stored, no_levels, no_building, request_names-stored}
use Rattle.nr_laws.proofs.PrintedDirect.{IsHeard, IsHeld, Halved, IsHalf, none-texts}
use Rattle.nr_laws.proofs.PrintedReads.{take_in-emitted}
use Rattle.nr_laws.proofs.PrintedWorks.{IsKept, Hearing, part-held, heard-hearing, break-word-end}
use Rattle.nr_laws.proofs.PrintedRests.{Resting, row-printed, line-afterwards, title-row, title-afterwards, line-diverted, title-diverted, space-diverted, end-diverted, cell-diverted, sprung-resting, ejected-resting, tasked, worked-resting}

module _ (set : ℕ → Bool) where
  abbrev pub IsPlaced : Placed → Type 0
  IsPlaced l = ArePrinted set l.cells

  abbrev pub ArePlaced : List Placed → Type 0
  ArePlaced ls = All IsPlaced ls

  abbrev pub IsClosed : Ended → Type 0
  IsClosed p = ArePlaced p.lines

  abbrev pub AreClosed : List Ended → Type 0
  AreClosed ps = All IsClosed ps

  pub record Clean (xs : List Cell) (ls : List Placed) (ps : List Ended) (bs : List ℕ) : Type 0 where
    pub row : ArePrinted set xs
    pub lines : ArePlaced ls
    pub pages : AreClosed ps
    pub coming : AreAmong set bs

  abbrev IsClean : State → Type 0
  IsClean s = Clean s.row s.lines s.pages s.coming.supply.bytes

  -- nothing is emitted that is still to be heard
  record Rests (s : State) : Type 0 where
    clean : IsClean s
    resting : Resting set s.formatter

  rests-if : (c : Bool) (s t : State) → Rests s → Rests t → Rests (if c then s else t)
  rests-if true s t first second = first
  rests-if false s t first second = second

  plain-rests : (s : State) (f : Formatter) → IsClean s → Resting set f → Rests (record s { formatter = f })
  plain-rests s f clean h = record { clean = record { row = clean.row; lines = clean.lines; pages = clean.pages; coming = clean.coming }; resting = h }

  -- ---- pages

  begun : (s : State) → Rests s → Rests (begin_page s)
  begun s h =
      record { clean = record { row = h.clean.row; lines = All-nil IsPlaced; pages = h.clean.pages; coming = h.clean.coming }; resting = record { kept = h.resting.kept; idle = h.resting.idle } }

  ended : (s : State) → Rests s → Rests (end_page s)
  ended s h =
      record {
        clean = record { row = h.clean.row; lines = All-nil IsPlaced; pages = All-push IsClosed s.pages (page_of s) h.clean.pages h.clean.lines; coming = h.clean.coming };
        resting = record { kept = h.resting.kept; idle = h.resting.idle };
      }

  turned : (o : Outlet) (s : State) → Rests s → Rests (turn_page o s)
  turned outlets.Full s h = ended s h
  turned o s h = begun s h

  placed : (xs : List Cell) (height : ℕ) (f : Formatter) (s : State) → ArePrinted set xs → IsClean s → Resting set f → Rests (place xs height f s)
  placed xs height f s is clean h =
      record {
        clean = record { row = All-nil (IsPrinted set); lines = All-push IsPlaced s.lines (placed_line xs height f) clean.lines (trim set xs is); pages = clean.pages; coming = clean.coming };
        resting = record { kept = h.kept; idle = h.idle };
      }

  -- ---- lines

  line-goes : (o : Outlet) (g : Going) (s : State) → Rests s → Rests (put_line_to o g s)
  line-goes outlets.Diversion g s h = plain-rests s _ h.clean (line-diverted set g s.formatter h.resting)
  line-goes outlets.Room g s h = placed (lines.row_going g (offset s.formatter) s.formatter) (spacing s.formatter) (lines.after_line g s.formatter) s (row-printed set g (offset s.formatter) s.formatter h.resting.kept) h.clean (line-afterwards set g s.formatter h.resting)
  line-goes o g s h = turned o s h

  goes-or : (g : Option Going) (done : Formatter → Formatter) (s : State) → Rests s → Rests (plainly done s) → Rests (put_or g done s)
  goes-or None done s h otherwise = otherwise
  goes-or (Some g) done s h otherwise = line-goes (outlet s.formatter) g s h

  part-broken : (t : Then) (s : State) → Rests s → Rests (break_part t s)
  part-broken t s h =
      rests-if (not (is_none (collected s.formatter).word)) (plainly lines.break_word_end s)
      (if begins_first_page t s.formatter then begin_page s else put_or (lines.break_line s.formatter) (lines.break_done t) s)
      (plain-rests s _ h.clean (record { kept = break-word-end set s.formatter h.resting.kept; idle = word-idle }))
      (rests-if (begins_first_page t s.formatter) (begin_page s) (put_or (lines.break_line s.formatter) (lines.break_done t) s) (begun s h)
      (goes-or (lines.break_line s.formatter) (lines.break_done t) s h (plain-rests s _ h.clean (record { kept = h.resting.kept; idle = h.resting.idle }))))
    where
      either-idle : (c : Bool) → (if c then lines.field_ended s.formatter else lines.word_ended s.formatter).event ≡ s.formatter.event
      either-idle true = refl
      either-idle false = refl

      word-idle : (lines.break_word_end s.formatter).event ≡ events.Nothing
      word-idle = either-idle (lines.reads_a_field s.formatter) ∙ h.resting.idle

  broken : (t : Then) (s : State) → Rests s → Rests (break_out t s)
  broken t s h = part-broken t (plainly continues_none s) (plain-rests s _ h.clean (record { kept = h.resting.kept; idle = h.resting.idle }))

  -- ---- titles, diverted lines and space

  in-mode : {d : PendingAct} {m n : Mode} {asks : List Ask} {name x : List ℕ} {y : Texts} → Halved set d m asks name x y → IsHeld set n → Halved set d n asks name x y
  in-mode h held = record { pending_act = h.pending_act; held = held; few = h.few; ending = h.ending; ends = h.ends; line = h.line; texts = h.texts }

  read-in : (r : Room) (f : Formatter) → Resting set f → Resting set (moves.read_in r f)
  read-in rooms.Title f h =
      let half : Halved set f.reader.half.reading.pending_act modes.TitleBefore f.reader.half.asks f.reader.half.notes.defining.ending f.reader.half.notes.line f.reader.half.delimited = in-mode h.kept.half tt in
      record { kept = record { stored = h.kept.stored; lined = h.kept.lined; tab = h.kept.tab; leader = h.kept.leader; half = half }; idle = h.idle }
  read-in rooms.Line f h =
      let half : Halved set f.reader.half.reading.pending_act modes.Diverting f.reader.half.asks f.reader.half.notes.defining.ending f.reader.half.notes.line f.reader.half.delimited = in-mode h.kept.half tt in
      record { kept = record { stored = h.kept.stored; lined = h.kept.lined; tab = h.kept.tab; leader = h.kept.leader; half = half }; idle = h.idle }

  room-made : (o : Outlet) (r : Room) (s : State) → Rests s → Rests (room_in o r s)
  room-made outlets.Diversion r s h = plain-rests s _ h.clean (read-in r s.formatter h.resting)
  room-made outlets.Room r s h = plain-rests s _ h.clean (read-in r s.formatter h.resting)
  room-made o r s h = turned o s h

  title-goes : (o : Outlet) (s : State) → Rests s → Rests (title_to o s)
  title-goes outlets.Diversion s h = plain-rests s _ h.clean (title-diverted set s.formatter h.resting)
  title-goes outlets.Room s h = placed (titles.title_row (offset s.formatter) s.formatter) (spacing s.formatter) (titles.title_set s.formatter) s (title-row set (offset s.formatter) s.formatter h.resting.kept) h.clean (title-afterwards set s.formatter h.resting)
  title-goes o s h = turned o s h

  row-goes : (o : Outlet) (n : ℕ) (s : State) → Rests s → Rests (line_to o n s)
  row-goes outlets.Diversion n s h =
      record { clean = record { row = All-nil (IsPrinted set); lines = h.clean.lines; pages = h.clean.pages; coming = h.clean.coming }; resting = end-diverted set (width s.row) n s.formatter h.resting }
  row-goes outlets.Room n s h = placed s.row n (to_read s.formatter) s h.clean.row h.clean (tasked set tasks.Read s.formatter h.resting)
  row-goes o n s h = turned o s h

  space-goes : (o : Outlet) (n : ℕ) (s : State) → Rests s → Rests (space_to o n s)
  space-goes outlets.Diversion n s h = plain-rests s _ h.clean (space-diverted set n s.formatter h.resting)
  space-goes outlets.Room n s h = plain-rests s _ h.clean (record { kept = h.resting.kept; idle = h.resting.idle })
  space-goes o n s h = turned o s h

  space-put : (n : ℕ) (s : State) → Rests s → Rests (put_space n s)
  space-put n s h =
      rests-if (is_spaceless n s.formatter) (plainly to_read s) (space_to (outlet s.formatter) n s) (plain-rests s _ h.clean (tasked set tasks.Read s.formatter h.resting)) (space-goes (outlet s.formatter) n s h)

  -- ---- ejecting

  ejects-to : (t : Option Trap) (s : State) → Rests s → Rests (eject_to t s)
  ejects-to None s h = ended s h
  ejects-to (Some t) s h = plain-rests s _ h.clean (ejected-resting set t s.formatter h.resting)

  ejects : (e : Ejected) (s : State) → Rests s → Rests (eject e s)
  ejects e s h =
      rests-if (is_ejecting s.formatter) (eject_to (next_springing s.formatter) s) (plainly (λ f. record f { task = task_ejected e }) s) (ejects-to (next_springing s.formatter) s h)
      (plain-rests s _ h.clean (tasked set (task_ejected e) s.formatter h.resting))

  acts : (r : Request) (s : State) → Rests s → Rests (act r s)
  acts requests.Ex s h = record { clean = record { row = h.clean.row; lines = h.clean.lines; pages = h.clean.pages; coming = All-nil (IsAmong set) }; resting = worked-resting set (tasks.Act requests.Ex) s.formatter h.resting }
  acts r s h = plain-rests s _ h.clean (worked-resting set (tasks.Act r) s.formatter h.resting)

  -- ---- all states

  -- what is emitted is still to be heard, but for a macro that springs before
  abbrev IsAwaited : Option (List ℕ) → Event → Mode → Type 0
  IsAwaited None e m = IsHeard set e m
  IsAwaited (Some n) e m = e ≡ events.Nothing

  pub record AreClear (s : State) : Type 0 where
    pub clean : IsClean s
    pub kept : IsKept set s.formatter
    pub awaited : IsAwaited s.formatter.springs s.formatter.event s.formatter.reader.half.reading.mode

  quiet : (n : Option (List ℕ)) (e : Event) (m : Mode) → e ≡ events.Nothing → IsAwaited n e m
  quiet None e m is = subst (λ x. IsHeard set x m) (sym is) tt
  quiet (Some n) e m is = is

  awaits : (n : Option (List ℕ)) (e : Event) (m : Mode) → n ≡ None → IsHeard set e m → IsAwaited n e m
  awaits None e m is h = h
  awaits (Some n) e m is h = absurd (let wrong : Some n ≡ None = is in cc)

  of-rest : (s : State) → Rests s → AreClear s
  of-rest s h =
      record { clean = h.clean; kept = h.resting.kept; awaited = quiet s.formatter.springs s.formatter.event s.formatter.reader.half.reading.mode h.resting.idle }

  of-hearing : (s : State) (f : Formatter) → IsClean s → Hearing set f → AreClear (record s { formatter = f })
  of-hearing s f clean h =
      record { clean = record { row = clean.row; lines = clean.lines; pages = clean.pages; coming = clean.coming }; kept = h.kept; awaited = awaits f.springs f.event f.reader.half.reading.mode h.calm h.heard }

  -- ---- reading

  taken_in : (c : Bool) (m : TakenIn) (q : Situation Resume) → AreStored set q.stored → AreStored set (if c then taken_at m q else stays_at m q).situation.stored
  taken_in true m q h = left-stored set q.stored.levels q.stored h.levels h
  taken_in false m q h = h

  moved-stored : (c : Bool) (q : Situation Resume) → AreStored set q.stored → IsHalf set q.reader.half → AreStored set (if c then look q else acted_at q).situation.stored
  moved-stored true q h half = let m = take_in (next_item (shown q.stored.levels) q.coming) q.reader.half in taken_in m.takes m q h
  moved-stored false q h half = act-stored set q.reader.half.reading.pending_act q.stored q.reader half.pending_act half.ends h

  taken_in-coming : (c : Bool) (m : TakenIn) (q : Situation Resume) → AreAmong set q.coming.supply.bytes → AreAmong set (if c then taken_at m q else stays_at m q).situation.coming.supply.bytes
  taken_in-coming true m q h = afterwards-among set (shown q.stored.levels) q.coming h
  taken_in-coming false m q h = h

  moved-coming : (c : Bool) (q : Situation Resume) → AreAmong set q.coming.supply.bytes → AreAmong set (if c then look q else acted_at q).situation.coming.supply.bytes
  moved-coming true q h = let m = take_in (next_item (shown q.stored.levels) q.coming) q.reader.half in taken_in-coming m.takes m q h
  moved-coming false q h = h

  -- an event that is emitted, in the mode that the move leads to
  abbrev IsEmittedIn : Mode → Emitted Resume → Type 0
  IsEmittedIn m (tells.Event e) = IsHeard set e m
  IsEmittedIn m (tells.Resume k) = AreAmong set k.line

  abbrev IsEmitted : Move Resume → Type 0
  IsEmitted m = IsEmittedIn m.situation.reader.half.reading.mode m.emitted

  -- what a look tells
  shown-emitted : (x : Shown Resume) (e : Event) (m : Mode) → IsHeard set e m → IsResume set x → IsEmittedIn m (emitted_of x e)
  shown-emitted shows.Nothing e m h is = h
  shown-emitted shows.End e m h is = h
  shown-emitted (shows.Item x) e m h is = h
  shown-emitted (shows.Resume k) e m h is = is

  looked-emitted : (c : Bool) (m : TakenIn) (q : Situation Resume) → IsHeard set m.event m.half.reading.mode → IsResume set (shown q.stored.levels) → IsEmitted (if c then taken_at m q else stays_at m q)
  looked-emitted true m q h is = shown-emitted (shown q.stored.levels) m.event m.half.reading.mode h is
  looked-emitted false m q h is = h

  sought-emitted : (c : Calls) (m : Mode) → IsHeard set (sought_event c) m
  sought-emitted calls.Title m = tt
  sought-emitted c m = tt

  acted-emitted : (d : PendingAct) (v : Stored Resume) (r : Reader) (m : Mode) → IsHeard set (act_pending d v r).event m
  acted-emitted pending_acts.Begin v r m = tt
  acted-emitted (pending_acts.Register signs.None) v r m = tt
  acted-emitted (pending_acts.Register signs.Plus) v r m = tt
  acted-emitted (pending_acts.Register signs.Minus) v r m = tt
  acted-emitted pending_acts.Seek v r m = sought-emitted (calls_of (meaning_in v r)) m
  acted-emitted (pending_acts.Lead n) v r m = tt
  acted-emitted d v r m = tt

  moved-emitted : (c : Bool) (q : Situation Resume) → AreAmong set q.coming.supply.bytes → AreStored set q.stored → IsHalf set q.reader.half → IsEmitted (if c then look q else acted_at q)
  moved-emitted true q coming h half =
      let f = next_item (shown q.stored.levels) q.coming in
      let m = take_in f q.reader.half in
      looked-emitted m.takes m q (take_in-emitted set f q.reader.half half (next_item-printed set q.stored.levels q.coming coming h.levels)).heard (resume-among set q.stored.levels h.levels)
  moved-emitted false q coming h half = acted-emitted q.reader.half.reading.pending_act q.stored q.reader (act_pending q.reader.half.reading.pending_act q.stored q.reader).reader.half.reading.mode

  taken_in-half : (c : Bool) (m : TakenIn) (q : Situation Resume) → IsHalf set m.half → IsHalf set (if c then taken_at m q else stays_at m q).situation.reader.half
  taken_in-half true m q h = h
  taken_in-half false m q h = h

  next-half : (d : PendingAct) (h : Half) → IsPending set d → IsHalf set h → IsHalf set (next d h)
  next-half d h pending_act is = record { pending_act = pending_act; held = is.held; few = is.few; ending = is.ending; ends = is.ends; line = is.line; texts = is.texts }

  test-pending_act : (c : Bool) (x y : PendingAct) → IsPending set x → IsPending set y → IsPending set (if c then x else y)
  test-pending_act true x y first second = first
  test-pending_act false x y first second = second

  held-pending_act : (held n : ℕ) (b : Option ℕ) → held ≤ 33 → IfAmong set b → IsPending set (after_held held n b)
  held-pending_act held n (Some b) few among = test-pending_act (nat_lt (n + 1) held) (pending_acts.Release held (n + 1) (Some b)) (pending_acts.Add b) (few, among) among
  held-pending_act held n None few among = test-pending_act (nat_lt (n + 1) held) (pending_acts.Release held (n + 1) None) pending_acts.Look (few, tt) tt

  else-held : (answer : Option Bool) → IsHeld set (else_mode answer)
  else-held None = tt
  else-held (Some answer) = part-held set (not answer)

  sought-half : (c : Calls) (h : Half) → IsHalf set h → IsHalf set (sought c h)
  sought-half calls.Else h is = record { pending_act = is.pending_act; held = else-held (slice_get h.notes.answers 0); few = is.few; ending = is.ending; ends = is.ends; line = is.line; texts = is.texts }
  sought-half c h is = record { pending_act = is.pending_act; held = tt; few = is.few; ending = is.ending; ends = is.ends; line = is.line; texts = is.texts }

  spliced-half : (c : Bool) (v : Stored Resume) (r : Reader) → IsHalf set r.half → IsHalf set (splicing c v r).reader.half
  spliced-half true v r h = next-half pending_acts.Look r.half tt h
  spliced-half false v r h = next-half pending_acts.Look r.half tt h

  acted-half : (d : PendingAct) (v : Stored Resume) (r : Reader) → r.half.reading.pending_act ≡ d → IsHalf set r.half → IsHalf set (act_pending d v r).reader.half
  acted-half pending_acts.Look v r is h = h
  acted-half pending_acts.Begin v r is h = next-half pending_acts.Look r.half tt h
  acted-half (pending_acts.Add b) v r is h = next-half pending_acts.Look r.half tt h
  acted-half (pending_acts.Release held n b) v r is h =
      let pending_act : IsPending set (pending_acts.Release held n b) = subst (IsPending set) is h.pending_act in
      next-half (after_held held n b) r.half (held-pending_act held n b pending_act.0 pending_act.1) h
  acted-half pending_acts.Define v r is h = next-half pending_acts.Look r.half tt h
  acted-half pending_acts.DefineAndCall v r is h =
      next-half (if is_empty r.half.notes.defining.ending then pending_acts.Look else pending_acts.CallEnding) r.half (test-pending_act (is_empty r.half.notes.defining.ending) pending_acts.Look pending_acts.CallEnding tt tt) h
  acted-half pending_acts.CallEnding v r is h =
      let name = r.half.notes.defining.ending in
      spliced-half (has_text name v) (entered name (words (find name v.names)) None v) r h
  acted-half pending_acts.Splice v r is h =
      let name = r.half.notes.asked in
      spliced-half (has_text name v) (entered name (words (find name v.names)) None v) r h
  acted-half (pending_acts.Register signs.None) v r is h = next-half pending_acts.Look r.half tt h
  acted-half (pending_acts.Register signs.Plus) v r is h = next-half (pending_acts.Register signs.None) r.half tt h
  acted-half (pending_acts.Register signs.Minus) v r is h = next-half (pending_acts.Register signs.None) r.half tt h
  acted-half (pending_acts.Argument n) v r is h = next-half pending_acts.Look r.half tt h
  acted-half (pending_acts.Put b) v r is h = next-half pending_acts.Look r.half tt h
  acted-half pending_acts.EndArgument v r is h = next-half pending_acts.Look r.half tt h
  acted-half pending_acts.Call v r is h = spliced-half (has_text (name_in r) v) (called (name_in r) (words (find (name_in r) v.names)) v) r h
  acted-half pending_acts.Seek v r is h = sought-half (calls_of (meaning_in v r)) (next pending_acts.Look r.half) (next-half pending_acts.Look r.half tt h)
  acted-half (pending_acts.Judge b) v r is h = record { pending_act = tt; held = part-held set (answer_of b r.half.notes); few = h.few; ending = h.ending; ends = h.ends; line = h.line; texts = h.texts }
  acted-half (pending_acts.Lead n) v r is h = next-half (if nat_le n 1 then pending_acts.Look else pending_acts.Lead (n - 1)) r.half (test-pending_act (nat_le n 1) pending_acts.Look (pending_acts.Lead (n - 1)) tt tt) h
  acted-half pending_acts.Expanded v r is h = absurd (subst (IsPending set) is h.pending_act)

  moved-half : (c : Bool) (q : Situation Resume) → AreAmong set q.coming.supply.bytes → AreStored set q.stored → IsHalf set q.reader.half → IsHalf set (if c then look q else acted_at q).situation.reader.half
  moved-half true q coming h half =
      let f = next_item (shown q.stored.levels) q.coming in
      let m = take_in f q.reader.half in
      taken_in-half m.takes m q (take_in-emitted set f q.reader.half half (next_item-printed set q.stored.levels q.coming coming h.levels)).half
  moved-half false q coming h half = acted-half q.reader.half.reading.pending_act q.stored q.reader refl half

  record IsClear (f : Formatter) : Type 0 where
    kept : IsKept set f
    awaited : IsAwaited f.springs f.event f.reader.half.reading.mode

  standing-held : (s : Standing) → IsHeld set (mode_of s)
  standing-held standings.Start = tt
  standing-held standings.Leading = tt
  standing-held standings.Text = tt
  standing-held standings.Continued = tt

  emitted-clear : (t : Emitted Resume) (f : Formatter) → IsKept set f → f.springs ≡ None → IsEmittedIn f.reader.half.reading.mode t → IsClear (emitted t f)
  emitted-clear (tells.Event e) f h calm is =
      record { kept = record { stored = h.stored; lined = h.lined; tab = h.tab; leader = h.leader; half = h.half }; awaited = awaits f.springs e f.reader.half.reading.mode calm is }
  emitted-clear (tells.Resume k) f h calm is =
      record { kept = record { stored = h.stored; lined = h.lined; tab = h.tab; leader = h.leader; half = record { pending_act = h.half.pending_act; held = standing-held k.standing; few = h.half.few; ending = h.half.ending; ends = h.half.ends; line = All-take (IsAmong set) 256 k.line is; texts = h.half.texts } }; awaited = quiet f.springs events.Nothing (mode_of k.standing) refl }

  with-formatter : (s t : State) → IsClean s → t.row ≡ s.row → t.lines ≡ s.lines → t.pages ≡ s.pages → AreAmong set t.coming.supply.bytes → IsClear t.formatter → AreClear t
  with-formatter s t clean row lines pages coming h =
      record {
        clean = record { row = subst (ArePrinted set) (sym row) clean.row; lines = subst ArePlaced (sym lines) clean.lines; pages = subst AreClosed (sym pages) clean.pages; coming = coming };
        kept = h.kept;
        awaited = h.awaited;
      }

  reads : (s : State) → IsClean s → IsKept set s.formatter → s.formatter.springs ≡ None → AreClear (read s)
  reads s clean h calm =
      let q = situation_of s in
      let m = input_move q in
      let stored : AreStored set m.situation.stored = moved-stored (looks q) q h.stored h.half in
      with-formatter s (read s) clean refl refl refl (moved-coming (looks q) q clean.coming)
      (emitted-clear m.emitted (record s.formatter { store = m.situation.stored; reader = m.situation.reader })
      (record { stored = stored; lined = h.lined; tab = h.tab; leader = h.leader; half = moved-half (looks q) q clean.coming h.stored h.half }) calm (moved-emitted (looks q) q clean.coming h.stored h.half))

  -- ---- a move

  celled : (margin : ℕ) (x : Cell) (row : List Cell) → IsPrinted set x → ArePrinted set row → ArePrinted set (with_cell margin x row)
  celled margin x row is h =
      let one : ArePrinted set (x ∷ []) = All-cons (IsPrinted set) x [] is (All-nil (IsPrinted set)) in
      either (ArePrinted set) (is_nil row) (replicate margin blank ++ x ∷ []) (row ++ x ∷ []) (join set (replicate margin blank) (x ∷ []) (blanks set margin) one) (join set row (x ∷ []) h one)

  cell-goes : (o : Outlet) (x : Cell) (s : State) → IsPrinted set x → IsClean s → IsKept set s.formatter → s.formatter.springs ≡ None → AreClear (cell_to o x s)
  cell-goes outlets.Diversion x s is clean h calm =
      let there = cell-diverted set (margin_in (indent s.formatter) s.row) x s.formatter is h in
      record {
        clean = record { row = celled (indent s.formatter) x s.row is clean.row; lines = clean.lines; pages = clean.pages; coming = clean.coming };
        kept = record { stored = there.stored; lined = there.lined; tab = there.tab; leader = there.leader; half = there.half };
        awaited = awaits s.formatter.springs events.Nothing s.formatter.reader.half.reading.mode calm tt;
      }
  cell-goes o x s is clean h calm =
      record {
        clean = record { row = celled (offset s.formatter + indent s.formatter) x s.row is clean.row; lines = clean.lines; pages = clean.pages; coming = clean.coming };
        kept = record { stored = h.stored; lined = h.lined; tab = h.tab; leader = h.leader; half = h.half };
        awaited = awaits s.formatter.springs events.Nothing s.formatter.reader.half.reading.mode calm tt;
      }

  works : (t : Task) (s : State) → s.formatter.springs ≡ None → Rests s → AreClear (work t s)
  works tasks.Read s calm h = reads s h.clean h.resting.kept calm
  works (tasks.Flow after breaks) s calm h =
      of-rest _ (goes-or (lines.flow_line after breaks s.formatter) (lines.flow_done after) s h (plain-rests s _ h.clean (record { kept = h.resting.kept; idle = h.resting.idle })))
  works (tasks.Break t) s calm h = of-rest _ (broken t s h)
  works (tasks.Act r) s calm h = of-rest _ (acts r s h)
  works (tasks.Room r) s calm h = of-rest _ (room-made (outlet s.formatter) r s h)
  works tasks.Title s calm h = of-rest _ (title-goes (outlet s.formatter) s h)
  works (tasks.Line n) s calm h = of-rest _ (row-goes (outlet s.formatter) n s h)
  works (tasks.Space n) s calm h = of-rest _ (space-put n s h)
  works (tasks.Begin given) s calm h = of-rest _ (begun s h)
  works (tasks.Eject e) s calm h = of-rest _ (ejects e s h)
  works tasks.Halted s calm h = of-rest _ h
  works t s calm h = of-rest _ (plain-rests s _ h.clean (worked-resting set t s.formatter h.resting))

  plainly-heard : (e : Event) (s : State) → s.formatter.event ≡ e → IsClean s → Hearing set s.formatter → AreClear (plainly (moves.heard e) s)
  plainly-heard e s event clean h = of-hearing s (moves.heard e s.formatter) clean (heard-hearing set e s.formatter event h)

  hears : (e : Event) (s : State) → s.formatter.event ≡ e → IsClean s → Hearing set s.formatter → AreClear (hear e s)
  hears events.Nothing s event clean h = works s.formatter.task s h.calm (record { clean = clean; resting = record { kept = h.kept; idle = event } })
  hears (events.DivertedCell x) s event clean h =
      cell-goes (outlet s.formatter) x s (subst (λ e. IsHeard set e s.formatter.reader.half.reading.mode) event h.heard) clean h.kept h.calm
  hears e s event clean h = plainly-heard e s event clean h

  springs : (n : Option (List ℕ)) (s : State) → s.formatter.springs ≡ n → AreClear s → AreClear (spring_or n s)
  springs None s is h =
      let heard : IsHeard set s.formatter.event s.formatter.reader.half.reading.mode =
      subst (λ n. IsAwaited n s.formatter.event s.formatter.reader.half.reading.mode) is h.awaited in
      hears s.formatter.event s refl h.clean (record { kept = h.kept; heard = heard; calm = is })
  springs (Some name) s is h =
      let idle : s.formatter.event ≡ events.Nothing = subst (λ n. IsAwaited n s.formatter.event s.formatter.reader.half.reading.mode) is h.awaited in
      of-rest _ (plain-rests s _ h.clean (sprung-resting set name s.formatter (record { kept = h.kept; idle = idle })))

  -- ---- what of the options takes effect

  clear-if : (c : Bool) (f g : Formatter) → IsClear f → IsClear g → IsClear (if c then f else g)
  clear-if true f g first second = first
  clear-if false f g first second = second

  given-clear : (r : BuiltInRegister) (n : ℤ) (f : Formatter) → IsClear f → IsClear (registers.given_set r n f)
  given-clear given.Page n f h = record { kept = h.kept; awaited = h.awaited }
  given-clear given.Height n f h = record { kept = h.kept; awaited = h.awaited }
  given-clear given.Width n f h = record { kept = h.kept; awaited = h.awaited }
  given-clear r n f h = h

  written-clear : (r : Option Numbered) (name : List ℕ) (f : Formatter) → IsClear f → IsClear (record f { store = written r name f.store })
  written-clear None name f h = record { kept = h.kept; awaited = h.awaited }
  written-clear (Some r) name f h = record { kept = h.kept; awaited = h.awaited }

  set-clear : (r : Option BuiltInRegister) (name : List ℕ) (n : ℤ) (f : Formatter) → IsClear f → IsClear (registers.register_set_by r name n None f)
  set-clear None name n f h = written-clear (set_to n None (register_of (find name f.store.registers))) name f h
  set-clear (Some r) name n f h = clear-if (is_held n) (registers.given_set r n f) f (given-clear r n f h) h

  chosen : (c : Choice) (f : Formatter) → IsClear f → IsClear (choose c f)
  chosen (First n) f h = clear-if (is_held n) (record f { paper = record f.paper { number = n } }) f (record { kept = h.kept; awaited = h.awaited }) h
  chosen (Register name n) f h = set-clear (given_named (name ∷ [])) (name ∷ []) n f h

  chooses : (cs : List Choice) (s : State) → AreClear s → AreClear (choose_or cs s)
  chooses [] s h = springs s.formatter.springs s refl h
  chooses (c ∷ cs) s h =
      with-formatter s (choose_or (c ∷ cs) s) h.clean refl refl refl h.clean.coming (chosen c s.formatter (record { kept = h.kept; awaited = h.awaited }))

  stepped : (s : State) → AreClear s → AreClear (step s)
  unfolding step
  stepped s h = chooses s.chosen s h

  pub clear-after : (n : ℕ) (s : State) → AreClear s → AreClear (state_after n s)
  clear-after zero s h = h
  clear-after (suc n) s h = stepped (state_after n s) (clear-after n s h)

  pub starts-clear : (b : Bounds) (options : Options) (supply : Supply) → AreAmong set supply.bytes → AreClear (start b options supply)
  starts-clear b options supply among =
      record {
        clean = record { row = All-nil (IsPrinted set); lines = All-nil IsPlaced; pages = All-nil IsClosed; coming = among };
        kept = record {
          stored = record { names = request_names-stored set; building = no_building set; levels = no_levels set; once = once-none request_names; arguments = no_words set; gathered = none-gathered set };
          lined = record { pieces = All-nil (IsSet set); word = tt; title = tt };
          tab = tt;
          leader = refl;
          half = record { pending_act = tt; held = tt; few = omega arith; ending = omega arith; ends = All-nil (IsAmong set); line = All-nil (IsAmong set); texts = none-texts set };
        };
        awaited = tt;
      }

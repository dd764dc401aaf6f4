-- Each move that is made is paid.
use Prim.Native.Char.{code}
use Rattle.std.specs.Prelude.{nat_lt, is_some, is_none, not, decimal, unsigned_abs, ◌==◌, ◌&&◌}
use Rattle.std.proofs.lemmas.Bool.{ltb-false}
use Rattle.std.proofs.Common.{◌≡◌, ◌≢◌, ℕ, ◌+◌, ◌*◌, ◌<◌, ◌≤◌, Bool, true, false, if◌then◌else◌, List, [], ◌∷◌, length, Option, None, Some, Ok, ℤ, refl, ap, sym, ◌∙◌, arith}
use Rattle.nr_vectors.specs.declared.cell.Cell.{Cell}
use Rattle.nr_fill.specs.Piece.{Piece, is_nil, line_cells}
use Rattle.nr_page.specs.Grid.{page_charge}
use Rattle.nr_symbol_tables.specs.Table.{find, Named}
use Rattle.nr_symbol_tables.specs.declared.trap.Trap.{Trap}
use Rattle.nr_store.specs.Store.{charge_of, words, entered, reading_bytes, is_held, set_to, register_of, written}
use Rattle.nr_store.specs.declared.element.Diversion.{Diversion}
use Rattle.nr_store.specs.declared.element.Element.{Element}
use Rattle.nr_store.specs.declared.register.Register.{Register as Numbered}
use Rattle.nr_store.specs.declared.request.Request.{Request}
use Rattle.nr_store.specs.declared.request.Request.TheVariants as requests
use Rattle.nr_settings.specs.Widths.{width_of}
use Rattle.nr_reading.specs.declared.event.Event.{Event}
use Rattle.nr_reading.specs.declared.event.Event.TheVariants as events
use Rattle.nr_input.specs.Acting.{expanded}
use Rattle.nr_input.specs.Place.{Coming, Reached, emptied}
use Rattle.nr_input.specs.Refusal.{called_by, splicing_answer}
use Rattle.nr_input.specs.Splicing.{sprung_reader, springing_text}
use Rattle.nr_input.specs.Weights.{Splices}
use Rattle.nr_input.proofs.Costs.{bytes_splice, springing_springs}
use Rattle.nr_formatter.specs.declared.formatter.Formatter.{Formatter}
use Rattle.nr_formatter.specs.declared.built_in.BuiltInRegister.{BuiltInRegister}
use Rattle.nr_formatter.specs.declared.built_in.BuiltInRegister.TheVariants as given
use Rattle.nr_formatter.specs.declared.lines.Going.{Going}
use Rattle.nr_formatter.specs.declared.paper.Outlet.{Outlet}
use Rattle.nr_formatter.specs.declared.paper.Outlet.TheVariants as outlets
use Rattle.nr_formatter.specs.declared.paper.PageState.{PageState}
use Rattle.nr_formatter.specs.declared.paper.PageState.TheVariants as states
use Rattle.nr_formatter.specs.declared.tasks.Ejected.{Ejected}
use Rattle.nr_formatter.specs.declared.tasks.Ejected.TheVariants as ejecteds
use Rattle.nr_formatter.specs.declared.tasks.Room.{Room}
use Rattle.nr_formatter.specs.declared.tasks.Task.{Task}
use Rattle.nr_formatter.specs.declared.tasks.Task.TheVariants as tasks
use Rattle.nr_formatter.specs.declared.tasks.Then.{Then}
use Rattle.nr_formatter.specs.Access.{asked, collected, diversion, done, long, spacing, argument}
use Rattle.nr_formatter.specs.Diversions.{with_diverted_cell}
use Rattle.nr_formatter.specs.BuiltIn.{given_named}
use Rattle.nr_formatter.specs.Lines.{after_line, break_done, break_line, break_word_end, flow_done, flow_line}
use Rattle.nr_formatter.specs.Moves as moves
use Rattle.nr_formatter.specs.Pages.{begins_first_page, begins_page, is_ejecting, is_unbegun, line_placed, next_springing, task_ejected}
use Rattle.nr_formatter.specs.Places.{is_diverting, is_open, outlet, outlet_of, page_outlet, to_read}
use Rattle.nr_formatter.specs.Registers as registers
use Rattle.nr_formatter.specs.Spacing.{is_spaceless}
use Rattle.nr_formatter.specs.Springing.{ejected_to, interrupted, sprung, sprung_text}
use Rattle.nr_formatter.specs.Text as texts
use Rattle.nr_formatter.specs.Titles as titles
use Rattle.nr_formatter.specs.Titles.{title_set}
use Rattle.nr_formatter.specs.Weights.{Falls, weight, steps_left, owed, owed_by_task, weight_of_agenda, weight_of_task}
use Rattle.nr_formatter.proofs.DivertedFalls.{falls-divert_line, falls-divert_title, falls-diverted_space, falls-diverted_end, falls-diverted_cell}
use Rattle.nr_formatter.proofs.Falling.{falls-kept, falls-less, falls-then}
use Rattle.nr_formatter.proofs.HearingFalls.{falls-heard, falls-control, falls-given, falls-text as falls-spliced}
use Rattle.nr_formatter.proofs.InputFalls.{falls-sprung, falls-unsprung, falls-ejected_to, falls-read_in}
use Rattle.nr_formatter.proofs.LineFalls.{falls-break_word_end, falls-after_line, falls-title_set, falls-flow_done, falls-break_done}
use Rattle.nr_formatter.proofs.PageFalls.{falls-line_placed, falls-spaced, falls-spaceless, falls-opened, falls-begun, falls-full_ended, falls-ejected}
use Rattle.nr_formatter.proofs.RequestFalls.{falls-if, falls-ex, falls-act}
use Rattle.nr_formatter.proofs.TaskFalls.{falls-task, falls-gone_on}
use Rattle.nr_formatter.proofs.TextFalls.{falls-text, falls-title, falls-title_dash_end, falls-dash_end}
use Rattle.nr_formatter.proofs.WorkFalls.{falls-afterwards}
use Rattle.nr_machine.specs.State.{State, Choice, First, Register, plainly}
use Rattle.nr_machine.specs.Machine as machine
use Rattle.nr_machine.specs.Machine.{step}
use Rattle.nr_machine.specs.Measures.{passed}
use Rattle.nr_machine.specs.Run.{kind_of_task, kind_of_event, kind_of_springs, kind_of, GoesBy, Goes}
use Rattle.nr_machine.specs.declared.outcome.Measure.TheVariants as measures
use Rattle.nr_laws.proofs.PageLengths.{HasHeight}
use Rattle.nr_laws.proofs.ReadsPaid.{Paid, reached, worth, read-paid}
use Rattle.nr_laws.proofs.SplicesAllowed.{splicing-allowed}
use Rattle.nr_laws.proofs.TrapTexts.{springing_named}

-- ---- a move that takes no byte

-- less may still come
record Lightens (s t : State) : Type 0 where
  chosen : t.chosen ≡ s.chosen
  coming : t.coming ≡ s.coming
  falls : Falls 1 0 s.formatter t.formatter

lightens : (s t : State) → t.chosen ≡ s.chosen → t.coming ≡ s.coming → Falls 1 0 s.formatter t.formatter → Lightens s t
lightens s t chosen coming falls = record { chosen = chosen; coming = coming; falls = falls }

light-paid : (s t : State) → Lightens s t → Paid s t
light-paid s t h = record {
  limit = h.falls.limit;
  most = h.falls.most;
  pays =
      let less = h.falls.falls (reached s.coming) in
      let place : weight (reached t.coming) t.formatter ≡ weight (reached s.coming) t.formatter = ap (λ (c : Coming). weight (reached c) t.formatter) h.coming in
      let bytes : worth s * t.coming.taken ≡ worth s * s.coming.taken = ap (λ (c : Coming). worth s * c.taken) h.coming in
      let same : length t.chosen ≡ length s.chosen = ap (λ (cs : List Choice). length cs) h.chosen in
      omega (arith, less, place, bytes, same);
  fresh = λ other. absurd (other (ap (λ (c : Coming). c.taken) h.coming));
}

-- nothing is to come of the source any more
exit-paid : (s : State) (f : Formatter) → Falls 1 0 s.formatter f → Paid s (record s { coming = emptied s.coming; formatter = f })
unfolding weight
exit-paid s f falls = record {
  limit = falls.limit;
  most = falls.most;
  pays = let less = falls.falls (reached (emptied s.coming)) in omega (arith, less);
  fresh = λ other. absurd (other refl);
}

-- ---- what is within its limits where a move is made

record Fits (f : Formatter) : Type 0 where
  stored : charge_of f.store ≤ f.store.limit
  depth : length f.store.levels ≤ f.store.deepest
  burst : f.reader.burst ≤ f.reader.most

fits_by : (a b c p d : Bool) (f : Formatter) → (a ≡ false → charge_of f.store ≤ f.store.limit) → (b ≡ false → length f.store.levels ≤ f.store.deepest) → (d ≡ false → f.reader.burst ≤ f.reader.most)
    → (if a then Some measures.Stored else (if b then Some measures.Depth else (if c then Some measures.LineCells else (if p then Some measures.PageCells else (if d then Some measures.Expansions else None))))) ≡ None
    → Fits f
fits_by true b c p d f x y z none = let wrong : ⊥ = cc in absurd wrong
fits_by false true c p d f x y z none = let wrong : ⊥ = cc in absurd wrong
fits_by false false true p d f x y z none = let wrong : ⊥ = cc in absurd wrong
fits_by false false false true d f x y z none = let wrong : ⊥ = cc in absurd wrong
fits_by false false false false true f x y z none = let wrong : ⊥ = cc in absurd wrong
fits_by false false false false false f x y z none = record { stored = x refl; depth = y refl; burst = z refl }

fits : (s : State) → passed s ≡ None → Fits s.formatter
fits s none =
    let f = s.formatter in
    fits_by (nat_lt f.store.limit (charge_of f.store)) (nat_lt f.store.deepest (length f.store.levels)) (nat_lt f.line.limit (line_cells (collected f))) (nat_lt s.page_limit (page_charge s.lines))
    (nat_lt f.reader.most f.reader.burst) f (ltb-false f.store.limit (charge_of f.store)) (ltb-false f.store.deepest (length f.store.levels)) (ltb-false f.reader.most f.reader.burst) none

-- ---- texts that are spliced and sprung

spliced-pays : (bytes : List ℕ) (f : Formatter) → let g = registers.spliced bytes f in Fits g → Splices f.store f.reader g.store g.reader
spliced-pays bytes f fit =
    let v = f.store in
    let r = f.reader in
    let w = reading_bytes bytes v in
    let burst = fit.burst in
    let allowed : splicing_answer true w r ≡ Ok tt = splicing-allowed w r fit.stored fit.depth (omega (arith, burst)) in
    bytes_splice bytes v w r (expanded r) (ap (λ x. called_by x w (expanded r) tt v r) (sym allowed))

sprung-falls : (name : List ℕ) (text : Option (List Element)) (f : Formatter) → words (find name f.store.names) ≡ text → is_some text ≡ true → Fits (sprung_text name text f)
    → Falls 4 0 f (sprung_text name text f)
sprung-falls name None f is some fit = let wrong : ⊥ = cc in absurd wrong
sprung-falls name (Some text) f is some fit =
    let v = f.store in
    let r = f.reader in
    let mode = interrupted f in
    let w = entered name (Some text) (Some mode) v in
    let burst = fit.burst in
    let allowed : splicing_answer true w r ≡ Ok tt = splicing-allowed w r fit.stored fit.depth (omega (arith, burst)) in
    let called = ap (λ x. called_by x w (sprung_reader true r) true v r) (sym allowed) in
    let named = ap (λ (t : Option (List Element)). springing_text (is_some t) (entered name t (Some mode) v) v r) (sym is) in
    let pays = springing_springs name mode v w r (sprung_reader true r) (Ok true) (called ∙ named) in
    falls-sprung name f (sprung_text name (Some text) f) (ap (λ (t : Option (List Element)). sprung_text name t f) (sym is)) pays

spring-falls : (name : List ℕ) (text : Option (List Element)) (f : Formatter) → words (find name f.store.names) ≡ text → f.springs ≡ Some name → Fits (sprung_text name text f)
    → Falls 1 0 f (sprung_text name text f)
spring-falls name None f is springs fit = falls-unsprung name f springs
spring-falls name (Some text) f is springs fit =
    falls-less 4 0 1 0 f (sprung_text name (Some text) f) (sprung-falls name (Some text) f is refl fit) (omega arith)

-- ---- what was read is acted on

given-falls : (r : Option BuiltInRegister) (f : Formatter) → f.event ≡ events.Given → Fits (registers.given_by r f) → Falls 1 0 f (done (registers.given_by r f))
given-falls None f event fit = falls-heard events.Given f.task f event (omega arith) (omega arith)
given-falls (Some r) f event fit = falls-given r f (registers.given_by (Some r) f) refl (spliced-pays (registers.given_text r f) f fit)

beside-falls : (e : Event) (f : Formatter) → f.event ≡ e → e ≢ events.Nothing → Fits (moves.heard_beside e f) → Falls 1 0 f (moves.heard_beside e f)
beside-falls events.Given f event some fit = given-falls (given_named (asked f)) f event (record { stored = fit.stored; depth = fit.depth; burst = fit.burst })
beside-falls events.Width f event some fit =
    let bytes = decimal (width_of (long f) (spacing f) (argument f)) in
    falls-spliced bytes f (registers.spliced bytes f) refl (spliced-pays bytes f (record { stored = fit.stored; depth = fit.depth; burst = fit.burst }))
beside-falls e f event some fit = falls-control e f event some

heard_by : (t : Bool) (e : Event) (f : Formatter) → moves.is_text e ≡ t → f.event ≡ e → e ≢ events.Nothing → Fits (if t then moves.text_heard e f else moves.heard_beside e f)
    → Falls 1 0 f (if t then moves.text_heard e f else moves.heard_beside e f)
heard_by true e f is event some fit = falls-if (titles.reads_title f) f (titles.title e f) (texts.text e f) (falls-title e f event is) (falls-text e f event is)
heard_by false e f is event some fit = beside-falls e f event some fit

heard-falls : (e : Event) (f : Formatter) → f.event ≡ e → e ≢ events.Nothing → Fits (moves.heard e f) → Falls 1 0 f (moves.heard e f)
heard-falls e f event some fit = heard_by (moves.is_text e) e f refl event some fit

-- ---- pages

-- a page is open, or full, or none is
outlet_is : (d : Option Diversion) (f : Formatter) (o : Outlet) → outlet_of d f ≡ o → o ≢ outlets.Diversion → page_outlet f.paper.state f.paper.place f.settings.pages.page_length ≡ o
outlet_is None f o is page = is
outlet_is (Some d) f o is page = absurd (page (sym is))

no_room : (b : Bool) → (if b then outlets.Room else outlets.Full) ≡ outlets.NoPage → ⊥
no_room true is = cc
no_room false is = cc

none_open : (p : PageState) (place height : ℕ) → page_outlet p place height ≡ outlets.NoPage → is_open p ≡ false
none_open states.Unbegun place height is = refl
none_open states.Open place height is = absurd (no_room (nat_lt place height) is)
none_open states.Closed place height is = refl

full_ends : (s : State) → outlet s.formatter ≡ outlets.Full → Lightens s (machine.end_page s)
full_ends s is =
    lightens s (machine.end_page s) refl refl
    (falls-full_ended s.formatter (outlet_is (diversion s.formatter) s.formatter outlets.Full is (λ e. let wrong : ⊥ = cc in wrong)))

page_begins : (s : State) → HasHeight s.formatter → is_open s.formatter.paper.state ≡ false → Lightens s (machine.begin_page s)
page_begins s height closed = lightens s (machine.begin_page s) refl refl (falls-opened s.formatter height closed)

none_begins : (s : State) → HasHeight s.formatter → outlet s.formatter ≡ outlets.NoPage → Lightens s (machine.begin_page s)
none_begins s height is =
    let f = s.formatter in
    page_begins s height (none_open f.paper.state f.paper.place f.settings.pages.page_length (outlet_is (diversion f) f outlets.NoPage is (λ e. let wrong : ⊥ = cc in wrong)))

-- a row goes on the page
placed-falls : (height : ℕ) (f g : Formatter) → Falls 5 0 f g → Falls 1 0 f (line_placed height g)
placed-falls height f g falls = falls-less 5 4 1 0 f (line_placed height g) (falls-then 5 0 0 4 f g (line_placed height g) falls (falls-line_placed height g)) (omega arith)

-- ---- lines

some_pieces : (ps : List Piece) (x : Option Going) (g : Going) → (if is_nil ps then None else x) ≡ Some g → 0 < length ps
some_pieces [] x g is = let wrong : ⊥ = cc in absurd wrong
some_pieces (p ∷ ps) x g is = omega arith

line_goes : (o : Outlet) (g : Going) (s : State) → outlet s.formatter ≡ o → HasHeight s.formatter → 0 < length (collected s.formatter).pieces → Lightens s (machine.put_line_to o g s)
line_goes outlets.Diversion g s is height some = lightens s _ refl refl (falls-divert_line g s.formatter some)
line_goes outlets.Room g s is height some =
    lightens s _ refl refl (placed-falls (spacing s.formatter) s.formatter (after_line g s.formatter) (falls-after_line g s.formatter some))
line_goes outlets.Full g s is height some = full_ends s is
line_goes outlets.NoPage g s is height some = none_begins s height is

put_goes : (g : Option Going) (after : Formatter → Formatter) (s : State) → HasHeight s.formatter → ((going : Going) → g ≡ Some going → 0 < length (collected s.formatter).pieces)
    → Falls 1 0 s.formatter (after s.formatter) → Lightens s (machine.put_or g after s)
put_goes None after s height some falls = lightens s _ refl refl falls
put_goes (Some g) after s height some falls = line_goes (outlet s.formatter) g s refl height (some g refl)

-- what `\c` continues ends, which weighs nothing
continued-falls : (t : Then) (f : Formatter) → f.task ≡ tasks.Break t → Falls 0 0 f (machine.continues_none f)
unfolding steps_left owed
continued-falls t f task =
    let g = machine.continues_none f in
    let before : owed_by_task f.task f.reader.half ≡ owed_by_task (tasks.Break t) f.reader.half = rw task refl in
    let afterwards : owed_by_task f.task g.reader.half ≡ owed_by_task (tasks.Break t) g.reader.half = rw task refl in
    falls-kept 0 0 f g (record { levels = refl; limit = refl; burst = refl; most = refl }) (omega (arith, before, afterwards)) (omega arith)

-- one of two
light_if : (c : Bool) (s t u : State) → (c ≡ true → Lightens s t) → (c ≡ false → Lightens s u) → Lightens s (if c then t else u)
light_if true s t u first second = first refl
light_if false s t u first second = second refl

first_unbegun : (p : PageState) (rest : Bool) → (is_unbegun p && rest) ≡ true → is_open p ≡ false
first_unbegun states.Unbegun rest is = refl
first_unbegun states.Open rest is = let wrong : ⊥ = cc in absurd wrong
first_unbegun states.Closed rest is = refl

not_none : (b : Bool) → not b ≡ true → b ≡ false
not_none true is = let wrong : ⊥ = cc in absurd wrong
not_none false is = refl

break_goes : (t : Then) (s : State) → HasHeight s.formatter → s.formatter.event ≡ events.Nothing → s.formatter.task ≡ tasks.Break t → Lightens s (machine.break_part t s)
break_goes t s height idle task =
    let f = s.formatter in
    light_if (not (is_none (collected f).word)) s (plainly break_word_end s) _
    (λ some. lightens s (plainly break_word_end s) refl refl (falls-break_word_end f (not_none (is_none (collected f).word) some)))
    (λ none. light_if (begins_first_page t f) s (machine.begin_page s) (machine.put_or (break_line f) (break_done t) s)
    (λ first. page_begins s height (first_unbegun f.paper.state (begins_page t && not (is_diverting (diversion f))) first))
    (λ later. put_goes (break_line f) (break_done t) s height (λ g is. some_pieces (collected f).pieces _ g is) (falls-break_done t f idle task)))

broken_out : (t : Then) (s : State) → HasHeight s.formatter → s.formatter.event ≡ events.Nothing → s.formatter.task ≡ tasks.Break t → Lightens s (machine.break_out t s)
broken_out t s height idle task =
    let u = plainly machine.continues_none s in
    let part = break_goes t u height idle task in
    lightens s (machine.break_out t s) part.chosen part.coming
    (falls-afterwards 1 0 s.formatter u.formatter (machine.break_out t s).formatter (continued-falls t s.formatter task) part.falls)

-- ---- titles, diverted lines and space

room_made : (o : Outlet) (r : Room) (s : State) → outlet s.formatter ≡ o → HasHeight s.formatter → s.formatter.event ≡ events.Nothing → s.formatter.task ≡ tasks.Room r → Lightens s (machine.room_in o r s)
room_made outlets.Diversion r s is height idle task = lightens s _ refl refl (falls-read_in r s.formatter idle task)
room_made outlets.Room r s is height idle task = lightens s _ refl refl (falls-read_in r s.formatter idle task)
room_made outlets.Full r s is height idle task = full_ends s is
room_made outlets.NoPage r s is height idle task = none_begins s height is

title_goes : (o : Outlet) (s : State) → outlet s.formatter ≡ o → HasHeight s.formatter → s.formatter.event ≡ events.Nothing → s.formatter.task ≡ tasks.Title → Lightens s (machine.title_to o s)
title_goes outlets.Diversion s is height idle task = lightens s _ refl refl (falls-divert_title s.formatter idle task)
title_goes outlets.Room s is height idle task =
    lightens s _ refl refl (placed-falls (spacing s.formatter) s.formatter (title_set s.formatter) (falls-title_set s.formatter idle task))
title_goes outlets.Full s is height idle task = full_ends s is
title_goes outlets.NoPage s is height idle task = none_begins s height is

row-falls : (height : ℕ) (f : Formatter) → f.event ≡ events.Nothing → f.task ≡ tasks.Line height → Falls 5 0 f (to_read f)
unfolding steps_left owed
row-falls height f none is =
    let agenda : weight_of_agenda f.event f.task f.step ≡ 9 = rw (none, is) refl in
    let left : weight_of_agenda f.event tasks.Read f.step ≡ 4 = rw none refl in
    falls-kept 5 0 f (to_read f) (record { levels = refl; limit = refl; burst = refl; most = refl }) (omega arith) (omega arith)

row_goes : (o : Outlet) (n : ℕ) (s : State) → outlet s.formatter ≡ o → HasHeight s.formatter → s.formatter.event ≡ events.Nothing → s.formatter.task ≡ tasks.Line n → Lightens s (machine.line_to o n s)
row_goes outlets.Diversion n s is height idle task = lightens s _ refl refl (falls-diverted_end (machine.width s.row) n s.formatter idle task)
row_goes outlets.Room n s is height idle task = lightens s _ refl refl (placed-falls n s.formatter (to_read s.formatter) (row-falls n s.formatter idle task))
row_goes outlets.Full n s is height idle task = full_ends s is
row_goes outlets.NoPage n s is height idle task = none_begins s height is

space_goes : (o : Outlet) (n : ℕ) (s : State) → outlet s.formatter ≡ o → HasHeight s.formatter → s.formatter.event ≡ events.Nothing → s.formatter.task ≡ tasks.Space n → Lightens s (machine.space_to o n s)
space_goes outlets.Diversion n s is height idle task = lightens s _ refl refl (falls-diverted_space n s.formatter idle task)
space_goes outlets.Room n s is height idle task = lightens s _ refl refl (falls-spaced n s.formatter idle task)
space_goes outlets.Full n s is height idle task = full_ends s is
space_goes outlets.NoPage n s is height idle task = none_begins s height is

space_put : (n : ℕ) (s : State) → HasHeight s.formatter → s.formatter.event ≡ events.Nothing → s.formatter.task ≡ tasks.Space n → Lightens s (machine.put_space n s)
space_put n s height idle task =
    light_if (is_spaceless n s.formatter) s (plainly to_read s) (machine.space_to (outlet s.formatter) n s)
    (λ none. lightens s (plainly to_read s) refl refl (falls-spaceless n s.formatter idle task))
    (λ some. space_goes (outlet s.formatter) n s refl height idle task)

cell-falls : (x : Cell) (f : Formatter) → f.event ≡ events.DivertedCell x → Falls 1 0 f (done f)
unfolding steps_left owed
cell-falls x f is =
    let agenda : weight_of_agenda f.event f.task f.step ≡ 19 + weight_of_task f.task f.step = rw is refl in
    falls-kept 1 0 f (done f) (record { levels = refl; limit = refl; burst = refl; most = refl }) (omega arith) (omega arith)

cell_goes : (o : Outlet) (x : Cell) (s : State) → s.formatter.event ≡ events.DivertedCell x → Lightens s (machine.cell_to o x s)
cell_goes outlets.Diversion x s event =
    let f = s.formatter in
    let margin = machine.margin_in (machine.indent f) s.row in
    let g = with_diverted_cell margin x f in
    lightens s _ refl refl (falls-afterwards 1 0 f g (done g) (falls-diverted_cell margin x f) (cell-falls x g event))
cell_goes o x s event = lightens s _ refl refl (cell-falls x s.formatter event)

-- ---- ejecting

unejecting-falls : (e : Ejected) (f : Formatter) → f.event ≡ events.Nothing → f.task ≡ tasks.Eject e → Falls 1 0 f (record f { task = task_ejected e })
unejecting-falls ejecteds.Request f none is =
    let left : weight_of_agenda f.event tasks.Read f.step ≡ 4 = rw none refl in
    falls-task tasks.Read 7 f (rw (none, is) refl) (omega arith) refl
unejecting-falls ejecteds.Finish f none is =
    let left : weight_of_agenda f.event tasks.Halted f.step ≡ 0 = rw none refl in
    falls-task tasks.Halted 7 f (rw (none, is) refl) (omega arith) refl

eject_goes : (e : Ejected) (t : Option Trap) (s : State) → next_springing s.formatter ≡ t → s.formatter.event ≡ events.Nothing → s.formatter.task ≡ tasks.Eject e → passed (machine.eject_to t s) ≡ None
    → Lightens s (machine.eject_to t s)
eject_goes e None s is idle task none = lightens s _ refl refl (falls-ejected e s.formatter idle task)
eject_goes e (Some t) s is idle task none =
    let f = s.formatter in
    let place = unsigned_abs t.place in
    let g = record f { paper = record f.paper { place = place } } in
    lightens s _ refl refl
    (falls-ejected_to place f (ejected_to t f) (sprung-falls t.name (words (find t.name f.store.names)) g refl (springing_named f t is) (fits (plainly (ejected_to t) s) none)))

ejected_by : (c : Bool) (e : Ejected) (s : State) → s.formatter.event ≡ events.Nothing → s.formatter.task ≡ tasks.Eject e
    → passed (if c then machine.eject_to (next_springing s.formatter) s else plainly (λ f. record f { task = task_ejected e }) s) ≡ None
    → Lightens s (if c then machine.eject_to (next_springing s.formatter) s else plainly (λ f. record f { task = task_ejected e }) s)
ejected_by true e s idle task none = eject_goes e (next_springing s.formatter) s refl idle task none
ejected_by false e s idle task none = lightens s _ refl refl (unejecting-falls e s.formatter idle task)

-- ---- all that is under way

acted-paid : (r : Request) (s : State) → s.formatter.event ≡ events.Nothing → s.formatter.task ≡ tasks.Act r → Paid s (machine.act r s)
acted-paid requests.Ex s idle task = exit-paid s _ (falls-ex s.formatter idle task)
acted-paid r s idle task = light-paid s _ (lightens s _ refl refl (falls-act r s.formatter idle task))

module _ (s : State) (height : HasHeight s.formatter) (none_chosen : s.chosen ≡ []) where
  gone_on-paid : (t : Task) → t ≢ tasks.Dash → ((r : Request) → t ≢ tasks.Act r) → moves.works t ≡ true → s.formatter.event ≡ events.Nothing → s.formatter.task ≡ t → Paid s (plainly (moves.gone_on t) s)
  gone_on-paid t dash acts works idle task = light-paid s _ (lightens s (plainly (moves.gone_on t) s) refl refl (falls-gone_on t s.formatter dash acts works idle task))

  work-paid : (t : Task) → s.formatter.event ≡ events.Nothing → s.formatter.task ≡ t → step s ≡ machine.work t s → GoesBy (kind_of_task t) s → Paid s (machine.work t s)
  work-paid tasks.Read idle task is goes = read-paid s none_chosen idle task goes
  work-paid (tasks.Flow after breaks) idle task is goes =
      light-paid s _ (put_goes (flow_line after breaks s.formatter) (flow_done after) s height (λ g some. some_pieces (collected s.formatter).pieces _ g some) (falls-flow_done after breaks s.formatter idle task))
  work-paid (tasks.Break t) idle task is goes = light-paid s _ (broken_out t s height idle task)
  work-paid (tasks.Act r) idle task is goes = acted-paid r s idle task
  work-paid (tasks.Room r) idle task is goes = light-paid s _ (room_made (outlet s.formatter) r s refl height idle task)
  work-paid tasks.Title idle task is goes = light-paid s _ (title_goes (outlet s.formatter) s refl height idle task)
  work-paid (tasks.Line n) idle task is goes = light-paid s _ (row_goes (outlet s.formatter) n s refl height idle task)
  work-paid (tasks.Space n) idle task is goes = light-paid s _ (space_put n s height idle task)
  work-paid (tasks.Begin g) idle task is goes = light-paid s _ (lightens s _ refl refl (falls-begun g s.formatter height idle task))
  work-paid (tasks.Eject e) idle task is goes = light-paid s _ (ejected_by (is_ejecting s.formatter) e s idle task (ap passed (sym is) ∙ goes))
  work-paid tasks.Halted idle task is goes = absurd goes
  work-paid tasks.Dash idle task is goes =
      let f = s.formatter in
      light-paid s _ (lightens s _ refl refl (falls-if (titles.reads_title f) f (titles.title_dash_end f) (texts.dash_end f) (falls-title_dash_end f idle task) (falls-dash_end f idle task)))
  work-paid tasks.Count idle task is goes = gone_on-paid tasks.Count (λ e. let wrong : ⊥ = cc in wrong) (λ r e. let wrong : ⊥ = cc in wrong) refl idle task
  work-paid tasks.InputTrap idle task is goes = gone_on-paid tasks.InputTrap (λ e. let wrong : ⊥ = cc in wrong) (λ r e. let wrong : ⊥ = cc in wrong) refl idle task
  work-paid (tasks.Turn g) idle task is goes = gone_on-paid (tasks.Turn g) (λ e. let wrong : ⊥ = cc in wrong) (λ r e. let wrong : ⊥ = cc in wrong) refl idle task
  work-paid tasks.Finish idle task is goes = gone_on-paid tasks.Finish (λ e. let wrong : ⊥ = cc in wrong) (λ r e. let wrong : ⊥ = cc in wrong) refl idle task

  heard-paid : (e : Event) → e ≢ events.Nothing → s.formatter.event ≡ e → passed (plainly (moves.heard e) s) ≡ None → Paid s (plainly (moves.heard e) s)
  heard-paid e some event none = light-paid s _ (lightens s (plainly (moves.heard e) s) refl refl (heard-falls e s.formatter event some (fits (plainly (moves.heard e) s) none)))

  hear-paid : (e : Event) → s.formatter.event ≡ e → step s ≡ machine.hear e s → GoesBy (kind_of_event e s.formatter.task) s → Paid s (machine.hear e s)
  hear-paid events.Nothing event is goes = work-paid s.formatter.task event refl is goes
  hear-paid (events.DivertedCell x) event is goes = light-paid s _ (cell_goes (outlet s.formatter) x s event)
  hear-paid e event is goes = heard-paid e (λ same. let wrong : ⊥ = cc in wrong) event (ap passed (sym is) ∙ goes)

  spring-paid : (n : Option (List ℕ)) → s.formatter.springs ≡ n → step s ≡ machine.spring_or n s → GoesBy (kind_of_springs n s.formatter.event s.formatter.task) s → Paid s (machine.spring_or n s)
  spring-paid None springs is goes = hear-paid s.formatter.event refl is goes
  spring-paid (Some name) springs is goes =
      let f = s.formatter in
      light-paid s _ (lightens s (plainly (sprung name) s) refl refl
      (spring-falls name (words (find name f.store.names)) f refl springs (fits (plainly (sprung name) s) (ap passed (sym is) ∙ goes))))

-- ---- what of the options takes effect

-- a choice sets registers and the page's number, and nothing else
abbrev set_so : List (Named Numbered) → ℤ → Formatter → Formatter
set_so rs n f = record f { store = record f.store { registers = rs }; paper = record f.paper { number = n } }

record Chosen (f g : Formatter) : Type 0 where
  registers : List (Named Numbered)
  number : ℤ
  is : g ≡ set_so registers number f

by_first : (b : Bool) (n : ℤ) (f : Formatter) → Chosen f (if b then record f { paper = record f.paper { number = n } } else f)
by_first true n f = record { registers = f.store.registers; number = n; is = refl }
by_first false n f = record { registers = f.store.registers; number = f.paper.number; is = refl }

by_other : (b : Bool) (f : Formatter) → Chosen f (if b then f else f)
by_other true f = record { registers = f.store.registers; number = f.paper.number; is = refl }
by_other false f = record { registers = f.store.registers; number = f.paper.number; is = refl }

by_written : (r : Option Numbered) (name : List ℕ) (f : Formatter) → Chosen f (record f { store = written r name f.store })
by_written None name f = record { registers = f.store.registers; number = f.paper.number; is = refl }
by_written (Some r) name f = record { registers = (written (Some r) name f.store).registers; number = f.paper.number; is = refl }

by_byte : (p q : Bool) (name : List ℕ) (n : ℤ) (f : Formatter)
    → Chosen f (registers.register_set_by (if p then Some given.Page else (if q then Some given.Other else None)) name n None f)
by_byte true q name n f = by_first (is_held n) n f
by_byte false true name n f = by_other (is_held n) f
by_byte false false name n f = by_written (set_to n None (register_of (find name f.store.registers))) name f

chosen : (c : Choice) (f : Formatter) → Chosen f (machine.choose c f)
chosen (First n) f = by_first (is_held n) n f
chosen (Register name n) f = by_byte (name == code "%") (name == code ".") (name ∷ []) n f

weighs_so : (rs : List (Named Numbered)) (n : ℤ) (p : Reached) (f : Formatter) → weight p (set_so rs n f) ≡ weight p f
unfolding weight owed steps_left
weighs_so rs n p f = refl

choice-paid : (c : Choice) (cs : List Choice) (s : State) → s.chosen ≡ c ∷ cs → Paid s (record s { chosen = cs; formatter = machine.choose c s.formatter })
choice-paid c cs s is =
    let f = s.formatter in
    let so = chosen c f in
    let weighs : weight (reached s.coming) (machine.choose c f) ≡ weight (reached s.coming) f = ap (λ g. weight (reached s.coming) g) so.is ∙ weighs_so so.registers so.number (reached s.coming) f in
    let one : length s.chosen ≡ length cs + 1 = ap (λ (xs : List Choice). length xs) is ∙ (let e : length (c ∷ cs) ≡ length cs + 1 = omega arith in e) in
    record {
      limit = ap (λ g. g.store.limit) so.is;
      most = ap (λ g. g.reader.most) so.is;
      pays = omega (arith, weighs, one);
      fresh = λ other. absurd (other refl);
    }

choose-paid : (cs : List Choice) (s : State) → s.chosen ≡ cs → HasHeight s.formatter → step s ≡ machine.choose_or cs s → GoesBy (kind_of cs s.formatter.springs s.formatter.event s.formatter.task) s
    → Paid s (machine.choose_or cs s)
choose-paid [] s chosen_is height is goes = spring-paid s height chosen_is s.formatter.springs refl is goes
choose-paid (c ∷ cs) s chosen_is height is goes = choice-paid c cs s chosen_is

pub step-paid : (s : State) → HasHeight s.formatter → Goes s → Paid s (step s)
unfolding step
step-paid s height goes = choose-paid s.chosen s refl height refl goes

-- The newline that ends a text line of which lines are filled: two moves where the line that is collected is full, and else five.
use Prim.Native.Char.{code}
use Rattle.std.proofs.Common.{◌≡◌, ℕ, ◌+◌, ◌<◌, ◌≤◌, ◌^◌, true, false, List, [], ◌∷◌, None, Option, refl, sym, ap, ◌∙◌, subst, arith}
use Rattle.std.specs.Prelude.{◌==◌}
use Rattle.std.proofs.lemmas.Bool.{ne_eqb}
use Rattle.nr_units.specs.Source.{MayGive, Supply}
use Rattle.nr_fill.specs.Piece.{ends_in_joint, line_cells}
use Rattle.nr_reading.specs.Many.InText.{IsInText}
use Rattle.nr_reading.specs.Many.LineBeginnings.{text_ended}
use Rattle.nr_reading.specs.Half.{take_in}
use Rattle.nr_reading.specs.Weights.{blanks_owed, weight_of_half}
use Rattle.nr_reading.specs.declared.event.Event.TheVariants as events
use Rattle.nr_reading.specs.declared.mode.Mode.TheVariants as modes
use Rattle.nr_reading.proofs.InText.{in_text, take_in-newline}
use Rattle.nr_input.specs.Acting.{on_half}
use Rattle.fast_input.specs.AtHand.{ComeNext, after_last}
use Rattle.nr_input.specs.Place.{Coming, HoldsComing, next_item, passed_run}
use Rattle.nr_input.specs.Moving.{taken_in_at, situation}
use Rattle.nr_input.specs.Moving.{move as input_move}
use Rattle.nr_input.specs.Moving as input
use Rattle.nr_input.specs.Weights.{expansions_worth}
use Rattle.nr_input.specs.declared.emitted.Emitted.TheVariants as tells
use Rattle.nr_store.specs.Store.{shown}
use Rattle.nr_formatter.specs.Access.{collected, with_collected}
use Rattle.nr_formatter.specs.Many.LineEnds.{IsNewline, line_gapped, newline_flows, newline_put}
use Rattle.nr_formatter.specs.Lines.{fits_line, flow_done}
use Rattle.nr_formatter.specs.Many.Runs.{IsInLine}
use Rattle.nr_formatter.specs.Weights as weights
use Rattle.nr_formatter.specs.Weights.{owed_by_event, owed_by_task, weight_of_agenda}
use Rattle.nr_formatter.specs.declared.formatter.Formatter.{Formatter}
use Rattle.nr_formatter.specs.declared.tasks.After.TheVariants as afters
use Rattle.nr_formatter.specs.declared.tasks.Task.{Task}
use Rattle.nr_formatter.specs.declared.tasks.Task.TheVariants as tasks
use Rattle.nr_formatter.proofs.LineEnds.{count-none, count_input-none, heard-newline, line_flows, none_out}
use Rattle.nr_formatter.proofs.PlainText.{EndsWord, ends_word, in_line, weight-gap}
use Rattle.nr_machine.specs.State.{State, plainly}
use Rattle.nr_machine.specs.Machine.{put_or, situation_of, step, with_situation}
use Rattle.nr_machine.specs.Measures.{IsWithin, passed}
use Rattle.nr_machine.specs.Run.{Goes, GoesBy}
use Rattle.nr_machine.specs.Holding.{Holds, Made, Shape, Stands, at}
use Rattle.fast_machine.specs.Running.{Makes, Saves, unburst}
use Rattle.fast_machine.proofs.Gliding.{Glides, glides-add, glides-by, glides-one}
use Rattle.nr_machine.proofs.Measured.{passed_none}
use Rattle.nr_machine.proofs.NextMoves.{kind-hear, kind-read, kind-work, step-hear, step-read, step-work}
use Rattle.fast_machine.proofs.PlainGaps.{first}
use Rattle.fast_machine.proofs.PlainText.{IsTyping, later-one, paid, stands_typing}
use Rattle.nr_machine.proofs.Standing.{wrote_nothing}
use Rattle.nr_machine.proofs.Working.{holds_of}

-- ---- the newline is read

-- the text of the line has ended
abbrev pub ended : Formatter → Formatter
ended f = record f { reader = on_half text_ended f.reader }

-- after the newline
abbrev after_line : State → State
after_line s = record s { coming = after_last (code "\n") 1 s.coming; formatter = unburst (ended s.formatter) }

-- the end of the line is emitted
abbrev pub emitted_line : State → State
emitted_line t = record t { formatter = record t.formatter { event = events.EndLine } }

module _ (rest : List ℕ) (s : State) (typing : IsTyping s) (next : s.coming.supply.bytes ≡ code "\n" ∷ rest) (gives : MayGive s.coming.supply.faults) (few : s.coming.taken + 1 < 2 ^ 40) where
  half : IsInText s.formatter.reader.half
  half = in_text s.formatter.reader.half typing.line.half

  -- the place of the source is another after it
  further : (s.coming.taken + 1 == s.coming.taken) ≡ false
  further = ne_eqb (s.coming.taken + 1) s.coming.taken (λ e. omega (arith, e))

  -- the next item is looked at
  looks : input_move (situation_of s) ≡ taken_in_at (take_in (next_item (shown s.formatter.store.levels) s.coming) s.formatter.reader.half) (situation_of s)
  looks = rw half.pending_act refl

  -- it ends the text
  takes_in : take_in (next_item (shown s.formatter.store.levels) s.coming) s.formatter.reader.half ≡ record { half = text_ended s.formatter.reader.half; event = events.EndLine; takes = true }
  takes_in = rw (typing.levels, next) (take_in-newline s.formatter.reader.half half)

  -- it is taken and emitted
  takes : taken_in_at (record { half = text_ended s.formatter.reader.half; event = events.EndLine; takes = true }) (situation_of s)
      ≡ record { situation = situation s.formatter.store (after_last (code "\n") 1 s.coming) (record s.formatter.reader { half = text_ended s.formatter.reader.half; burst = 0 }); emitted = tells.Event events.EndLine }
  takes = rw (typing.levels, next, further, later-one s.coming.supply.faults) refl

  -- this is the first move
  reads_line : step s ≡ emitted_line (after_line s)
  reads_line =
      step-read s typing.chosen typing.line.springs typing.line.event typing.line.task
      ∙ ap (λ m. with_situation m s) (looks ∙ ap (λ m. taken_in_at m (situation_of s)) takes_in ∙ takes)

  -- and it is made
  goes_line : Goes s
  goes_line =
      let reads = kind-read s typing.chosen typing.line.springs typing.line.event typing.line.task in
      let sees : input.Goes (situation_of s) = rw (half.pending_act, typing.levels, next) (gives, λ many. omega (arith, many, few)) in
      subst (λ k. GoesBy k s) (sym reads) sees

-- ---- it is heard, and the line counted

-- the text of a line has ended, and the newline does nothing but end the word and widen the gap
pub record IsLineEnd (f : Formatter) : Type 0 where
  pub springs : f.springs ≡ None
  pub event : f.event ≡ events.Nothing
  pub task : f.task ≡ tasks.Read
  pub mode : f.reader.half.reading.mode ≡ modes.Start
  pub ends : EndsWord f
  pub joint : ends_in_joint (collected f).word ≡ false
  pub trap : f.input_trap ≡ None
  pub underlined : f.settings.fonts.underlined ≡ 0
  pub within : line_cells (line_gapped (collected f)) ≤ f.line.limit

-- with the word and the gap, and this under way
abbrev pub line_put : Task → Formatter → Formatter
line_put t f = record (with_collected (line_gapped (collected f)) f) { event = events.Nothing; task = t }

module _ (t : State) (chosen : t.chosen ≡ []) (end : IsLineEnd t.formatter) (within : IsWithin t) where
  -- what is collected is within the limits
  pub within_put : (k : Task) → IsWithin (plainly (line_put k) t)
  within_put k = record {
    formatter = record { stored = within.formatter.stored; depth = within.formatter.depth; line = end.within; burst = within.formatter.burst };
    page = within.page;
  }

  -- the newline ends the word whatever was emitted
  ends_emitted : EndsWord (emitted_line t).formatter
  ends_emitted = record { filling = end.ends.filling; word = end.ends.word; field = end.ends.field; breaks = end.ends.breaks; words = end.ends.words }

  step_heard : step (emitted_line t) ≡ plainly line_flows t
  step_heard =
      step-hear (emitted_line t) events.EndLine chosen end.springs refl
      ∙ ap (λ f. record t { formatter = f }) (heard-newline (emitted_line t).formatter ends_emitted end.joint end.mode)

  -- the word ends
  pub hears : Glides (emitted_line t) 1 (plainly line_flows t)
  hears =
      let works = kind-hear (emitted_line t) events.EndLine chosen end.springs refl (λ e. let wrong : ⊥ = cc in wrong) in
      let goes_on = subst (λ k. GoesBy k (emitted_line t)) (sym works) (ap passed step_heard ∙ passed_none (plainly line_flows t) (within_put (tasks.Flow afters.Line false))) in
      glides-one (emitted_line t) (plainly line_flows t) goes_on step_heard

  -- no line is full
  flows : fits_line (line_gapped (collected t.formatter)) ≡ true → Glides (plainly line_flows t) 1 (plainly (line_put tasks.Count) t)
  flows fits =
      let s = plainly line_flows t in
      let task = tasks.Flow afters.Line false in
      glides-by (flow_done afters.Line) s (kind-work s task chosen end.springs refl refl)
      (step-work s task chosen end.springs refl refl ∙ ap (λ o. put_or o (flow_done afters.Line) s) (none_out t.formatter end.ends.filling fits)) (within_put tasks.Count)

  -- the line is counted
  counts : Glides (plainly (line_put tasks.Count) t) 1 (plainly (line_put tasks.InputTrap) t)
  counts =
      let s = plainly (line_put tasks.Count) t in
      glides-by (λ f. record f { task = tasks.InputTrap }) s (kind-work s tasks.Count chosen end.springs refl refl)
      (step-work s tasks.Count chosen end.springs refl refl ∙ ap (λ f. record t { formatter = f }) (count-none s.formatter end.ends.filling end.underlined)) (within_put tasks.InputTrap)

  -- by no trap
  counts_input : Glides (plainly (line_put tasks.InputTrap) t) 1 (plainly (line_put tasks.Read) t)
  counts_input =
      let s = plainly (line_put tasks.InputTrap) t in
      glides-by (λ f. record f { task = tasks.Read }) s (kind-work s tasks.InputTrap chosen end.springs refl refl)
      (step-work s tasks.InputTrap chosen end.springs refl refl ∙ ap (λ f. record t { formatter = f }) (count_input-none s.formatter end.trap)) (within_put tasks.Read)

  -- four moves after the one that reads
  pub ends_line : fits_line (line_gapped (collected t.formatter)) ≡ true → Glides (emitted_line t) 4 (plainly (line_put tasks.Read) t)
  ends_line fits =
      let two = glides-add (emitted_line t) 1 1 (plainly line_flows t) (plainly (line_put tasks.Count) t) hears (flows fits) in
      let more = glides-add (plainly (line_put tasks.Count) t) 1 1 (plainly (line_put tasks.InputTrap) t) (plainly (line_put tasks.Read) t) counts counts_input in
      glides-add (emitted_line t) 2 2 (plainly (line_put tasks.Count) t) (plainly (line_put tasks.Read) t) two more

-- ---- the engine

-- the source after the newline, and this made of the formatter
abbrev pub ended_shape : (Formatter → Formatter) → Shape → Shape
ended_shape g e = record e { formatter = g (unburst e.formatter); place = passed_run (code "\n") 1 e.place }

abbrev ended_state : (Formatter → Formatter) → State → State
ended_state g s = record s { coming = after_last (code "\n") 1 s.coming; formatter = g (unburst s.formatter) }

-- the text has ended after such a newline
line_end : (s : State) → IsTyping s → IsNewline s.formatter → IsLineEnd (after_line s).formatter
line_end s typing newline =
    let ends = ends_word s.formatter newline.plain in
    record {
      springs = typing.line.springs;
      event = typing.line.event;
      task = typing.line.task;
      mode = refl;
      ends = record { filling = ends.filling; word = ends.word; field = ends.field; breaks = ends.breaks; words = ends.words };
      joint = newline.joint;
      trap = newline.trap;
      underlined = newline.underlined;
      within = newline.within;
    }

within_afterwards : (s : State) → IsTyping s → IsWithin (after_line s)
within_afterwards s typing = record {
  formatter = record { stored = typing.within.formatter.stored; depth = typing.within.formatter.depth; line = typing.within.formatter.line; burst = omega arith };
  page = typing.within.page;
}

-- where the moves lead
leads_flows : (s : State) → s.formatter.event ≡ events.Nothing → plainly line_flows (after_line s) ≡ ended_state newline_flows s
leads_flows s event = ap (λ v. record s { coming = after_last (code "\n") 1 s.coming; formatter = record (newline_flows (unburst s.formatter)) { event = v } }) (sym event)

leads_put : (s : State) → s.formatter.event ≡ events.Nothing → s.formatter.task ≡ tasks.Read → plainly (line_put tasks.Read) (after_line s) ≡ ended_state newline_put s
leads_put s event task =
    ap (λ v. record s { coming = after_last (code "\n") 1 s.coming; formatter = record (newline_put (unburst s.formatter)) { event = v; task = tasks.Read } }) (sym event)
    ∙ ap (λ v. record s { coming = after_last (code "\n") 1 s.coming; formatter = record (newline_put (unburst s.formatter)) { task = v } }) (sym task)

-- the moves lead where the engine stands
made_line : (n : ℕ) (g : Formatter → Formatter) (e : Shape) (supply supply' : Option Supply) (held : Option (List ℕ)) (s : State) → Stands [] supply s e
    → HoldsComing (after_last (code "\n") 1 s.coming) (passed_run (code "\n") 1 e.place) supply' → IsWithin (ended_state g (at e s)) → Glides (at e s) n (ended_state g (at e s))
    → Made [] (at e s) n (ended_shape g e) supply' held held
made_line n g e supply supply' held s h afterwards within glides =
    let holds : Holds [] supply' (ended_state g (at e s)) (ended_shape g e) =
    holds_of supply' (ended_state g (at e s)) (ended_shape g e) refl h.chosen_is afterwards h.row h.page h.page_limit h.select h.faces within in
    record {
      runs = glides.runs;
      holds = rw glides.leads holds;
      wrote = wrote_nothing (at e s) _ held (ap (λ t. t.pages) glides.leads);
    }

-- the text's end weighs 20 less, and owes nothing
pub record Lightens (f : Formatter) : Type 0 where
  pub half : weight_of_half (text_ended f.reader.half) + 20 ≡ weight_of_half f.reader.half
  pub blanks : blanks_owed (text_ended f.reader.half) ≡ 0
  pub owed : owed_by_event f.event + owed_by_task f.task f.reader.half ≡ 0
  pub owed_afterwards : (t : Task) → t ≡ tasks.Read → owed_by_task t (text_ended f.reader.half) ≡ 0

pub lightens : (f : Formatter) → IsInLine f → Lightens f
lightens f line =
    let half = in_text f.reader.half line.half in
    record {
      half = rw (half.mode, half.escape, half.pending_act) (omega arith);
      blanks = rw half.pending_act refl;
      owed = rw (line.event, line.task) refl;
      owed_afterwards = λ t is. rw is refl;
    }

-- 20 moves more are paid
pub saves_newline_flows : (e : Shape) → IsInLine e.formatter → Saves 20 2 e (ended_shape newline_flows e)
unfolding weights.weight weights.steps_left weights.owed
saves_newline_flows e line =
    let light = lightens e.formatter line in
    let event : e.formatter.event ≡ events.Nothing = line.event in
    let task : e.formatter.task ≡ tasks.Read = line.task in
    let before : weight_of_agenda e.formatter.event e.formatter.task e.formatter.step ≡ 4 = rw (event, task) refl in
    let afterwards : weight_of_agenda e.formatter.event (tasks.Flow afters.Line false) e.formatter.step ≡ 8 = rw event refl in
    let owed_afterwards : owed_by_event e.formatter.event + owed_by_task (tasks.Flow afters.Line false) (text_ended e.formatter.reader.half) ≡ 0 = rw event refl in
    omega (
      arith,
      light.half,
      light.blanks,
      light.owed,
      before,
      afterwards,
      owed_afterwards,
      weight-gap (collected e.formatter),
      paid (expansions_worth e.formatter.reader.most 0 e.formatter.store.limit) 1 e.place.taken (omega arith),
    )

-- and where the line is not full
pub saves_newline : (e : Shape) → IsInLine e.formatter → Saves 20 5 e (ended_shape newline_put e)
unfolding weights.weight weights.steps_left weights.owed
saves_newline e line =
    let light = lightens e.formatter line in
    omega (
      arith,
      light.half,
      light.blanks,
      light.owed,
      light.owed_afterwards e.formatter.task line.task,
      weight-gap (collected e.formatter),
      paid (expansions_worth e.formatter.reader.most 0 e.formatter.store.limit) 1 e.place.taken (omega arith),
    )

module _ (bs : List ℕ) (e : Shape) (supply supply' : Option Supply) (levels : e.formatter.store.levels ≡ []) (newline : IsNewline e.formatter)
    (next : (c : Coming) → HoldsComing c e.place supply → ComeNext (code "\n" ∷ bs) c)
    (afterwards : (c : Coming) → HoldsComing c e.place supply → HoldsComing (after_last (code "\n") 1 c) (passed_run (code "\n") 1 e.place) supply') where
  -- the newline comes next in a line that has begun
  typing : (s : State) → Stands [] supply s e → IsTyping (at e s)
  typing s h = stands_typing supply s e h newline.line levels

  end : (s : State) → Stands [] supply s e → IsLineEnd (after_line (at e s)).formatter
  end s h = line_end (at e s) (typing s h) newline

  -- it is read
  glides_read : (s : State) → Stands [] supply s e → Glides (at e s) 1 (emitted_line (after_line (at e s)))
  glides_read s h =
      let x = first (code "\n") bs s.coming (next s.coming h.coming) in
      glides-one (at e s) (emitted_line (after_line (at e s))) (goes_line x.rest (at e s) (typing s h) x.is x.gives x.few) (reads_line x.rest (at e s) (typing s h) x.is x.gives x.few)

  made_flows : (held : Option (List ℕ)) (s : State) → Stands [] supply s e → Made [] (at e s) 2 (ended_shape newline_flows e) supply' held held
  made_flows held s h =
      let t = after_line (at e s) in
      let is = leads_flows (at e s) (typing s h).line.event in
      let within = within_put t h.chosen_is (end s h) (within_afterwards (at e s) (typing s h)) (tasks.Flow afters.Line false) in
      let heard = hears t h.chosen_is (end s h) (within_afterwards (at e s) (typing s h)) in
      made_line 2 newline_flows e supply supply' held s h (afterwards s.coming h.coming) (subst IsWithin is within)
      (subst (λ u. Glides (at e s) 2 u) is (glides-add (at e s) 1 1 (emitted_line t) (plainly line_flows t) (glides_read s h) heard))

  made_put : fits_line (line_gapped (collected e.formatter)) ≡ true → (held : Option (List ℕ)) (s : State) → Stands [] supply s e → Made [] (at e s) 5 (ended_shape newline_put e) supply' held held
  made_put fits held s h =
      let t = after_line (at e s) in
      let is = leads_put (at e s) (typing s h).line.event (typing s h).line.task in
      let within = within_put t h.chosen_is (end s h) (within_afterwards (at e s) (typing s h)) tasks.Read in
      let heard = ends_line t h.chosen_is (end s h) (within_afterwards (at e s) (typing s h)) fits in
      made_line 5 newline_put e supply supply' held s h (afterwards s.coming h.coming) (subst IsWithin is within)
      (subst (λ u. Glides (at e s) 5 u) is (glides-add (at e s) 1 4 (emitted_line t) (plainly (line_put tasks.Read) t) (glides_read s h) heard))

  pub makes_newline_flows : Makes 2 e (ended_shape newline_flows e) supply supply'
  makes_newline_flows = record {
    makes = made_flows;
    limit = refl;
    most = refl;
    limits = refl;
    spends = let saves = saves_newline_flows e (in_line e.formatter newline.line) in omega (arith, saves);
  }

  pub makes_newline : fits_line (line_gapped (collected e.formatter)) ≡ true → Makes 5 e (ended_shape newline_put e) supply supply'
  makes_newline fits = record {
    makes = made_put fits;
    limit = refl;
    most = refl;
    limits = refl;
    spends = let saves = saves_newline e (in_line e.formatter newline.line) in omega (arith, saves);
  }

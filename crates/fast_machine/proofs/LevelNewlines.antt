-- The newline that ends a text line, where it comes next of the newest level.
use Prim.Native.Char.{code}
use Rattle.std.proofs.Common.{◌≡◌, ℕ, ◌+◌, ◌*◌, ◌≤◌, true, false, List, [], ◌∷◌, length, Option, refl, sym, ap, ◌∙◌, subst, arith}
use Rattle.std.proofs.lemmas.Bool.{eq-eqb}
use Rattle.nr_units.specs.Source.{Supply}
use Rattle.nr_store.specs.Store.{Level, Read, Reading, shown}
use Rattle.nr_store.specs.Windows.{rest_of, levels_after}
use Rattle.nr_store.specs.declared.element.Element.{Element}
use Rattle.nr_store.specs.declared.element.Element.TheVariants as elements
use Rattle.nr_store.specs.declared.shown.Shown.TheVariants as shows
use Rattle.nr_reading.specs.Many.InText.{IsInText}
use Rattle.nr_reading.specs.Many.LineBeginnings.{text_ended}
use Rattle.nr_reading.specs.Half.{take_in}
use Rattle.nr_reading.specs.declared.event.Event.TheVariants as events
use Rattle.nr_reading.specs.declared.next_item.NextItem.TheVariants as next_items
use Rattle.nr_reading.proofs.InText.{in_text, take_in-newline}
use Rattle.nr_input.specs.Moving.{move as input_move, situation, taken_in_at}
use Rattle.nr_input.specs.Moving as input
use Rattle.nr_input.specs.declared.emitted.Emitted.TheVariants as tells
use Rattle.nr_formatter.specs.Access.{collected}
use Rattle.nr_formatter.specs.Many.LineEnds.{IsNewline, line_gapped, newline_flows, newline_put}
use Rattle.nr_formatter.specs.Lines.{fits_line}
use Rattle.nr_formatter.specs.Many.Runs.{IsInLine}
use Rattle.nr_formatter.specs.Weights as weights
use Rattle.nr_formatter.specs.Weights.{owed_by_event, owed_by_task, weight_of_agenda}
use Rattle.nr_formatter.specs.declared.formatter.Formatter.{Formatter}
use Rattle.nr_formatter.specs.declared.tasks.After.TheVariants as afters
use Rattle.nr_formatter.specs.declared.tasks.Resume.{Resume}
use Rattle.nr_formatter.specs.declared.tasks.Task.TheVariants as tasks
use Rattle.nr_formatter.proofs.LineEnds.{line_flows}
use Rattle.nr_formatter.proofs.PlainText.{ends_word, in_line, weight-gap}
use Rattle.nr_machine.specs.State.{State, plainly}
use Rattle.nr_machine.specs.Machine.{situation_of, step, with_situation}
use Rattle.nr_machine.specs.Measures.{IsWithin}
use Rattle.nr_machine.specs.Run.{Goes, GoesBy}
use Rattle.nr_machine.specs.Holding.{Made, Shape, Stands, at, weight, worth}
use Rattle.fast_machine.specs.Running.{Makes}
use Rattle.fast_machine.proofs.Gliding.{Glides, glides-add, glides-one, made_of}
use Rattle.fast_machine.proofs.LevelText.{Showing, at_text, level_gone, made_glided, one_left, showing, within_text}
use Rattle.nr_machine.proofs.NextMoves.{kind-read, step-read}
use Rattle.fast_machine.proofs.PlainNewlines.{IsLineEnd, ended, ends_line, hears, lightens, line_put, emitted_line, within_put}
use Rattle.fast_machine.proofs.RereadCells.{items_fewer}

module _ (e : Shape) (supply : Option Supply) (held : Option (List ℕ)) (s : State) (h : Stands [] supply s e) (newline : IsNewline e.formatter)
    (l : Reading Resume) (ls : List (Level Resume)) (xs : List Element) (levels_is : e.formatter.store.levels ≡ Read (record l { rest = elements.Byte (code "\n") ∷ xs }) ∷ ls) where
  line : IsInLine e.formatter
  line = in_line e.formatter newline.line

  half : IsInText e.formatter.reader.half
  half = in_text e.formatter.reader.half line.half

  -- before the newline, and with it taken
  abbrev from : State
  from = at_text l ls (elements.Byte (code "\n") ∷ xs) (at e s)

  abbrev there : State
  there = at_text l ls xs (at e s)

  -- where the text of the line has ended
  abbrev afterwards : State
  afterwards = record there { formatter = ended there.formatter }

  start_is : from ≡ at e s
  start_is = ap (λ v. record (at e s) { formatter = record e.formatter { store = record e.formatter.store { levels = v } } }) (sym levels_is)

  -- ---- it is read

  looks : input_move (situation_of from) ≡ taken_in_at (take_in (next_items.Byte (code "\n")) e.formatter.reader.half) (situation_of from)
  looks = rw half.pending_act refl

  takes : taken_in_at (record { half = text_ended e.formatter.reader.half; event = events.EndLine; takes = true }) (situation_of from)
      ≡ record { situation = situation there.formatter.store s.coming (record e.formatter.reader { half = text_ended e.formatter.reader.half }); emitted = tells.Event events.EndLine }
  takes = rw (eq-eqb s.coming.taken s.coming.taken refl) refl

  reads_line : step from ≡ emitted_line afterwards
  reads_line =
      step-read from h.chosen_is line.springs line.event line.task
      ∙ ap (λ m. with_situation m from) (looks ∙ ap (λ m. taken_in_at m (situation_of from)) (take_in-newline e.formatter.reader.half half) ∙ takes)

  goes_line : Goes from
  goes_line =
      let reads = kind-read from h.chosen_is line.springs line.event line.task in
      let sees : input.Goes (situation_of from) = rw half.pending_act tt in
      subst (λ k. GoesBy k from) (sym reads) sees

  -- ---- it is heard, and the line counted

  end : IsLineEnd afterwards.formatter
  end =
      let ends = ends_word e.formatter newline.plain in
      record {
        springs = line.springs;
        event = line.event;
        task = line.task;
        mode = refl;
        ends = record { filling = ends.filling; word = ends.word; field = ends.field; breaks = ends.breaks; words = ends.words };
        joint = newline.joint;
        trap = newline.trap;
        underlined = newline.underlined;
        within = newline.within;
      }

  within_there : IsWithin there
  within_there = within_text l ls (elements.Byte (code "\n") ∷ xs) xs [] (at e s) (subst IsWithin (sym start_is) h.within) h.within.formatter.line

  within_afterwards : IsWithin afterwards
  within_afterwards = record {
    formatter = record { stored = within_there.formatter.stored; depth = within_there.formatter.depth; line = within_there.formatter.line; burst = within_there.formatter.burst };
    page = within_there.page;
  }

  leads_flows : plainly line_flows afterwards ≡ made_of newline_flows there
  leads_flows = ap (λ v. record there { formatter = record (newline_flows there.formatter) { event = v } }) (sym line.event)

  leads_put : plainly (line_put tasks.Read) afterwards ≡ made_of newline_put there
  leads_put =
      ap (λ v. record there { formatter = record (newline_put there.formatter) { event = v; task = tasks.Read } }) (sym line.event)
      ∙ ap (λ v. record there { formatter = record (newline_put there.formatter) { task = v } }) (sym line.task)

  formatter_is : (g : Formatter → Formatter) → (level_gone g e).formatter ≡ g there.formatter
  formatter_is g = ap (λ v. g (record e.formatter { store = record e.formatter.store { levels = v } })) (ap (levels_after 1) levels_is)

  glides_read : Glides from 1 (emitted_line afterwards)
  glides_read = glides-one from (emitted_line afterwards) goes_line reads_line

  made_flows : Made [] (at e s) 2 (level_gone newline_flows e) supply held held
  made_flows =
      let within = within_put afterwards h.chosen_is end within_afterwards (tasks.Flow afters.Line false) in
      let all = glides-add from 1 1 (emitted_line afterwards) (plainly line_flows afterwards) glides_read (hears afterwards h.chosen_is end within_afterwards) in
      made_glided 2 e (newline_flows there.formatter) (level_gone newline_flows e).formatter supply held s h (formatter_is newline_flows) (subst IsWithin leads_flows within)
      (subst (λ t. Glides t 2 (made_of newline_flows there)) start_is (subst (λ u. Glides from 2 u) leads_flows all))

  made_put : fits_line (line_gapped (collected e.formatter)) ≡ true → Made [] (at e s) 5 (level_gone newline_put e) supply held held
  made_put fits =
      let within = within_put afterwards h.chosen_is end within_afterwards tasks.Read in
      let all = glides-add from 1 4 (emitted_line afterwards) (plainly (line_put tasks.Read) afterwards) glides_read (ends_line afterwards h.chosen_is end within_afterwards fits) in
      made_glided 5 e (newline_put there.formatter) (level_gone newline_put e).formatter supply held s h (formatter_is newline_put) (subst IsWithin leads_put within)
      (subst (λ t. Glides t 5 (made_of newline_put there)) start_is (subst (λ u. Glides from 5 u) leads_put all))

-- ---- what it costs

newline_spends : (e : Shape) → IsInLine e.formatter → 1 ≤ length (rest_of e.formatter.store.levels) → weight (level_gone newline_put e) + 5 + worth e * e.place.taken ≤ weight e + worth e * e.place.taken
unfolding weights.weight weights.steps_left weights.owed
newline_spends e line few =
    let light = lightens e.formatter line in
    omega (arith, light.half, light.blanks, light.owed, light.owed_afterwards e.formatter.task line.task, items_fewer 1 e.formatter.store.levels few, weight-gap (collected e.formatter))

flows_spends : (e : Shape) → IsInLine e.formatter → 1 ≤ length (rest_of e.formatter.store.levels) → weight (level_gone newline_flows e) + 2 + worth e * e.place.taken ≤ weight e + worth e * e.place.taken
unfolding weights.weight weights.steps_left weights.owed
flows_spends e line few =
    let light = lightens e.formatter line in
    let event : e.formatter.event ≡ events.Nothing = line.event in
    let task : e.formatter.task ≡ tasks.Read = line.task in
    let before : weight_of_agenda e.formatter.event e.formatter.task e.formatter.step ≡ 4 = rw (event, task) refl in
    let afterwards : weight_of_agenda e.formatter.event (tasks.Flow afters.Line false) e.formatter.step ≡ 8 = rw event refl in
    let owed_afterwards : owed_by_event e.formatter.event + owed_by_task (tasks.Flow afters.Line false) (text_ended e.formatter.reader.half) ≡ 0 = rw event refl in
    omega (arith, light.half, light.blanks, light.owed, before, afterwards, owed_afterwards, items_fewer 1 e.formatter.store.levels few, weight-gap (collected e.formatter))

-- ---- the engine

-- the newline comes next of the newest level
module _ (e : Shape) (supply : Option Supply) (newline : IsNewline e.formatter) (next : shown e.formatter.store.levels ≡ shows.Item (elements.Byte (code "\n"))) where
  there_is : Showing e.formatter.store.levels (elements.Byte (code "\n"))
  there_is = showing e.formatter.store.levels (elements.Byte (code "\n")) next

  few : 1 ≤ length (rest_of e.formatter.store.levels)
  few = one_left e.formatter.store.levels (elements.Byte (code "\n")) there_is

  -- the line that is collected is full
  pub makes_ended : Makes 2 e (level_gone newline_flows e) supply supply
  makes_ended = record {
    makes = λ held s h. made_flows e supply held s h newline there_is.l there_is.ls there_is.xs there_is.is;
    limit = refl;
    most = refl;
    limits = refl;
    spends = flows_spends e (in_line e.formatter newline.line) few;
  }

  -- it is not
  pub makes_line : fits_line (line_gapped (collected e.formatter)) ≡ true → Makes 5 e (level_gone newline_put e) supply supply
  makes_line fits = record {
    makes = λ held s h. made_put e supply held s h newline there_is.l there_is.ls there_is.xs there_is.is fits;
    limit = refl;
    most = refl;
    limits = refl;
    spends = newline_spends e (in_line e.formatter newline.line) few;
  }

-- A place to cut, `\(zb`, of the source at hand: the moves that read it, the one in which the point stands, and the line after it.
use Prim.Native.Char.{code}
use Rattle.std.proofs.Common.{◌≡◌, ℕ, ◌+◌, ◌<◌, true, List, [], ◌∷◌, length, Option, None, Some, refl, sym, ap, ◌∙◌, subst, arith}
use Rattle.std.specs.Prelude.{is_none, map, slice_index}
use Rattle.std.specs.Option.{option_map}
use Rattle.nr_units.specs.Source.{Supply}
use Rattle.nr_fill.specs.Piece.{Word, pointed_here, with_named_point, word_cells}
use Rattle.nr_fill.specs.declared.piece.Point.TheVariants as points
use Rattle.nr_reading.specs.declared.ask.Kind.TheVariants as kinds
use Rattle.nr_reading.specs.declared.event.Event.TheVariants as events
use Rattle.nr_reading.specs.declared.next_item.NextItem.TheVariants as next_items
use Rattle.nr_reading.specs.declared.half.Half.{Half}
use Rattle.nr_reading.specs.declared.many.runs.Run.{Run}
use Rattle.nr_reading.specs.declared.mode.Escape.TheVariants as escapes
use Rattle.nr_reading.specs.declared.mode.Mode.TheVariants as modes
use Rattle.nr_reading.specs.Ask.{begun_ask, with_byte}
use Rattle.nr_reading.specs.Many.InText.{IsInText}
use Rattle.nr_reading.specs.Many.Stretch.{LeadsOn}
use Rattle.nr_reading.specs.Many.Runs.{HasTakenIn, spot}
use Rattle.nr_reading.proofs.InText.{in_text}
use Rattle.nr_reading.proofs.Stretches.{taken_in_here, taken_last, taken_more}
use Rattle.nr_input.specs.Place.{passed_run}
use Rattle.nr_formatter.specs.Access.{asked, collected, with_collected}
use Rattle.nr_formatter.specs.Many.Runs.{IsInLine, is_in_line}
use Rattle.nr_formatter.specs.Moves.{heard}
use Rattle.nr_formatter.specs.Text.{break_point, special}
use Rattle.nr_formatter.specs.Weights.{Falls}
use Rattle.nr_formatter.specs.declared.formatter.Formatter.{Formatter}
use Rattle.nr_formatter.proofs.TextFalls.{falls-text}
use Rattle.nr_machine.specs.State.{State, plainly}
use Rattle.nr_machine.specs.Machine.{step}
use Rattle.nr_machine.specs.Measures.{IsWithin}
use Rattle.nr_machine.specs.Holding.{Made, Shape, Stands, at}
use Rattle.nr_machine.proofs.NextMoves.{kind-hear, step-hear}
use Rattle.fast_machine.specs.NextEscapes.{BeginsPoint}
use Rattle.fast_machine.specs.Running.{Makes, PutsText, taken_shape, unburst}
use Rattle.fast_machine.proofs.EscapesPut.{Acts, emitted, puts_escape}
use Rattle.fast_machine.proofs.EscapesRead.{begun, byte_there, half_with, plain, plain_is, within}
use Rattle.fast_machine.proofs.Gliding.{glides-by}
use Rattle.fast_machine.proofs.LevelText.{made_glided}

-- ---- the bytes

-- the name of the character
abbrev pub point_name : List ℕ
point_name = code "z" ∷ code "b" ∷ []

-- what is half read after it
abbrev pub named_point : Half → Half
named_point h = record h { notes = record h.notes { asked = point_name } }

-- its bytes, each taken by one move
abbrev pub point_run : Run
point_run = record { taken = 4; moves = 4; event = events.Special }

point_taken_in : (bs : List ℕ) → BeginsPoint bs → (h : Half) → IsInText h → HasTakenIn 4 (map next_items.Byte bs) h (spot point_run (named_point h))
point_taken_in bs begins h is =
    let fs = map next_items.Byte bs in
    let few : 3 < length bs = begins.some in
    let escaped = half_with h escapes.Begun [] in
    let asking = half_with h escapes.Plain (begun_ask kinds.Special ∷ []) in
    let naming = half_with h escapes.Plain (with_byte (code "z") (begun_ask kinds.Special) ∷ []) in
    let second = byte_there bs 1 (code "(") (omega (arith, few)) begins.two in
    let third = byte_there bs 2 (code "z") (omega (arith, few)) begins.first in
    let fourth = byte_there bs 3 (code "b") few begins.second in
    let one : LeadsOn fs 0 0 (plain h) 1 1 escaped = begun bs h (omega (arith, few)) begins.backslash in
    let two : LeadsOn fs 0 0 (plain h) 2 2 asking = taken_more fs 0 0 1 1 (code "(") (plain h) escaped asking one (within bs 1 (omega (arith, few))) refl second refl in
    let three : LeadsOn fs 0 0 (plain h) 3 3 naming = taken_more fs 0 0 2 2 (code "z") (plain h) asking naming two (within bs 2 (omega (arith, few))) refl third refl in
    let all =
    taken_last fs 0 0 3 3 (code "b") (plain h) naming (named_point (plain h)) events.Special three (within bs 3 few) refl fourth refl (omega arith) (λ none. let wrong : ⊥ = cc in absurd wrong)
    in
    subst (λ (k : Half). HasTakenIn 4 fs k (spot point_run (named_point k))) (sym (plain_is h is)) (taken_in_here fs (plain h) (named_point (plain h)) point_run all)

-- ---- the move in which the point stands

-- it is heard as a break point
heard_point : (f : Formatter) → f.reader.half.reading.mode ≡ modes.Text → asked f ≡ point_name → heard events.Special f ≡ break_point points.Hard f
unfolding special
heard_point f mode name = rw (mode, name) refl

special_point : (f : Formatter) → asked f ≡ point_name → special f ≡ break_point points.Hard f
unfolding special
special_point f name = rw name refl

falls_point : (f : Formatter) → f.event ≡ events.Special → asked f ≡ point_name → Falls 1 0 f (break_point points.Hard f)
falls_point f event name = subst (λ (g : Formatter). Falls 1 0 f g) (special_point f name) (falls-text events.Special f event refl)

-- the word has no other cells, and is there as before
cells_named : (o : Option Word) → word_cells (option_map (with_named_point points.Hard) o) ≡ word_cells o
cells_named None = refl
cells_named (Some w) = refl

there_named : (o : Option Word) → is_none (option_map (with_named_point points.Hard) o) ≡ is_none o
there_named None = refl
there_named (Some w) = refl

abbrev pointed_shape : Shape → Shape
pointed_shape e = record e { formatter = break_point points.Hard e.formatter }

module _ (e : Shape) (event : e.formatter.event ≡ events.Special) (springs : e.formatter.springs ≡ None) (mode : e.formatter.reader.half.reading.mode ≡ modes.Text) (name : asked e.formatter ≡ point_name) where
  within_pointed : (s : State) → IsWithin (at e s) → IsWithin (plainly (break_point points.Hard) (at e s))
  within_pointed s w = record {
    formatter = record {
      stored = w.formatter.stored;
      depth = w.formatter.depth;
      line = omega (arith, w.formatter.line, cells_named (collected e.formatter).word);
      burst = w.formatter.burst;
    };
    page = w.page;
  }

  step_pointed : (s : State) → s.chosen ≡ [] → step (at e s) ≡ plainly (break_point points.Hard) (at e s)
  step_pointed s chosen = step-hear (at e s) events.Special chosen springs event ∙ ap (λ (f : Formatter). record (at e s) { formatter = f }) (heard_point e.formatter mode name)

  made_pointed : (supply : Option Supply) (held : Option (List ℕ)) (s : State) → Stands [] supply s e → Made [] (at e s) 1 (pointed_shape e) supply held held
  made_pointed supply held s h =
      let works = kind-hear (at e s) events.Special h.chosen_is springs event (λ is. let wrong : ⊥ = cc in wrong) in
      made_glided 1 e (break_point points.Hard e.formatter) (break_point points.Hard e.formatter) supply held s h refl (within_pointed s h.within)
      (glides-by (break_point points.Hard) (at e s) works (step_pointed s h.chosen_is) (within_pointed s h.within))

  makes_pointed : (supply : Option Supply) → Makes 1 e (pointed_shape e) supply supply
  makes_pointed supply =
      let falls = falls_point e.formatter event name in record {
        makes = λ held s h. made_pointed supply held s h;
        limit = falls.limit;
        most = falls.most;
        limits = refl;
        spends = let less = falls.falls e.place in omega (arith, less);
      }

-- ---- the whole escape

-- the formatter after it
abbrev pub point_put : Formatter → Formatter
point_put f = with_collected (pointed_here points.Hard (collected f)) (record f { reader = record f.reader { half = named_point f.reader.half } })

module _ (bs : List ℕ) (begins : BeginsPoint bs) (f : Formatter) (line : IsInLine f) where
  abbrev half : Half
  half = named_point f.reader.half

  acts_point : Acts bs point_run half f (point_put f)
  acts_point = λ e supply is.
      let there = emitted bs point_run half e in
      let same : pointed_shape there ≡ taken_shape bs 4 (point_put f) e =
      ap (λ (x : Formatter). record e { formatter = record (point_put x) { reader = record x.reader { half = half; burst = 0 }; event = events.Nothing }; place = passed_run (slice_index bs 3) 4 e.place }) is
      ∙ ap (λ x. record e { formatter = record (unburst (point_put f)) { event = x }; place = passed_run (slice_index bs 3) 4 e.place }) (sym line.event)
      in
      subst (λ x. Makes 1 there x supply supply) same
      (makes_pointed there refl (ap (λ (x : Formatter). x.springs) is ∙ line.springs) (in_text f.reader.half line.half).mode refl supply)

  pub puts_point : PutsText bs 4 5 f (point_put f)
  puts_point =
      puts_escape bs f point_run half (record { springs = line.springs; event = line.event; task = line.task })
      (point_taken_in bs begins f.reader.half (in_text f.reader.half line.half)) (omega arith) (point_put f) refl acts_point (omega arith) (omega arith)

-- after it the line goes on
pub line_point : (f : Formatter) → IsInLine f → is_in_line (point_put f) ≡ true
line_point f line = rw (line.springs, line.event, line.task, line.half, there_named (collected f).word, line.begun) refl

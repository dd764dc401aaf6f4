-- A minus, `\-`, of the source at hand: the moves that read it, the one that puts its cell, and the line after it.
use Prim.Native.Char.{code}
use Rattle.std.proofs.Common.{◌≡◌, ℕ, ◌+◌, ◌≤◌, ◌<◌, Bool, true, false, List, [], length, Option, None, Result, Ok, Err, refl, sym, ap, ◌∙◌, subst, arith}
use Rattle.std.specs.Prelude.{◌&&◌, is_err, map, slice_index, OnOk}
use Rattle.nr_units.specs.Source.{Supply}
use Rattle.nr_fill.specs.Line.{Lined, afforded}
use Rattle.nr_fill.specs.Piece.{add_cell, begins_line, is_nil, line_cells}
use Rattle.nr_fill.specs.declared.piece.CutAfter.TheVariants.{Letter}
use Rattle.nr_fill.specs.declared.line.LineCells.{LineCells}
use Rattle.nr_fill.proofs.Measures.{within_from_afforded}
use Rattle.nr_reading.specs.declared.event.Event.{Event}
use Rattle.nr_reading.specs.declared.event.Event.TheVariants as events
use Rattle.nr_reading.specs.declared.next_item.NextItem.TheVariants as next_items
use Rattle.nr_reading.specs.declared.half.Half.{Half}
use Rattle.nr_reading.specs.declared.many.runs.Run.{Run}
use Rattle.nr_reading.specs.declared.mode.Escape.TheVariants as escapes
use Rattle.nr_reading.specs.declared.mode.Mode.TheVariants as modes
use Rattle.nr_reading.specs.Many.InText.{IsInText}
use Rattle.nr_reading.specs.Many.Runs.{HasTakenIn, spot}
use Rattle.nr_reading.proofs.InText.{in_text}
use Rattle.nr_reading.proofs.Stretches.{taken_in_here, taken_last}
use Rattle.nr_input.specs.Place.{passed_run}
use Rattle.nr_formatter.specs.Access.{cell, collected, done, margins, with_collected}
use Rattle.nr_formatter.specs.Many.Runs.{IsInLine, is_in_line}
use Rattle.nr_formatter.specs.Moves.{heard}
use Rattle.nr_formatter.specs.Text.{letter}
use Rattle.nr_formatter.specs.Weights.{Falls}
use Rattle.nr_formatter.specs.declared.formatter.Formatter.{Formatter}
use Rattle.nr_formatter.proofs.TextFalls.{falls-text}
use Rattle.nr_machine.specs.State.{State, plainly}
use Rattle.nr_machine.specs.Machine.{step}
use Rattle.nr_machine.specs.Measures.{IsWithin}
use Rattle.nr_machine.specs.Holding.{Made, Shape, Stands, at}
use Rattle.nr_machine.proofs.NextMoves.{kind-hear, step-hear}
use Rattle.fast_machine.specs.NextEscapes.{BeginsMinus}
use Rattle.fast_machine.specs.Running.{Makes, PutsText, taken_shape, unburst}
use Rattle.fast_machine.proofs.EscapesPut.{Acts, emitted, puts_escape}
use Rattle.fast_machine.proofs.EscapesRead.{begun, byte_there, half_with, plain, plain_is, within}
use Rattle.fast_machine.proofs.Gliding.{glides-by}
use Rattle.fast_machine.proofs.LevelText.{made_glided}

-- ---- the bytes

abbrev pub minus : Event
minus = events.Plain (code "-")

-- its bytes, each taken by one move
abbrev pub minus_run : Run
minus_run = record { taken = 2; moves = 2; event = minus }

minus_taken_in : (bs : List ℕ) → BeginsMinus bs → (h : Half) → IsInText h → HasTakenIn 2 (map next_items.Byte bs) h (spot minus_run h)
minus_taken_in bs begins h is =
    let fs = map next_items.Byte bs in
    let few : 1 < length bs = begins.some in
    let second = byte_there bs 1 (code "-") few begins.minus in
    let all =
    taken_last fs 0 0 1 1 (code "-") (plain h) (half_with h escapes.Begun []) (plain h) minus (begun bs h (omega (arith, few)) begins.backslash) (within bs 1 few) refl second refl (omega arith) (λ none. let wrong : ⊥ = cc in absurd wrong)
    in
    subst (λ (k : Half). HasTakenIn 2 fs k (spot minus_run k)) (sym (plain_is h is)) (taken_in_here fs (plain h) (plain h) minus_run all)

-- ---- the move that puts the cell

-- the formatter with the cell put
abbrev pub minus_put : Formatter → Formatter
minus_put f = with_collected (add_cell (margins f) Letter (cell (code "-") f) (collected f)) f

-- it is heard as a cell
heard_minus : (f : Formatter) → f.reader.half.reading.mode ≡ modes.Text → begins_line (collected f) ≡ false → heard minus f ≡ done (minus_put f)
heard_minus f mode begun = rw (mode, begun) refl

letter_minus : (f : Formatter) → begins_line (collected f) ≡ false → letter (code "-") f ≡ done (minus_put f)
letter_minus f begun = rw begun refl

falls_minus : (f : Formatter) → f.event ≡ minus → begins_line (collected f) ≡ false → Falls 1 0 f (done (minus_put f))
falls_minus f event begun = subst (λ (g : Formatter). Falls 1 0 f g) (letter_minus f begun) (falls-text minus f event refl)

abbrev put_shape : Shape → Shape
put_shape e = record e { formatter = done (minus_put e.formatter) }

module _ (e : Shape) (event : e.formatter.event ≡ minus) (springs : e.formatter.springs ≡ None) (mode : e.formatter.reader.half.reading.mode ≡ modes.Text) (begun_line : begins_line (collected e.formatter) ≡ false)
    (room : line_cells (collected (minus_put e.formatter)) ≤ e.formatter.line.limit) where
  within_put : (s : State) → IsWithin (at e s) → IsWithin (plainly (λ f. done (minus_put f)) (at e s))
  within_put s w = record {
    formatter = record { stored = w.formatter.stored; depth = w.formatter.depth; line = room; burst = w.formatter.burst };
    page = w.page;
  }

  step_put : (s : State) → s.chosen ≡ [] → step (at e s) ≡ plainly (λ f. done (minus_put f)) (at e s)
  step_put s chosen = step-hear (at e s) minus chosen springs event ∙ ap (λ (f : Formatter). record (at e s) { formatter = f }) (heard_minus e.formatter mode begun_line)

  made_put : (supply : Option Supply) (held : Option (List ℕ)) (s : State) → Stands [] supply s e → Made [] (at e s) 1 (put_shape e) supply held held
  made_put supply held s h =
      let works = kind-hear (at e s) minus h.chosen_is springs event (λ is. let wrong : ⊥ = cc in wrong) in
      made_glided 1 e (done (minus_put e.formatter)) (done (minus_put e.formatter)) supply held s h refl (within_put s h.within)
      (glides-by (λ f. done (minus_put f)) (at e s) works (step_put s h.chosen_is) (within_put s h.within))

  makes_put : (supply : Option Supply) → Makes 1 e (put_shape e) supply supply
  makes_put supply =
      let falls = falls_minus e.formatter event begun_line in record {
        makes = λ held s h. made_put supply held s h;
        limit = falls.limit;
        most = falls.most;
        limits = refl;
        spends = let less = falls.falls e.place in omega (arith, less);
      }

-- ---- the whole escape

-- its cell was put, and passes no limit
pub minus_afforded : (f : Formatter) (l : Lined) (r : Result (Unit {0}) LineCells) → r ≡ afforded (minus_put f).line → OnOk r (l ≡ (minus_put f).line) → is_err r ≡ false
    → (line_cells (collected (minus_put f)) ≤ f.line.limit) × (l ≡ (minus_put f).line)
minus_afforded f l (Ok u) is put err = (within_from_afforded (minus_put f).line is, put)
minus_afforded f l (Err e) is put err = absurd (let wrong : true ≡ false = err in cc)

module _ (bs : List ℕ) (begins : BeginsMinus bs) (f : Formatter) (line : IsInLine f) (room : line_cells (collected (minus_put f)) ≤ f.line.limit) where
  acts_minus : Acts bs minus_run f.reader.half f (minus_put f)
  acts_minus = λ e supply is.
      let there = emitted bs minus_run f.reader.half e in
      let same : put_shape there ≡ taken_shape bs 2 (minus_put f) e =
      ap (λ (x : Formatter). record e { formatter = record (minus_put x) { reader = record x.reader { half = f.reader.half; burst = 0 }; event = events.Nothing }; place = passed_run (slice_index bs 1) 2 e.place }) is
      ∙ ap (λ x. record e { formatter = record (unburst (minus_put f)) { event = x }; place = passed_run (slice_index bs 1) 2 e.place }) (sym line.event)
      in
      subst (λ x. Makes 1 there x supply supply) same
      (makes_put there refl (ap (λ (x : Formatter). x.springs) is ∙ line.springs) (in_text f.reader.half line.half).mode (ap (λ (x : Formatter). begins_line (collected x)) is ∙ line.begun)
      (subst (λ (x : Formatter). line_cells (collected (minus_put x)) ≤ x.line.limit) (sym is) room) supply)

  pub puts_minus : PutsText bs 2 3 f (minus_put f)
  puts_minus =
      puts_escape bs f minus_run f.reader.half (record { springs = line.springs; event = line.event; task = line.task })
      (minus_taken_in bs begins f.reader.half (in_text f.reader.half line.half)) (omega arith) (minus_put f) refl acts_minus (omega arith) (omega arith)

and_false : (b : Bool) → (b && false) ≡ false
and_false true = refl
and_false false = refl

-- after it the line goes on
pub line_minus : (f : Formatter) → IsInLine f → is_in_line (minus_put f) ≡ true
line_minus f line = rw (line.springs, line.event, line.task, line.half, and_false (is_nil (collected f).pieces)) refl

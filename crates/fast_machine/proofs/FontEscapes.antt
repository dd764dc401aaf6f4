-- A font escape of the source at hand: the move that sets its font, and the line after it.
use Rattle.std.proofs.Common.{◌≡◌, ℕ, ◌+◌, ◌≤◌, true, List, [], Option, None, refl, ap, ◌∙◌, subst, arith}
use Rattle.std.specs.Prelude.{map, slice_index, ◌-◌}
use Rattle.nr_units.specs.Source.{Supply}
use Rattle.nr_reading.specs.declared.event.Event.TheVariants as events
use Rattle.nr_reading.specs.declared.next_item.NextItem.TheVariants as next_items
use Rattle.nr_reading.specs.declared.half.Half.{Half}
use Rattle.nr_reading.specs.declared.many.runs.Run.{Run}
use Rattle.nr_reading.specs.Many.InText.{is_in_text}
use Rattle.nr_reading.specs.Many.Interpolations.{interpolates}
use Rattle.nr_reading.specs.Many.LineBeginnings.{is_at_text as reads_text}
use Rattle.nr_reading.specs.Many.Runs.{HasTakenIn, spot}
use Rattle.nr_reading.proofs.InText.{in_text}
use Rattle.nr_input.specs.Place.{passed_run}
use Rattle.nr_formatter.specs.Many.LineBeginnings.{is_at_text}
use Rattle.nr_formatter.specs.Moves.{font_set}
use Rattle.nr_formatter.specs.Many.Runs.{is_in_line}
use Rattle.nr_formatter.specs.declared.formatter.Formatter.{Formatter}
use Rattle.nr_formatter.proofs.HearingFalls.{falls-control}
use Rattle.nr_formatter.proofs.PlainText.{in_line}
use Rattle.nr_machine.specs.State.{State, plainly}
use Rattle.nr_machine.specs.Measures.{IsWithin}
use Rattle.nr_machine.specs.Holding.{Made, ReadsNext, Shape, Stands, at}
use Rattle.fast_machine.specs.Running.{Makes, PutsText, taken_shape, unburst}
use Rattle.fast_machine.proofs.EscapesPut.{Acts, at_text, emitted, puts_escape}
use Rattle.fast_machine.proofs.Gliding.{glides-by}
use Rattle.fast_machine.proofs.LevelText.{made_glided}
use Rattle.nr_machine.proofs.NextMoves.{kind-hear, step-hear}

-- ---- the move that sets the font

-- with the font set that was asked for
abbrev set_shape : Shape → Shape
set_shape e = record e { formatter = font_set e.formatter }

module _ (e : Shape) (event : e.formatter.event ≡ events.Font) (springs : e.formatter.springs ≡ None) where
  within_set : (s : State) → IsWithin (at e s) → IsWithin (plainly font_set (at e s))
  within_set s w = record {
    formatter = record { stored = w.formatter.stored; depth = w.formatter.depth; line = w.formatter.line; burst = w.formatter.burst };
    page = w.page;
  }

  made_set : (supply : Option Supply) (held : Option (List ℕ)) (s : State) → Stands [] supply s e → Made [] (at e s) 1 (set_shape e) supply held held
  made_set supply held s h =
      let works = kind-hear (at e s) events.Font h.chosen_is springs event (λ is. let wrong : ⊥ = cc in wrong) in
      made_glided 1 e (font_set e.formatter) (font_set e.formatter) supply held s h refl (within_set s h.within)
      (glides-by font_set (at e s) works (step-hear (at e s) events.Font h.chosen_is springs event) (within_set s h.within))

  makes_set : (supply : Option Supply) → Makes 1 e (set_shape e) supply supply
  makes_set supply =
      let falls = falls-control events.Font e.formatter event (λ is. let wrong : ⊥ = cc in wrong) in record {
        makes = λ held s h. made_set supply held s h;
        limit = falls.limit;
        most = falls.most;
        limits = refl;
        spends = let less = falls.falls e.place in omega (arith, less);
      }

-- ---- the whole escape

-- the formatter after a font escape, with this half read
abbrev pub font_put : Half → Formatter → Formatter
font_put h f = font_set (record f { reader = record f.reader { half = h } })

acts_font : (bs : List ℕ) (f : Formatter) (run : Run) (h : Half) → f.springs ≡ None → run.event ≡ events.Font → Acts bs run h f (font_put h f)
acts_font bs f run h springs font = λ e supply is.
    let there = passed_run (slice_index bs (run.taken - 1)) run.taken e.place in
    let same : set_shape (emitted bs run h e) ≡ taken_shape bs run.taken (font_put h f) e = ap (λ (x : Formatter). record e { formatter = unburst (font_put h x); place = there }) is in
    subst (λ x. Makes 1 (emitted bs run h e) x supply supply) same
    (makes_set (emitted bs run h e) font (ap (λ (x : Formatter). x.springs) is ∙ springs) supply)

pub puts_font : (bs : List ℕ) (f : Formatter) (run : Run) (h : Half) → ReadsNext f → HasTakenIn run.moves (map next_items.Byte bs) f.reader.half (spot run h) → run.event ≡ events.Font
    → 3 ≤ run.taken → run.taken ≤ run.moves → run.moves ≤ run.taken + 1 → PutsText bs run.taken (run.moves + 1) f (font_put h f)
puts_font bs f run h reads taken_in font least few most =
    puts_escape bs f run h reads taken_in (omega (arith, least)) (font_put h f) refl (acts_font bs f run h reads.springs font) few most

-- ---- the text line that it stands in

pub half_at_text : (f : Formatter) → is_at_text f ≡ true → reads_text f.reader.half ≡ true
half_at_text f is = let text = at_text f is in text.half

pub text_reads : (f : Formatter) → is_at_text f ≡ true → ReadsNext f
text_reads f is = let text = at_text f is in record { springs = text.springs; event = text.event; task = text.task }

-- after the escape the line goes on
pub line_font : (h : Half) (f : Formatter) → is_at_text f ≡ true → is_in_text h ≡ true → is_in_line (font_put h f) ≡ true
line_font h f is half = let text = at_text f is in rw (text.springs, text.task, half, text.begun) refl

-- in which an escape is read
pub line_interpolates : (f : Formatter) → is_in_line f ≡ true → interpolates f.reader.half ≡ true
line_interpolates f is =
    let line = in_line f is in
    let half = in_text f.reader.half line.half in
    rw (half.mode, half.escape, half.asks) refl

-- An escape of the source at hand: the moves that read it, and the one that acts on it.
use Rattle.std.proofs.Common.{◌≡◌, ℕ, ◌+◌, ◌-◌, ◌≤◌, true, false, List, [], length, Option, None, Some, refl, sym, ap, ◌∙◌, subst, arith}
use Rattle.std.specs.Prelude.{◌&&◌, is_none, map, not, slice_index}
use Rattle.std.specs.Option.{option_map}
use Rattle.std.proofs.lemmas.Bool.{and_parts, not-true}
use Rattle.std.proofs.lemmas.List.{length-map}
use Rattle.nr_units.specs.Source.{Skips, Supply, skipped}
use Rattle.nr_fill.specs.Piece.{begins_line}
use Rattle.nr_reading.specs.declared.event.Event.{Event}
use Rattle.nr_reading.specs.declared.event.Event.TheVariants as events
use Rattle.nr_reading.specs.declared.next_item.NextItem.TheVariants as next_items
use Rattle.nr_reading.specs.declared.half.Half.{Half}
use Rattle.nr_reading.specs.declared.many.runs.Run.{Run}
use Rattle.nr_reading.specs.Many.LineBeginnings.{is_at_text as reads_text}
use Rattle.nr_reading.specs.Many.Runs.{HasTakenIn, spot}
use Rattle.nr_input.specs.Place.{Coming, HoldsComing, Reached, passed_run}
use Rattle.nr_input.specs.Moving.{situation}
use Rattle.fast_input.specs.Runs.{HasRead, PaysMany}
use Rattle.nr_input.specs.declared.reader.Reader.{Reader}
use Rattle.fast_input.proofs.LevelParts.{many_of_all}
use Rattle.fast_input.proofs.StretchesRead.{holds_past, source_pays, source_read, source_saves}
use Rattle.nr_formatter.specs.Access.{collected}
use Rattle.nr_formatter.specs.Limits.{FitsMemory}
use Rattle.nr_formatter.specs.Many.LineBeginnings.{is_at_text}
use Rattle.nr_formatter.specs.Many.Runs.{reads_next}
use Rattle.nr_formatter.specs.declared.formatter.Formatter.{Formatter}
use Rattle.nr_formatter.specs.declared.tasks.Task.{Task}
use Rattle.nr_formatter.specs.declared.tasks.Task.TheVariants as tasks
use Rattle.nr_machine.specs.State.{State}
use Rattle.nr_machine.specs.Holding.{ReadsNext, Shape, Stands}
use Rattle.fast_machine.specs.Running.{HasNext, Makes, PutsText, Saves, taken_shape, unburst}
use Rattle.fast_machine.proofs.ReadRuns.{makes_reading, read_shape}
use Rattle.fast_machine.proofs.Spending.{emitted_all}
use Rattle.fast_machine.proofs.Running.{makes-add}

-- the source is moved after what was taken
skips : (n : ℕ) (supply : Option Supply) → Skips supply n (option_map (skipped n) supply)
skips n None = tt
skips n (Some q) = refl

-- the escape was emitted, with this half read
abbrev pub emitted : List ℕ → Run → Half → Shape → Shape
emitted bs run h e =
    read_shape e.formatter.store (record e.formatter.reader { half = h; burst = 0 }) run.event (passed_run (slice_index bs (run.taken - 1)) run.taken e.place) e

-- one move acts on it, and makes this of the formatter, wherever the engine stands
abbrev pub Acts : List ℕ → Run → Half → Formatter → Formatter → Type 0
Acts bs run h f g =
    (e : Shape) (supply : Option Supply) → unburst e.formatter ≡ unburst f → Makes 1 (emitted bs run h e) (taken_shape bs run.taken g e) supply supply

module _ (bs : List ℕ) (f : Formatter) (run : Run) (h : Half) (reads : ReadsNext f) (taken_in : HasTakenIn run.moves (map next_items.Byte bs) f.reader.half (spot run h)) (least : 2 ≤ run.taken) where
  prefix : run.taken ≤ length bs
  prefix = omega (arith, taken_in.within, length-map bs next_items.Byte)

  -- wherever the engine stands with this formatter
  module _ (e : Shape) (supply : Option Supply) (is : unburst e.formatter ≡ unburst f) (has : HasNext bs e supply) where
    -- what comes after the escape, and where the program stands there
    abbrev rest : Option Supply
    rest = option_map (skipped run.taken) supply

    abbrev afterwards : Reader
    afterwards = record e.formatter.reader { half = h; burst = 0 }

    abbrev there : Reached
    there = passed_run (slice_index bs (run.taken - 1)) run.taken e.place

    reads_there : ReadsNext e.formatter
    reads_there = record {
      springs = ap (λ (x : Formatter). x.springs) is ∙ reads.springs;
      event = ap (λ (x : Formatter). x.event) is ∙ reads.event;
      task = ap (λ (x : Formatter). x.task) is ∙ reads.task;
    }

    taken_in_there : HasTakenIn run.moves (map next_items.Byte bs) e.formatter.reader.half (spot run h)
    taken_in_there = subst (λ (x : Formatter). HasTakenIn run.moves (map next_items.Byte bs) x.reader.half (spot run h)) (sym is) taken_in

    has_read : (c : Coming) → HoldsComing c e.place supply → HasRead run.moves (situation e.formatter.store c e.formatter.reader) run.event e.formatter.store afterwards there rest
    has_read c holds =
        source_read e.formatter.store c e.formatter.reader bs has.levels (has.next c holds) run.moves (spot run h) there rest (omega (arith, least)) taken_in_there
        (holds_past run.taken bs c e.place there supply rest (omega (arith, least)) prefix has.unseen (has.next c holds) holds (skips run.taken supply) refl)

    pays : PaysMany run.moves e.formatter.store e.place e.formatter.reader run.event e.formatter.store there afterwards
    pays =
        many_of_all run.moves _ _ _ _ _ _ run.event
        (source_pays run.moves (map next_items.Byte bs) e.formatter.store e.place e.formatter.reader (spot run h) taken_in_there (slice_index bs (run.taken - 1)) there (omega (arith, least)) refl)

    saves_reading : PaysMany (run.moves + 20) e.formatter.store e.place e.formatter.reader run.event e.formatter.store there afterwards
    saves_reading =
        many_of_all (run.moves + 20) _ _ _ _ _ _ run.event
        (source_saves run.moves (map next_items.Byte bs) e.formatter.store e.place e.formatter.reader (spot run h) taken_in_there (slice_index bs (run.taken - 1)) there (omega (arith, least)) refl)

    fits_there : (s : State) → Stands [] supply s e → FitsMemory (emitted bs run h e).formatter
    fits_there s stands = record { stored = stands.within.formatter.stored; depth = stands.within.formatter.depth; line = stands.within.formatter.line }

    reading : (s : State) → Stands [] supply s e → Makes run.moves e (emitted bs run h e) supply rest
    reading s stands = makes_reading run.moves run.event e.formatter.store afterwards there e supply rest reads_there has_read pays refl (fits_there s stands)

    makes_emitted : Makes run.moves e (emitted bs run h e) supply rest
    makes_emitted = record {
      makes = λ held s stands. (reading s stands).makes held s stands;
      limit = refl;
      most = refl;
      limits = refl;
      spends = emitted_all run.moves e.place there e.formatter e.formatter.store afterwards run.event reads_there.event reads_there.task pays;
    }

    -- and then it is acted on
    module _ (g : Formatter) (acts : Acts bs run h f g) where
      makes_escape : Makes (run.moves + 1) e (taken_shape bs run.taken g e) supply rest
      makes_escape = makes-add run.moves 1 e (emitted bs run h e) (taken_shape bs run.taken g e) supply rest rest makes_emitted (acts e rest is)

      saves_escape : Saves 20 (run.moves + 1) e (taken_shape bs run.taken g e)
      saves_escape =
          let read = emitted_all (run.moves + 20) e.place there e.formatter e.formatter.store afterwards run.event reads_there.event reads_there.task saves_reading in
          let acted = (acts e rest is).spends in
          omega (arith, read, acted)

  -- so it is put
  pub puts_escape : (g : Formatter) → g.store ≡ f.store → Acts bs run h f g → run.taken ≤ run.moves → run.moves ≤ run.taken + 1 → PutsText bs run.taken (run.moves + 1) f g
  puts_escape g store acts few most = record {
    prefix = prefix;
    least = omega (arith, few);
    most = omega (arith, most, least);
    none = λ none. absurd (omega (arith, none, least));
    store = store;
    makes = λ e supply is has some. makes_escape e supply is has g acts;
    saves = λ e supply is has some. saves_escape e supply is has g acts;
  }

-- ---- the text line that it stands in

-- at text the input is read next, and what is collected has begun
pub record IsAtText (f : Formatter) : Type 0 where
  pub springs : f.springs ≡ None
  pub event : f.event ≡ events.Nothing
  pub task : f.task ≡ tasks.Read
  pub half : reads_text f.reader.half ≡ true
  pub begun : begins_line (collected f) ≡ false

none_of : {X : Type 0} (o : Option X) → is_none o ≡ true → o ≡ None
none_of None is = refl
none_of (Some x) is = absurd (let wrong : false ≡ true = is in cc)

idle : (e : Event) (t : Task) → reads_next e t ≡ true → (e ≡ events.Nothing) × (t ≡ tasks.Read)
idle events.Nothing tasks.Read is = (refl, refl)
idle e t is = absurd (let wrong : false ≡ true = is in cc)

pub at_text : (f : Formatter) → is_at_text f ≡ true → IsAtText f
at_text f is =
    let all = and_parts ((is_none f.springs && reads_next f.event f.task) && reads_text f.reader.half) (not (begins_line (collected f))) is in
    let two = and_parts (is_none f.springs && reads_next f.event f.task) (reads_text f.reader.half) all.0 in
    let one = and_parts (is_none f.springs) (reads_next f.event f.task) two.0 in
    let both = idle f.event f.task one.1 in
    record { springs = none_of f.springs one.0; event = both.0; task = both.1; half = two.1; begun = not-true (begins_line (collected f)) all.1 }

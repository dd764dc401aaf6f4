-- A text line from its beginning: the byte that begins its text is read as in the midst of it.
use Prim.Native.Char.{code}
use Rattle.std.proofs.Common.{◌≡◌, ℕ, zero, suc, ◌+◌, ◌<◌, ◌≤◌, ◌^◌, Bool, true, false, ◌&&◌, List, [], ◌∷◌, Option, refl, sym, ap, ◌∙◌, subst, arith}
use Rattle.std.specs.Prelude.{◌==◌, is_none, not, slice_index}
use Rattle.std.proofs.lemmas.Bool.{ne_eqb}
use Rattle.nr_units.specs.Source.{MayGive, Supply}
use Rattle.nr_fill.specs.Piece.{begins_line}
use Rattle.nr_fill.specs.Plain.{IsPlain}
use Rattle.nr_reading.specs.declared.event.Event.TheVariants as events
use Rattle.nr_reading.specs.Many.InText.{is_in_text}
use Rattle.nr_reading.specs.Many.LineBeginnings.{IsBeforeLine, begins_control, text_begun as half_begun}
use Rattle.nr_reading.specs.Many.LineBeginnings as reading
use Rattle.nr_reading.specs.Half.{take_in}
use Rattle.nr_reading.specs.Weights.{blanks_owed, weight_of_half}
use Rattle.nr_reading.proofs.LineBeginnings.{before_line, begun_text, take_in-first}
use Rattle.fast_input.specs.AtHand.{ComeNext}
use Rattle.nr_input.specs.Place.{next_item}
use Rattle.nr_input.specs.Moving.{taken_in_at, situation}
use Rattle.nr_input.specs.Moving.{move as input_move}
use Rattle.nr_input.specs.Moving as input
use Rattle.nr_input.specs.declared.emitted.Emitted.TheVariants as tells
use Rattle.nr_store.specs.Store.{shown}
use Rattle.nr_formatter.specs.Access.{collected}
use Rattle.nr_formatter.specs.Many.LineBeginnings.{BeginsText, is_at_text, text_begun}
use Rattle.nr_formatter.specs.Many.Runs.{is_in_line, reads_next}
use Rattle.nr_formatter.specs.Weights as weights
use Rattle.nr_formatter.specs.Weights.{owed_by_task}
use Rattle.nr_formatter.specs.declared.formatter.Formatter.{Formatter}
use Rattle.nr_formatter.specs.declared.tasks.Task.TheVariants as tasks
use Rattle.nr_formatter.proofs.PlainText.{in_line}
use Rattle.nr_machine.specs.State.{State, plainly}
use Rattle.nr_machine.specs.Machine.{situation_of, state_after, step, with_situation}
use Rattle.nr_machine.specs.Run.{Goes, GoesBy, Runs}
use Rattle.nr_machine.specs.Holding.{Holds, Made, Shape, Stands, Wrote, at, weight}
use Rattle.fast_machine.specs.LineBeginnings.{begun_shape}
use Rattle.fast_machine.specs.Running.{HasNext, Makes, Saves}
use Rattle.fast_machine.proofs.Gliding.{emitted}
use Rattle.nr_machine.proofs.NextMoves.{kind-read, step-read}
use Rattle.fast_machine.proofs.PlainGaps.{first, first_of}
use Rattle.fast_machine.proofs.PlainText.{IsTyping, after_byte, after_many, escape, later-one, newline, reads_byte}
use Rattle.nr_machine.proofs.Standing.{state_after-add}

-- ---- where the text of a line begins

-- of four facts all but one hold in either case
split : (a t h n : Bool) → ((a && t) && n) ≡ true → ((a && h) && n) ≡ false → (t ≡ true) × (h ≡ false)
split true true true true at out = absurd (let wrong : true ≡ false = out in cc)
split true true false true at out = (refl, refl)
split true false h n at out = absurd (let wrong : false ≡ true = at in cc)
split true true h false at out = absurd (let wrong : false ≡ true = at in cc)
split false t h n at out = absurd (let wrong : false ≡ true = at in cc)

-- at text that is not in the midst of a line, the next item is read at a line's beginning
pub before : (f : Formatter) → is_at_text f ≡ true → is_in_line f ≡ false → IsBeforeLine f.reader.half
before f at out =
    let both = split (is_none f.springs && reads_next f.event f.task) (reading.is_at_text f.reader.half) (is_in_text f.reader.half) (not (begins_line (collected f))) at out in
    before_line f.reader.half both.0 both.1

-- once its text has begun, it is read in the midst of it
pub begun_line : (f : Formatter) → is_at_text f ≡ true → IsBeforeLine f.reader.half → is_in_line (text_begun f) ≡ true
begun_line f at is =
    let here : reading.is_at_text f.reader.half ≡ true = rw (is.mode, is.escape, is.pending_act, is.asks) refl in
    let same : is_in_text (half_begun f.reader.half) ≡ reading.is_at_text f.reader.half = begun_text f.reader.half is ∙ sym here in
    ap (λ t. ((is_none f.springs && reads_next f.event f.task) && t) && not (begins_line (collected f))) same ∙ at

-- and the same bytes would begin it there
pub begins_still : (bs : List ℕ) (f : Formatter) → BeginsText bs f → BeginsText bs (text_begun f)
begins_still bs f begins = record { some = begins.some; plain = begins.plain; control = begins.control; room = begins.room }

-- ---- the byte that begins it

-- the text of the line has begun
abbrev begun : State → State
begun s = plainly text_begun s

-- a plain byte is no blank
blank : (b : ℕ) → IsPlain b → (b == code " ") ≡ false
blank b plain = ne_eqb b (code " ") (λ e. omega (arith, plain.0, e))

-- it is read at a line's beginning as in the midst of the line
module _ (b : ℕ) (rest : List ℕ) (s : State) (typing : IsTyping (begun s)) (half : IsBeforeLine s.formatter.reader.half) (plain : IsPlain b)
    (control : begins_control b s.formatter.reader.half.signs ≡ false) (next : s.coming.supply.bytes ≡ b ∷ rest)
    (gives : MayGive s.coming.supply.faults) (few : s.coming.taken + 1 < 2 ^ 40) where
  -- the place of the source is another after it
  further : (s.coming.taken + 1 == s.coming.taken) ≡ false
  further = ne_eqb (s.coming.taken + 1) s.coming.taken (λ e. omega (arith, e))

  -- the next item is looked at
  looks : input_move (situation_of s) ≡ taken_in_at (take_in (next_item (shown s.formatter.store.levels) s.coming) s.formatter.reader.half) (situation_of s)
  looks = rw half.pending_act refl

  -- it begins the text
  takes_in : take_in (next_item (shown s.formatter.store.levels) s.coming) s.formatter.reader.half ≡ record { half = half_begun s.formatter.reader.half; event = events.Byte b; takes = true }
  takes_in = rw (typing.levels, next, take_in-first b s.formatter.reader.half half control (newline b plain) (escape b plain) (blank b plain)) refl

  -- it is taken and emitted
  takes : taken_in_at (record { half = half_begun s.formatter.reader.half; event = events.Byte b; takes = true }) (situation_of s)
      ≡ record { situation = situation s.formatter.store (after_many 1 s.coming) (record s.formatter.reader { half = half_begun s.formatter.reader.half; burst = 0 }); emitted = tells.Event (events.Byte b) }
  takes = rw (typing.levels, next, further, newline b plain, later-one s.coming.supply.faults) refl

  -- this is the first move
  reads_first : step s ≡ emitted b (after_byte (begun s))
  reads_first =
      step-read s typing.chosen typing.line.springs typing.line.event typing.line.task
      ∙ ap (λ m. with_situation m s) (looks ∙ ap (λ m. taken_in_at m (situation_of s)) takes_in ∙ takes)

  -- and it is made
  goes_first : Goes s
  goes_first =
      let reads = kind-read s typing.chosen typing.line.springs typing.line.event typing.line.task in
      let sees : input.Goes (situation_of s) = rw (half.pending_act, typing.levels, next) (gives, λ many. omega (arith, many, few)) in
      subst (λ k. GoesBy k s) (sym reads) sees

  -- the first move leads to the same state
  same_step : step s ≡ step (begun s)
  same_step = reads_first ∙ sym (reads_byte b rest (begun s) typing (newline b plain) (escape b plain) next gives few)

  -- and so do all
  same_after : (n : ℕ) → state_after (suc n) s ≡ state_after (suc n) (begun s)
  same_after n =
      let count : 1 + n ≡ suc n = omega arith in
      subst (λ k. state_after k s ≡ state_after k (begun s)) count
      (state_after-add s 1 n ∙ ap (state_after n) same_step ∙ sym (state_after-add (begun s) 1 n))

  -- they are made
  runs_first : (n : ℕ) → Runs (suc n) (begun s) → Runs (suc n) s
  runs_first n runs zero below = goes_first
  runs_first n runs (suc k) below = subst Goes (sym (same_after k)) (runs (suc k) below)

-- ---- the engine

-- the engine stands where it stood before the text began
stands_begun : (supply : Option Supply) (s : State) (e : Shape) → Stands [] supply s e → Stands [] supply s (begun_shape e)
stands_begun supply s e h = record {
  chosen_is = h.chosen_is;
  coming = h.coming;
  row = h.row;
  page = h.page;
  page_limit = h.page_limit;
  select = h.select;
  faces = h.faces;
  within = record {
    formatter = record { stored = h.within.formatter.stored; depth = h.within.formatter.depth; line = h.within.formatter.line; burst = h.within.formatter.burst };
    page = h.within.page;
  };
}

-- bytes that begin the text of a line come next
module _ (bs : List ℕ) (e : Shape) (supply : Option Supply) (at_text : is_at_text e.formatter ≡ true) (half : IsBeforeLine e.formatter.reader.half)
    (begins : BeginsText bs e.formatter) (has : HasNext bs e supply) where
  -- the next bytes are read in a text line that has begun
  typing_begun : (s : State) → Stands [] supply s e → IsTyping (begun (at e s))
  typing_begun s h = record {
    chosen = h.chosen_is;
    line = in_line (text_begun e.formatter) (begun_line e.formatter at_text half);
    levels = has.levels;
    within = (stands_begun supply s e h).within;
  }

  -- the moves from the text's beginning are those from the line's
  made_begun : (n : ℕ) (f : Shape) (supply' : Option Supply) (held : Option (List ℕ)) (s : State) → Stands [] supply s e
      → Made [] (at (begun_shape e) s) (suc n) f supply' held held → Made [] (at e s) (suc n) f supply' held held
  made_begun n f supply' held s h made =
      let b = slice_index bs 0 in
      let split = first_of bs b begins.some refl in
      let one = first b split.0 s.coming (subst (λ xs. ComeNext xs s.coming) split.1 (has.next s.coming h.coming)) in
      let typing = typing_begun s h in
      let wrote = made.wrote.wrote in
      let same = same_after b one.rest (at e s) typing half begins.plain begins.control one.is one.gives one.few n in
      record {
        runs = runs_first b one.rest (at e s) typing half begins.plain begins.control one.is one.gives one.few n made.runs;
        holds = subst (λ t. Holds [] supply' t f) (sym same) made.holds;
        wrote = subst (λ t. Wrote (at e s) t held held) (sym same) (record { wrote = (wrote.0, record { grows = wrote.1.grows }, wrote.2) });
      }

  -- what the text's beginning weighs more is paid
  weighs_begun : weight (begun_shape e) ≤ weight e + 20
  unfolding weights.weight weights.steps_left weights.owed
  weighs_begun =
      let line = in_line (text_begun e.formatter) (begun_line e.formatter at_text half) in
      let task : e.formatter.task ≡ tasks.Read = line.task in
      let before : weight_of_half e.formatter.reader.half + 20 ≡ weight_of_half (half_begun e.formatter.reader.half) = rw (half.mode, half.escape, half.pending_act) (omega arith) in
      let blanks : blanks_owed (half_begun e.formatter.reader.half) ≡ 0 = rw (half.pending_act) refl in
      let owed : owed_by_task e.formatter.task (half_begun e.formatter.reader.half) ≡ 0 = rw task refl in
      omega (arith, before, blanks, owed)

  -- so they are the engine's moves
  pub makes_begun : (n : ℕ) (f : Shape) (supply' : Option Supply) → 0 < n → Makes n (begun_shape e) f supply supply' → Saves 20 n (begun_shape e) f → Makes n e f supply supply'
  makes_begun zero f supply' some makes saves = absurd (omega (arith, some))
  makes_begun (suc n) f supply' some makes saves = record {
    makes = λ held s h. made_begun n f supply' held s h (makes.makes held s (stands_begun supply s e h));
    limit = makes.limit;
    most = makes.most;
    limits = makes.limits;
    spends = omega (arith, saves, weighs_begun);
  }

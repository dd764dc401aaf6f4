-- A byte of the source that goes to the word and does not end it: two moves.
use Prim.Native.Char.{code}
use Rattle.std.proofs.Common.{◌≡◌, ℕ, zero, suc, ◌+◌, ◌*◌, ◌<◌, ◌≤◌, true, false, List, [], ◌∷◌, length, take, drop, Option, refl, sym, ap, ◌∙◌, subst, arith}
use Rattle.std.specs.Prelude.{◌==◌, slice_index}
use Rattle.std.specs.Option.{option_map}
use Rattle.std.proofs.Math.Seq.{drop-cons}
use Rattle.nr_units.specs.Source.{Supply, skipped}
use Rattle.nr_fill.specs.Piece.{line_cells}
use Rattle.nr_reading.specs.declared.event.Event.TheVariants as events
use Rattle.nr_reading.proofs.InText.{in_text}
use Rattle.fast_input.specs.AtHand.{ComeNext}
use Rattle.nr_input.specs.Place.{Coming, HoldsComing, passed_run}
use Rattle.nr_input.specs.Weights.{expansions_worth}
use Rattle.nr_formatter.specs.Many.CellBytes.{IsCellByte, PutsCellBytes, byte_added, byte_put, goes_to_word}
use Rattle.nr_formatter.specs.Many.Runs.{IsInLine}
use Rattle.nr_formatter.specs.Weights as weights
use Rattle.nr_formatter.specs.declared.formatter.Formatter.{Formatter}
use Rattle.nr_formatter.proofs.CellBytes.{Blank, CellByte, Dash, Tab, cell_byte, heard-byte, weight-byte}
use Rattle.nr_machine.specs.State.{State}
use Rattle.nr_machine.specs.Machine.{step}
use Rattle.nr_machine.specs.Measures.{IsWithin}
use Rattle.nr_machine.specs.Run.{Goes}
use Rattle.nr_machine.specs.Holding.{Made, Shape, Stands, at}
use Rattle.fast_machine.specs.Running.{Makes, PutsText, Saves, unburst}
use Rattle.fast_machine.proofs.Gliding.{Glides, glides_heard, made_of, emitted}
use Rattle.nr_machine.proofs.NextMoves.{step-hear}
use Rattle.fast_machine.proofs.PlainGaps.{first, first_of, gone_shape, made_gone}
use Rattle.fast_machine.proofs.PlainText.{IsTyping, after_byte, after_many, goes_byte, line_after, paid, passed_many, reads_byte, stands_typing}
use Rattle.fast_machine.proofs.TextAtHand.{first_left, holds_inside, puts_byte, puts_on, some_left}

-- such a byte is no newline, and begins no escape
pub no_newline : (b : ℕ) (f : Formatter) → CellByte b f → (b == code "\n") ≡ false
no_newline b f (Blank is filling) = rw is refl
no_newline b f (Tab is field) = rw is refl
no_newline b f (Dash is) = rw is refl

pub no_escape : (b : ℕ) (f : Formatter) → CellByte b f → (b == code "\\") ≡ false
no_escape b f (Blank is filling) = rw is refl
no_escape b f (Tab is field) = rw is refl
no_escape b f (Dash is) = rw is refl

-- ---- it is read and heard

-- s is in front of the byte, t after it
module _ (s t : State) (b : ℕ) (chosen : t.chosen ≡ []) (line : IsInLine t.formatter) (goes : Goes s) (reads : step s ≡ emitted b t) (word : goes_to_word b t.formatter ≡ true) where
  step_byte : step (emitted b t) ≡ made_of (byte_put b) t
  step_byte =
      step-hear (emitted b t) (events.Byte b) chosen line.springs refl
      ∙ ap (λ f. record t { formatter = f }) (heard-byte (emitted b t).formatter (in_text t.formatter.reader.half line.half).mode line.begun b word)
      ∙ ap (λ e. record t { formatter = record (byte_put b t.formatter) { event = e } }) (sym line.event)

  pub glides_byte : IsWithin (made_of (byte_put b) t) → Glides s 2 (made_of (byte_put b) t)
  glides_byte within = glides_heard s t b chosen line goes reads (made_of (byte_put b) t) step_byte within

within_byte : (b : ℕ) (s : State) → IsTyping s → line_cells (byte_added b s.formatter) ≤ s.formatter.line.limit → IsWithin (made_of (byte_put b) (after_byte s))
within_byte b s typing fits = record {
  formatter = record { stored = typing.within.formatter.stored; depth = typing.within.formatter.depth; line = fits; burst = omega arith };
  page = typing.within.page;
}

-- ---- the engine

-- 20 moves more are paid
saves_byte : (b : ℕ) (e : Shape) → Saves 20 2 e (gone_shape (byte_put b) e)
unfolding weights.weight weights.steps_left weights.owed
saves_byte b e =
    omega (
      arith,
      weight-byte b (unburst e.formatter),
      paid (expansions_worth e.formatter.reader.most 0 e.formatter.store.limit) 1 e.place.taken (omega arith),
    )

module _ (b : ℕ) (bs : List ℕ) (e : Shape) (supply supply' : Option Supply) (levels : e.formatter.store.levels ≡ []) (byte : IsCellByte b e.formatter)
    (next : (c : Coming) → HoldsComing c e.place supply → ComeNext (b ∷ bs) c)
    (afterwards : (c : Coming) → HoldsComing c e.place supply → HoldsComing (after_many 1 c) (passed_many 1 e.place) supply') where
  made_byte : (held : Option (List ℕ)) (s : State) → Stands [] supply s e → Made [] (at e s) 2 (gone_shape (byte_put b) e) supply' held held
  made_byte held s h =
      let typing = stands_typing supply s e h byte.line levels in
      let which = cell_byte b e.formatter byte.goes in
      let x = first b bs s.coming (next s.coming h.coming) in
      let goes = goes_byte b x.rest (at e s) typing (no_newline b e.formatter which) (no_escape b e.formatter which) x.is x.gives x.few in
      let reads = reads_byte b x.rest (at e s) typing (no_newline b e.formatter which) (no_escape b e.formatter which) x.is x.gives x.few in
      let within = within_byte b (at e s) typing byte.within in
      made_gone 2 (byte_put b) e supply supply' held s h (afterwards s.coming h.coming) within
      (glides_byte (at e s) (after_byte (at e s)) b h.chosen_is (line_after (at e s) typing) goes reads byte.goes within)

  makes_byte : Makes 2 e (gone_shape (byte_put b) e) supply supply'
  makes_byte = record { makes = made_byte; limit = refl; most = refl; limits = refl; spends = (let saves = saves_byte b e in omega (arith, saves)) }

-- the same place, written in another way
place_inside : (b : ℕ) (e : Shape) → (b == code "\n") ≡ false → gone_shape (byte_put b) e ≡ record e { formatter = byte_put b (unburst e.formatter); place = passed_run b 1 e.place }
place_inside b e is = rw is refl

-- ---- text at hand

module _ (b : ℕ) (bs : List ℕ) (f : Formatter) (some : 0 < length bs) (is_first : slice_index bs 0 ≡ b) (byte : IsCellByte b f) where
  -- it is so whatever was spliced before it
  byte_there : (e : Shape) → unburst e.formatter ≡ unburst f → IsCellByte b e.formatter
  byte_there e is =
      let here : IsCellByte b (unburst f) = record { line = byte.line; goes = byte.goes; within = byte.within } in
      let there = subst (IsCellByte b) (sym is) here in
      record { line = there.line; goes = there.goes; within = there.within }

  inside : (e : Shape) → unburst e.formatter ≡ unburst f → gone_shape (byte_put b) e ≡ record e { formatter = byte_put b (unburst e.formatter); place = passed_run b 1 e.place }
  inside e is = let there = byte_there e is in place_inside b e (no_newline b e.formatter (cell_byte b e.formatter there.goes))

  puts_cell_byte : PutsText bs 1 2 f (byte_put b f)
  puts_cell_byte =
      puts_byte b 2 bs f (byte_put b) some is_first (omega arith) (omega arith) refl refl
      (λ e supply is has. subst (λ x. Makes 2 e x supply (option_map (skipped 1) supply)) (inside e is)
      (makes_byte b (first_of bs b some is_first).0 e supply (option_map (skipped 1) supply) has.levels (byte_there e is)
      (λ c h. subst (λ xs. ComeNext xs c) (first_of bs b some is_first).1 (has.next c h)) (λ c h. holds_inside 1 c e.place supply has.unseen h)))
      (λ e is. subst (λ x. Saves 20 2 e x) (inside e is) (saves_byte b e))

-- after the first t bytes comes such a byte
module _ (t m b : ℕ) (bs : List ℕ) (f g : Formatter) (puts : PutsText bs t m f g) (below : t < length bs) (is_next : slice_index bs t ≡ b) (byte : IsCellByte b g) where
  pub turn_byte : (h : Formatter) → h ≡ byte_put b g → PutsText bs (t + 1) (m + 2) f h
  turn_byte h is =
      puts_on t m 1 2 bs f g h puts (subst (λ (x : Formatter). PutsText (drop t bs) 1 2 g x) (sym is)
      (puts_cell_byte b (drop t bs) g (some_left t bs below) (first_left t b bs is_next) byte))

-- What each such byte keeps, which is of how many bytes were put in how many moves, all of them keep.
module _ (P : ℕ → ℕ → Formatter → Type 0) (bs : List ℕ) (one : (t m : ℕ) (g : Formatter) → P t m g → t < length bs → IsCellByte (slice_index bs t) g → P (t + 1) (m + 2) (byte_put (slice_index bs t) g)) where
  pub bytes_on : (n t m : ℕ) (g h : Formatter) → P t m g → t + n ≤ length bs → PutsCellBytes (take n (drop t bs)) g h → P (t + n) (m + 2 * n) h
  bytes_on zero t m g h put within cells =
      let taken : t ≡ t + 0 = omega arith in
      let moves : m ≡ m + 2 * 0 = omega arith in
      subst (λ i. P i (m + 2 * 0) h) taken (subst (λ j. P t j h) moves (subst (λ (x : Formatter). P t m x) (sym cells) put))
  bytes_on (suc n) t m g h put within cells =
      let below : t < length bs = omega (arith, within) in
      let b = slice_index bs t in
      let afterwards : suc t ≡ t + 1 = omega arith in
      let here : PutsCellBytes (b ∷ take n (drop (suc t) bs)) g h = subst (λ xs. PutsCellBytes (take (suc n) xs) g h) (drop-cons bs t 0 below) cells in
      let others : PutsCellBytes (take n (drop (t + 1) bs)) (byte_put b g) h = subst (λ k. PutsCellBytes (take n (drop k bs)) (byte_put b g) h) afterwards here.1 in
      let more = bytes_on n (t + 1) (m + 2) (byte_put b g) h (one t m g put below here.0) (omega (arith, within)) others in
      let taken : t + 1 + n ≡ t + suc n = omega arith in
      let moves : m + 2 + 2 * n ≡ m + 2 * suc n = omega arith in
      subst (λ i. P i (m + 2 * suc n) h) taken (subst (λ j. P (t + 1 + n) j h) moves more)

-- after the first t bytes come n such bytes
pub turn_bytes : (n t m : ℕ) (bs : List ℕ) (f g h : Formatter) → PutsText bs t m f g → t + n ≤ length bs → PutsCellBytes (take n (drop t bs)) g h → PutsText bs (t + n) (m + 2 * n) f h
turn_bytes n t m bs f g h puts within cells =
    bytes_on (λ i j x. PutsText bs i j f x) bs (λ i j x put below byte. turn_byte i j (slice_index bs i) bs f x put below refl byte (byte_put (slice_index bs i) x) refl) n t m g h puts within cells

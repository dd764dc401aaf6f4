-- Words that come of levels, in a text line that has begun.
use Prim.Native.Char.{code}
use Rattle.std.proofs.Common.{◌≡◌, ℕ, zero, suc, ◌+◌, ◌*◌, ◌<◌, ◌≤◌, true, List, [], ◌∷◌, length, take, drop, Option, refl, sym, ap, ◌∙◌, subst, arith, length-drop, length-take-le}
use Rattle.std.specs.Prelude.{slice_index}
use Rattle.std.proofs.Math.Seq.{drop-cons, take-add}
use Rattle.std.proofs.lemmas.List.{take_rest}
use Rattle.nr_units.specs.Source.{Supply}
use Rattle.nr_fill.specs.Piece.{line_cells}
use Rattle.nr_fill.specs.Plain.{IsPlain}
use Rattle.nr_store.specs.Store.{Level, Read, Reading, Stored}
use Rattle.nr_store.specs.Windows.{levels_after, rest_of}
use Rattle.nr_store.specs.declared.element.Element.{Element}
use Rattle.nr_store.specs.declared.element.Element.TheVariants as elements
use Rattle.nr_settings.specs.Fonts.{present_look}
use Rattle.nr_input.specs.declared.reader.Reader.{Reader}
use Rattle.nr_formatter.specs.Access.{collected, margins}
use Rattle.nr_formatter.specs.Many.CellBytes.{IsCellByte, PutsCellBytes, byte_put}
use Rattle.nr_formatter.specs.Lines.{fits_line}
use Rattle.nr_formatter.specs.Many.Runs.{IsGap, IsInLine, gap_flows, gap_put, gapped, is_in_line, run_put}
use Rattle.nr_formatter.specs.Weights as weights
use Rattle.nr_formatter.specs.declared.formatter.Formatter.{Formatter}
use Rattle.nr_formatter.specs.declared.tasks.Resume.{Resume}
use Rattle.nr_formatter.proofs.CellBytes.{CellByte, cell_byte, weight-byte}
use Rattle.nr_formatter.proofs.PlainText.{in_line, line_cells-run}
use Rattle.nr_machine.specs.State.{State}
use Rattle.nr_machine.specs.Machine.{step}
use Rattle.nr_machine.specs.Measures.{IsWithin}
use Rattle.nr_machine.specs.Holding.{Made, Shape, Stands, at, weight, worth}
use Rattle.fast_machine.specs.Running.{Flows, IsFurther, Makes, PutsOfFlow, with_read}
use Rattle.fast_machine.proofs.CellBytes.{bytes_on, glides_byte, no_escape, no_newline}
use Rattle.fast_machine.proofs.Flows.{Puts, flows-add, flows_none, flows_one, further_is, line_further}
use Rattle.fast_machine.proofs.Gliding.{Glides, made_of, emitted}
use Rattle.fast_machine.proofs.LevelText.{Showing, at_text, goes_byte, level_gone, line_there, made_glided, makes_flows, makes_gap, makes_plain, one_left, reads_byte, showing, within_text}
use Rattle.fast_machine.proofs.PlainText.{ArePlain, first_plain, others_plain}
use Rattle.fast_machine.proofs.RereadCells.{items_fewer}
use Rattle.fast_machine.proofs.TextAtHand.{rest_of as bytes_after, turn_line}

-- ---- a byte that goes to the word and does not end it

module _ (b : ℕ) (e : Shape) (supply : Option Supply) (held : Option (List ℕ)) (s : State) (h : Stands [] supply s e) (byte : IsCellByte b e.formatter)
    (l : Reading Resume) (ls : List (Level Resume)) (xs : List Element) (levels_is : e.formatter.store.levels ≡ Read (record l { rest = elements.Byte b ∷ xs }) ∷ ls) where
  abbrev from : State
  from = at_text l ls (elements.Byte b ∷ xs) (at e s)

  abbrev there : State
  there = at_text l ls xs (at e s)

  start_is : from ≡ at e s
  start_is = ap (λ v. record (at e s) { formatter = record e.formatter { store = record e.formatter.store { levels = v } } }) (sym levels_is)

  which : CellByte b e.formatter
  which = cell_byte b e.formatter byte.goes

  line : IsInLine e.formatter
  line = in_line e.formatter byte.line

  reads : step from ≡ emitted b there
  reads = reads_byte l ls b xs (at e s) h.chosen_is line (no_newline b e.formatter which) (no_escape b e.formatter which)

  within_there : IsWithin there
  within_there = within_text l ls (elements.Byte b ∷ xs) xs [] (at e s) (subst IsWithin (sym start_is) h.within) h.within.formatter.line

  within_put : IsWithin (made_of (byte_put b) there)
  within_put = record {
    formatter = record { stored = within_there.formatter.stored; depth = within_there.formatter.depth; line = byte.within; burst = within_there.formatter.burst };
    page = within_there.page;
  }

  formatter_is : (level_gone (byte_put b) e).formatter ≡ byte_put b there.formatter
  formatter_is = ap (λ v. byte_put b (record e.formatter { store = record e.formatter.store { levels = v } })) (ap (levels_after 1) levels_is)

  made_byte : Made [] (at e s) 2 (level_gone (byte_put b) e) supply held held
  made_byte =
      made_glided 2 e (byte_put b there.formatter) (level_gone (byte_put b) e).formatter supply held s h formatter_is within_put
      (subst (λ t. Glides t 2 (made_of (byte_put b) there)) start_is
      (glides_byte from there b h.chosen_is (line_there l ls xs (at e s) line) (goes_byte l ls b xs (at e s) h.chosen_is line) reads byte.goes within_put))

byte_spends : (b : ℕ) (e : Shape) → 1 ≤ length (rest_of e.formatter.store.levels) → weight (level_gone (byte_put b) e) + 2 + worth e * e.place.taken ≤ weight e + worth e * e.place.taken
unfolding weights.weight weights.steps_left weights.owed
byte_spends b e few = omega (arith, items_fewer 1 e.formatter.store.levels few, weight-byte b e.formatter)

makes_byte : (b : ℕ) (e : Shape) (supply : Option Supply) → IsCellByte b e.formatter → Showing e.formatter.store.levels (elements.Byte b) → Makes 2 e (level_gone (byte_put b) e) supply supply
makes_byte b e supply byte there = record {
  makes = λ held s h. made_byte b e supply held s h byte there.l there.ls there.xs there.is;
  limit = refl;
  most = refl;
  limits = refl;
  spends = byte_spends b e (one_left e.formatter.store.levels (elements.Byte b) there);
}

-- ---- one byte, wherever it comes of levels

-- a plain byte
puts_plain : (b : ℕ) (f : Formatter) → is_in_line f ≡ true → IsPlain b → line_cells (collected (run_put (b ∷ []) f)) ≤ f.line.limit → Puts b 2 f (run_put (b ∷ []) f)
puts_plain b f line plain fits = λ v r is shows e. record {
  makes = λ supply. makes_plain b (record e { formatter = with_read v r f }) supply (line_further f v r is line) plain fits (showing v.levels (elements.Byte b) shows);
  place = refl;
}

-- a blank that does nothing but end its word
gap_further : (f : Formatter) (v : Stored Resume) (r : Reader) → IsFurther f v r → IsGap f → IsGap (with_read v r f)
gap_further f v r is gap = subst IsGap (further_is f v r is) (record { plain = gap.plain; within = gap.within })

puts_flows : (f : Formatter) → is_in_line f ≡ true → IsGap f → Puts (code " ") 2 f (gap_flows f)
puts_flows f line gap = λ v r is shows e. record {
  makes = λ supply. makes_flows (record e { formatter = with_read v r f }) supply (line_further f v r is line) (gap_further f v r is gap) shows;
  place = refl;
}

puts_gap : (f : Formatter) → is_in_line f ≡ true → IsGap f → fits_line (gapped (collected f)) ≡ true → Puts (code " ") 3 f (gap_put f)
puts_gap f line gap fits = λ v r is shows e. record {
  makes = λ supply. makes_gap (record e { formatter = with_read v r f }) supply (line_further f v r is line) (gap_further f v r is gap) shows fits;
  place = refl;
}

-- a byte that goes to the word and does not end it
puts_cell : (b : ℕ) (f : Formatter) → IsCellByte b f → Puts b 2 f (byte_put b f)
puts_cell b f byte = λ v r is shows e. record {
  makes = λ supply.
      makes_byte b (record e { formatter = with_read v r f }) supply (record { line = line_further f v r is byte.line; goes = byte.goes; within = byte.within }) (showing v.levels (elements.Byte b) shows);
  place = refl;
}

-- ---- plain bytes

first_fits : (b : ℕ) (bs : List ℕ) (f : Formatter) → line_cells (collected (run_put (b ∷ bs) f)) ≤ f.line.limit → line_cells (collected (run_put (b ∷ []) f)) ≤ f.line.limit
first_fits b bs f fits =
    omega (
      arith,
      fits,
      line_cells-run (margins f) (present_look f.settings.fonts) b bs (collected f),
      line_cells-run (margins f) (present_look f.settings.fonts) b [] (collected f),
    )

flows_run : (bs : List ℕ) (f : Formatter) → is_in_line f ≡ true → ArePlain bs → (0 < length bs → line_cells (collected (run_put bs f)) ≤ f.line.limit) → Flows bs (2 * length bs) f (run_put bs f)
flows_run [] f line plain fits = flows_none f
flows_run (b ∷ bs) f line plain fits =
    let fits_one = first_fits b bs f (fits (omega arith)) in
    let g : Formatter = run_put (b ∷ []) f in
    let count : 2 + 2 * length bs ≡ 2 * length (b ∷ bs) = omega arith in
    subst (λ n. Flows (b ∷ bs) n f (run_put (b ∷ bs) f)) count
    (flows-add (b ∷ []) bs 2 (2 * length bs) f g (run_put (b ∷ bs) f) refl refl (λ within. fits_one) (flows_one b 2 f g line (puts_plain b f line (first_plain b bs plain) fits_one))
    (flows_run bs g (turn_line (b ∷ []) f g line refl) (others_plain b bs plain) (λ some. fits (omega arith))))

-- ---- one turn

-- nothing was put
pub none_of_flow : (bs : List ℕ) (f : Formatter) → PutsOfFlow bs 0 0 f f
none_of_flow bs f = record {
  prefix = omega arith;
  most = omega arith;
  store = refl;
  reader = refl;
  within = λ fits. fits;
  makes = flows_none f;
}

-- n more of these bytes were put in k moves
module _ (t m n k : ℕ) (bs : List ℕ) (f g h : Formatter) (puts : PutsOfFlow bs t m f g) (prefix : t + n ≤ length bs) (few : k ≤ 5 * n) (store : h.store ≡ g.store) (reader : h.reader ≡ g.reader)
    (within : line_cells (collected g) ≤ g.line.limit → line_cells (collected h) ≤ h.line.limit) where
  flow_on : Flows (take n (drop t bs)) k g h → PutsOfFlow bs (t + n) (m + k) f h
  flow_on flows = record {
    prefix = prefix;
    most = omega (arith, puts.most, few);
    store = store ∙ puts.store;
    reader = reader ∙ puts.reader;
    within = λ fits. within (puts.within fits);
    makes =
        subst (λ xs. Flows xs (m + k) f h) (sym (take-add t n bs))
        (flows-add (take t bs) (take n (drop t bs)) m k f g h puts.store puts.reader puts.within puts.makes flows);
  }

-- after the first t bytes comes a run
run_within : (n : ℕ) (xs : List ℕ) (g : Formatter) → (0 < n → line_cells (collected (run_put (take n xs) g)) ≤ g.line.limit) → line_cells (collected g) ≤ g.line.limit
    → line_cells (collected (run_put (take n xs) g)) ≤ g.line.limit
run_within zero xs g fits within = within
run_within (suc n) xs g fits within = fits (omega arith)

pub flow_run : (t m n : ℕ) (bs : List ℕ) (f g h : Formatter) → PutsOfFlow bs t m f g → is_in_line g ≡ true → n ≤ length (bytes_after t bs) → ArePlain (take n (bytes_after t bs))
    → h ≡ run_put (take n (bytes_after t bs)) g → (0 < n → line_cells (collected h) ≤ h.line.limit) → PutsOfFlow bs (t + n) (m + 2 * n) f h
flow_run t m n bs f g h puts line prefix plain is fits =
    let whole : bytes_after t bs ≡ drop t bs = take_rest bs t in
    let few : n ≤ length (drop t bs) = subst (λ xs. n ≤ length xs) whole prefix in
    let xs : List ℕ = take n (drop t bs) in
    let count : length xs ≡ n = length-take-le n (drop t bs) few in
    let put : h ≡ run_put xs g = is ∙ ap (λ ys. run_put (take n ys) g) whole in
    let fits_put : 0 < n → line_cells (collected (run_put xs g)) ≤ g.line.limit = λ some. subst (λ (x : Formatter). line_cells (collected x) ≤ x.line.limit) put (fits some) in
    let flows = flows_run xs g line (subst (λ ys. ArePlain (take n ys)) whole plain) (λ some. fits_put (omega (arith, some, count))) in
    subst (λ (x : Formatter). PutsOfFlow bs (t + n) (m + 2 * n) f x) (sym put)
    (flow_on t m n (2 * n) bs f g (run_put xs g) puts (omega (arith, few, puts.prefix, length-drop t bs)) (omega arith) refl refl (run_within n (drop t bs) g fits_put)
    (subst (λ k. Flows xs (2 * k) g (run_put xs g)) count flows))

-- after the first t bytes comes this one
one_after : (t b : ℕ) (bs : List ℕ) → t < length bs → slice_index bs t ≡ b → take 1 (drop t bs) ≡ b ∷ []
one_after t b bs below is = ap (take 1) (drop-cons bs t 0 below) ∙ ap (λ c. c ∷ []) is

module _ (t m b k : ℕ) (bs : List ℕ) (f g h : Formatter) (puts : PutsOfFlow bs t m f g) (line : is_in_line g ≡ true) (below : t < length bs) (is : slice_index bs t ≡ b) (few : k ≤ 5) where
  flow_one : h.store ≡ g.store → h.reader ≡ g.reader → line_cells (collected h) ≤ h.line.limit → Puts b k g h → PutsOfFlow bs (t + 1) (m + k) f h
  flow_one store reader fits put =
      flow_on t m 1 k bs f g h puts (omega (arith, below)) (omega (arith, few)) store reader (λ within. fits)
      (subst (λ xs. Flows xs k g h) (sym (one_after t b bs below is)) (flows_one b k g h line put))

-- and after it comes a blank
module _ (t m : ℕ) (bs : List ℕ) (f g : Formatter) (puts : PutsOfFlow bs t m f g) (line : is_in_line g ≡ true) (below : t < length bs) (blank : slice_index bs t ≡ code " ") (gap : IsGap g) where
  -- the line is full then
  pub flow_flows : (h : Formatter) → h ≡ gap_flows g → PutsOfFlow bs (t + 1) (m + 2) f h
  flow_flows h is =
      subst (λ (x : Formatter). PutsOfFlow bs (t + 1) (m + 2) f x) (sym is)
      (flow_one t m (code " ") 2 bs f g (gap_flows g) puts line below blank (omega arith) refl refl gap.within (puts_flows g line gap))

  -- or it is not
  pub flow_gap : (h : Formatter) → fits_line (gapped (collected g)) ≡ true → h ≡ gap_put g → PutsOfFlow bs (t + 1) (m + 3) f h
  flow_gap h fits is =
      subst (λ (x : Formatter). PutsOfFlow bs (t + 1) (m + 3) f x) (sym is)
      (flow_one t m (code " ") 3 bs f g (gap_put g) puts line below blank (omega arith) refl refl gap.within (puts_gap g line gap fits))

-- and after it comes a byte that goes to the word and does not end it
flow_byte : (t m b : ℕ) (bs : List ℕ) (f g h : Formatter) → PutsOfFlow bs t m f g → t < length bs → slice_index bs t ≡ b → IsCellByte b g → h ≡ byte_put b g
    → PutsOfFlow bs (t + 1) (m + 2) f h
flow_byte t m b bs f g h puts below is byte put =
    subst (λ (x : Formatter). PutsOfFlow bs (t + 1) (m + 2) f x) (sym put)
    (flow_one t m b 2 bs f g (byte_put b g) puts byte.line below is (omega arith) refl refl byte.within (puts_cell b g byte))

-- and after them come n such bytes
pub flow_bytes : (n t m : ℕ) (bs : List ℕ) (f g h : Formatter) → PutsOfFlow bs t m f g → t + n ≤ length bs → PutsCellBytes (take n (drop t bs)) g h → PutsOfFlow bs (t + n) (m + 2 * n) f h
flow_bytes n t m bs f g h puts within cells =
    bytes_on (λ i j x. PutsOfFlow bs i j f x) bs (λ i j x put below byte. flow_byte i j (slice_index bs i) bs f x (byte_put (slice_index bs i) x) put below refl byte refl) n t m g h puts within cells

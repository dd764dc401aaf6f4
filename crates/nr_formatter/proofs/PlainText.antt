-- Runs of bytes that stand for themselves, byte by byte.
use Prim.Native.Char.{code}
use Rattle.std.proofs.Common.{◌≡◌, ℕ, ◌+◌, ◌*◌, ◌≤◌, Bool, true, false, ◌&&◌, List, [], ◌∷◌, length, Option, None, Some, refl, sym, ap, ◌∙◌, arith, length-append, ◌++◌}
use Rattle.std.specs.Prelude.{◌==◌, if◌then◌else◌, nat_lt, not, is_none}
use Rattle.std.proofs.lemmas.Bool.{ne_eqb, le-leb, lt-ltb}
use Rattle.nr_vectors.specs.declared.cell.Cell.{Cell}
use Rattle.nr_vectors.specs.declared.cell.Look.{Look}
use Rattle.nr_settings.specs.declared.indents.Margins.{Margins}
use Rattle.nr_fill.specs.declared.piece.CutAfter.TheVariants.{Letter}
use Rattle.nr_fill.specs.Piece.{Collected, Word, add_cell, begins_line, end_word, one_blank_more, is_nil, line_cells, may_hyphenate, text_cells}
use Rattle.nr_fill.specs.Plain.{IsPlain, run_cell}
use Rattle.nr_fill.specs.Runs.{add_run}
use Rattle.nr_fill.proofs.Measures.{line_cells-add_cell}
use Rattle.nr_reading.specs.Many.InText.{is_in_text}
use Rattle.nr_reading.specs.Many.Rereading.{is_rereading}
use Rattle.nr_reading.specs.declared.event.Event.{Event}
use Rattle.nr_reading.specs.declared.event.Event.TheVariants as events
use Rattle.nr_reading.specs.declared.mode.Mode.TheVariants as modes
use Rattle.nr_settings.specs.Characters.{prints}
use Rattle.nr_formatter.specs.declared.formatter.Formatter.{Formatter}
use Rattle.nr_formatter.specs.declared.tasks.After.TheVariants as afters
use Rattle.nr_formatter.specs.declared.tasks.Task.{Task}
use Rattle.nr_formatter.specs.declared.tasks.Task.TheVariants as tasks
use Rattle.nr_formatter.specs.Access.{collected, done, is_filling, with_collected}
use Rattle.nr_formatter.specs.Lines.{breaks_after, pointed, reads_a_field}
use Rattle.nr_formatter.specs.Moves.{heard}
use Rattle.nr_formatter.specs.Many.Runs.{IsInLine, is_in_line, reads_next, run_put, gaps_plainly, gapped, gap_flows, is_rereading_line, IsRereadingLine}
use Rattle.nr_formatter.specs.Places.{outlet, is_on_page}
use Rattle.nr_formatter.specs.Text.{text_byte, blank, gap_blank, has_word}
use Rattle.nr_formatter.specs.Weights.{weight_of_line}
use Rattle.nr_formatter.proofs.LineWeights.{weight-add_cell}

plain_prints : (b : ℕ) → IsPlain b → prints b ≡ true
plain_prints b plain = rw (le-leb (code " ") b (omega (arith, plain.0)), ne_eqb b 127 plain.3) refl

-- a plain byte is heard as a cell of its word
pub heard-plain : (b : ℕ) (f : Formatter) → IsPlain b → f.reader.half.reading.mode ≡ modes.Text → begins_line (collected f) ≡ false
    → heard (events.Byte b) f ≡ done (run_put (b ∷ []) f)
unfolding text_byte
heard-plain b f plain mode begun =
    let blank : (b == code " ") ≡ false = ne_eqb b (code " ") (λ e. omega (arith, plain.0, e)) in
    let tab : (b == code "\t") ≡ false = ne_eqb b (code "\t") (λ e. omega (arith, plain.0, e)) in
    let leader : (b == 1) ≡ false = ne_eqb b 1 (λ e. omega (arith, plain.0, e)) in
    let hyphen : (b == code "-") ≡ false = ne_eqb b (code "-") plain.1 in
    rw (mode, blank, tab, leader, plain_prints b plain, hyphen, begun) refl

-- ---- the line

and_false : (b : Bool) → (b && false) ≡ false
and_false true = refl
and_false false = refl

-- a line with a cell in its word has begun
pub begun-cell : (m : Margins) (x : Cell) (c : Collected) → begins_line (add_cell m Letter x c) ≡ false
begun-cell m x c = and_false (is_nil c.pieces)

text_cells-cell : (m : Margins) (x : Cell) (c : Collected) → text_cells (add_cell m Letter x c) ≡ text_cells c + 1
text_cells-cell m x c = let one = line_cells-add_cell m Letter x c in omega (arith, one)

-- a run is as many cells as it has bytes
line_cells-cells : (m : Margins) (look : Look) (x : Cell) (bs : List ℕ) (c : Collected)
    → line_cells (add_run m look bs (add_cell m Letter x c)) ≡ text_cells c + 1 + length bs
line_cells-cells m look x [] c = omega (arith, line_cells-add_cell m Letter x c)
line_cells-cells m look x (b ∷ bs) c =
    omega (arith, line_cells-cells m look (run_cell look b) bs (add_cell m Letter x c), text_cells-cell m x c)

pub line_cells-run : (m : Margins) (look : Look) (b : ℕ) (bs : List ℕ) (c : Collected) → line_cells (add_run m look (b ∷ bs) c) ≡ text_cells c + 1 + length bs
line_cells-run m look b bs c = line_cells-cells m look (run_cell look b) bs c

-- each byte may add 175
pub weight-run : (m : Margins) (look : Look) (bs : List ℕ) (c : Collected) → weight_of_line (add_run m look bs c) ≤ weight_of_line c + 175 * length bs
weight-run m look [] c = omega arith
weight-run m look (b ∷ bs) c =
    omega (arith, weight-run m look bs (add_cell m Letter (run_cell look b) c), weight-add_cell m Letter (run_cell look b) c)

-- ---- in a line

both : (a b : Bool) → (a && b) ≡ true → (a ≡ true) × (b ≡ true)
both true true is = (refl, refl)
both true false is = absurd (let wrong : false ≡ true = is in cc)
both false b is = absurd (let wrong : false ≡ true = is in cc)

is_idle : (e : Event) (t : Task) → reads_next e t ≡ true → (e ≡ events.Nothing) × (t ≡ tasks.Read)
is_idle events.Nothing tasks.Read is = (refl, refl)
is_idle e t is = absurd (let wrong : false ≡ true = is in cc)

springs_none : (o : Option (List ℕ)) → is_none o ≡ true → o ≡ None
springs_none None is = refl
springs_none (Some name) is = absurd (let wrong : false ≡ true = is in cc)

not_true : (b : Bool) → not b ≡ true → b ≡ false
not_true true is = absurd (let wrong : false ≡ true = is in cc)
not_true false is = refl

pub in_line : (f : Formatter) → is_in_line f ≡ true → IsInLine f
in_line f is =
    let idle = reads_next f.event f.task in
    let text = is_in_text f.reader.half in
    let three = both ((is_none f.springs && idle) && text) (not (begins_line (collected f))) is in
    let two = both (is_none f.springs && idle) text three.0 in
    let one = both (is_none f.springs) idle two.0 in
    let reads = is_idle f.event f.task one.1 in
    record { springs = springs_none f.springs one.0; event = reads.0; task = reads.1; half = two.1; begun = not_true (begins_line (collected f)) three.1 }

-- ---- a blank after a word

no_words : {X : Type 0} (xs : List X) → not (nat_lt 0 (length xs)) ≡ true → xs ≡ []
no_words [] is = refl
no_words (x ∷ xs) is = absurd (let some : nat_lt 0 (length (x ∷ xs)) ≡ true = lt-ltb 0 (length (x ∷ xs)) (omega arith) in let wrong : true ≡ false = sym some ∙ not_true (nat_lt 0 (length (x ∷ xs))) is in cc)

-- what such a blank asks for, part by part
pub record EndsWord (f : Formatter) : Type 0 where
  pub filling : is_filling f ≡ true
  pub word : is_none (collected f).word ≡ false
  pub field : reads_a_field f ≡ false
  pub breaks : f.breaks ≡ false
  pub words : f.store.words ≡ []

pub ends_word : (f : Formatter) → gaps_plainly f ≡ true → EndsWord f
ends_word f is =
    let all = both ((is_filling f && not (is_none (collected f).word)) && not (reads_a_field f)) (not f.breaks && not (nat_lt 0 (length f.store.words))) is in
    let three = both (is_filling f && not (is_none (collected f).word)) (not (reads_a_field f)) all.0 in
    let two = both (is_filling f) (not (is_none (collected f).word)) three.0 in
    let others = both (not f.breaks) (not (nat_lt 0 (length f.store.words))) all.1 in
    record {
      filling = two.0;
      word = not_true (is_none (collected f).word) two.1;
      field = not_true (reads_a_field f) three.1;
      breaks = not_true f.breaks others.0;
      words = no_words f.store.words others.1;
    }

either_way : (b : Bool) (c : Collected) → (if b then c else c) ≡ c
either_way true c = refl
either_way false c = refl

-- there are no points
pub pointed-plain : (f : Formatter) → is_filling f ≡ true → f.store.words ≡ [] → pointed f ≡ collected f
unfolding pointed
pointed-plain f filling words = rw (filling, words) (either_way (f.settings.hyphenation.on && may_hyphenate (collected f)) (collected f))

blank_heard : (f : Formatter) → EndsWord f → f.reader.half.reading.mode ≡ modes.Text → heard (events.Byte (code " ")) f ≡ gap_blank f
unfolding text_byte blank
blank_heard f ends mode = rw (mode, ends.filling, ends.field) refl

-- with what is collected where the word ends
abbrev gap_after : Collected → Formatter → Formatter
gap_after c f = record (with_collected (one_blank_more (end_word c)) f) {
  event = events.Nothing;
  breaks = f.breaks && not (breaks_after f);
  task = if has_word f then tasks.Flow afters.Text (breaks_after f) else tasks.Read;
}

gap_after-is : (f : Formatter) → EndsWord f → gap_after (collected f) f ≡ done (gap_flows f)
gap_after-is f ends = rw (ends.word, ends.breaks) refl

-- the blank is heard as the word's end
pub heard-gap : (f : Formatter) → EndsWord f → f.reader.half.reading.mode ≡ modes.Text → heard (events.Byte (code " ")) f ≡ done (gap_flows f)
heard-gap f ends mode =
    blank_heard f ends mode ∙ ap (λ c. gap_after c f) (pointed-plain f ends.filling ends.words) ∙ gap_after-is f ends

-- the word becomes pieces, which weigh less
pub weight-gap : (c : Collected) → weight_of_line (gapped c) ≤ weight_of_line c
weight-gap c = by_word c.word c refl
  where
    by_word : (o : Option Word) (c : Collected) → c.word ≡ o → weight_of_line (gapped c) ≤ weight_of_line c
    by_word None c is = rw is (omega (arith, length-append c.pieces []))
    by_word (Some w) c is = rw is (omega (arith, length-append c.pieces (w.parts ++ w.last ∷ []), length-append w.parts (w.last ∷ [])))

-- ---- a diverted line that is read again

pub rereading_line : (f : Formatter) → is_rereading_line f ≡ true → IsRereadingLine f
rereading_line f is =
    let idle = reads_next f.event f.task in
    let half = is_rereading f.reader.half in
    let three = both ((is_none f.springs && idle) && half) (is_on_page (outlet f)) is in
    let two = both (is_none f.springs && idle) half three.0 in
    let one = both (is_none f.springs) idle two.0 in
    let reads = is_idle f.event f.task one.1 in
    record { springs = springs_none f.springs one.0; event = reads.0; task = reads.1; half = two.1; outlet = three.1 }

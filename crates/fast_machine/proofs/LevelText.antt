-- A byte of the newest level in a text line that has begun: two moves a plain byte, and two or three a blank after a word.
use Prim.Native.Char.{code}
use Rattle.std.proofs.Common.{◌≡◌, ℕ, ◌+◌, ◌*◌, ◌≤◌, true, false, List, [], ◌∷◌, length, Option, refl, sym, ap, ◌∙◌, subst, arith}
use Rattle.std.specs.Prelude.{◌==◌}
use Rattle.std.proofs.lemmas.Bool.{eq-eqb}
use Rattle.std.proofs.lemmas.List.Sums.{sum_by-cons}
use Rattle.nr_units.specs.Source.{Supply}
use Rattle.nr_fill.specs.Piece.{line_cells}
use Rattle.nr_fill.specs.Plain.{IsPlain}
use Rattle.nr_store.specs.Store.{Level, Read, Mark, Reading, shown, level_charge}
use Rattle.nr_store.specs.Windows.{rest_of, levels_after, run_left}
use Rattle.nr_store.specs.declared.element.Element.{Element}
use Rattle.nr_store.specs.declared.element.Element.TheVariants as elements
use Rattle.nr_store.specs.declared.shown.Shown.{Shown}
use Rattle.nr_store.specs.declared.shown.Shown.TheVariants as shows
use Rattle.nr_reading.specs.declared.event.Event.TheVariants as events
use Rattle.nr_reading.specs.declared.next_item.NextItem.TheVariants as next_items
use Rattle.nr_reading.specs.Many.InText.{IsInText}
use Rattle.nr_reading.specs.Half.{take_in}
use Rattle.nr_reading.proofs.InText.{in_text, take_in-plain}
use Rattle.nr_input.specs.Moving.{move as input_move, situation, taken_in_at}
use Rattle.nr_input.specs.Moving as input
use Rattle.nr_input.specs.declared.emitted.Emitted.TheVariants as tells
use Rattle.nr_settings.specs.Fonts.{present_look}
use Rattle.nr_formatter.specs.Access.{collected, margins}
use Rattle.nr_formatter.specs.Lines.{fits_line}
use Rattle.nr_formatter.specs.Many.Runs.{IsGap, IsInLine, gap_flows, gap_put, gapped, is_in_line, run_put}
use Rattle.nr_formatter.specs.Weights as weights
use Rattle.nr_formatter.specs.Weights.{weight_of_agenda, owed_by_event, owed_by_task}
use Rattle.nr_formatter.specs.declared.formatter.Formatter.{Formatter}
use Rattle.nr_formatter.specs.declared.tasks.After.TheVariants as afters
use Rattle.nr_formatter.specs.declared.tasks.Resume.{Resume}
use Rattle.nr_formatter.specs.declared.tasks.Task.TheVariants as tasks
use Rattle.nr_formatter.proofs.PlainText.{in_line, weight-gap, weight-run}
use Rattle.nr_machine.specs.State.{State}
use Rattle.nr_machine.specs.Machine.{step, read, situation_of, with_situation}
use Rattle.nr_machine.specs.Measures.{IsWithin}
use Rattle.nr_machine.specs.Run.{Goes, GoesBy}
use Rattle.nr_machine.specs.Holding.{Shape, at, Stands, Holds, Made, weight, worth}
use Rattle.fast_machine.specs.Running.{Makes}
use Rattle.fast_machine.proofs.Gliding.{Glides, glides_plain, glides_flows, glides_gap, made_of, emitted, within_flows, within_gap}
use Rattle.nr_machine.proofs.NextMoves.{step-read, kind-read}
use Rattle.fast_machine.proofs.PlainText.{escape, newline}
use Rattle.fast_machine.proofs.RereadCells.{items_fewer}
use Rattle.nr_machine.proofs.Standing.{wrote_nothing}
use Rattle.nr_machine.proofs.Working.{holds_of}

-- with so much left of the newest level's text
abbrev pub at_text : Reading Resume → List (Level Resume) → List Element → State → State
at_text l ls xs s = record s { formatter = record s.formatter { store = record s.formatter.store { levels = Read (record l { rest = xs }) ∷ ls } } }

-- ---- one byte

module _ (l : Reading Resume) (ls : List (Level Resume)) (b : ℕ) (xs : List Element) (s : State) where
  looks : IsInText s.formatter.reader.half
      → input_move (situation_of (at_text l ls (elements.Byte b ∷ xs) s)) ≡ taken_in_at (take_in (next_items.Byte b) s.formatter.reader.half) (situation_of (at_text l ls (elements.Byte b ∷ xs) s))
  looks half = rw half.pending_act refl

  takes : taken_in_at (record { half = s.formatter.reader.half; event = events.Byte b; takes = true }) (situation_of (at_text l ls (elements.Byte b ∷ xs) s))
      ≡ record { situation = situation (at_text l ls xs s).formatter.store s.coming s.formatter.reader; emitted = tells.Event (events.Byte b) }
  takes = rw (eq-eqb s.coming.taken s.coming.taken refl) refl

  read_is : IsInText s.formatter.reader.half → (b == code "\n") ≡ false → (b == code "\\") ≡ false → read (at_text l ls (elements.Byte b ∷ xs) s) ≡ emitted b (at_text l ls xs s)
  read_is half newline escape =
      ap (λ m. with_situation m (at_text l ls (elements.Byte b ∷ xs) s))
      (looks half ∙ ap (λ m. taken_in_at m (situation_of (at_text l ls (elements.Byte b ∷ xs) s))) (take_in-plain b s.formatter.reader.half half newline escape) ∙ takes)

  pub reads_byte : s.chosen ≡ [] → IsInLine s.formatter → (b == code "\n") ≡ false → (b == code "\\") ≡ false → step (at_text l ls (elements.Byte b ∷ xs) s) ≡ emitted b (at_text l ls xs s)
  reads_byte chosen line newline escape =
      step-read (at_text l ls (elements.Byte b ∷ xs) s) chosen line.springs line.event line.task ∙ read_is (in_text s.formatter.reader.half line.half) newline escape

  sees_byte : IsInText s.formatter.reader.half → input.Goes (situation_of (at_text l ls (elements.Byte b ∷ xs) s))
  sees_byte half = rw half.pending_act tt

  pub goes_byte : s.chosen ≡ [] → IsInLine s.formatter → Goes (at_text l ls (elements.Byte b ∷ xs) s)
  goes_byte chosen line =
      let reads = kind-read (at_text l ls (elements.Byte b ∷ xs) s) chosen line.springs line.event line.task in
      subst (λ k. GoesBy k (at_text l ls (elements.Byte b ∷ xs) s)) (sym reads) (sees_byte (in_text s.formatter.reader.half line.half))

-- ---- what stays

module _ (l : Reading Resume) (ls : List (Level Resume)) where
  pub line_there : (xs : List Element) (s : State) → IsInLine s.formatter → IsInLine (at_text l ls xs s).formatter
  line_there xs s line = record { springs = line.springs; event = line.event; task = line.task; half = line.half; begun = line.begun }

  -- what is left of a text is charged nothing
  pub within_text : (xs ys : List Element) (bs : List ℕ) (s : State) → IsWithin (at_text l ls xs s) → line_cells (collected (run_put bs s.formatter)) ≤ s.formatter.line.limit
      → IsWithin (made_of (run_put bs) (at_text l ls ys s))
  within_text xs ys bs s w fits = record {
    formatter = record {
      stored = omega (arith, w.formatter.stored, sum_by-cons level_charge (Read (record l { rest = xs })) ls, sum_by-cons level_charge (Read (record l { rest = ys })) ls);
      depth = w.formatter.depth;
      line = fits;
      burst = w.formatter.burst;
    };
    page = w.page;
  }

-- ---- the engine

-- The moves lead to a state with this formatter, all else as it was.
pub made_glided : (n : ℕ) (e : Shape) (f g : Formatter) (supply : Option Supply) (held : Option (List ℕ)) (s : State) → Stands [] supply s e → g ≡ f
    → IsWithin (record (at e s) { formatter = f }) → Glides (at e s) n (record (at e s) { formatter = f }) → Made [] (at e s) n (record e { formatter = g }) supply held held
made_glided n e f g supply held s h is within glides =
    let holds : Holds [] supply (record (at e s) { formatter = f }) (record e { formatter = g }) =
    holds_of supply (record (at e s) { formatter = f }) (record e { formatter = g }) is h.chosen_is h.coming h.row h.page h.page_limit h.select h.faces within in
    record {
      runs = glides.runs;
      holds = rw glides.leads holds;
      wrote = wrote_nothing (at e s) _ held (ap (λ t. t.pages) glides.leads);
    }

-- ---- an element is taken

-- after an element of the newest level, with this made of the formatter
abbrev pub level_gone : (Formatter → Formatter) → Shape → Shape
level_gone g e = record e { formatter = g (record e.formatter { store = run_left 1 e.formatter.store }) }

-- the level that shows an element
pub record Showing (levels : List (Level Resume)) (x : Element) : Type 0 where
  pub l : Reading Resume
  pub ls : List (Level Resume)
  pub xs : List Element
  pub is : levels ≡ Read (record l { rest = x ∷ xs }) ∷ ls

showing_in : (rest : List Element) (l : Reading Resume) (ls : List (Level Resume)) (x : Element) → l.rest ≡ rest → shown (Read (record l { rest = rest }) ∷ ls) ≡ shows.Item x → Showing (Read l ∷ ls) x
showing_in [] l ls x rest_is is = absurd (let wrong : ◌≡◌ {A = Shown Resume} shows.End (shows.Item x) = is in cc)
showing_in (y ∷ ys) l ls x rest_is is =
    let same : y ≡ x = cc in
    record { l = l; ls = ls; xs = ys; is = ap (λ r. Read (record l { rest = r }) ∷ ls) (rest_is ∙ ap (λ z. z ∷ ys) same) }

pub showing : (levels : List (Level Resume)) (x : Element) → shown levels ≡ shows.Item x → Showing levels x
showing [] x is = absurd (let wrong : ◌≡◌ {A = Shown Resume} shows.Nothing (shows.Item x) = is in cc)
showing (Mark mode ∷ ls) x is = absurd (let wrong : ◌≡◌ {A = Shown Resume} (shows.Resume mode) (shows.Item x) = is in cc)
showing (Read l ∷ ls) x is = showing_in l.rest l ls x refl is

-- so one element is left
pub one_left : (levels : List (Level Resume)) (x : Element) → Showing levels x → 1 ≤ length (rest_of levels)
one_left levels x there = subst (λ v. 1 ≤ length (rest_of v)) (sym there.is) (omega arith)

-- ---- a plain byte

module _ (b : ℕ) (e : Shape) (supply : Option Supply) (held : Option (List ℕ)) (s : State) (h : Stands [] supply s e) (is : is_in_line e.formatter ≡ true) (plain : IsPlain b)
    (fits : line_cells (collected (run_put (b ∷ []) e.formatter)) ≤ e.formatter.line.limit)
    (l : Reading Resume) (ls : List (Level Resume)) (xs : List Element) (levels_is : e.formatter.store.levels ≡ Read (record l { rest = elements.Byte b ∷ xs }) ∷ ls) where
  abbrev from : State
  from = at_text l ls (elements.Byte b ∷ xs) (at e s)

  abbrev afterwards : State
  afterwards = at_text l ls xs (at e s)

  from_is : from ≡ at e s
  from_is = ap (λ v. record (at e s) { formatter = record e.formatter { store = record e.formatter.store { levels = v } } }) (sym levels_is)

  line : IsInLine e.formatter
  line = in_line e.formatter is

  within_put : IsWithin (made_of (run_put (b ∷ [])) afterwards)
  within_put = within_text l ls (elements.Byte b ∷ xs) xs (b ∷ []) (at e s) (subst IsWithin (sym from_is) h.within) fits

  glides_put : Glides from 2 (made_of (run_put (b ∷ [])) afterwards)
  glides_put =
      glides_plain from afterwards b h.chosen_is (line_there l ls xs (at e s) line) (goes_byte l ls b xs (at e s) h.chosen_is line)
      (reads_byte l ls b xs (at e s) h.chosen_is line (newline b plain) (escape b plain)) plain within_put

  put_is : (level_gone (run_put (b ∷ [])) e).formatter ≡ run_put (b ∷ []) afterwards.formatter
  put_is = ap (λ v. run_put (b ∷ []) (record e.formatter { store = record e.formatter.store { levels = v } })) (ap (levels_after 1) levels_is)

  made_plain : Made [] (at e s) 2 (level_gone (run_put (b ∷ [])) e) supply held held
  made_plain =
      made_glided 2 e (run_put (b ∷ []) afterwards.formatter) (level_gone (run_put (b ∷ [])) e).formatter supply held s h put_is within_put
      (subst (λ t. Glides t 2 (made_of (run_put (b ∷ [])) afterwards)) from_is glides_put)

plain_spends : (b : ℕ) (e : Shape) → 1 ≤ length (rest_of e.formatter.store.levels)
    → weight (level_gone (run_put (b ∷ [])) e) + 2 + worth e * e.place.taken ≤ weight e + worth e * e.place.taken
unfolding weights.weight weights.steps_left weights.owed
plain_spends b e few =
    omega (arith, items_fewer 1 e.formatter.store.levels few, weight-run (margins e.formatter) (present_look e.formatter.settings.fonts) (b ∷ []) (collected e.formatter))

-- a plain byte that comes next of the newest level, in a line that has begun
pub makes_plain : (b : ℕ) (e : Shape) (supply : Option Supply) → is_in_line e.formatter ≡ true → IsPlain b → line_cells (collected (run_put (b ∷ []) e.formatter)) ≤ e.formatter.line.limit
    → Showing e.formatter.store.levels (elements.Byte b) → Makes 2 e (level_gone (run_put (b ∷ [])) e) supply supply
makes_plain b e supply is plain fits shows = record {
  makes = λ held s h. made_plain b e supply held s h is plain fits shows.l shows.ls shows.xs shows.is;
  limit = refl;
  most = refl;
  limits = refl;
  spends = plain_spends b e (one_left e.formatter.store.levels (elements.Byte b) shows);
}

-- ---- a blank after a word

module _ (e : Shape) (supply : Option Supply) (held : Option (List ℕ)) (s : State) (h : Stands [] supply s e) (is : is_in_line e.formatter ≡ true) (gap : IsGap e.formatter)
    (l : Reading Resume) (ls : List (Level Resume)) (xs : List Element) (levels_is : e.formatter.store.levels ≡ Read (record l { rest = elements.Byte (code " ") ∷ xs }) ∷ ls) where
  start_is : at_text l ls (elements.Byte (code " ") ∷ xs) (at e s) ≡ at e s
  start_is = ap (λ v. record (at e s) { formatter = record e.formatter { store = record e.formatter.store { levels = v } } }) (sym levels_is)

  line_in : IsInLine (at_text l ls xs (at e s)).formatter
  line_in = line_there l ls xs (at e s) (in_line e.formatter is)

  goes_blank : Goes (at_text l ls (elements.Byte (code " ") ∷ xs) (at e s))
  goes_blank = goes_byte l ls (code " ") xs (at e s) h.chosen_is (in_line e.formatter is)

  reads_blank : step (at_text l ls (elements.Byte (code " ") ∷ xs) (at e s)) ≡ emitted (code " ") (at_text l ls xs (at e s))
  reads_blank = reads_byte l ls (code " ") xs (at e s) h.chosen_is (in_line e.formatter is) refl refl

  gap_there : IsGap (at_text l ls xs (at e s)).formatter
  gap_there = record { plain = gap.plain; within = gap.within }

  within_there : IsWithin (at_text l ls xs (at e s))
  within_there = within_text l ls (elements.Byte (code " ") ∷ xs) xs [] (at e s) (subst IsWithin (sym start_is) h.within) h.within.formatter.line

  formatter_is : (g : Formatter → Formatter) → (level_gone g e).formatter ≡ g (at_text l ls xs (at e s)).formatter
  formatter_is g = ap (λ v. g (record e.formatter { store = record e.formatter.store { levels = v } })) (ap (levels_after 1) levels_is)

  made_flows : Made [] (at e s) 2 (level_gone gap_flows e) supply held held
  made_flows =
      made_glided 2 e (gap_flows (at_text l ls xs (at e s)).formatter) (level_gone gap_flows e).formatter supply held s h (formatter_is gap_flows)
      (within_flows (at_text l ls (elements.Byte (code " ") ∷ xs) (at e s)) (at_text l ls xs (at e s)) h.chosen_is line_in goes_blank reads_blank gap_there within_there)
      (subst (λ t. Glides t 2 (made_of gap_flows (at_text l ls xs (at e s)))) start_is
      (glides_flows (at_text l ls (elements.Byte (code " ") ∷ xs) (at e s)) (at_text l ls xs (at e s)) h.chosen_is line_in goes_blank reads_blank gap_there within_there))

  made_put : fits_line (gapped (collected e.formatter)) ≡ true → Made [] (at e s) 3 (level_gone gap_put e) supply held held
  made_put fits =
      made_glided 3 e (gap_put (at_text l ls xs (at e s)).formatter) (level_gone gap_put e).formatter supply held s h (formatter_is gap_put)
      (within_gap (at_text l ls (elements.Byte (code " ") ∷ xs) (at e s)) (at_text l ls xs (at e s)) h.chosen_is line_in goes_blank reads_blank gap_there within_there)
      (subst (λ t. Glides t 3 (made_of gap_put (at_text l ls xs (at e s)))) start_is
      (glides_gap (at_text l ls (elements.Byte (code " ") ∷ xs) (at e s)) (at_text l ls xs (at e s)) h.chosen_is line_in goes_blank reads_blank gap_there within_there fits))

gap_spends : (e : Shape) → 1 ≤ length (rest_of e.formatter.store.levels) → weight (level_gone gap_put e) + 3 + worth e * e.place.taken ≤ weight e + worth e * e.place.taken
unfolding weights.weight weights.steps_left weights.owed
gap_spends e few = omega (arith, items_fewer 1 e.formatter.store.levels few, weight-gap (collected e.formatter))

flows_spends : (e : Shape) → e.formatter.event ≡ events.Nothing → e.formatter.task ≡ tasks.Read → 1 ≤ length (rest_of e.formatter.store.levels)
    → weight (level_gone gap_flows e) + 2 + worth e * e.place.taken ≤ weight e + worth e * e.place.taken
unfolding weights.weight weights.steps_left weights.owed
flows_spends e event task few =
    let before : weight_of_agenda e.formatter.event e.formatter.task e.formatter.step ≡ 4 = rw (event, task) refl in
    let owed_before : owed_by_event e.formatter.event + owed_by_task e.formatter.task e.formatter.reader.half ≡ 0 = rw (event, task) refl in
    let afterwards : weight_of_agenda e.formatter.event (tasks.Flow afters.Text false) e.formatter.step ≡ 8 = rw event refl in
    let owed_afterwards : owed_by_event e.formatter.event + owed_by_task (tasks.Flow afters.Text false) e.formatter.reader.half ≡ 0 = rw event refl in
    omega (arith, before, owed_before, afterwards, owed_afterwards, items_fewer 1 e.formatter.store.levels few, weight-gap (collected e.formatter))

-- a blank that comes next of the newest level
module _ (e : Shape) (supply : Option Supply) (is : is_in_line e.formatter ≡ true) (gap : IsGap e.formatter) (blank : shown e.formatter.store.levels ≡ shows.Item (elements.Byte (code " "))) where
  there : Showing e.formatter.store.levels (elements.Byte (code " "))
  there = showing e.formatter.store.levels (elements.Byte (code " ")) blank

  pub makes_flows : Makes 2 e (level_gone gap_flows e) supply supply
  makes_flows =
      let line = in_line e.formatter is in
      record {
        makes = λ held s h. made_flows e supply held s h is gap there.l there.ls there.xs there.is;
        limit = refl;
        most = refl;
        limits = refl;
        spends = flows_spends e line.event line.task (one_left e.formatter.store.levels (elements.Byte (code " ")) there);
      }

  pub makes_gap : fits_line (gapped (collected e.formatter)) ≡ true → Makes 3 e (level_gone gap_put e) supply supply
  makes_gap fits = record {
    makes = λ held s h. made_put e supply held s h is gap there.l there.ls there.xs there.is fits;
    limit = refl;
    most = refl;
    limits = refl;
    spends = gap_spends e (one_left e.formatter.store.levels (elements.Byte (code " ")) there);
  }

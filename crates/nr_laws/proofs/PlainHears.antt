-- What of plain text was emitted goes into the line.
use Rattle.std.specs.Prelude.{◌==◌, ◌&&◌, not, is_none}
use Rattle.std.proofs.lemmas.Bool.{eqb-true, ne_eqb}
use Rattle.std.proofs.lemmas.Bool.Decides.{nat_tests}
use Rattle.std.proofs.Common.{◌≡◌, ℕ, ◌≤◌, Bool, true, false, if◌then◌else◌, List, [], ◌∷◌, ◌++◌, Option, None, Some, refl, ap, sym, subst, ◌∙◌, append_assoc, arith}
use Rattle.nr_fill.specs.declared.stops.Pending.{Pending}
use Rattle.nr_fill.specs.declared.stops.Pending.TheVariants as pendings
use Rattle.nr_fill.specs.declared.piece.Point.TheVariants as points
use Rattle.nr_fill.specs.Piece.{Collected, Word, begins_line, ends_in_joint, is_joint, is_for_stop, reads_field, may_hyphenate, word_pieces, add_cell, add_blank, end_word, one_blank_more, after_newline}
use Rattle.nr_settings.specs.Characters.{prints}
use Rattle.nr_settings.specs.Indents.{margins_of, first_indents}
use Rattle.nr_settings.specs.declared.indents.Indents.{Indents}
use Rattle.nr_reading.specs.declared.event.Event.TheVariants as events
use Rattle.nr_reading.specs.declared.mode.PendingAct.{PendingAct}
use Rattle.nr_reading.specs.declared.mode.PendingAct.TheVariants as pending_acts
use Rattle.nr_reading.specs.declared.mode.Mode.{Mode}
use Rattle.nr_reading.specs.declared.mode.Mode.TheVariants as modes
use Rattle.nr_formatter.specs.declared.formatter.Formatter.{Formatter}
use Rattle.nr_formatter.specs.declared.tasks.After.TheVariants as afters
use Rattle.nr_formatter.specs.declared.tasks.Step.TheVariants as steps
use Rattle.nr_formatter.specs.declared.tasks.Task.{Task}
use Rattle.nr_formatter.specs.declared.tasks.Task.TheVariants as tasks
use Rattle.nr_formatter.specs.declared.tasks.Then.TheVariants as thens
use Rattle.nr_formatter.specs.Access.{collected, done}
use Rattle.nr_formatter.specs.Lines as lines
use Rattle.nr_formatter.specs.Places.{is_open}
use Rattle.nr_formatter.specs.Text as texts
use Rattle.nr_reading.specs.declared.event.Event.{Event}
use Rattle.nr_machine.specs.State.{State}
use Rattle.nr_machine.specs.Machine.{step}
use Rattle.nr_machine.specs.Printing.{text}
use Rattle.nr_laws.specs.PlainText.{squeezed, is_plain_from}
use Rattle.nr_laws.proofs.PlainPages.{plain_bytes, if-true, if-false, same_if, lines_ink}
use Rattle.nr_laws.proofs.PlainLines.{Clean, CleanWords, IsPlainPending, collected_ink, add_cell-ink, add_cell-clean, add_blank-ink, add_blank-clean, end_word-ink, end_word-clean}
use Rattle.nr_vectors.specs.declared.cell.Cell.{Cell}
use Rattle.nr_vectors.specs.declared.cell.Look.TheVariants.{Plain}
use Rattle.nr_input.specs.Acting.{is_look}
use Rattle.nr_laws.specs.FilledText.{text_of}
use Rattle.nr_laws.proofs.FilledLines.{rows_at}
use Rattle.nr_laws.proofs.FilledPages.{rows_shown}
use Rattle.nr_laws.proofs.FilledPieces.{pieces_after, still_begun, some_after, margins_by}
use Rattle.nr_laws.proofs.FilledStates.{OnFilledPage, never_here, is_unbroken}
use Rattle.nr_laws.proofs.PlainStates.{calm, Owes, Nothing, Phase, InText, FlowsText, FlowsLine, BreaksEmpty, BreaksLeading, Finishes, Closed, Orderly, OrderlyIn, Keeps, keeps}

-- ---- no text for a stop is read, and no points are given

pub no_field : (w : Option Word) → CleanWords w → reads_field w ≡ false
no_field None clean = refl
no_field (Some w) clean = by w.pending clean.pending
  where
    by : (p : Pending) → IsPlainPending p → is_for_stop p ≡ false
    by pendings.Nothing h = refl
    by (pendings.AtPoint points.Hard) h = refl
    by (pendings.AtPoint points.Soft) h = absurd h
    by (pendings.AtPoint points.Joining) h = absurd h
    by (pendings.ForStop f) h = absurd h

-- and no word goes on over the end of a line
no_joint : (w : Option Word) → CleanWords w → ends_in_joint w ≡ false
no_joint None clean = refl
no_joint (Some w) clean = by w.pending clean.pending
  where
    by : (p : Pending) → IsPlainPending p → is_joint p ≡ false
    by pendings.Nothing h = refl
    by (pendings.AtPoint points.Hard) h = refl
    by (pendings.AtPoint points.Soft) h = refl
    by (pendings.AtPoint points.Joining) h = absurd h
    by (pendings.ForStop f) h = refl

-- where the line, the word or the gap changes, and no ink
abbrev around : State → List ℕ → List ℕ
around s z = squeezed (text s.pages) ++ (lines_ink s.faces s.lines ++ z)

module _ (s : State) (o : OrderlyIn tasks.Read steps.NotYet s) where
  -- the line changed
  changed : (t : Task) (k : Collected) → Closed t s.lines s.formatter.paper.ejecting → Clean k → Orderly t steps.NotYet k s.lines s.formatter.paper.place (is_open s.formatter.paper.state) s.formatter.paper.ejecting
  changed t k closed clean = record { clean = clean; ascends = o.ascends; above = o.above; shut = o.shut; drained = tt; closed = closed }

  abbrev emitted : Mode → PendingAct → Event → List ℕ → Bool → State
  emitted m d e bs i = calm m d e tasks.Read steps.NotYet bs i s

  -- what is collected
  abbrev c : Collected
  c = collected s.formatter

  -- with this collected then, and this to do
  abbrev with_line : Collected → Task → State → State
  with_line k t x = record x { formatter = record x.formatter { line = record x.formatter.line { collected = k }; event = events.Nothing; task = t } }

  -- the same, where the margins are these
  abbrev indented : Collected → State → Indents → State
  indented k x indents = record x { formatter = record x.formatter { line = record x.formatter.line { collected = k }; settings = record x.formatter.settings { indents = indents }; event = events.Nothing } }

  -- the output, with these rows to come
  abbrev outcome : List (List Cell) → List ℕ
  outcome rows = text s.pages ++ text_of s.faces (rows_shown s.lines ++ rows)

  -- ---- what ends no word

  pub leading_hears : (bs : List ℕ) (i : Bool) → is_plain_from false bs ≡ true → Keeps (emitted (modes.Leading 1) pending_acts.Look events.Leading bs i) (step (emitted (modes.Leading 1) pending_acts.Look events.Leading bs i))
  unfolding step
  leading_hears bs i plain =
      let x = emitted (modes.Leading 1) pending_acts.Look events.Leading bs i in
      keeps x (step x) (step x) (modes.Leading 1) pending_acts.Look events.Nothing (tasks.Break thens.Leading) steps.NotYet bs i refl refl (BreaksLeading plain) (changed (tasks.Break thens.Leading) c tt o.clean) refl (λ r p. never_here r.goes)

  pub empty_hears : (bs : List ℕ) (i : Bool) → is_plain_from true bs ≡ true → Keeps (emitted modes.Start pending_acts.Look events.Empty bs i) (step (emitted modes.Start pending_acts.Look events.Empty bs i))
  unfolding step
  empty_hears bs i plain =
      let x = emitted modes.Start pending_acts.Look events.Empty bs i in
      keeps x (step x) (step x) modes.Start pending_acts.Look events.Nothing (tasks.Break thens.Space) steps.NotYet bs i refl refl (BreaksEmpty plain) (changed (tasks.Break thens.Space) c tt o.clean) refl (λ r p. never_here r.goes)

  pub over_hears : Keeps (emitted modes.Start pending_acts.Look events.Over [] false) (step (emitted modes.Start pending_acts.Look events.Over [] false))
  unfolding step
  over_hears =
      let x = emitted modes.Start pending_acts.Look events.Over [] false in
      keeps x (step x) (step x) modes.Start pending_acts.Look events.Nothing tasks.Finish steps.NotYet [] false refl refl (Finishes steps.NotYet refl) (changed tasks.Finish c tt o.clean) refl
      (λ r p. record { reads = record { goes = refl; bytes = refl; inside = λ begins. refl }; prints = p; same = refl })

  -- ---- a blank at the line's beginning

  -- a blank at the line's beginning is none of filled text
  lead_never : (d : PendingAct) → (is_look d && (true && (false && true))) ≡ true → false ≡ true
  lead_never d goes = by (is_look d) goes
    where
      by : (b : Bool) → (b && false) ≡ true → false ≡ true
      by true goes = goes
      by false goes = goes

  pub lead_hears : (d : PendingAct) (bs : List ℕ) (i : Bool) → Owes d → is_plain_from false bs ≡ true → Keeps (emitted modes.Text d events.Lead bs i) (step (emitted modes.Text d events.Lead bs i))
  unfolding step
  lead_hears d bs i owes plain =
      let x = emitted modes.Text d events.Lead bs i in
      let e = add_blank (margins_of first_indents) c in
      keeps x (step x) (with_line e tasks.Read x) modes.Text d events.Nothing tasks.Read steps.NotYet bs i (ap (indented e x) (same_if (begins_line c) first_indents)) refl (InText owes plain)
      (changed tasks.Read e tt (add_blank-clean (margins_of first_indents) c o.clean))
      (ap (λ z. around s (z ++ ([] ++ squeezed bs))) (add_blank-ink s.faces (margins_of first_indents) c o.clean))
      (λ r p. never_here (lead_never d r.goes))

  -- ---- a character

  character_hears : (b : ℕ) (bs : List ℕ) (i : Bool) → 32 ≤ b → b ≤ 126 → (b == 32) ≡ false → is_plain_from false bs ≡ true
      → Keeps (emitted modes.Text pending_acts.Look (events.Byte b) bs i) (step (emitted modes.Text pending_acts.Look (events.Byte b) bs i))
  unfolding step texts.text_byte
  character_hears b bs i least most other plain =
      let x = emitted modes.Text pending_acts.Look (events.Byte b) bs i in
      let f = x.formatter in
      let no_tab : (b == 9) ≡ false = ne_eqb b 9 (omega arith) in
      let no_leader : (b == 1) ≡ false = ne_eqb b 1 (omega arith) in
      let is : prints b ≡ true = grind (arith, nat_tests) in
      let e = add_cell (margins_of first_indents) (texts.after_of b) (record { byte = b; look = Plain }) c in
      let leads : step x ≡ with_line e tasks.Read x =
      ap (λ (g : Formatter). record x { formatter = g })
      (if-false (b == 32) (texts.blank f) (if b == 9 then texts.tab f.settings.tabs.tab f else (if b == 1 then texts.tab f.settings.tabs.leader f else (if prints b then texts.character b f else record f { event = events.Nothing }))) other
      ∙ if-false (b == 9) (texts.tab f.settings.tabs.tab f) (if b == 1 then texts.tab f.settings.tabs.leader f else (if prints b then texts.character b f else record f { event = events.Nothing })) no_tab
      ∙ if-false (b == 1) (texts.tab f.settings.tabs.leader f) (if prints b then texts.character b f else record f { event = events.Nothing }) no_leader
      ∙ if-true (prints b) (texts.character b f) (record f { event = events.Nothing }) is)
      ∙ ap (indented e x) (same_if (begins_line c) first_indents) in
      keeps x (step x) (with_line e tasks.Read x) modes.Text pending_acts.Look events.Nothing tasks.Read steps.NotYet bs i leads refl (InText Nothing plain)
      (changed tasks.Read e tt (add_cell-clean (margins_of first_indents) (texts.after_of b) (record { byte = b; look = Plain }) c o.clean))
      (ap (λ z. around s (z ++ ([] ++ squeezed bs))) (add_cell-ink s.faces (margins_of first_indents) (texts.after_of b) (record { byte = b; look = Plain }) c o.clean
      ∙ ap (λ z. collected_ink s.faces c ++ squeezed (z ++ [])) (plain_bytes s.faces b))
      ∙ ap (around s) (append_assoc (collected_ink s.faces c) (squeezed (b ∷ [])) (squeezed bs)))
      (λ r p. record {
        reads = record { goes = refl; bytes = r.bytes; inside = λ begins. never_here begins };
        prints = record { rows = p.rows; down = p.down; few = p.few; begun = p.begun; measure = λ begun. margins_by (begins_line c) c p.measure };
        same = ap (λ (k : Collected). outcome (rows_at c.turn (pieces_after k bs))) (sym (if-false (b == 10) (after_newline (end_word c)) (if b == 32 then one_blank_more (end_word c) else e) (ne_eqb b 10 (omega arith))
            ∙ if-false (b == 32) (one_blank_more (end_word c)) e other));
      })

  -- ---- a word's end

  -- no points are given, and the line is filled
  pointed_is : (m : Mode) (d : PendingAct) (e : Event) (bs : List ℕ) (i : Bool) → lines.pointed (emitted m d e bs i).formatter ≡ c
  unfolding lines.pointed
  pointed_is m d e bs i = same_if (may_hyphenate c) c

  ended_clean : Clean (one_blank_more (end_word c))
  ended_clean = let e = end_word-clean c o.clean in record { pieces = e.pieces; word = e.word }

  newline_clean : Clean (after_newline (end_word c))
  newline_clean = let e = end_word-clean c o.clean in record { pieces = e.pieces; word = e.word }

  phase_by : (b : Bool) (bs : List ℕ) (i : Bool) → is_plain_from false bs ≡ true → Phase modes.Text pending_acts.Look events.Nothing (if b then tasks.Flow afters.Text false else tasks.Read) steps.NotYet bs i
  phase_by true bs i plain = FlowsText plain
  phase_by false bs i plain = InText Nothing plain

  orderly_by : (b : Bool) (k : Collected) → Clean k → Orderly (if b then tasks.Flow afters.Text false else tasks.Read) steps.NotYet k s.lines s.formatter.paper.place (is_open s.formatter.paper.state) s.formatter.paper.ejecting
  orderly_by true k clean = record { clean = clean; ascends = o.ascends; above = o.above; shut = o.shut; drained = tt; closed = tt }
  orderly_by false k clean = changed tasks.Read k tt clean

  -- of filled text, the same after a word
  goes_by : (b : Bool) → is_unbroken (if b then tasks.Flow afters.Text false else tasks.Read) ≡ true
  goes_by true = refl
  goes_by false = refl

  word_printed : OnFilledPage c s.lines s.formatter.paper.place (is_open s.formatter.paper.state) → OnFilledPage (end_word c) s.lines s.formatter.paper.place (is_open s.formatter.paper.state)
  word_printed p = record {
    rows = p.rows;
    down = p.down;
    few = p.few;
    begun = λ is_so none. some_after c.pieces (word_pieces c.word) (p.begun is_so none);
    measure = λ begun. p.measure (still_begun c.pieces c.word begun);
  }

  blank_hears : (bs : List ℕ) (i : Bool) → is_plain_from false bs ≡ true → Keeps (emitted modes.Text pending_acts.Look (events.Byte 32) bs i) (step (emitted modes.Text pending_acts.Look (events.Byte 32) bs i))
  unfolding step texts.text_byte texts.blank
  blank_hears bs i plain =
      let x = emitted modes.Text pending_acts.Look (events.Byte 32) bs i in
      let f = x.formatter in
      let some = not (is_none c.word) in
      let task = if some then tasks.Flow afters.Text false else tasks.Read in
      let leads : step x ≡ with_line (one_blank_more (end_word c)) task x =
      ap (λ (g : Formatter). record x { formatter = g }) (if-false (lines.reads_a_field f) (lines.field_ended f) (texts.gap_blank f) (no_field c.word o.clean.word))
      ∙ ap (λ k. with_line (one_blank_more (end_word k)) task x) (pointed_is modes.Text pending_acts.Look (events.Byte 32) bs i) in
      keeps x (step x) (with_line (one_blank_more (end_word c)) task x) modes.Text pending_acts.Look events.Nothing task steps.NotYet bs i leads refl (phase_by some bs i plain)
      (orderly_by some (one_blank_more (end_word c)) ended_clean) (ap (λ z. around s (z ++ ([] ++ squeezed bs))) (end_word-ink s.faces c))
      (λ r p. record { reads = record { goes = goes_by some; bytes = r.bytes; inside = λ begins. never_here begins }; prints = let w = word_printed p in record { rows = w.rows; down = w.down; few = w.few; begun = w.begun; measure = w.measure }; same = refl })

  pub end_hears : (bs : List ℕ) (i : Bool) → is_plain_from true bs ≡ true → Keeps (emitted modes.Start pending_acts.Look events.EndLine bs i) (step (emitted modes.Start pending_acts.Look events.EndLine bs i))
  unfolding step texts.line_end texts.text_line_end
  end_hears bs i plain =
      let x = emitted modes.Start pending_acts.Look events.EndLine bs i in
      let f = x.formatter in
      let task = tasks.Flow afters.Line false in
      let leads : step x ≡ with_line (after_newline (end_word c)) task x =
      ap (λ (g : Formatter). record x { formatter = g }) (if-false (texts.joins_lines f) (done f) _ (rw (no_joint c.word o.clean.word) refl)
      ∙ if-false (lines.reads_a_field f) (lines.field_ended f) (texts.word_line_ended afters.Line f) (no_field c.word o.clean.word))
      ∙ ap (λ k. with_line (after_newline (end_word k)) task x) (pointed_is modes.Start pending_acts.Look events.EndLine bs i) in
      keeps x (step x) (with_line (after_newline (end_word c)) task x) modes.Start pending_acts.Look events.Nothing task steps.NotYet bs i leads refl (FlowsLine plain)
      (record { clean = newline_clean; ascends = o.ascends; above = o.above; shut = o.shut; drained = tt; closed = tt }) (ap (λ z. around s (z ++ ([] ++ squeezed bs))) (end_word-ink s.faces c))
      (λ r p. record { reads = record { goes = refl; bytes = r.bytes; inside = r.inside }; prints = let w = word_printed p in record { rows = w.rows; down = w.down; few = w.few; begun = w.begun; measure = w.measure }; same = refl })

  pub byte_hears : (b : ℕ) (bs : List ℕ) (i : Bool) → 32 ≤ b → b ≤ 126 → is_plain_from false bs ≡ true → Keeps (emitted modes.Text pending_acts.Look (events.Byte b) bs i) (step (emitted modes.Text pending_acts.Look (events.Byte b) bs i))
  byte_hears b bs i least most plain = by (b == 32) refl
    where
      by : (blank : Bool) → (b == 32) ≡ blank → Keeps (emitted modes.Text pending_acts.Look (events.Byte b) bs i) (step (emitted modes.Text pending_acts.Look (events.Byte b) bs i))
      by true is = subst (λ n. Keeps (emitted modes.Text pending_acts.Look (events.Byte n) bs i) (step (emitted modes.Text pending_acts.Look (events.Byte n) bs i))) (sym (eqb-true b 32 is)) (blank_hears bs i plain)
      by false is = character_hears b bs i least most is plain

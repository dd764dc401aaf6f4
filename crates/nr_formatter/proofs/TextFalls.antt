-- What may still come falls with each move that hears text, in a text line and in a title.
use Prim.Native.Char.{code}
use Rattle.std.proofs.Common.{◌≡◌, ◌≤◌, ◌==◌, ℕ, ◌+◌, true, not, List, [], ◌∷◌, replicate, Option, None, Some, unwrap_or, refl, ap, arith}
use Rattle.std.proofs.lemmas.Bool.{cond_both}
use Rattle.nr_vectors.specs.declared.cell.Cell.{Cell}
use Rattle.nr_fill.specs.declared.piece.CutAfter.{CutAfter}
use Rattle.nr_fill.specs.declared.piece.CutAfter.TheVariants.{Letter, Hyphen, Dash}
use Rattle.nr_fill.specs.declared.piece.Point.{Point}
use Rattle.nr_fill.specs.declared.piece.Point.TheVariants as points
use Rattle.nr_fill.specs.Piece.{Collected, with_title_cell}
use Rattle.nr_settings.specs.Characters.{prints}
use Rattle.nr_settings.specs.declared.specials.Special.{Special}
use Rattle.nr_settings.specs.declared.specials.Special.TheVariants as specials
use Rattle.nr_settings.specs.Specials.{special_of, byte_of}
use Rattle.nr_reading.specs.declared.event.Event.{Event}
use Rattle.nr_reading.specs.declared.event.Event.TheVariants as events
use Rattle.nr_formatter.specs.declared.formatter.Formatter.{Formatter}
use Rattle.nr_formatter.specs.declared.tasks.After.{After}
use Rattle.nr_formatter.specs.declared.tasks.After.TheVariants as afters
use Rattle.nr_formatter.specs.declared.tasks.Task.TheVariants as tasks
use Rattle.nr_formatter.specs.Access.{collected, is_filling, asked, cell, margins, done}
use Rattle.nr_formatter.specs.Lines.{reads_a_field, field_ended}
use Rattle.nr_formatter.specs.Motions.{motion_cells, rule_cells}
use Rattle.nr_formatter.specs.Moves.{is_text}
use Rattle.nr_formatter.specs.Text.{put, after_of, blank_cell, has_word, gap_blank, blank, tab, text_byte, dash, dash_end, break_point, special_at, special, cells, mark, percent, break_word, blanks_dropped, word_line_ended, trimmed_end, line_end, joins_lines, text_line_end, text}
use Rattle.nr_formatter.specs.Titles.{with_title_cells, titled, title_byte, printed, title_special, title_dash_end, title}
use Rattle.nr_formatter.specs.Weights.{weight_of_line, weight_of_event, weight_of_agenda, weight_of_task, owed_by_task, Falls}
use Rattle.nr_formatter.proofs.WorkFalls.{falls-work, falls-afterwards, falls-heard_for, falls-heard}
use Rattle.nr_formatter.proofs.LineWeights.{weight-add_cell, weight-add_blank, weight-add_cells, weight-marked, weight-tabbed, weight-pointed_here, weight-barred_here, weight-without_blanks, weight-with_field_filled}
use Rattle.nr_formatter.proofs.WordEnds.{weight-word_ended}

-- ---- cells

falls-done : (f : Formatter) → 1 ≤ weight_of_event f.event → Falls 1 0 f (done f)
falls-done f is = falls-heard 0 f (done f) refl is refl refl refl refl (omega arith)

falls-put : (x : Cell) (b : CutAfter) (f : Formatter) → 177 ≤ weight_of_event f.event → Falls 1 0 f (put x b f)
falls-put x b f is = falls-heard 175 f (put x b f) refl (omega arith) refl refl refl refl (omega (arith, weight-add_cell (margins f) b x (collected f)))

falls-blank_cell : (f : Formatter) → 177 ≤ weight_of_event f.event → Falls 1 0 f (blank_cell f)
falls-blank_cell f is = falls-heard 175 f (blank_cell f) refl (omega arith) refl refl refl refl (omega (arith, weight-add_blank (margins f) (collected f)))

falls-cells : (b n : ℕ) (f : Formatter) → 177 ≤ weight_of_event f.event → Falls 1 0 f (cells b n f)
falls-cells b n f is = falls-heard 175 f (cells b n f) refl (omega arith) refl refl refl refl (omega (arith, weight-add_cells (margins f) (cell b f) n (collected f)))

falls-mark : (f : Formatter) → 177 ≤ weight_of_event f.event → Falls 1 0 f (mark f)
falls-mark f is = falls-heard 170 f (mark f) refl (omega arith) refl refl refl refl (omega (arith, weight-marked (margins f) (collected f)))

falls-percent : (f : Formatter) → 1 ≤ weight_of_event f.event → Falls 1 0 f (percent f)
falls-percent f is = falls-heard 0 f (percent f) refl is refl refl refl refl (omega (arith, weight-barred_here (collected f)))

falls-break_point : (p : Point) (f : Formatter) → 1 ≤ weight_of_event f.event → Falls 1 0 f (break_point p f)
falls-break_point p f is = falls-heard 0 f (break_point p f) refl is refl refl refl refl (omega (arith, weight-pointed_here p (collected f)))

falls-break_word : (f : Formatter) → 1 ≤ weight_of_event f.event → Falls 1 0 f (break_word f)
falls-break_word f is = falls-heard 0 f (break_word f) refl is refl refl refl refl (omega arith)

-- ---- blanks and tabs

pub falls-field_ended : (f : Formatter) → reads_a_field f ≡ true → Falls 1 0 f (field_ended f)
falls-field_ended f reads = falls-work 1 0 f (field_ended f) refl (omega arith) (omega (arith, weight-with_field_filled (collected f) reads))

falls-gap_blank : (f : Formatter) → 177 ≤ weight_of_event f.event → Falls 1 0 f (gap_blank f)
falls-gap_blank f is =
    falls-heard_for 8 0 f (gap_blank f) refl (omega arith) refl refl
    (cond_both (has_word f) _ _ (λ t. weight_of_task t f.step ≤ weight_of_task f.task f.step + 8) (λ _. omega arith) (λ _. omega arith))
    (cond_both (has_word f) _ _ (λ t. owed_by_task t f.reader.half ≤ owed_by_task f.task f.reader.half) (λ _. omega arith) (λ _. omega arith))
    (omega (arith, weight-word_ended f))

falls-blank : (f : Formatter) → 177 ≤ weight_of_event f.event → Falls 1 0 f (blank f)
unfolding blank
falls-blank f is =
    cond_both (not (is_filling f)) _ _ (λ g. Falls 1 0 f g) (λ _. falls-blank_cell f is)
    (λ _. cond_both (reads_a_field f) _ _ (λ g. Falls 1 0 f g) (falls-field_ended f) (λ _. falls-gap_blank f is))

falls-tab : (filler : Option ℕ) (f : Formatter) → 177 ≤ weight_of_event f.event → Falls 1 0 f (tab filler f)
unfolding tab
falls-tab filler f is =
    cond_both (reads_a_field f) _ _ (λ g. Falls 1 0 f g) (falls-field_ended f)
    (λ _. falls-heard 176 f _ refl is refl refl refl refl (omega (arith, weight-tabbed (margins f) f.settings.tabs.stops (not f.settings.filling.fill) (cell (unwrap_or filler (code " ")) f) (collected f))))

falls-text_byte : (b : ℕ) (f : Formatter) → 177 ≤ weight_of_event f.event → Falls 1 0 f (text_byte b f)
unfolding text_byte
falls-text_byte b f is =
    cond_both (b == code " ") _ _ (λ g. Falls 1 0 f g) (λ _. falls-blank f is)
    (λ _. cond_both (b == code "\t") _ _ (λ g. Falls 1 0 f g) (λ _. falls-tab f.settings.tabs.tab f is)
    (λ _. cond_both (b == 1) _ _ (λ g. Falls 1 0 f g) (λ _. falls-tab f.settings.tabs.leader f is)
    (λ _. cond_both (prints b) _ _ (λ g. Falls 1 0 f g) (λ _. falls-put (cell b f) (after_of b) f is) (λ _. falls-done f (omega arith)))))

-- ---- escapes

falls-dash : (f : Formatter) → 366 ≤ weight_of_event f.event → Falls 1 0 f (dash f)
falls-dash f is = falls-heard_for 190 175 f (dash f) refl is refl refl (omega arith) (omega arith) (omega (arith, weight-add_cell (margins f) Letter (cell (code "-") f) (collected f)))

falls-special_at : (s : Option Special) (f : Formatter) → 366 ≤ weight_of_event f.event → Falls 1 0 f (special_at s f)
falls-special_at None f is = falls-done f (omega arith)
falls-special_at (Some specials.Hyphen) f is = falls-put (cell (code "-") f) Hyphen f (omega arith)
falls-special_at (Some specials.Dash) f is = falls-dash f is
falls-special_at (Some specials.Point) f is = falls-break_point points.Hard f (omega arith)
falls-special_at (Some specials.Joint) f is = falls-break_point points.Joining f (omega arith)
falls-special_at (Some s) f is = falls-put (cell (byte_of s) f) Letter f (omega arith)

falls-special : (f : Formatter) → 366 ≤ weight_of_event f.event → Falls 1 0 f (special f)
unfolding special
falls-special f is = falls-special_at (special_of (asked f)) f is

-- ---- a text line's end

falls-blanks_dropped : (f : Formatter) → Falls 0 0 f (blanks_dropped f)
falls-blanks_dropped f =
    cond_both (not (is_filling f)) _ f (λ g. Falls 0 0 f g) (λ _. falls-work 0 0 f _ refl (omega arith) (omega (arith, weight-without_blanks (collected f))))
    (λ _. falls-work 0 0 f f refl (omega arith) (omega arith))

event-blanks_dropped : (f : Formatter) → (blanks_dropped f).event ≡ f.event
event-blanks_dropped f = cond_both (not (is_filling f)) _ f (λ g. g.event ≡ f.event) (λ _. refl) (λ _. refl)

falls-word_line_ended : (after : After) (f : Formatter) → 18 ≤ weight_of_event f.event → Falls 1 0 f (word_line_ended after f)
falls-word_line_ended after f is = falls-heard_for 8 0 f (word_line_ended after f) refl (omega arith) refl refl (omega arith) (omega arith) (omega (arith, weight-word_ended f))

falls-trimmed_end : (after : After) (f : Formatter) → 18 ≤ weight_of_event f.event → Falls 1 0 f (trimmed_end after f)
falls-trimmed_end after f is = cond_both (reads_a_field f) _ _ (λ g. Falls 1 0 f g) (falls-field_ended f) (λ _. falls-word_line_ended after f is)

falls-line_end : (after : After) (f : Formatter) → 18 ≤ weight_of_event f.event → Falls 1 0 f (line_end after f)
unfolding line_end
falls-line_end after f is =
    falls-afterwards 1 0 f (blanks_dropped f) _ (falls-blanks_dropped f) (falls-trimmed_end after (blanks_dropped f) (omega (arith, ap weight_of_event (event-blanks_dropped f))))

falls-text_line_end : (f : Formatter) → 18 ≤ weight_of_event f.event → Falls 1 0 f (text_line_end f)
unfolding text_line_end
falls-text_line_end f is = cond_both (joins_lines f) _ _ (λ g. Falls 1 0 f g) (λ _. falls-done f (omega arith)) (λ _. falls-line_end afters.Line f is)

-- ---- all that a text line may have

-- what is text leaves a move at least
some_left : (e : Event) (f : Formatter) → f.event ≡ e → is_text e ≡ true → 1 ≤ weight_of_event f.event
some_left e f heard is = rw heard (text_left e is)
  where
    text_left : (e : Event) → is_text e ≡ true → 1 ≤ weight_of_event e
    text_left events.Nothing is = let wrong : ⊥ = cc in absurd wrong
    text_left events.Over is = let wrong : ⊥ = cc in absurd wrong
    text_left e is = omega arith

pub falls-text : (e : Event) (f : Formatter) → f.event ≡ e → is_text e ≡ true → Falls 1 0 f (text e f)
falls-text events.Lead f heard is = falls-blank_cell f (rw heard (omega arith))
falls-text (events.Byte b) f heard is = falls-text_byte b f (rw heard (omega arith))
falls-text (events.Cell x) f heard is = falls-put x Letter f (rw heard (omega arith))
falls-text (events.Plain b) f heard is = falls-put (cell b f) Letter f (rw heard (omega arith))
falls-text events.Fixed f heard is = falls-put (cell (code " ") f) Letter f (rw heard (omega arith))
falls-text events.Tab f heard is = falls-tab f.settings.tabs.tab f (rw heard (omega arith))
falls-text events.Leader f heard is = falls-tab f.settings.tabs.leader f (rw heard (omega arith))
falls-text events.Special f heard is = falls-special f (rw heard (omega arith))
falls-text events.Horizontal f heard is = falls-cells (code " ") (motion_cells f) f (rw heard (omega arith))
falls-text events.Rule f heard is = falls-cells (rule_cells f).byte (rule_cells f).cells f (rw heard (omega arith))
falls-text events.EndLine f heard is = falls-text_line_end f (rw heard (omega arith))
falls-text events.EndContinued f heard is = falls-line_end afters.Continued f (rw heard (omega arith))
falls-text events.Zero f heard is = falls-mark f (rw heard (omega arith))
falls-text events.Percent f heard is = falls-percent f (rw heard (omega arith))
falls-text events.BreakWord f heard is = falls-break_word f (rw heard (omega arith))
falls-text e f heard is = let wrong : ⊥ = cc in absurd wrong

-- ---- a title

weight-with_title_cells : (xs : List Cell) (c : Collected) → weight_of_line (with_title_cells xs c) ≡ weight_of_line c
weight-with_title_cells [] c = refl
weight-with_title_cells (x ∷ xs) c = weight-with_title_cells xs (with_title_cell x c)

falls-titled : (xs : List Cell) (f : Formatter) → 1 ≤ weight_of_event f.event → Falls 1 0 f (titled xs f)
falls-titled xs f is = falls-heard 0 f (titled xs f) refl is refl refl refl refl (omega (arith, weight-with_title_cells xs (collected f)))

falls-title_special : (s : Option Special) (f : Formatter) → 366 ≤ weight_of_event f.event → Falls 1 0 f (title_special s f)
falls-title_special None f is = falls-done f (omega arith)
falls-title_special (Some specials.Dash) f is = falls-heard_for 190 0 f _ refl (omega arith) refl refl (omega arith) (omega arith) (omega arith)
falls-title_special (Some specials.Point) f is = falls-done f (omega arith)
falls-title_special (Some specials.Joint) f is = falls-done f (omega arith)
falls-title_special (Some s) f is = falls-titled (cell (byte_of s) f ∷ []) f (omega arith)

pub falls-title : (e : Event) (f : Formatter) → f.event ≡ e → is_text e ≡ true → Falls 1 0 f (title e f)
falls-title (events.Byte b) f heard is = falls-titled (title_byte b f) f (rw heard (omega arith))
falls-title (events.Plain b) f heard is = falls-titled (printed b f) f (rw heard (omega arith))
falls-title events.Fixed f heard is = falls-titled (cell (code " ") f ∷ []) f (rw heard (omega arith))
falls-title (events.Cell x) f heard is = falls-titled (x ∷ []) f (rw heard (omega arith))
falls-title events.Special f heard is = falls-title_special (special_of (asked f)) f (rw heard (omega arith))
falls-title events.Horizontal f heard is = falls-titled (replicate (motion_cells f) (cell (code " ") f)) f (rw heard (omega arith))
falls-title events.Rule f heard is = falls-titled (replicate (rule_cells f).cells (cell (rule_cells f).byte f)) f (rw heard (omega arith))
falls-title e f heard is = falls-done f (some_left e f heard is)

-- ---- the second cell of a dash

pub falls-title_dash_end : (f : Formatter) → f.event ≡ events.Nothing → f.task ≡ tasks.Dash → Falls 1 0 f (title_dash_end f)
falls-title_dash_end f event task =
    let agenda : weight_of_agenda f.event f.task f.step ≡ 190 = rw (event, task) refl in
    falls-work 1 0 f (title_dash_end f) refl (omega arith) (omega arith)

pub falls-dash_end : (f : Formatter) → f.event ≡ events.Nothing → f.task ≡ tasks.Dash → Falls 1 0 f (dash_end f)
falls-dash_end f event task =
    let agenda : weight_of_agenda f.event f.task f.step ≡ 190 = rw (event, task) refl in
    falls-work 1 0 f (dash_end f) refl (omega arith) (omega (arith, weight-add_cell (margins f) Dash (cell (code "-") f) (collected f)))

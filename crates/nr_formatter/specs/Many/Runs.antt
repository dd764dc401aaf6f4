-- Runs of bytes that stand for themselves, in a text line that has begun.
use Prim.Native.Char.{code}
use Rattle.std.specs.Prelude.{◌≡◌, ◌≤◌, ◌<◌, ℕ, Bool, true, false, not, ◌&&◌, nat_lt, List, length, take, slice_index, All, is_none, None}
use Rattle.nr_fill.specs.Piece.{Collected, begins_line, end_word, line_cells, one_blank_more, text_cells}
use Rattle.nr_fill.specs.Plain.{IsPlain}
use Rattle.nr_fill.specs.Runs.{add_run}
use Rattle.nr_reading.specs.Many.InText.{is_in_text}
use Rattle.nr_reading.specs.Many.Rereading.{is_rereading}
use Rattle.nr_reading.specs.declared.event.Event.{Event}
use Rattle.nr_reading.specs.declared.event.Event.TheVariants as events
use Rattle.nr_settings.specs.Fonts.{present_look}
use Rattle.nr_formatter.specs.Access.{collected, with_collected, margins, is_filling}
use Rattle.nr_formatter.specs.Lines.{fits_line, reads_a_field}
use Rattle.nr_formatter.specs.declared.formatter.Formatter.{Formatter}
use Rattle.nr_formatter.specs.Places.{outlet, is_on_page}
use Rattle.nr_formatter.specs.declared.many.runs.Gap.{Gap}
use Rattle.nr_formatter.specs.declared.many.runs.Manner.{Manner}
use Rattle.nr_formatter.specs.declared.many.runs.WordPut.{WordPut}
use Rattle.nr_formatter.specs.declared.many.runs.Gap.TheVariants as gaps
use Rattle.nr_formatter.specs.declared.tasks.After.TheVariants as afters
use Rattle.nr_formatter.specs.declared.tasks.Task.{Task}
use Rattle.nr_formatter.specs.declared.tasks.Task.TheVariants as tasks

-- the input is read next, unless a macro springs
abbrev pub reads_next : Event → Task → Bool
reads_next events.Nothing tasks.Read = true
reads_next e t = false

-- the next item is read in a text line that has begun
abbrev pub is_in_line : Formatter → Bool
is_in_line f =
    ((is_none f.springs && reads_next f.event f.task) && is_in_text f.reader.half)
    && not (begins_line (collected f))

-- the same, part by part
pub record IsInLine (f : Formatter) : Type 0 where
  pub springs : f.springs ≡ None
  pub event : f.event ≡ events.Nothing
  pub task : f.task ≡ tasks.Read
  pub half : is_in_text f.reader.half ≡ true
  pub begun : begins_line (collected f) ≡ false

-- the bytes one after another, each a cell of the word
abbrev pub run_put : List ℕ → Formatter → Formatter
run_put bs f = with_collected (add_run (margins f) (present_look f.settings.fonts) bs (collected f)) f

-- ---- a blank after a word

-- it does nothing but end the word and widen the gap: lines are filled, no text for a stop is read, no break was asked for,
-- and there is no hyphenation word
abbrev pub gaps_plainly : Formatter → Bool
gaps_plainly f =
    ((is_filling f && not (is_none (collected f).word)) && not (reads_a_field f))
    && (not f.breaks && not (nat_lt 0 (length f.store.words)))

-- the word and the gap after it
abbrev pub gapped : Collected → Collected
gapped c = one_blank_more (end_word c)

-- more is read then
abbrev pub gap_put : Formatter → Formatter
gap_put f = with_collected (gapped (collected f)) f

-- full lines go out then
abbrev pub gap_flows : Formatter → Formatter
gap_flows f = record (gap_put f) { task = tasks.Flow afters.Text false }

-- such a blank, which passes no limit
pub record IsGap (f : Formatter) : Type 0 where
  pub plain : gaps_plainly f ≡ true
  pub within : line_cells (gapped (collected f)) ≤ f.line.limit

-- what became of it: it was left, or the line is full, or it is not
abbrev pub AfterGap : Formatter → Gap → Formatter → Type 0
AfterGap f gaps.Left g = g ≡ f
AfterGap f gaps.Flows g = IsGap f × (g ≡ gap_flows f)
AfterGap f gaps.Reads g = IsGap f × (fits_line (gapped (collected f)) ≡ true) × (g ≡ gap_put f)

-- after a word: full lines go out next, or the pieces fit the line
abbrev pub AfterWord : Formatter → Gap → Formatter → Type 0
AfterWord f gaps.Left g = ⊥
AfterWord f gaps.Flows g = g ≡ record f { task = tasks.Flow afters.Text false }
AfterWord f gaps.Reads g = (fits_line (collected f) ≡ true) × (g ≡ f)

-- ---- words, and the blanks after them

-- how they are read: a blank ends a word where lines are filled, no break was asked for, and there is no hyphenation word
abbrev pub manner_of : Formatter → Manner
manner_of f = record {
  look = present_look f.settings.fonts;
  ends = is_filling f && (not f.breaks && not (nat_lt 0 (length f.store.words)));
}

-- a blank was read
abbrev pub is_read : Gap → Bool
is_read gaps.Left = false
is_read gap = true

-- A prefix of these bytes was put, and a blank after it read: as many bytes as could be, and the blank where it could be.
pub record PutsWord (bs : List ℕ) (f : Formatter) (word : WordPut) (g : Formatter) : Type 0 where
  pub prefix : word.count ≤ length bs
  pub plain : All IsPlain (take word.count bs)
  pub within : 0 < word.count → line_cells (collected (run_put (take word.count bs) f)) ≤ f.line.limit
  pub gap : AfterGap (run_put (take word.count bs) f) word.gap g
  pub below : is_read word.gap ≡ true → word.count < length bs
  pub blank : is_read word.gap ≡ true → slice_index bs word.count ≡ code " "
  pub stops : is_read word.gap ≡ false → word.count < length bs → IsPlain (slice_index bs word.count)
      → text_cells (collected g) ≡ g.line.limit
  pub left : is_read word.gap ≡ false → word.count < length bs → slice_index bs word.count ≡ code " "
      → IsGap g → ⊥

-- ---- a diverted line that is read again

-- the next item is read in the midst of a diverted line that goes on the page
abbrev pub is_rereading_line : Formatter → Bool
is_rereading_line f =
    ((is_none f.springs && reads_next f.event f.task) && is_rereading f.reader.half) && is_on_page (outlet f)

-- the same, part by part
pub record IsRereadingLine (f : Formatter) : Type 0 where
  pub springs : f.springs ≡ None
  pub event : f.event ≡ events.Nothing
  pub task : f.task ≡ tasks.Read
  pub half : is_rereading f.reader.half ≡ true
  pub outlet : is_on_page (outlet f) ≡ true

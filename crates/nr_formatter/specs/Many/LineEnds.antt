-- The end of a text line of which lines are filled.
use Rattle.std.specs.Prelude.{◌≡◌, ◌≤◌, true, false, None}
use Rattle.nr_fill.specs.Piece.{Collected, after_newline, end_word, ends_in_joint, line_cells}
use Rattle.nr_reading.specs.Many.LineBeginnings.{text_ended}
use Rattle.nr_input.specs.Acting.{on_half}
use Rattle.nr_formatter.specs.Access.{collected, with_collected}
use Rattle.nr_formatter.specs.Lines.{fits_line}
use Rattle.nr_formatter.specs.Many.Runs.{gaps_plainly, is_in_line}
use Rattle.nr_formatter.specs.declared.formatter.Formatter.{Formatter}
use Rattle.nr_formatter.specs.declared.many.runs.Gap.{Gap}
use Rattle.nr_formatter.specs.declared.many.runs.Gap.TheVariants as gaps
use Rattle.nr_formatter.specs.declared.tasks.After.TheVariants as afters
use Rattle.nr_formatter.specs.declared.tasks.Task.TheVariants as tasks

-- the word and the gap after its line
abbrev pub line_gapped : Collected → Collected
line_gapped c = after_newline (end_word c)

-- more is read then
abbrev pub newline_put : Formatter → Formatter
newline_put f = record (with_collected (line_gapped (collected f)) f) { reader = on_half text_ended f.reader }

-- full lines go out then
abbrev pub newline_flows : Formatter → Formatter
newline_flows f = record (newline_put f) { task = tasks.Flow afters.Line false }

-- A newline ends a text line that has begun, and does nothing but end its word and widen the gap: it is so with a blank there, the
-- word does not go on, no trap counts the line, and no line is to be underlined. It passes no limit.
pub record IsNewline (f : Formatter) : Type 0 where
  pub line : is_in_line f ≡ true
  pub plain : gaps_plainly f ≡ true
  pub joint : ends_in_joint (collected f).word ≡ false
  pub trap : f.input_trap ≡ None
  pub underlined : f.settings.fonts.underlined ≡ 0
  pub within : line_cells (line_gapped (collected f)) ≤ f.line.limit

-- what became of it: it was left, or the line that is collected is full, or it is not
abbrev pub AfterNewline : Formatter → Gap → Formatter → Type 0
AfterNewline f gaps.Left g = g ≡ f
AfterNewline f gaps.Flows g = IsNewline f × (g ≡ newline_flows f)
AfterNewline f gaps.Reads g =
    IsNewline f × (fits_line (line_gapped (collected f)) ≡ true) × (g ≡ newline_put f)

-- What is read of a text line goes into the collected line. (CSTR 54, sections 4, 9, 10, 11 and 13.)
use Prim.Native.Char.{code}
use Rattle.std.specs.Prelude.{ℕ, Bool, not, ◌&&◌, ◌||◌, ◌==◌, if◌then◌else◌, Option, None, Some, is_none, unwrap_or}
use Rattle.nr_vectors.specs.declared.cell.Cell.{Cell}
use Rattle.nr_fill.specs.declared.piece.CutAfter.{CutAfter}
use Rattle.nr_fill.specs.declared.piece.CutAfter.TheVariants.{Letter, Hyphen, Dash}
use Rattle.nr_fill.specs.declared.piece.Point.{Point}
use Rattle.nr_fill.specs.declared.piece.Point.TheVariants as points
use Rattle.nr_fill.specs.Piece.{Collected, begins_line, add_cell, add_cells, add_blank, marked, barred_here, pointed_here, ends_in_joint, one_blank_more, after_newline, without_blanks}
use Rattle.nr_fill.specs.Tabs.{tabbed}
use Rattle.nr_settings.specs.Indents.{after_line_begun}
use Rattle.nr_settings.specs.Characters.{prints}
use Rattle.nr_settings.specs.Specials.{special_of, byte_of}
use Rattle.nr_settings.specs.declared.indents.Margins.{Margins}
use Rattle.nr_settings.specs.declared.specials.Special.{Special}
use Rattle.nr_settings.specs.declared.specials.Special.TheVariants as specials
use Rattle.nr_reading.specs.declared.event.Event.{Event}
use Rattle.nr_reading.specs.declared.event.Event.TheVariants as events
use Rattle.nr_formatter.specs.declared.tasks.After.{After}
use Rattle.nr_formatter.specs.declared.tasks.After.TheVariants as afters
use Rattle.nr_formatter.specs.declared.tasks.Task.TheVariants as tasks
use Rattle.nr_formatter.specs.declared.formatter.Formatter.{Formatter}
use Rattle.nr_formatter.specs.Access.{collected, with_collected, done, is_filling, cell, margins, asked}
use Rattle.nr_formatter.specs.Lines.{breaks_after, field_ended, reads_a_field, word_ended}
use Rattle.nr_formatter.specs.Motions.{motion_cells, rule_cells}
use Rattle.nr_formatter.specs.Titles.{reads_title, title_dash_end}

-- ---- cells

-- the first word of a line takes the margins, and with them a `.ti`
abbrev pub line_begun : Formatter → Formatter
line_begun f = record f {
  settings =
      record f.settings {
        indents = if begins_line (collected f) then after_line_begun f.settings.indents
            else f.settings.indents;
      };
}

-- something goes to the word
abbrev pub to_word : (Margins → Collected → Collected) → Formatter → Formatter
to_word add f = done (with_collected (add (margins f) (collected f)) (line_begun f))

-- a cell, and what may stand after it
abbrev pub put : Cell → CutAfter → Formatter → Formatter
put x afterwards f = to_word (λ m. add_cell m afterwards x) f

-- a `-` has a break point after it
abbrev pub after_of : ℕ → CutAfter
after_of byte = if byte == code "-" then Hyphen else Letter

abbrev pub character : ℕ → Formatter → Formatter
character b f = put (cell b f) (after_of b) f

abbrev pub letter : ℕ → Formatter → Formatter
letter b f = put (cell b f) Letter f

-- ---- blanks and tabs

-- a blank that is a cell of its word
abbrev pub blank_cell : Formatter → Formatter
blank_cell f = to_word add_blank f

abbrev pub has_word : Formatter → Bool
has_word f = not (is_none (collected f).word)

-- a blank ends the word and widens the gap; full lines go out after a word
abbrev pub gap_blank : Formatter → Formatter
gap_blank f =
    let g = word_ended f in
    record (with_collected (one_blank_more (collected g)) g) {
      event = events.Nothing;
      task = if has_word f then tasks.Flow afters.Text (breaks_after f) else tasks.Read;
    }

-- In no-fill mode and where lines are centred a blank is a cell. Text for a stop ends first.
unfoldable pub blank : Formatter → Formatter
blank f =
    if not (is_filling f) then blank_cell f else (if reads_a_field f then field_ended f else gap_blank f)

-- A tab or leader goes to the next stop. Right and centring stops align text in no-fill mode alone. Text for a stop ends first.
unfoldable pub tab : Option ℕ → Formatter → Formatter
tab filler f =
    if reads_a_field f then field_ended f
    else to_word (λ m. tabbed m f.settings.tabs.stops (not f.settings.filling.fill)
    (cell (unwrap_or filler (code " ")) f)) f

unfoldable pub text_byte : ℕ → Formatter → Formatter
text_byte b f =
    if b == code " " then blank f
    else (if b == code "\t" then tab f.settings.tabs.tab f
    else (if b == 1 then tab f.settings.tabs.leader f
    else (if prints b then character b f else done f)))

-- ---- escapes

-- `\(hy`
abbrev pub hyphen : Formatter → Formatter
hyphen f = put (cell (code "-") f) Hyphen f

-- `\(em`: two cells; a break point stands after the second
abbrev pub dash : Formatter → Formatter
dash f = record (letter (code "-") f) { task = tasks.Dash }

abbrev pub dash_end : Formatter → Formatter
dash_end f = record (put (cell (code "-") f) Dash f) { task = tasks.Read }

-- the second cell of a dash, in a text line or in a title
abbrev pub finish_dash : Formatter → Formatter
finish_dash f = if reads_title f then title_dash_end f else dash_end f

-- `\(zb`, `\(zj`: a break point
abbrev pub break_point : Point → Formatter → Formatter
break_point p f = done (with_collected (pointed_here p (collected f)) f)

-- `\(hy`, `\(em` and their kin; any other name prints nothing
abbrev pub special_at : Option Special → Formatter → Formatter
special_at None f = done f
special_at (Some specials.Hyphen) f = hyphen f
special_at (Some specials.Dash) f = dash f
special_at (Some specials.Point) f = break_point points.Hard f
special_at (Some specials.Joint) f = break_point points.Joining f
special_at (Some s) f = letter (byte_of s) f

unfoldable pub special : Formatter → Formatter
special f = special_at (special_of (asked f)) f

-- so many equal cells; a word exists where there are none too
abbrev pub cells : ℕ → ℕ → Formatter → Formatter
cells b n f = to_word (λ m. add_cells m (cell b f) n) f

-- `\h` and `\l`
abbrev pub horizontal : Formatter → Formatter
horizontal f = cells (code " ") (motion_cells f) f

abbrev pub ruled : Formatter → Formatter
ruled f = cells (rule_cells f).byte (rule_cells f).cells f

-- `\&`
abbrev pub mark : Formatter → Formatter
mark f = to_word marked f

-- `\%`: a soft break point
abbrev pub percent : Formatter → Formatter
percent f = done (with_collected (barred_here (collected f)) f)

-- `\p`: a break at the end of the word that is being read, or of the next one
abbrev pub break_word : Formatter → Formatter
break_word f = done (record f { breaks = f.breaks || is_filling f })

-- ---- a text line's end

-- in no-fill mode blanks at its end are dropped
abbrev pub blanks_dropped : Formatter → Formatter
blanks_dropped f = if not (is_filling f) then with_collected (without_blanks (collected f)) f else f

-- the word ends, and leaves a gap; lines go out then
abbrev pub word_line_ended : After → Formatter → Formatter
word_line_ended after f =
    let g = word_ended f in
    record (with_collected (after_newline (collected g)) g) {
      event = events.Nothing;
      task = tasks.Flow after (breaks_after f);
    }

abbrev pub trimmed_end : After → Formatter → Formatter
trimmed_end after f = if reads_a_field f then field_ended f else word_line_ended after f

-- text for a stop ends first
unfoldable pub line_end : After → Formatter → Formatter
line_end after f = trimmed_end after (blanks_dropped f)

-- The word goes on over the end of a text line that is filled where it ends in `\(zj`, unless `.it` or `.ul` counts the line.
abbrev pub joins_lines : Formatter → Bool
joins_lines f =
    (is_filling f && ends_in_joint (collected f).word)
    && (is_none f.input_trap && f.settings.fonts.underlined == 0)

unfoldable pub text_line_end : Formatter → Formatter
text_line_end f = if joins_lines f then done f else line_end afters.Line f

-- ---- all that a text line may have

-- what is no cell, and ends no word
abbrev pub text_sign : Event → Formatter → Formatter
text_sign events.Zero f = mark f
text_sign events.Percent f = percent f
text_sign events.BreakWord f = break_word f
text_sign e f = done f

-- what an event does in a text line
abbrev pub text : Event → Formatter → Formatter
text events.Lead f = blank_cell f
text (events.Byte b) f = text_byte b f
text (events.Cell x) f = put x Letter f
text (events.Plain b) f = letter b f
text events.Fixed f = letter (code " ") f
text events.Tab f = tab f.settings.tabs.tab f
text events.Leader f = tab f.settings.tabs.leader f
text events.Special f = special f
text events.Horizontal f = horizontal f
text events.Rule f = ruled f
text events.EndLine f = text_line_end f
text events.EndContinued f = line_end afters.Continued f
text e f = text_sign e f

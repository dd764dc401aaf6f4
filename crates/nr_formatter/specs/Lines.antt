-- The ends of words, which lines go out, and breaks. (CSTR 54, section 4; on the points of `.hw` section 13.)
use Rattle.std.specs.Prelude.{ℕ, ◌*◌, ◌-◌, Bool, true, false, not, ◌&&◌, ◌==◌, nat_le, if◌then◌else◌, List, length, take, Option, None, Some, is_none, min}
use Rattle.std.specs.List.{fold}
use Rattle.nr_vectors.specs.declared.cell.Cell.{Cell}
use Rattle.nr_fill.specs.Piece.{Collected, is_nil, begins_line, cells_of_word, end_word, hyphenated, joined, may_hyphenate, reads_field, word_or_new}
use Rattle.nr_fill.specs.Tabs.{with_field_filled}
use Rattle.nr_fill.specs.Cutting.{fits}
use Rattle.nr_fill.specs.Setting.{afterwards, cut_of, line_row, set_width}
use Rattle.nr_settings.specs.declared.filling.Align.TheVariants as aligns
use Rattle.nr_settings.specs.Filling.{align_of, after_centred_line}
use Rattle.nr_settings.specs.Fonts.{after_underlined_line}
use Rattle.nr_settings.specs.Indents.{after_line_begun, margins_of}
use Rattle.nr_settings.specs.declared.indents.Indents.{Indents}
use Rattle.nr_settings.specs.declared.settings.Settings.{Settings}
use Rattle.nr_symbol_tables.specs.Word.{bytes_of, points_of}
use Rattle.nr_reading.specs.Setting.{not_continued}
use Rattle.nr_input.specs.Acting.{on_half}
use Rattle.nr_formatter.specs.declared.tasks.After.{After}
use Rattle.nr_formatter.specs.declared.tasks.After.TheVariants as afters
use Rattle.nr_formatter.specs.declared.tasks.Then.{Then}
use Rattle.nr_formatter.specs.declared.tasks.Then.TheVariants as thens
use Rattle.nr_formatter.specs.declared.tasks.Room.TheVariants as rooms
use Rattle.nr_formatter.specs.declared.tasks.Step.{Step}
use Rattle.nr_formatter.specs.declared.tasks.Step.TheVariants as steps
use Rattle.nr_formatter.specs.declared.tasks.Task.{Task}
use Rattle.nr_formatter.specs.declared.tasks.Task.TheVariants as tasks
use Rattle.nr_formatter.specs.declared.lines.Going.{Going}
use Rattle.nr_formatter.specs.declared.formatter.Formatter.{Formatter}
use Rattle.nr_formatter.specs.declared.formatter.InputTrap.{InputTrap}
use Rattle.nr_formatter.specs.Access.{collected, with_collected, is_filling, spacing}

-- ---- a word's end

-- with a break point at each of these places in the word, so many cells in
abbrev pub with_points : List ℕ → Collected → Collected
with_points places c = fold (λ d place. hyphenated place d) c places

-- a word takes at most 31 points
abbrev pub most_points : List ℕ → List ℕ
most_points places = take 31 places

-- the places that `.hw` gave for the word that is being read
abbrev pub given_points : Formatter → List ℕ
given_points f =
    most_points (points_of (bytes_of (cells_of_word (word_or_new 0 (collected f).word))) f.store.words)

-- what is collected where the word ends: the word takes the points of `.hw`, or is one piece in a line that is not filled
unfoldable pub pointed : Formatter → Collected
pointed f =
    if not (is_filling f) then joined (collected f)
    else (if f.settings.hyphenation.on && may_hyphenate (collected f)
    then with_points (given_points f) (collected f) else collected f)

-- `\p` asks for a break at the end of the word that is being read
abbrev pub breaks_after : Formatter → Bool
breaks_after f = f.breaks && not (is_none (collected f).word)

-- the word, if there is one, becomes pieces of the line
abbrev pub word_ended : Formatter → Formatter
word_ended f = record (with_collected (end_word (pointed f)) f) { breaks = f.breaks && not (breaks_after f) }

-- the text for a right or centring stop ends
abbrev pub field_ended : Formatter → Formatter
field_ended f = with_collected (with_field_filled (collected f)) f

abbrev pub reads_a_field : Formatter → Bool
reads_a_field f = reads_field (collected f).word

-- the word ends before a break; text for a stop ends first
abbrev pub break_word_end : Formatter → Formatter
break_word_end f = if reads_a_field f then field_ended f else word_ended f

-- ---- what goes out

abbrev pub fits_line : Collected → Bool
fits_line c = fits c.margins.length (length c.pieces) c.pieces

-- in no-fill mode all goes out where a text line ends, but not where `\c` interrupts it
abbrev pub goes_out : After → Bool
goes_out afters.Text = false
goes_out afters.Line = true
goes_out afters.Interrupted = false
goes_out afters.Continued = true

-- all that is collected, as in no-fill mode and where lines are centred
abbrev pub whole_line : Formatter → Going
whole_line f =
    record { whole = true; align = if f.settings.filling.centred == 0 then aligns.Left else aligns.Centre }

-- as much as fits; full where it is to be adjusted
abbrev pub next_line : Bool → Formatter → Going
next_line full f = record { whole = false; align = align_of full f.settings.filling }

-- The line that goes out next where a word or a text line ended: a full one; with `\p` the rest, as a full one.
abbrev pub flow_line : After → Bool → Formatter → Option Going
flow_line after breaks f =
    if is_nil (collected f).pieces then None
    else (if not (is_filling f) then (if goes_out after then Some (whole_line f) else None)
    else (if fits_line (collected f) && not breaks then None else Some (next_line true f)))

-- the line that goes out next at a break
abbrev pub break_line : Formatter → Option Going
break_line f =
    if is_nil (collected f).pieces then None
    else (if not (is_filling f) then Some (whole_line f)
    else Some (next_line (not (fits_line (collected f))) f))

-- how many pieces go out
abbrev pub pieces_going : Going → Collected → ℕ
pieces_going going c = if going.whole then length c.pieces else cut_of c

-- the cells of the line, so far from the row's beginning
abbrev pub row_of : Going → ℕ → Collected → List Cell
row_of going offset c = line_row (record { align = going.align; offset = offset }) c (pieces_going going c)

abbrev pub row_going : Going → ℕ → Formatter → List Cell
row_going going offset f = row_of going offset (collected f)

-- how wide its text is, in cells
abbrev pub width_going : Going → Collected → ℕ
width_going going c = set_width (record { align = going.align; offset = 0 }) c (pieces_going going c)

-- no number is greater
abbrev pub greatest : ℕ
greatest = 2147483647

-- what is left; a line that begins with it takes its margins now
abbrev pub rest_of : Going → Indents → Collected → Collected
rest_of going s c = afterwards (margins_of s) going.align c (pieces_going going c)

abbrev pub rest_after : Going → Formatter → Collected
rest_after going f = rest_of going f.settings.indents (collected f)

-- a line went out: where something is left, if only an open word, a `.ti` is used up
abbrev pub settings_after : Going → Collected → Settings → Settings
settings_after going c s = record s {
  indents = if begins_line (rest_of going s.indents c) then s.indents else after_line_begun s.indents;
  text_width = min (24 * width_going going c) greatest;
}

abbrev pub after_line : Going → Formatter → Formatter
after_line going f =
    record (with_collected (rest_after going f) f)
    { settings = settings_after going (collected f) f.settings }

-- ---- where nothing more goes out

-- a text line is counted, but not an empty one after `\c`
abbrev pub task_after : After → Task
task_after afters.Text = tasks.Read
task_after afters.Line = tasks.Count
task_after afters.Interrupted = tasks.Count
task_after afters.Continued = tasks.Read

abbrev pub flow_done : After → Formatter → Formatter
flow_done after f = record f { task = task_after after }

-- what the break is for
abbrev pub task_of : Then → Formatter → Task
task_of (thens.Act r) f = tasks.Act r
task_of thens.Space f = tasks.Space (spacing f)
task_of thens.Leading f = tasks.Read
task_of thens.Diverted f = tasks.Room rooms.Line
task_of thens.Finish f = tasks.Finish

-- the step of the end after one of its breaks
abbrev pub after_end_break : Step → Step
after_end_break steps.FirstBreak = steps.Macro
after_end_break steps.SecondBreak = steps.Diversions
after_end_break s = s

abbrev pub step_after : Then → Step → Step
step_after thens.Finish s = after_end_break s
step_after t s = s

-- A break drops a `\p` that waits for a word, and ends what `\c` continues.
abbrev pub break_done : Then → Formatter → Formatter
break_done t f = record f {
  breaks = false;
  reader = on_half not_continued f.reader;
  step = step_after t f.step;
  task = task_of t f;
}

-- ---- counting text lines

-- by `.ce` and `.ul`
abbrev pub count : Formatter → Formatter
count f = record f {
  settings = record f.settings {
    filling = after_centred_line f.settings.filling;
    fonts = after_underlined_line f.settings.fonts;
  };
  task = tasks.InputTrap;
}

-- by `.it`, whose macro springs after the last
abbrev pub input_trap_after : Option InputTrap → Option InputTrap
input_trap_after None = None
input_trap_after (Some t) = if nat_le t.lines 1 then None else Some (record t { lines = t.lines - 1 })

abbrev pub input_macro : Option InputTrap → Option (List ℕ) → Option (List ℕ)
input_macro None waiting = waiting
input_macro (Some t) waiting = if nat_le t.lines 1 then Some t.name else waiting

abbrev pub count_input : Formatter → Formatter
count_input f =
    record f {
      input_trap = input_trap_after f.input_trap;
      springs = input_macro f.input_trap f.springs;
      task = tasks.Read;
    }

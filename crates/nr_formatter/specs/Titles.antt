-- Titles of three parts. (CSTR 54, section 14.)
use Prim.Native.Char.{code}
use Rattle.std.specs.Prelude.{ℕ, ◌/◌, Bool, true, false, ◌==◌, if◌then◌else◌, List, [], ◌∷◌, map, replicate, Option, None, Some}
use Rattle.std.specs.List.{fold}
use Rattle.nr_vectors.specs.declared.cell.Cell.{Cell}
use Rattle.nr_units.specs.NumberText.{number_text}
use Rattle.nr_fill.specs.Piece.{Collected, with_title, with_title_cell, with_part_ended, without_title}
use Rattle.nr_fill.specs.Title.{Title, titled_row}
use Rattle.nr_settings.specs.Characters.{prints}
use Rattle.nr_settings.specs.Specials.{special_of, byte_of}
use Rattle.nr_settings.specs.declared.specials.Special.{Special}
use Rattle.nr_settings.specs.declared.specials.Special.TheVariants as specials
use Rattle.nr_reading.specs.declared.event.Event.{Event}
use Rattle.nr_reading.specs.declared.event.Event.TheVariants as events
use Rattle.nr_reading.specs.declared.mode.Mode.{Mode}
use Rattle.nr_reading.specs.declared.mode.Mode.TheVariants as modes
use Rattle.nr_formatter.specs.declared.tasks.Task.TheVariants as tasks
use Rattle.nr_formatter.specs.declared.formatter.Formatter.{Formatter}
use Rattle.nr_formatter.specs.Access.{collected, with_collected, done, cell, asked}
use Rattle.nr_formatter.specs.Motions.{motion_cells, rule_cells}

-- a title is being read
abbrev pub is_title : Mode → Bool
is_title modes.TitleBefore = true
is_title (modes.Title part end) = true
is_title mode = false

abbrev pub reads_title : Formatter → Bool
reads_title f = is_title f.reader.half.reading.mode

-- The first delimiter begins the title with its left part; a further one ends a part.
abbrev pub with_delimiter : Option Title → Collected → Collected
with_delimiter None c = with_title c
with_delimiter (Some t) c = with_part_ended c

abbrev pub title_part : Formatter → Formatter
title_part f = done (with_collected (with_delimiter (collected f).title (collected f)) f)

-- cells of the part that is being read, one after another; before the first delimiter nothing prints
abbrev pub with_title_cells : List Cell → Collected → Collected
with_title_cells xs c = fold (λ d x. with_title_cell x d) c xs

abbrev pub titled : List Cell → Formatter → Formatter
titled xs f = done (with_collected (with_title_cells xs (collected f)) f)

-- the number of the page in its format
abbrev pub page_number : Formatter → List Cell
page_number f = map (λ b. cell b f) (number_text f.given.page_format f.paper.number)

abbrev pub is_number_character : ℕ → Option ℕ → Bool
is_number_character b None = false
is_number_character b (Some c) = c == b

-- a byte is a cell, if it prints
abbrev pub printed : ℕ → Formatter → List Cell
printed b f = if prints b then cell b f ∷ [] else []

-- the page number character stands for the number of the page
abbrev pub title_byte : ℕ → Formatter → List Cell
title_byte b f =
    if is_number_character b f.settings.pages.number_character then page_number f else printed b f

-- `\(hy`, `\(em` and their kin; any other name prints nothing, and so does a break point. The second cell of a dash follows.
abbrev pub title_special : Option Special → Formatter → Formatter
title_special None f = done f
title_special (Some specials.Dash) f = record (titled (cell (code "-") f ∷ []) f) { task = tasks.Dash }
title_special (Some specials.Point) f = done f
title_special (Some specials.Joint) f = done f
title_special (Some s) f = titled (cell (byte_of s) f ∷ []) f

abbrev pub title_dash_end : Formatter → Formatter
title_dash_end f = record (titled (cell (code "-") f ∷ []) f) { task = tasks.Read }

-- What an event does in a title. A tab, a leader, `\c`, `\p`, `\%` do nothing.
abbrev pub title : Event → Formatter → Formatter
title (events.Byte b) f = titled (title_byte b f) f
title (events.Plain b) f = titled (printed b f) f
title events.Fixed f = titled (cell (code " ") f ∷ []) f
title (events.Cell x) f = titled (x ∷ []) f
title events.Special f = title_special (special_of (asked f)) f
title events.Horizontal f = titled (replicate (motion_cells f) (cell (code " ") f)) f
title events.Rule f = titled (replicate (rule_cells f).cells (cell (rule_cells f).byte f)) f
title e f = done f

-- ---- a title goes out

-- its row, so far from the row's beginning
abbrev pub title_row : ℕ → Formatter → List Cell
title_row offset f = titled_row offset (f.settings.indents.title_length.value / 24) (collected f).title

abbrev pub title_set : Formatter → Formatter
title_set f = record (with_collected (without_title (collected f)) f) { task = tasks.Read }

-- What the parts of a formatter say.
use Rattle.std.specs.Prelude.{ℕ, Bool, List, Option}
use Rattle.nr_vectors.specs.declared.cell.Cell.{Cell}
use Rattle.nr_fill.specs.Piece.{Collected}
use Rattle.nr_fill.specs.declared.margins.Margins.{Margins}
use Rattle.nr_store.specs.declared.element.Diversion.{Diversion}
use Rattle.nr_store.specs.Store.{innermost}
use Rattle.nr_reading.specs.declared.event.Event.TheVariants as events
use Rattle.nr_settings.specs.Filling as filling
use Rattle.nr_settings.specs.Fonts as fonts
use Rattle.nr_settings.specs.Indents as indents
use Rattle.nr_formatter.specs.declared.formatter.Formatter.{Formatter}

-- what is collected
abbrev pub collected : Formatter → Collected
collected f = f.line.collected

-- with another line collected
abbrev pub with_collected : Collected → Formatter → Formatter
with_collected c f = record f { line = record f.line { collected = c } }

-- what was read is acted on
abbrev pub done : Formatter → Formatter
done f = record f { event = events.Nothing }

-- lines are filled: in fill mode, while none is to be centred
abbrev pub is_filling : Formatter → Bool
is_filling f = filling.is_filling f.settings.filling

-- a cell of this byte, underlined if that is on
abbrev pub cell : ℕ → Formatter → Cell
cell byte f = fonts.cell_of byte f.settings.fonts

-- the margins of a line that begins now
abbrev pub margins : Formatter → Margins
margins f = indents.margins_of f.settings.indents

-- V, in u
abbrev pub spacing : Formatter → ℕ
spacing f = f.settings.pages.spacing

-- the line of the request that acts
abbrev pub line : Formatter → List ℕ
line f = f.reader.half.notes.line

-- the name that an escape has asked for
abbrev pub asked : Formatter → List ℕ
asked f = f.reader.half.notes.asked

-- the argument of the escape that was read last
abbrev pub argument : Formatter → List ℕ
argument f = f.reader.half.delimited.last

-- names may be long
abbrev pub long : Formatter → Bool
long f = f.reader.half.signs.long

-- the innermost diversion
abbrev pub diversion : Formatter → Option Diversion
diversion f = innermost f.store.building

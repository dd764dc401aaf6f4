-- Indents, and the lengths of lines (CSTR 54, line length and indenting; `.po`: page control; `.lt`: three-part titles).
use Rattle.std.specs.Prelude.{ℕ, ◌-◌, ◌/◌, List, Option, Some, None, pos, unwrap_or}
use Rattle.std.specs.Option.{option_map}
use Rattle.nr_units.specs.declared.units.Scale.TheVariants.{Em}
use Rattle.nr_settings.specs.Lengths.{width_from}
use Rattle.nr_settings.specs.Numbers.{first_change, applied}
use Rattle.nr_settings.specs.declared.indents.Kept.{Kept}
use Rattle.nr_settings.specs.declared.indents.Indents.{Indents}
use Rattle.nr_settings.specs.declared.indents.Margins.{Margins}

-- A width is changed: to a new one, or without one back to the one before the last change.
abbrev pub changed : Option ℕ → Kept → Kept
changed None k = record { value = k.previous; previous = k.value }
changed (Some width) k = record { value = width; previous = k.value }

-- `±N` of a line: rounded, and at least so wide; its signs count from the old width
abbrev pub new_width : ℕ → List ℕ → ℕ → ℕ → Option ℕ
new_width least line v old =
    option_map (λ change. width_from least (applied change (pos old))) (first_change Em v (pos 0) line)

-- `.in ±N`: the indent
abbrev pub in_ : List ℕ → ℕ → Indents → Indents
in_ line v s = record s { indent = changed (new_width 0 line v s.indent.value) s.indent }

abbrev pub with_next : Option ℕ → Indents → Indents
with_next None s = s
with_next (Some width) s = record s { next_indent = Some width }

-- `.ti ±N`: the indent of the next line alone; its signs count from the indent
abbrev pub ti : List ℕ → ℕ → Indents → Indents
ti line v s = with_next (new_width 0 line v s.indent.value) s

-- `.po ±N`: the page offset
abbrev pub po : List ℕ → ℕ → Indents → Indents
po line v s = record s { page_offset = changed (new_width 0 line v s.page_offset.value) s.page_offset }

-- `.ll ±N`: the length of a line, of one character at least
abbrev pub ll : List ℕ → ℕ → Indents → Indents
ll line v s = record s { line_length = changed (new_width 24 line v s.line_length.value) s.line_length }

-- `.lt ±N`: the length of a title
abbrev pub lt : List ℕ → ℕ → Indents → Indents
lt line v s = record s { title_length = changed (new_width 0 line v s.title_length.value) s.title_length }

-- The margins of the line that begins now, in characters: its indent, and the length less that.
abbrev pub line_indent : Indents → ℕ
line_indent s = unwrap_or s.next_indent s.indent.value

abbrev pub margins_of : Indents → Margins
margins_of s = record { indent = line_indent s / 24; length = (s.line_length.value - line_indent s) / 24 }

-- a line has begun, so `.ti` is used up
abbrev pub after_line_begun : Indents → Indents
after_line_begun s = record s { next_indent = None }

-- those at first: lines and titles of 6.5 inches
abbrev pub steady : ℕ → Kept
steady width = record { value = width; previous = width }

abbrev pub first_indents : Indents
first_indents =
    record {
      indent = steady 0;
      next_indent = None;
      page_offset = steady 0;
      line_length = steady 1560;
      title_length = steady 1560;
    }

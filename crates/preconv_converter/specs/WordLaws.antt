-- What goes out of the lines of a page, in any state of it.
use Rattle.std.specs.Prelude.{◌≡◌, List, [], true, false}
use Rattle.preconv_lines.specs.declared.half.Line.TheVariants as lines
use Rattle.preconv_lines.specs.declared.half.Escape.TheVariants as escapes
use Rattle.preconv_converter.specs.declared.reader.Reader.{Reader}
use Rattle.preconv_converter.specs.declared.reader.Pending.TheVariants as pendings
use Rattle.preconv_characters.specs.declared.target.Target.{Target}
use Rattle.preconv_converter.specs.Reading.{converted}
use Rattle.preconv_converter.specs.Staged.{said}
use Rattle.preconv_converter.specs.Pieces.{GoesOut}
use Rattle.preconv_converter.specs.WrittenLines.{Line, are_lines, written_lines}

-- a line begins, nothing is half read, and nothing is translated, no signs to quotes either, whatever came
-- before
abbrev pub begins_line : Reader → Reader
begins_line r = record r {
  half = record r.half { line = lines.Start; escape = escapes.Plain; kept = []; translating = false; quotes = false };
  pending = pendings.Nothing;
}

-- What goes out of a page of such lines is these pieces.
abbrev pub PagesGoOut : Type 0
PagesGoOut =
    (table : Target) (lines : List Line) → are_lines lines ≡ true
    → GoesOut table (written_lines lines) (converted table (written_lines lines))

-- In any state where a line begins, lines that follow one another, and the end after them, go out piece by
-- piece.
abbrev pub LinesGoOut : Type 0
LinesGoOut =
    (r : Reader) (lines : List Line) → are_lines lines ≡ true
    → GoesOut r.table (written_lines lines) (said (begins_line r) true (written_lines lines))

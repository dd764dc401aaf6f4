-- The lines of a block (Lesk, "Tbl", text blocks; CSTR 54 4.1, filling): up to the next part that begins a line, as many runs as fit in a width,
-- one at least. A run is parts up to the next before which a line may end; where a hyphen is printed there, it counts.
use Rattle.std.specs.Prelude.{ℕ, ◌+◌, ◌-◌, Bool, true, false, not, ◌&&◌, nat_lt, List, [], ◌∷◌, max, ◌||◌, if◌then◌else◌}
use Rattle.tbl_blocks.specs.declared.filling.Measure.{Measure}
use Rattle.tbl_blocks.specs.declared.parts.Join.{Join}
use Rattle.tbl_blocks.specs.declared.parts.Join.TheVariants as joins
use Rattle.tbl_blocks.specs.declared.parts.Line.{Line}
use Rattle.tbl_blocks.specs.declared.parts.Part.{Part}
use Rattle.tbl_blocks.specs.Parts.{blanks, is_gap, is_line, is_point, may_end, sum}

abbrev pub count : Bool → ℕ
count true = 1
count false = 0

-- ---- runs

-- so many cells, and what the parts at the beginning take that belong to them, with the hyphen where the line would end after them
abbrev pub run_from : ℕ → List Part → ℕ
run_from cells [] = cells
run_from cells (p ∷ ps) =
    if may_end p.join then sum cells (count (is_point p.join))
    else run_from (sum cells (sum (blanks p.join) p.cells)) ps

abbrev pub run : List Part → ℕ
run [] = 0
run (p ∷ ps) = run_from p.cells ps

-- ---- a line

-- what it is indented that begins with a part, and the empty lines before it
abbrev pub indent_in : ℕ → Join → ℕ
indent_in other (joins.Line space indent) = indent
indent_in other join = other

abbrev pub indent_of : Part → ℕ
indent_of p = indent_in p.indent p.join

abbrev pub space_in : Join → ℕ
space_in (joins.Line space indent) = space
space_in join = 0

abbrev pub space_of : Part → ℕ
space_of p = space_in p.join

-- it begins with the part of a number, below a row; its odd blanks stand at this side
abbrev pub opened : ℕ → Part → ℕ → Bool → Line
opened n p row left = record {
  first = n;
  «end» = n + 1;
  row = sum row (space_of p);
  indent = indent_of p;
  cells = sum (indent_of p) p.cells;
  gaps = 0;
  lack = 0;
  left = left;
  hyphen = false;
}

-- with one part more
abbrev pub grown : Part → Line → Line
grown p l = record l {
  «end» = l.«end» + 1;
  cells = sum l.cells (sum (blanks p.join) p.cells);
  gaps = sum l.gaps (count (is_gap p.join));
}

-- no more fits: it ends before a part, with a hyphen or not, and is spread or not
abbrev pub lack_of : Measure → ℕ → ℕ → ℕ
lack_of m gaps cells = if m.spread && nat_lt 0 gaps then m.width - cells else 0

abbrev pub filled : Part → Measure → Line → Line
filled p m l = record l {
  hyphen = is_point p.join;
  cells = sum l.cells (count (is_point p.join));
  lack = lack_of m l.gaps (sum l.cells (count (is_point p.join)));
}

-- the line after it, whose odd blanks stand at the other side where it lacked some
abbrev pub line_after : ℕ → Part → Line → Line
line_after n p l = opened n p (sum l.row 1) (if nat_lt 0 l.lack then not l.left else l.left)

-- the run that begins with the first of these parts doesn't fit on it
abbrev pub is_over : ℕ → List Part → Line → Bool
is_over width [] l = false
is_over width (p ∷ ps) l =
    may_end p.join && nat_lt width (sum l.cells (sum (blanks p.join) (run (p ∷ ps))))

-- ---- lines

-- a line so far, and the parts from a number on
abbrev pub lines_from : Measure → ℕ → Line → List Part → List Line
lines_from m n l [] = l ∷ []
lines_from m n l (p ∷ ps) =
    if is_line p.join then l ∷ lines_from m (n + 1) (line_after n p l) ps else
    if is_over m.width (p ∷ ps) l then filled p m l ∷ lines_from m (n + 1) (line_after n p (filled p m l)) ps
    else lines_from m (n + 1) (grown p l) ps

-- of parts from a number on
abbrev pub lines_of : ℕ → Measure → List Part → List Line
lines_of n m [] = []
lines_of n m (p ∷ ps) = lines_from m (n + 1) (opened n p 0 true) ps

-- ---- the longest run, or the longest word, which ends at blanks alone, with the hyphen where a line may end within it; the first part begins
-- a line

abbrev pub begun : Part → ℕ
begun p = sum (indent_of p) p.cells

abbrev pub starts : Bool → Join → Bool
starts words join = if words then is_gap join || is_line join else may_end join

abbrev pub together : Bool → Part → ℕ → ℕ
together words p before =
    if starts words p.join then begun p else sum before (sum (blanks p.join) p.cells)

-- what stands before a part, where a line ends there
abbrev pub ended_before : Part → ℕ → ℕ
ended_before p before = sum before (count (is_point p.join))

abbrev pub longest_from : Bool → ℕ → ℕ → List Part → ℕ
longest_from words most before [] = most
longest_from words most before (p ∷ ps) =
    longest_from words (max (max most (ended_before p before)) (together words p before)) (together words p before) ps

abbrev pub longest : Bool → List Part → ℕ
longest words [] = 0
longest words (p ∷ ps) = longest_from words (begun p) (begun p) ps

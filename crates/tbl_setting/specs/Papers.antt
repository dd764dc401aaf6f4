-- What macros of papers say of the line, with what tmac.s and tmac.e set: how wide columns are (`.2C .MC .1C` of -ms, `.2c .1c` of -me), and
-- what quotes (`.QS .QE`, `.(q .)q`) and parts (`.RS`) take of it.
use Rattle.std.specs.Prelude.{ℕ, ◌-◌, ◌*◌, ◌/◌, ◌||◌, max, min, List, Option, None, Some, nat_le, nat_lt, if◌then◌else◌}
use Rattle.nr_units.specs.declared.units.Scale.TheVariants.{En}
use Rattle.tbl_setting.specs.declared.papers.Paper.{Paper}
use Rattle.tbl_setting.specs.declared.requests.Macro.{Macro}
use Rattle.tbl_setting.specs.declared.requests.Macro.TheVariants as macros
use Rattle.tbl_setting.specs.declared.watching.Around.{Around}
use Rattle.tbl_setting.specs.Arguments.{argument, number_of}
use Rattle.tbl_setting.specs.Lengths.{length_in}
use Rattle.tbl_setting.specs.Margins.{or_number}
use Rattle.tbl_table.specs.Sums.{sum}

-- no columns and no quotes
abbrev pub no_paper : Paper
no_paper = record { whole = None; gap = 4; quote = None; part = 5; left = 0; right = 0 }

-- ---- columns in a line of so many cells

-- of -ms two where it doesn't say how wide they are
abbrev pub half : ℕ → ℕ
half cells = max (min cells 1000000 * 7 / 15) 1

-- else so wide, where two stand side by side with this space between them
abbrev pub column_in : ℕ → ℕ → ℕ → ℕ
column_in cells gap width = if nat_le (sum width gap) (cells - width) then width else cells

abbrev pub column_of : ℕ → ℕ → Option ℕ → ℕ
column_of cells gap None = half cells
column_of cells gap (Some width) = if nat_lt 0 width then column_in cells gap width else half cells

abbrev pub column_said : List ℕ → ℕ → ℕ
column_said text cells =
    column_of cells (or_number (length_in (argument text 1) En) 2) (length_in (argument text 0) En)

-- of -me so many, with so much between them
abbrev pub part_of : ℕ → ℕ → ℕ → ℕ
part_of cells gap count = max ((cells - (count - 1) * gap) / count) 1

abbrev pub count_said : List ℕ → ℕ
count_said text = max (or_number (number_of (argument text 1)) 2) 1

abbrev pub gap_said : List ℕ → Paper → ℕ
gap_said text p = or_number (length_in (argument text 0) En) p.gap

-- ---- quotes: of -ms at both sides, of -me at the left

abbrev pub quoted : Paper → Paper
quoted p = record p { left = sum p.left (or_number p.quote 5); right = sum p.right (or_number p.quote 5) }

abbrev pub unquoted : Paper → Paper
unquoted p = record p { left = p.left - or_number p.quote 5; right = p.right - or_number p.quote 5 }

abbrev pub cited : Paper → Paper
cited p = record p { left = sum p.left (or_number p.quote 4) }

abbrev pub uncited : Paper → Paper
uncited p = record p { left = p.left - or_number p.quote 4 }

-- ---- a manual page has none of it

abbrev pub with_paper : Paper → Around → Around
with_paper p a = record a { paper = p }

-- the columns end: the line is whole
abbrev pub whole : Around → Around
whole a = record a { cells = or_number a.paper.whole a.cells; paper = record a.paper { whole = None } }

-- columns of this width begin, which are narrower than the line
abbrev pub narrowed : ℕ → Around → Around
narrowed width a =
    if nat_lt width a.cells then record a { cells = width; paper = record a.paper { whole = Some a.cells } } else a

abbrev pub divided : List ℕ → Around → Around
divided text a = let p = record a.paper { gap = gap_said text a.paper } in
    narrowed (part_of a.cells p.gap (count_said text)) (with_paper p a)

abbrev pub paper_obeyed : Macro → List ℕ → Around → Around
paper_obeyed macros.Halves text a = narrowed (half (whole a).cells) (whole a)
paper_obeyed macros.Columns text a = narrowed (column_said text (whole a).cells) (whole a)
paper_obeyed macros.Parts text a = divided text (whole a)
paper_obeyed macros.Whole text a = whole a
paper_obeyed macros.Quote text a = with_paper (quoted a.paper) a
paper_obeyed macros.QuoteEnd text a = with_paper (unquoted a.paper) a
paper_obeyed macros.Cite text a = with_paper (cited a.paper) a
paper_obeyed macros.CiteEnd text a = with_paper (uncited a.paper) a

-- what a tag or a part indents where neither it nor the tag before it says so
abbrev pub said_or_part : Option ℕ → Around → Option ℕ
said_or_part None a = if a.manual || nat_lt 0 a.margins.tag then None else Some a.paper.part
said_or_part (Some n) a = Some n

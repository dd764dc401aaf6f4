-- The lines that tell what is wrong with pages.
use Rattle.std.specs.Prelude.{ℕ, List, ◌++◌, codes}
use Rattle.filters_complaints.specs.Lines as lines
use Rattle.filters_complaints.specs.Names.{printable}
use Rattle.man_lint.specs.Reporting.{AllReported}
use Rattle.man_lint.specs.Watching.{all_heard, finished, first_page}
use Rattle.man_lint.specs.declared.reporting.Complaint.{Complaint}
use Rattle.man_lint.specs.declared.reporting.Kind.{Kind}
use Rattle.man_lint.specs.declared.reporting.Kind.TheVariants.{NoMacro, NoString, NoEscape, NotOpen, TooMany}
use Rattle.man_lint.specs.declared.reporting.Kind.TheVariants.{NotEnded, NoTitle, LateTitle}

-- what is wrong
abbrev pub kind_text : Kind → List ℕ
kind_text NoMacro = codes "unknown macro: "
kind_text NoString = codes "unknown string: "
kind_text NoEscape = codes "unknown escape: "
kind_text NotOpen = codes "end of block that is not open: "
kind_text TooMany = codes "more than 64 blocks open: "
kind_text NotEnded = codes "missing end of block: "
kind_text NoTitle = codes "missing title macro: "
kind_text LateTitle = codes "late title macro: "

-- with the name, up to the end of the line
abbrev pub said_of : Complaint → List ℕ
said_of c = kind_text c.kind ++ (printable c.name ++ codes "\n")

-- THE LINES of a program about the page of this name, of which this is reported
abbrev pub lines_of : List ℕ → List ℕ → AllReported → List ℕ
lines_of program name r = lines.lines_of (λ (c : Complaint). c.line) said_of program name r

-- WHAT IS WRONG WITH A PAGE: 512 names of its own are kept, 64 blocks that are open at once, and 64
-- complaints.
abbrev pub faults_of : List ℕ → AllReported
faults_of page = (finished (all_heard page (first_page 512 64 64))).reports
